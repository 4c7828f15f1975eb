-- `next`: the search in the list is resumed from row j on, a row a turn.
-- Assumes nothing.
use Rattle.pattern.specs.Kinds.{kind_in}
use Rattle.pattern.specs.Automaton.{continues}
use Rattle.pattern.proofs.KindLaws.{Sought}
use Rattle.pattern.proofs.alphabet.next.Given as goal

abbrev pub invariant-loop-j : goal.invariant-loop-j
invariant-loop-j l = Sought (continues (kind_in l.row).word l.read l.b) l.j
