-- The loop of `walk::pass_over`: k answers were passed over. Assumes nothing.
use Rattle.seek.specs.Source.{source_of}
use Rattle.walk.specs.inner.Walks.{PassedOver}
use Rattle.walk.proofs.pass_over.Given as goal

abbrev pub invariant-loop-k : goal.invariant-loop-k
invariant-loop-k l = PassedOver (source_of l.searched) l.searched.rows.now l.initial.st l.t0 l._k l.t l.st
