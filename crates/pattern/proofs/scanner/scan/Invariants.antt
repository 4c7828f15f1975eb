-- `scan`: the invariant `Scanning` is kept by each turn's step and told at each return.
-- Assumes nothing.
use Rattle.pattern.proofs.Loop.{Scanning, Begun}
use Rattle.pattern.proofs.scanner.scan.Given as goal

abbrev pub invariant-loop-i : goal.invariant-loop-i
invariant-loop-i l = Scanning l.text l.table l.s l.i × Begun l.text l.from l.i l.s
