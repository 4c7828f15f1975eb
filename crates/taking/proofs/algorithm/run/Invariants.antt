-- `run` meets its contract. The loop's invariant: c and the counts are those of answer number p. Assumes nothing.
use Rattle.std.proofs.Common.{◌≡◌, Some}
use Rattle.stretches.specs.Taking.{taking}
use Rattle.taking.specs.inner.Queue.{op_of, handed}
use Rattle.taking.proofs.algorithm.run.Given as goal

abbrev pub invariant-loop-p : goal.invariant-loop-p
invariant-loop-p l = handed (Some l.c) l.counts ≡ taking (op_of l.op) l.lists l._p
