-- `top_of` meets its contract. The loop's invariant: t is the top of the queue from list i on. Assumes nothing.
use Rattle.std.proofs.Common.{◌≤◌, length}
use Rattle.stretches.specs.Taking.{fronts}
use Rattle.taking.specs.inner.Queue.{order_of, Topped}
use Rattle.taking.proofs.queue.top_of.Given as goal

abbrev pub invariant-loop-i : goal.invariant-loop-i
invariant-loop-i l = (l.i ≤ length l.lists) × Topped (order_of l.op) (fronts l.lists l.counts) l.i l.t
