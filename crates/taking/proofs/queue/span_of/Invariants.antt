-- `span_of` meets its contract. The loop's invariant: from start to end is the span of the queue from list i on. Assumes nothing.
use Rattle.std.proofs.Common.{◌≡◌, ◌<◌, length, drop}
use Rattle.stretches.specs.Stretch.{st}
use Rattle.stretches.specs.Front.{Some}
use Rattle.stretches.specs.Taking.{fronts, span}
use Rattle.taking.proofs.queue.span_of.Given as goal

abbrev pub invariant-loop-i : goal.invariant-loop-i
invariant-loop-i l = (l.i < length l.lists) × (Some (st l.start l.end) ≡ span (drop l.i (fronts l.lists l.counts)))
