-- `skip` meets its contract. The loop's invariant: with the turns left, the counts lead to what they led to at first. Assumes nothing.
use Rattle.std.proofs.Common.{◌≡◌, ◌-◌, suc}
use Rattle.stretches.specs.Taking.{total, skip}
use Rattle.taking.specs.inner.Queue.{order_of, view_of}
use Rattle.taking.proofs.algorithm.skip.Given as goal

abbrev pub invariant-loop-turn : goal.invariant-loop-turn
invariant-loop-turn l =
    skip (suc (total l.lists)) (order_of l.op) (view_of l.op) l.lists l.c l.initial.counts
    ≡ skip (suc (total l.lists) - l._turn) (order_of l.op) (view_of l.op) l.lists l.c l.counts
