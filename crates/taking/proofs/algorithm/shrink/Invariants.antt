-- `shrink` meets its contract. The loop's invariant: with the turns left, the candidate and the counts lead to what they led to at first. Assumes nothing.
use Rattle.std.proofs.Common.{◌≡◌, ◌-◌, suc}
use Rattle.stretches.specs.Taking.{total, shrink}
use Rattle.taking.proofs.algorithm.shrink.Given as goal

abbrev pub invariant-loop-turn : goal.invariant-loop-turn
invariant-loop-turn l = shrink (suc (total l.lists)) l.lists l.initial.c l.initial.counts ≡ shrink (suc (total l.lists) - l._turn) l.lists l.c l.counts
