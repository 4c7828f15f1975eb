-- The measures of the cycle of calls: a node seeks its operands, whose numbers are higher than its own, and within a node the calls go down. And what the loops keep. Assumes nothing.
use Prim.Native.Nat.{◌-◌}
use Rattle.nodes.specs.Among.{Among}
use Rattle.seek.specs.Source.{source_of}
use Rattle.seek.proofs.Turns.{OrInv, SpanInv, ChainInv}
use Rattle.seek.proofs.Reaching.{ReachInv}
use Rattle.seek.proofs.Searches.{AdvanceInv}
use Prim.Native.Nat.{◌+◌, ◌*◌}
use Rattle.seek.proofs.Searched.+searching.Given as goal

abbrev pub decreases-advance : goal.decreases-advance
decreases-advance l = 9 * (32 - l.v) + 4

abbrev pub decreases-chain : goal.decreases-chain
decreases-chain l = 9 * (32 - l.v) + 2

abbrev pub decreases-filter : goal.decreases-filter
decreases-filter l = 9 * (32 - l.v) + 2

abbrev pub decreases-fresh : goal.decreases-fresh
decreases-fresh l = 9 * (32 - l.v) + 5

abbrev pub decreases-look_at : goal.decreases-look_at
decreases-look_at l = 9 * (32 - l.v) + 3

abbrev pub decreases-passes : goal.decreases-passes
decreases-passes l = 9 * (32 - l.v) + 1

abbrev pub decreases-reach : goal.decreases-reach
decreases-reach l = 9 * (32 - l.v) + 8

abbrev pub decreases-renew : goal.decreases-renew
decreases-renew l = 9 * (32 - l.v) + 6

abbrev pub decreases-seek : goal.decreases-seek
decreases-seek l = 9 * (32 - l.v) + 7

abbrev pub decreases-seek_or : goal.decreases-seek_or
decreases-seek_or l = 9 * (32 - l.v) + 4

abbrev pub decreases-span : goal.decreases-span
decreases-span l = 9 * (32 - l.v) + 2

abbrev pub invariant-seek_or-loop-c : goal.invariant-seek_or-loop-c
invariant-seek_or-loop-c l = Among l.self.rows.now l.v l.c-iterator × OrInv (source_of l.self) l.self.rows.now l.initial.st l.v l.t l.st l.c-iterator.at l.best

abbrev pub invariant-span-loop-c : goal.invariant-span-loop-c
invariant-span-loop-c l = Among l.self.rows.now l.v l.c-iterator × SpanInv (source_of l.self) l.self.rows.now l.initial.st l.v l.t l.st l.s l.e l.c-iterator.at

abbrev pub invariant-chain-loop-c : goal.invariant-chain-loop-c
invariant-chain-loop-c l = Among l.self.rows.now l.v l.c-iterator × ChainInv (source_of l.self) l.self.rows.now l.initial.st l.v l.t l.a.start l.initial.e l.st l.e l.c-iterator.at

abbrev pub invariant-reach-loop-from : goal.invariant-reach-loop-from
invariant-reach-loop-from l = ReachInv (source_of l.self) l.self.rows.now l.initial.st l.v l.e l.st l.from

abbrev pub decreases-reach-loop-from : goal.decreases-reach-loop-from
decreases-reach-loop-from l = 65536 - l.from

abbrev pub invariant-advance-loop-from : goal.invariant-advance-loop-from
invariant-advance-loop-from l = AdvanceInv (source_of l.self) l.self.rows.now l.initial.st l.v l.t l.st l.best l.from

abbrev pub decreases-advance-loop-from : goal.decreases-advance-loop-from
decreases-advance-loop-from l = 65536 - l.from
