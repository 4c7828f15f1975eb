-- `picks::next_pick` meets its contract. Assumes nothing.
use native.Mathlib.Omega.{arith}
use Rattle.picks.proofs.Passes.{next-turn, next-done}
use Rattle.picks.proofs.next_pick.Goals as goal

pub loop-i-preserved : goal.loop-i-preserved
loop-i-preserved c = let l = c.loop-i in next-turn c.args.cells.now c.args.n c.args.t c.requires l.r l.i (omega arith) l.invariant c.nearer-r.ensures

pub returns : goal.returns
returns c = next-done c.args.cells.now c.args.n c.args.t c.requires c.loop-i.r c.loop-i.i (omega arith) c.loop-i.invariant
