-- `walk::pass_over` meets its contract: each return and turn is one law. Assumes nothing.
use native.Mathlib.Omega.{arith}
use Rattle.walk.proofs.Walk.{over-start, over-turn, over-end, over_done}
use Rattle.walk.proofs.pass_over.Goals as goal

pub loop-k-init : goal.loop-k-init
loop-k-init c = over-start

pub returns-in-None : goal.returns-in-None
returns-in-None c = over-end c.loop-k.invariant c.first.ensures.first_of c.in-None.is (omega arith)

pub loop-k-preserved : goal.loop-k-preserved
loop-k-preserved c = over-turn c.loop-k.invariant c.first.ensures.first_of c.in-Some.is

pub returns : goal.returns
returns c = over_done c.loop-k.invariant (omega arith)
