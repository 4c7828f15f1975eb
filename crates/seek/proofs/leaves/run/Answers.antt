-- `seek::leaves::run` meets its contract. The loop's invariant: what is found from i on is what is found from p on.
-- Assumes nothing.
use native.Mathlib.Omega.{arith}
use Rattle.seek.proofs.LeafLaws.{ran-turn}
use Rattle.seek.proofs.leaves.run.Goals as goal

pub returns-then-t-items : goal.returns-then-t-items
returns-then-t-items c = record { same = c.loop-i.invariant.1; fits = omega arith; here = λ h. c.if-t-items.true }

pub loop-i-preserved : goal.loop-i-preserved
loop-i-preserved c = let a = c.args in let l = c.loop-i in (omega arith, ran-turn a.items.now a.p a.hi a.t l.i l.invariant.1 c.loop-i-test.true (omega arith) c.if-t-items.false)

pub returns : goal.returns
returns c = record { same = c.loop-i.invariant.1; fits = omega arith; here = λ h. absurd (omega arith) }
