-- `finder_steps::finder_steps` meets its contract. Assumes nothing.
use native.Mathlib.Omega.{arith}
use Rattle.finder_steps.proofs.Taking.{takes-start, takes-full, takes_none, takes-more}
use Rattle.finder_steps.proofs.finder_steps.Goals as goal

pub loop-n-init : goal.loop-n-init
loop-n-init c = takes-start _ _ _ _ c.open.ensures

pub returns-in_default : goal.returns-in_default
returns-in_default c = let r = takes_none _ _ _ _ _ _ c.loop-n.invariant _ c.step-s.ensures c.in_default.is (omega arith) in record { value = r.0; cells_after = r.1 }

pub loop-n-preserved : goal.loop-n-preserved
loop-n-preserved c = takes-more _ _ _ _ _ _ c.loop-n.invariant _ c.step-s.ensures _ c.in-Some.is (omega arith)

pub returns : goal.returns
returns c = let r = takes-full _ _ _ _ _ _ c.loop-n.invariant (omega arith) (omega arith) in record { value = omega (arith, r.0); cells_after = r.1 }
