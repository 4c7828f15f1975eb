-- `walk::put_all` meets its contract: each return and turn is one law. Assumes nothing.
use mathlib.Core.Path.{◌≡◌, refl, sym, subst}
use Prim.Native.Nat.{ℕ, ◌*◌, ◌/◌}
use lib.ListN.{length, drop}
use native.Mathlib.Omega.{arith}
use Rattle.walk.proofs.Walk.{put-start, put-turn, put-done, put-last, kept-turn}
use Rattle.walk.proofs.put_all.Goals as goal

pub loop-n-init : goal.loop-n-init
loop-n-init c = (refl, put-start)

pub returns-in-None : goal.returns-in-None
returns-in-None c = record { put = put-done c.loop-n.invariant.1 c.first.ensures.first_of c.in-None.is (omega arith); within = record { fits = omega arith; keeps = c.loop-n.invariant.0 } }

pub loop-n-preserved : goal.loop-n-preserved
loop-n-preserved c = let l = c.loop-n in let a = c.in-Some.a in
    (kept-turn c.args.cells.now l.cells l.n a.start a.end l.invariant.0, put-turn l.invariant.1 c.first.ensures.first_of c.in-Some.is (omega arith))

pub returns : goal.returns
returns c = let z : length c.loop-n.cells / 2 ≡ c.loop-n.n = omega arith in record {
  put = put-last c.loop-n.invariant.1 c.first-2.ensures.first_of z c.is_some.ensures (omega arith);
  within = record { fits = omega arith; keeps = subst (λ (n : ℕ). drop (2 * n) c.loop-n.cells ≡ drop (2 * n) c.args.cells.now) (sym z) c.loop-n.invariant.0 };
}
