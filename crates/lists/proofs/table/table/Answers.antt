-- `lists::table::table` meets its contract. The loop's invariant: the operator's node and the first i lists are laid. Assumes nothing.
use Prim.Native.Nat.{ℕ, ◌+◌}
use mathlib.Core.Path.{◌≡◌, refl, subst, ◌∙◌}
use lib.ListN.{length}
use Rattle.lists.specs.inner.Table.{Laid}
use Rattle.lists.proofs.Laying.{laid_root, laid-list, start-next}
use native.Mathlib.Omega.{arith}
use Rattle.lists.proofs.table.table.Goals as goal

pub loop-i-init : goal.loop-i-init
loop-i-init c = (refl, laid_root c.args.op c.args.k (length c.args.ends.now) c.args.ends.now)

pub loop-i-preserved : goal.loop-i-preserved
loop-i-preserved c = let a = c.args in
    let l = c.loop-i in
    let to = c.wide-to.ensures.0 in (
      to ∙ start-next a.ends.now l.i,
      laid-list a.op a.k (length a.ends.now) a.ends.now l.i l.rows (omega (arith, c.requires)) l.invariant.1 (l.i + 1) (omega arith) _ (λ x. record { kind = 17; size = 1; first = l.invariant.0 x; second = to x; third = 0 }),
    )

pub returns : goal.returns
returns c = let z : c.loop-i.i ≡ length c.args.ends.now = omega arith in subst (λ (i : ℕ). Laid c.args.op c.args.k (length c.args.ends.now) c.args.ends.now i c.loop-i.rows) z c.loop-i.invariant.1
