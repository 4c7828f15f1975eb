-- Stretch by front to the first that ends at or after a line: what was passed over ends before it. One law for each return and turn. Assumes nothing.
use mathlib.Core.Path.{◌≡◌, refl, sym, ap, subst, ◌∙◌}
use mathlib.Core.Logic.{◌⊎◌, inl, inr}
use mathlib.Core.Bool.{cond}
use mathlib.Core.List.{List}
use Prim.Native.Nat.{ℕ, ◌+◌, ◌≤◌, ◌<◌}
use native.Mathlib.Omega.{arith}
use lib.Dec.{leb}
use borrow.Author.Tests.{leb-true}
use Rattle.basics.proofs.Basics.{cases, le-or-lt}
use Rattle.stretches.specs.declared.Node.{Node}
use Rattle.stretches.specs.declared.Stretch.{Stretch}
use Rattle.stretches.specs.Stretch.{st, In, Fine}
use Rattle.stretches.specs.Front.{None, Some, first_from, first_to}
use Rattle.stretches.specs.Front as fronts
use Rattle.stretches.proofs.Answers.{rising-mono}
use Rattle.stretches.proofs.Fronts.{FirstIs, first_good, front-good}
use Rattle.stretches.proofs.Held.{to-from, to_none}
use Rattle.seek.specs.declared.state.State.{State}
use Rattle.seek.specs.Source.{Source, list_over, Good}
use Rattle.seek.specs.First.{gone, front, passed_at, Ended, Ready}
use Rattle.seek.specs.inner.Fronts.{pass_at, resume_at}
use Rattle.seek.specs.inner.Looks.{Sought, Reached}
use Rattle.seek.proofs.Nodes.{fine}
use Rattle.seek.proofs.Keeping.{ready-pass}
use Rattle.seek.proofs.Ahead.{none-from}

-- all that starts before `from` ends before e
pub record ReachInv (src : Source) (rows : List Node) (s₀ : State) (v e : ℕ) (s : State) (from : ℕ) : Type 0 where
  pub at : Good src rows → Ready src rows s₀ → Ready src rows s × Ended src rows v from e

pub reach-start : {src : Source} {rows : List Node} {s : State} {v e from : ℕ} → v < 32 → from ≡ resume_at s v e → ReachInv src rows s v e s from
reach-start {src} {rows} {s} {v} {e} lv z = record {
  at = λ good rdy. (
    rdy,
    subst (λ (t : ℕ). Ended src rows v t e) (sym z)
        (cases (leb (passed_at s v).end e) (λ b. Ended src rows v (cond b (passed_at s v).to 0) e)
        (λ k a f m h. omega (arith, rdy.ended v lv a f m h, leb-true ((passed_at s v).end) e k)) (λ k a f m h. absurd (omega arith))),
  );
}

-- a front from t on, where all before t ends before e
module _ (l : List Stretch) (f : Fine 65536 l) (t e : ℕ) (early : (a z : ℕ) → In a z l → a < t → z < e) (b : Stretch) (is : b ≡ front (first_from l t)) where
  -- none: all ends before e
  to-gone : first_from l t ≡ None → first_to l e ≡ None
  to-gone k = to_none l e (λ a z m. early a z m (subst (FirstIs l t) k (first_good l f.rising t) a z m))

  reach-first : e ≤ b.end → b ≡ front (first_to l e)
  reach-first h = go (first_from l t) refl
    where
      go : (g : fronts.Front) → first_from l t ≡ g → b ≡ front (first_to l e)
      go None k = is ∙ ap front k ∙ sym (ap front (to-gone k))
      go (Some y) k = is ∙ ap front k ∙ sym (ap front (to-from l e t early y k (omega (arith, ap (λ (x : Stretch). x.end) (is ∙ ap front k)))))

  reach-last : 65536 ≤ b.start → first_to l e ≡ None
  reach-last h = go (first_from l t) refl
    where
      go : (g : fronts.Front) → first_from l t ≡ g → first_to l e ≡ None
      go None k = to-gone k
      go (Some y) k =
          let m = (front-good l f.rising t y k).0 in
          absurd (omega (arith, ap (λ (x : Stretch). x.start) (is ∙ ap front k), f.sound y.start y.end m, f.below y.start y.end m))

  reach-next : b.start < 65536 → b.end < e → (a z : ℕ) → In a z l → a < b.start + 1 → z < e
  reach-next h q a z m lt = go (first_from l t) refl (le-or-lt t a)
    where
      go : (g : fronts.Front) → first_from l t ≡ g → (t ≤ a) ⊎ (a < t) → z < e
      go g k (inr o) = early a z m o
      go None k (inl o) = absurd (omega (arith, ap (λ (x : Stretch). x.start) (is ∙ ap front k)))
      go (Some y) k (inl o) =
          let w : b ≡ st y.start y.end = is ∙ ap front k in
          let i = front-good l f.rising t y k in
          let same : a ≡ y.start = omega (arith, (i.2 a z m o).0, ap (λ (x : Stretch). x.start) w) in
          let j = rising-mono l f.rising a z y.start y.end m i.0 (omega arith) in
          omega (arith, ap (λ (x : Stretch). x.end) w)

module _ {src : Source} {rows : List Node} {s₀ : State} {v e : ℕ} {s : State} {from : ℕ} (lv : v < 32) (inv : ReachInv src rows s₀ v e s from) where
  pub reach-out : {r : Stretch} → 65536 ≤ from → r ≡ gone → Reached src rows s₀ v e r s
  reach-out ge er = record {
    found = λ good rdy.
        let i = inv.at good rdy in
        let f = fine src rows good v lv in
        record { is = er ∙ sym (ap front (to_none (list_over src rows v) e (λ a z m. i.1 a z m (omega (arith, f.sound a z m, f.below a z m))))); ready = i.0 };
  }

  module _ {b : Stretch} {s' : State} (w : Sought src rows s v from b s') where
    pub reach_here : {s'' : State} → e ≤ b.end → s'' ≡ pass_at s' v from e → Reached src rows s₀ v e b s''
    reach_here h es = record {
      found = λ good rdy.
          let i = inv.at good rdy in
          let g = w.found good i.0 in
          record { is = reach-first (list_over src rows v) (fine src rows good v lv) from e i.1 b g.is h; ready = subst (Ready src rows) (sym es) (ready-pass src rows s' v from e lv i.1 g.ready) };
    }

    -- none; a front before `from` cannot be
    pub reach-gone : {r : Stretch} → (65536 ≤ b.start) ⊎ ((b.start < 65536) × (b.start < from)) → r ≡ gone → Reached src rows s₀ v e r s'
    reach-gone h er = record {
      found = λ good rdy.
          let i = inv.at good rdy in
          let g = w.found good i.0 in
          let l = list_over src rows v in
          let f = fine src rows good v lv in
          record { is = er ∙ sym (ap front (reach-last l f from e i.1 b g.is (none-from l f from b g.is h))); ready = g.ready };
    }

    pub reach-turn : b.end < e → b.start < 65536 → ReachInv src rows s₀ v e s' (b.start + 1)
    reach-turn lt one = record {
      at = λ good rdy.
          let i = inv.at good rdy in
          let g = w.found good i.0 in
          (g.ready, reach-next (list_over src rows v) (fine src rows good v lv) from e i.1 b g.is one lt);
    }
