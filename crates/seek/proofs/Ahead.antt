-- A front is the first of what is left from its line on; so what `first` hands out, and `first_to`, is what was sought. One law for each return. Assumes nothing.
use mathlib.Core.Path.{◌≡◌, refl, sym, ap, subst, ◌∙◌}
use mathlib.Core.Logic.{◌⊎◌, ⊎_elim}
use mathlib.Core.List.{List, [], ◌∷◌}
use Prim.Native.Nat.{ℕ, suc, ◌+◌, ◌≤◌, ◌<◌}
use native.Mathlib.Omega.{arith}
use Rattle.stretches.specs.declared.Node.{Node}
use Rattle.stretches.specs.declared.Stretch.{Stretch}
use Rattle.stretches.specs.Stretch.{In, Fine}
use Rattle.stretches.specs.Front.{Front, None, Some, first_from, first_to, onward}
use Rattle.stretches.proofs.Fronts.{front-good}
use Rattle.stretches.proofs.Held.{to_in}
use Rattle.stretches.proofs.Steps.{onward-none, onward-at}
use Rattle.seek.specs.declared.state.State.{State}
use Rattle.seek.specs.Source.{Source, list_over, Good}
use Rattle.seek.specs.First.{front, first, reach, Ready, FirstOf, ReachOf}
use Rattle.seek.specs.inner.Looks.{Sought, Reached}
use Rattle.seek.proofs.Nodes.{fine}

-- ── A front of a fine list ──

module _ (l : List Stretch) (f : Fine 65536 l) where
  -- it starts below line 65,536
  low : (s e : ℕ) → In s e l → s < 65536
  low s e m = omega (arith, f.sound s e m, f.below s e m)

  -- and at t or later
  front-from : (t : ℕ) (r : Stretch) → r ≡ front (first_from l t) → r.start < 65536 → t ≤ r.start
  front-from t r e lt = go (first_from l t) refl
    where
      go : (g : Front) → first_from l t ≡ g → t ≤ r.start
      go None k = let z : r.start ≡ 65536 = ap (λ (y : Stretch). y.start) (e ∙ ap front k) in absurd (omega arith)
      go (Some x) k = subst (λ (y : Stretch). t ≤ y.start) (sym (e ∙ ap front k)) (front-good l f.rising t x k).1

  -- so one that does not is none
  pub none-from : (t : ℕ) (r : Stretch) → r ≡ front (first_from l t) → (65536 ≤ r.start) ⊎ ((r.start < 65536) × (r.start < t)) → 65536 ≤ r.start
  none-from t r e = ⊎_elim (λ (z : 65536 ≤ r.start). z) (λ (z : (r.start < 65536) × (r.start < t)). absurd (omega (arith, front-from t r e z.0)))

-- what is handed out of a front: itself, or none
as_some : (g : Front) (r : Stretch) → r ≡ front g → r.start < 65536 → Some r ≡ g
as_some None r e lt = absurd (omega (arith, ap (λ (y : Stretch). y.start) e))
as_some (Some x) r e lt = ap Some e

as_none : (l : List Stretch) → Fine 65536 l → (g : Front) → ((x : Stretch) → g ≡ Some x → In x.start x.end l) → (r : Stretch) → r ≡ front g → 65536 ≤ r.start → None ≡ g
as_none l f None there r e ge = refl
as_none l f (Some x) there r e ge = absurd (omega (arith, ap (λ (y : Stretch). y.start) e, low l f x.start x.end (there x refl)))

-- ── first and first_to ──

pub first_out : {src : Source} {rows : List Node} {s : State} {v t : ℕ} → 32 ≤ v → FirstOf src rows s v t None s
first_out ge = record { finds = λ lv good rdy. absurd (omega arith); outside = λ h. (refl, refl) }

module _ {src : Source} {rows : List Node} {s : State} {v t : ℕ} {f : Stretch} {s' : State} (lv : v < 32) (g : Sought src rows s v t f s') where
  pub first-none : (65536 ≤ f.start) ⊎ ((f.start < 65536) × (f.start < t)) → FirstOf src rows s v t None s'
  first-none h = record {
    finds = λ z good rdy.
        let k = g.found good rdy in
        let l = list_over src rows v in
        let fl = fine src rows good v lv in
        record {
          is = as_none l fl (first_from l t) (λ x e. (front-good l fl.rising t x e).0) f k.is (none-from l fl t f k.is h);
          ready = k.ready;
        };
    outside = λ h. absurd (omega arith);
  }

  pub first_some : f.start < 65536 → FirstOf src rows s v t (Some f) s'
  first_some lt = record { finds = λ h good rdy. let k = g.found good rdy in record { is = as_some (first src rows v t) f k.is lt; ready = k.ready }; outside = λ h. absurd (omega arith) }

pub reach_outside : {src : Source} {rows : List Node} {s : State} {v e : ℕ} → 32 ≤ v → ReachOf src rows s v e None s
reach_outside ge = record { finds = λ lv good rdy. absurd (omega arith); outside = λ h. (refl, refl) }

module _ {src : Source} {rows : List Node} {s : State} {v e : ℕ} {f : Stretch} {s' : State} (lv : v < 32) (g : Reached src rows s v e f s') where
  pub reach_none : 65536 ≤ f.start → ReachOf src rows s v e None s'
  reach_none ge = record {
    finds = λ h good rdy.
        let k = g.found good rdy in
        let l = list_over src rows v in
        record { is = as_none l (fine src rows good v lv) (first_to l e) (λ x w. (to_in l e x w).0) f k.is ge; ready = k.ready };
    outside = λ h. absurd (omega arith);
  }

  pub reach_some : f.start < 65536 → ReachOf src rows s v e (Some f) s'
  reach_some lt = record { finds = λ h good rdy. let k = g.found good rdy in record { is = as_some (reach src rows v e) f k.is lt; ready = k.ready }; outside = λ h. absurd (omega arith) }

-- ── A step over node 0's stretches ──

-- those from a line on
abbrev pub rest : Source → List Node → ℕ → List Stretch
rest src rows t = onward (list_over src rows 0) t

module _ {src : Source} {rows : List Node} {s : State} {t : ℕ} {r : Front} {s' : State} (g : FirstOf src rows s 0 t r s') (good : Good src rows) (rdy : Ready src rows s) where
  pub step-ready : Ready src rows s'
  step-ready = (g.finds (omega arith) good rdy).ready

  pub step-none : r ≡ None → rest src rows t ≡ []
  step-none n = onward-none (list_over src rows 0) (fine src rows good 0 (omega arith)).rising t (sym (g.finds (omega arith) good rdy).is ∙ n)

  pub step-some : {x : Stretch} → r ≡ Some x → rest src rows t ≡ x ∷ rest src rows (x.start + 1)
  step-some {x} e =
      let y : suc x.start ≡ x.start + 1 = omega arith in
      onward-at (list_over src rows 0) (fine src rows good 0 (omega arith)).rising t x (sym (g.finds (omega arith) good rdy).is ∙ e) ∙ ap (λ (n : ℕ). x ∷ rest src rows n) y

-- what `first` finds is the node's first stretch from the line on
pub first-front : {src : Source} {rows : List Node} {s s' : State} {v t : ℕ} {f : Front} → FirstOf src rows s v t f s' → Good src rows → Ready src rows s → v < 32 → f ≡ first_from (list_over src rows v) t
unfolding first
first-front g good rdy lv = (g.finds lv good rdy).is
