-- Two measures that are the same on the stretches below line n: over lists that end there, an operator answers the same with either.
-- Assumes nothing.
use Prim.Native.Nat.{ℕ, zero, suc, ◌≤◌, ◌<◌}
use mathlib.Core.Path.{◌≡◌, refl, ap, ap₂}
use mathlib.Core.Logic.{inl, inr}
use mathlib.Core.Bool.{Bool, cond}
use mathlib.Core.List.{List, [], ◌∷◌}
use lib.Dec.{leb}
use Rattle.stretches.specs.Stretch.{Stretch, st, In, keep, keep_first, at_most}
use Rattle.stretches.specs.Operators.{operator_of, apply}
use Rattle.stretches.proofs.Fine.{AllFine, first_fine}

-- two measures, the same on the stretches below line n
abbrev pub Measures : ℕ → (Stretch → ℕ) → (Stretch → ℕ) → Type 0
Measures n m m' = (s e : ℕ) → s ≤ e → e < n → m (st s e) ≡ m' (st s e)

-- tests that say the same of every stretch of a list keep the same
keep_same : (f g : Stretch → Bool) (l : List Stretch) → ((s e : ℕ) → In s e l → f (st s e) ≡ g (st s e)) → keep f l ≡ keep g l
keep_same f g [] h = refl
keep_same f g (x ∷ xs) h =
    ap₂ (λ (b : Bool) (ys : List Stretch). cond b (x ∷ ys) ys) (h x.start x.end (inl (refl, refl))) (keep_same f g xs (λ s e m. h s e (inr m)))

module _ (n : ℕ) (m m' : Stretch → ℕ) (k : ℕ) where
  max-same : (ls : List (List Stretch)) → AllFine n ls → Measures n m m' → keep_first (at_most m k) ls ≡ keep_first (at_most m' k) ls
  max-same [] f same = refl
  max-same (l ∷ ls) f same =
      let g = first_fine f in
      keep_same (at_most m k ls) (at_most m' k ls) l (λ s e i. ap (λ (x : ℕ). leb x k) (same s e (g.sound s e i) (g.below s e i)))

  -- only `max`, number 6, measures
  pub measure-same : (o : ℕ) (own : List Stretch) (ls : List (List Stretch)) → AllFine n ls → (o ≡ 6 → Measures n m m') → apply (operator_of m o k) own ls ≡ apply (operator_of m' o k) own ls
  measure-same zero own ls f same = refl
  measure-same (suc zero) own ls f same = refl
  measure-same (suc (suc zero)) own ls f same = refl
  measure-same (suc (suc (suc zero))) own ls f same = refl
  measure-same (suc (suc (suc (suc zero)))) own ls f same = refl
  measure-same (suc (suc (suc (suc (suc zero))))) own ls f same = refl
  measure-same (suc (suc (suc (suc (suc (suc zero)))))) own ls f same = max-same ls f (same refl)
  measure-same (suc (suc (suc (suc (suc (suc (suc o))))))) own ls f same = refl
