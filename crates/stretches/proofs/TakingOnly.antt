-- With no bound on turns the algorithms give one thing: where one test holds, no other does. So only what the taking call gives.
-- Assumes nothing.
use Prim.Native.Nat.{ℕ, suc, ◌≤◌, max}
use mathlib.Core.Path.{◌≡◌, refl, sym, ap, ap₂, subst, ◌∙◌}
use mathlib.Core.Bool.{true, false, true≢false}
use mathlib.Core.List.{List}
use native.Mathlib.Omega.{arith}
use Rattle.stretches.specs.Stretch.{Keep, Then, Row, Stretch, inside, Op, Or, And}
use Rattle.stretches.specs.Front.{Front, None, Some}
use Rattle.stretches.specs.Taking.{AnswerCounts, Order, starts_first, contains, advance, total, or_hand, HasTaking, taking}
use Rattle.stretches.specs.Loops.{SkipGives, skip-over, skip-on, ShrinkGives, shrink-top, shrink-over, shrink-on, NextGives, or-next, and_none, and-next, TakingGives, taking-first, taking-later}
use Rattle.stretches.proofs.TakingLoops.{taking-gives}

module _ (ls : List (List Stretch)) where
  skips-one : {o : Order} {view : List Front → Front} {c : Front} {ks js js' : List ℕ} {n n' : ℕ} → SkipGives o view ls c ks n js → SkipGives o view ls c ks n' js' → (js ≡ js') × (n ≡ n')
  skips-one (skip-over k) (skip-over k') = (refl, refl)
  skips-one (skip-over k) (skip-on k' s') = absurd (true≢false (sym k' ∙ k))
  skips-one (skip-on k s) (skip-over k') = absurd (true≢false (sym k ∙ k'))
  skips-one (skip-on k s) (skip-on k' s') = let e = skips-one s s' in (e.0, ap suc e.1)

  -- not both lies the span in c and does not
  not-both : (c : Stretch) {g : Front} {x : Stretch} → g ≡ Some x → inside x c ≡ true → contains (Some c) g ≡ false → ⊥
  not-both c e j w = true≢false (sym j ∙ ap (contains (Some c)) (sym e) ∙ w)

  shrinks-one : {c : Stretch} {ks : List ℕ} {n n' : ℕ} {r r' : AnswerCounts} → ShrinkGives ls c ks n r → ShrinkGives ls c ks n' r' → (r ≡ r') × (n ≡ n')
  shrinks-one (shrink-top k) (shrink-top k') = (refl, refl)
  shrinks-one (shrink-top k) (shrink-over k' w') = absurd (true≢false (sym k ∙ k'))
  shrinks-one (shrink-top k) (shrink-on k' e' j' s') = absurd (true≢false (sym k ∙ k'))
  shrinks-one (shrink-over k w) (shrink-top k') = absurd (true≢false (sym k' ∙ k))
  shrinks-one (shrink-over k w) (shrink-over k' w') = (refl, refl)
  shrinks-one {c} (shrink-over k w) (shrink-on k' e' j' s') = absurd (not-both c e' j' w)
  shrinks-one (shrink-on k e j s) (shrink-top k') = absurd (true≢false (sym k' ∙ k))
  shrinks-one {c} (shrink-on k e j s) (shrink-over k' w') = absurd (not-both c e j w')
  shrinks-one {ks = ks} {r' = r'} (shrink-on {x = x} k e j s) (shrink-on {x = x'} {n = i} k' e' j' s') =
      let z : x' ≡ x = cc in
      let h = shrinks-one s (subst (λ y. ShrinkGives ls y (advance starts_first ls ks) i r') z s') in
      (h.0, ap suc h.1)

  next_one : {n n' : ℕ} {s r r' : AnswerCounts} (o : Op) → NextGives ls s o n r → NextGives ls s o n' r' → (r ≡ r') × (n ≡ n')
  next_one Or (or-next k) (or-next k') = let e = skips-one k k' in (ap (or_hand ls) e.0, e.1)
  next_one And (and_none k h) (and_none k' h') = let e = skips-one k k' in (ap (λ (js : List ℕ). record { answer = None; counts = js }) e.0, e.1)
  next_one And (and_none k h) (and-next k' h' i') = let e = (skips-one k k').0 in let z : ◌≡◌ {A = ℕ} 0 1 = cc in absurd (omega arith)
  next_one And (and-next k h i) (and_none k' h') = let e = (skips-one k k').0 in let z : ◌≡◌ {A = ℕ} 0 1 = cc in absurd (omega arith)
  next_one {r' = r'} And (and-next {js = js} {c = c} k h i) (and-next {i = n} {js = js'} {c = c'} k' h' i') =
      let u = skips-one k k' in
      let e : js' ≡ js = sym u.0 in
      let z : c' ≡ c = cc in
      let v = shrinks-one i (subst (λ x. ShrinkGives ls x js n r') z (subst (λ ks. ShrinkGives ls c' ks n r') e i')) in
      (v.0, ap₂ max u.1 v.1)
  next_one Row g _ = elim g [ ]
  next_one Then g _ = elim g [ ]
  next_one (Keep _ _) g _ = elim g [ ]

  gives_one : (o : Op) {p n n' : ℕ} {r r' : AnswerCounts} → TakingGives ls o p n r → TakingGives ls o p n' r' → (r ≡ r') × (n ≡ n')
  gives_one o (taking-first k) (taking-first k') = next_one o k k'
  gives_one o {r' = r'} (taking-later g k) (taking-later {n = n} g' k') =
      let u = gives_one o g g' in
      let v = next_one o k (subst (λ s. NextGives ls s o n r') (sym u.0) k') in
      (v.0, ap₂ max u.1 v.1)

  -- without the bound nothing else is given, and no loop makes more turns than there are items
  pub gives-only : {p n : ℕ} {r : AnswerCounts} (o : Op) → HasTaking o → TakingGives ls o p n r → (r ≡ taking o ls p) × (n ≤ total ls)
  gives-only {p} {n} o t g =
      let k = taking-gives ls o t p in
      let e = gives_one o g k.1 in
      (e.0, omega (arith, e.1, k.2))
