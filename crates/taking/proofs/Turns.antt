-- The loops of Algorithms 2 and 3 over lent lists: a turn of the code is a turn of the definition. Assumes nothing.
use Prim.Native.Nat.{ℕ, zero, suc, ◌+◌, ◌-◌, ◌≤◌, ◌<◌}
use mathlib.Core.Path.{◌≡◌, refl, sym, ap, ◌∙◌}
use mathlib.Core.Bool.{true, false, cond}
use mathlib.Core.List.{List}
use native.Mathlib.Omega.{arith}
use Rattle.stretches.specs.declared.Stretch.{Stretch}
use Rattle.stretches.specs.Stretch.{inside}
use Rattle.stretches.specs.Front.{Front, None, Some}
use Rattle.stretches.specs.Taking.{Order, fronts, top, span, contains, advance, starts_first, skip, is_top, again, shrink}
use Rattle.taking.specs.inner.Queue.{handed}

-- ── Lines 2 to 4: after t of n turns ──

module _ (o : Order) (view : List Front → Front) (ls : List (List Stretch)) (c : Front) where
  pub skip-turn : (n t : ℕ) (ks js : List ℕ) → t < n → contains (view (fronts ls ks)) c ≡ true → js ≡ advance o ls ks
      → skip (n - t) o view ls c ks ≡ skip (n - (t + 1)) o view ls c js
  skip-turn n t ks js h e k =
      let z : n - t ≡ suc (n - (t + 1)) = omega arith in
      ap (λ (m : ℕ). skip m o view ls c ks) z ∙ (ap (λ v. cond v (skip (n - (t + 1)) o view ls c (advance o ls ks)) ks) e ∙ ap (skip (n - (t + 1)) o view ls c) (sym k))

  pub skip-stop : (m : ℕ) (ks : List ℕ) → contains (view (fronts ls ks)) c ≡ false → skip m o view ls c ks ≡ ks
  skip-stop zero ks e = refl
  skip-stop (suc m) ks e = ap (λ v. cond v (skip m o view ls c (advance o ls ks)) ks) e

  pub skip-over : (n t : ℕ) (ks : List ℕ) → n ≤ t → skip (n - t) o view ls c ks ≡ ks
  skip-over n t ks h = let z : n - t ≡ 0 = omega arith in ap (λ (m : ℕ). skip m o view ls c ks) z

  pub skip-start : (n : ℕ) (ks : List ℕ) → skip n o view ls c ks ≡ skip (n - 0) o view ls c ks
  skip-start n ks = let z : n ≡ n - 0 = omega arith in ap (λ (m : ℕ). skip m o view ls c ks) z

-- ── Lines 6 to 11 of Algorithm 3: after t of n turns ──

module _ (ls : List (List Stretch)) (c : Stretch) (ks : List ℕ) where
  pub shrink-top : (m : ℕ) → is_top (top starts_first (fronts ls ks)) c ≡ true → shrink m ls c ks ≡ handed (Some c) ks
  shrink-top zero e = refl
  shrink-top (suc m) e = ap (λ v. cond v (handed (Some c) ks) (again (span (fronts ls (advance starts_first ls ks))) c (advance starts_first ls ks) (λ x. shrink m ls x (advance starts_first ls ks)))) e

  pub shrink-over : (n t : ℕ) → n ≤ t → shrink (n - t) ls c ks ≡ handed (Some c) ks
  shrink-over n t h = let z : n - t ≡ 0 = omega arith in ap (λ (m : ℕ). shrink m ls c ks) z

  pub shrink-start : (n : ℕ) → shrink n ls c ks ≡ shrink (n - 0) ls c ks
  shrink-start n = let z : n ≡ n - 0 = omega arith in ap (λ (m : ℕ). shrink m ls c ks) z

-- turn t of n: c is not the top, and after an advance the counts are js
pub record Turn (ls : List (List Stretch)) (c : Stretch) (ks : List ℕ) (n t : ℕ) (js : List ℕ) : Type 0 where
  pub within : t < n
  pub apart : is_top (top starts_first (fronts ls ks)) c ≡ false
  pub moved : js ≡ advance starts_first ls ks

module _ {ls : List (List Stretch)} {c : Stretch} {ks : List ℕ} {n t : ℕ} {js : List ℕ} (u : Turn ls c ks n t js) where
  -- the span is looked at
  turned : (g : Front) → g ≡ span (fronts ls js) → shrink (n - t) ls c ks ≡ again g c js (λ x. shrink (n - (t + 1)) ls x js)
  turned g w =
      let z : n - t ≡ suc (n - (t + 1)) = omega (arith, u.within) in
      let m = n - (t + 1) in
      ap (λ (m : ℕ). shrink m ls c ks) z
      ∙ (ap (λ v. cond v (handed (Some c) ks) (again (span (fronts ls (advance starts_first ls ks))) c (advance starts_first ls ks) (λ x. shrink m ls x (advance starts_first ls ks)))) u.apart
      ∙ (ap (λ ks. again (span (fronts ls ks)) c ks (λ x. shrink m ls x ks)) (sym u.moved) ∙ ap (λ g. again g c js (λ x. shrink m ls x js)) (sym w)))

  pub shrink_none : None ≡ span (fronts ls js) → shrink (n - t) ls c ks ≡ handed (Some c) js
  shrink_none w = turned None w

  pub shrink-out : (s : Stretch) → Some s ≡ span (fronts ls js) → inside s c ≡ false → shrink (n - t) ls c ks ≡ handed (Some c) js
  shrink-out s w i = turned (Some s) w ∙ ap (λ v. cond v (shrink (n - (t + 1)) ls s js) (handed (Some c) js)) i

  pub shrink-turn : (s : Stretch) → Some s ≡ span (fronts ls js) → inside s c ≡ true → shrink (n - t) ls c ks ≡ shrink (n - (t + 1)) ls s js
  shrink-turn s w i = turned (Some s) w ∙ ap (λ v. cond v (shrink (n - (t + 1)) ls s js) (handed (Some c) js)) i
