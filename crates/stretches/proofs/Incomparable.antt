-- Incomparable stretches over w lines number at most w: no two of them start on one line. And so no list has more stretches than there are lines.
-- Assumes nothing.
use Prim.Native.Nat.{ℕ, ◌-◌, ◌≤◌, ◌<◌}
use mathlib.Core.Path.{◌≡◌, refl, sym, ◌∙◌}
use mathlib.Core.Logic.{◌⊎◌, inl, inr}
use mathlib.Core.Bool.{true, false, cond}
use mathlib.Core.List.{List, [], ◌∷◌}
use lib.ListN.{length}
use lib.Dec.{leb, ltb}
use borrow.Author.Tests.{lt-leb, ltb-true, ltb-false}
use native.Mathlib.Omega.{arith}
use Rattle.basics.proofs.Basics.{cases, and-false, false-and, le-or-lt}
use Rattle.stretches.specs.Stretch.{Stretch, st, In, Rising, Fine, inside, Incomparable}
use Rattle.stretches.proofs.Lists.{inside-true}

-- ── Different numbers below w are at most w ──

-- f gives the stretches of the list different numbers
abbrev Different : (Stretch → ℕ) → List Stretch → Type 0
Different f [] = Unit {0}
Different f (x ∷ xs) = ((s e : ℕ) → In s e xs → f (st s e) ≡ f x → ⊥) × Different f xs

-- the numbers above a lowered by one: those that were different from a and from each other still are different, and leave one number less
abbrev lower : ℕ → ℕ → ℕ
lower a n = cond (ltb a n) (n - 1) n

lower-apart : (a m n : ℕ) → (m ≡ a → ⊥) → (n ≡ a → ⊥) → (m ≡ n → ⊥) → lower a m ≡ lower a n → ⊥
lower-apart a m n ma na mn =
    cases (ltb a m) (λ b. cond b (m - 1) m ≡ lower a n → ⊥)
    (λ i. cases (ltb a n) (λ b. m - 1 ≡ cond b (n - 1) n → ⊥) (λ j e. omega (arith, mn, ltb-true a m i, ltb-true a n j, e)) (λ j e. omega (arith, na, ltb-true a m i, ltb-false a n j, e)))
    (λ i. cases (ltb a n) (λ b. m ≡ cond b (n - 1) n → ⊥) (λ j e. omega (arith, ma, ltb-false a m i, ltb-true a n j, e)) (λ j e. mn e))

lower-below : (a n w : ℕ) → (n ≡ a → ⊥) → a < w → n < w → lower a n < w - 1
lower-below a n w na h k = cases (ltb a n) (λ b. cond b (n - 1) n < w - 1) (λ i. omega (arith, ltb-true a n i)) (λ i. omega (arith, na, ltb-false a n i))

different-few : (f : Stretch → ℕ) (w : ℕ) (l : List Stretch) → Different f l → ((s e : ℕ) → In s e l → f (st s e) < w) → length l ≤ w
different-few f w [] d h = omega arith
different-few f w (x ∷ xs) d h =
    let k : f x < w = h x.start x.end (inl (refl, refl)) in
    omega (arith, different-few (λ y. lower (f x) (f y)) (w - 1) xs (lowered xs d.0 d.1) (λ s e m. lower-below (f x) (f (st s e)) w (d.0 s e m) k (h s e (inr m))))
  where
    lowered : (ys : List Stretch) → ((s e : ℕ) → In s e ys → f (st s e) ≡ f x → ⊥) → Different f ys → Different (λ y. lower (f x) (f y)) ys
    lowered [] g q = tt
    lowered (y ∷ ys) g q = (
      λ s e m. lower-apart (f x) (f (st s e)) (f y) (g s e (inr m)) (g y.start y.end (inl (refl, refl))) (q.0 s e m),
      lowered ys (λ s e m. g s e (inr m)) q.1,
    )

-- ── Incomparable stretches ──

-- of two that start on one line the one that ends no later lies inside the other
start-apart : (x : Stretch) (s e : ℕ) → (inside (st s e) x ≡ false) × (inside x (st s e) ≡ false) → s ≡ x.start → ⊥
start-apart x s e h k = go (le-or-lt e x.end)
  where
    go : (e ≤ x.end) ⊎ (x.end < e) → ⊥
    go (inl i) = let z : true ≡ false = sym (inside-true (st s e) x (omega arith) i) ∙ h.0 in let y : ◌≡◌ {A = ℕ} 0 1 = cc in omega arith
    go (inr i) = let z : true ≡ false = sym (inside-true x (st s e) (omega arith) (omega arith)) ∙ h.1 in let y : ◌≡◌ {A = ℕ} 0 1 = cc in omega arith

starts-differ : (l : List Stretch) → Incomparable l → Different (λ x. x.start) l
starts-differ [] i = tt
starts-differ (x ∷ xs) i = (λ s e m. start-apart x s e (i.0 s e m), starts-differ xs i.1)

-- incomparable stretches over w lines number at most w
pub incomparable-few : (w : ℕ) (l : List Stretch) → Incomparable l → ((s e : ℕ) → In s e l → (s ≤ e) × (e < w)) → length l ≤ w
incomparable-few w l i h = different-few (λ x. x.start) w l (starts-differ l i) (λ s e m. omega (arith, h s e m))

-- ── Lists ──

-- the stretches of a rising list are incomparable
pub rising-incomparable : (l : List Stretch) → Rising l → Incomparable l
rising-incomparable [] r = tt
rising-incomparable (x ∷ xs) r = (
  λ s e m. let h = r.0 s e m in (and-false (leb x.start s) (leb e x.end) (lt-leb e x.end h.1), false-and (leb s x.start) (leb x.end e) (lt-leb s x.start h.0)),
  rising-incomparable xs r.1,
)

-- so it has no more stretches than there are lines
pub fine-few : (n : ℕ) (l : List Stretch) → Fine n l → length l ≤ n
fine-few n l f = incomparable-few n l (rising-incomparable l f.rising) (λ s e m. (f.sound s e m, f.below s e m))
