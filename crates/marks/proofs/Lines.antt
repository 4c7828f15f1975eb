-- The marked lines of a list of bits: the first from a line on, and those of a number, taken by its lowest set bit, as `u64::trailing_zeros` gives it.
-- Assumes nothing.
use Prim.Native.Nat.{ℕ, zero, suc, ◌+◌, ◌-◌, ◌/◌, ◌%◌, ◌^◌, ◌≤◌, ◌<◌}
use mathlib.Core.Path.{◌≡◌, refl, sym, ap, ap₂, ◌∙◌}
use mathlib.Core.Bool.{Bool, true, false, cond}
use mathlib.Core.List.{List, [], ◌∷◌, ◌++◌, append-nil}
use native.Mathlib.Nat.{pow-suc}
use native.Mathlib.Omega.{arith}
use lib.ListN.{drop}
use lib.Dec.{eqb}
use lib.Pow.{shr_lt, shr-shr}
use lib.Count.{count_trailing_zeros, under}
use borrow.Author.Tests.{le-leb, lt-leb, eqb-true, eqb-false}
use Rattle.stretches.specs.Stretch.{st, marks}
use Rattle.stretches.specs.Front.{Some, first_from, head_of}
use Rattle.basics.proofs.Basics.{cases}
use Rattle.marks.specs.Row.{bits}

-- the first from a line on that no line of the list is before
first-all : (q p : ℕ) (bs : List Bool) → q ≤ p → first_from (marks p bs) q ≡ head_of (marks p bs)
first-all q p [] h = refl
first-all q p (true ∷ bs) h = ap (λ b. cond b (Some (st p p)) (first_from (marks (suc p) bs) q)) (le-leb q p h)
first-all q p (false ∷ bs) h = first-all q (suc p) bs (omega arith)

-- the first from a line on is the first of the lines without those before it
pub first-from : (p t q : ℕ) (bs : List Bool) → q ≡ p + t → first_from (marks p bs) q ≡ head_of (marks q (drop t bs))
first-from p zero q bs h = let z : p ≡ q = omega arith in first-all q p bs (omega arith) ∙ ap (λ (x : ℕ). head_of (marks x bs)) z
first-from p (suc t) q [] h = refl
first-from p (suc t) q (true ∷ bs) h =
    ap (λ b. cond b (Some (st p p)) (first_from (marks (suc p) bs) q)) (lt-leb q p (omega arith)) ∙ first-from (suc p) t q bs (omega arith)
first-from p (suc t) q (false ∷ bs) h = first-from (suc p) t q bs (omega arith)

-- ── The marked lines of a number's bits, taken lowest first ──

-- the bits of zero are passed over
pub walk-zero : (d r q : ℕ) (bs : List Bool) → q ≡ r + d → marks r (bits d 0 ++ bs) ≡ marks q bs
unfolding bits
walk-zero zero r q bs h = let z : r ≡ q = omega arith in ap (λ (x : ℕ). marks x bs) z
walk-zero (suc d) r q bs h = walk-zero d (suc r) q bs (omega arith)

-- where none is left
pub walk_end : (d r : ℕ) → marks r (bits d 0) ≡ []
walk_end d r = ap (marks r) (sym (append-nil (bits d 0))) ∙ walk-zero d r (r + d) [] refl

-- the zeros below the lowest set bit, by the lowest bit
odd : (n m : ℕ) → eqb (m % 2) 1 ≡ true → count_trailing_zeros (suc n) m ≡ 0
unfolding count_trailing_zeros
odd n m k = ap (λ (x : ℕ). under x (count_trailing_zeros n (m / 2))) (eqb-true (m % 2) 1 k)

even : (n m : ℕ) → eqb (m % 2) 1 ≡ false → (m % 2 ≡ 0) × (count_trailing_zeros (suc n) m ≡ suc (count_trailing_zeros n (m / 2)))
unfolding count_trailing_zeros
even n m k =
    let j = eqb-false (m % 2) 1 k in
    let o : m % 2 ≡ 0 = omega (arith, j) in
    (o, ap (λ (x : ℕ). under x (count_trailing_zeros n (m / 2))) o)

below : (d n m : ℕ) → 0 < m → m < 2 ^ d → d ≤ n → count_trailing_zeros n m < d
below zero n m i l h = absurd (omega arith)
below (suc d) zero m i l h = absurd (omega arith)
below (suc d) (suc n) m i l h =
    cases (eqb (m % 2) 1) (λ b. count_trailing_zeros (suc n) m < suc d) (λ k. omega (arith, odd n m k))
    (λ k. let o = even n m k in omega (arith, below d n (m / 2) (omega arith) (omega (arith, pow-suc 2 d)) (omega arith)))

-- with z zeros below the lowest set bit of d bits, and e bits above it
walk : (d n r z e q m : ℕ) (bs : List Bool) → 0 < m → m < 2 ^ d → d ≤ n → z ≡ count_trailing_zeros n m → q ≡ r + z → d ≡ e + suc z
    → marks r (bits d m ++ bs) ≡ st q q ∷ marks (suc q) (bits e (m / 2 ^ suc z) ++ bs)
unfolding bits
walk zero n r z e q m bs i l h t u v = absurd (omega arith)
walk (suc d) zero r z e q m bs i l h t u v = absurd (omega arith)
walk (suc d) (suc n) r z e q m bs i l h t u v =
    cases (eqb (m % 2) 1)
    (λ b. cond b (st r r ∷ marks (suc r) (bits d (m / 2) ++ bs)) (marks (suc r) (bits d (m / 2) ++ bs)) ≡ st q q ∷ marks (suc q) (bits e (m / 2 ^ suc z) ++ bs))
    (λ k.
    let y : z ≡ 0 = t ∙ odd n m k in
    let f : r ≡ q = omega arith in
    let g : d ≡ e = omega arith in
    ap (λ (x : ℕ). st x x ∷ marks (suc x) (bits d (m / 2) ++ bs)) f
    ∙ ap₂ (λ (x y : ℕ). st q q ∷ marks (suc q) (bits x (m / 2 ^ suc y) ++ bs)) g (sym y))
    (λ k.
    let o = even n m k in
    let y = count_trailing_zeros n (m / 2) in
    let f : 1 + suc y ≡ suc z = omega arith in
    walk d n (suc r) y e q (m / 2) bs (omega arith) (omega (arith, pow-suc 2 d)) (omega arith) refl (omega arith) (omega arith)
    ∙ ap (λ (x : ℕ). st q q ∷ marks (suc q) (bits e x ++ bs)) (shr-shr m 1 (suc y) ∙ ap (λ (x : ℕ). m / 2 ^ x) f))

module _ (d m : ℕ) (some : 0 < m) (fits : m < 2 ^ d) (most : d ≤ 64) where
  -- the lowest set bit is one of them
  pub walk-below : count_trailing_zeros 64 m < d
  walk-below = below d 64 m some fits most

  -- what stands above it has so many bits as are left
  pub walk-rest : m / 2 ^ count_trailing_zeros 64 m / 2 < 2 ^ (d - count_trailing_zeros 64 m - 1)
  walk-rest =
      let z = count_trailing_zeros 64 m in
      let y : (d - z - 1) + (z + 1) ≡ d = omega (arith, walk-below) in
      rw (shr-shr m z 1) (shr_lt (d - z - 1) (z + 1) (rw y fits))

  -- it is the first marked line, and those of what stands above it follow
  pub walk_first : (r : ℕ) (bs : List Bool) → marks r (bits d m ++ bs)
      ≡ st (r + count_trailing_zeros 64 m) (r + count_trailing_zeros 64 m)
      ∷ marks (r + count_trailing_zeros 64 m + 1) (bits (d - count_trailing_zeros 64 m - 1) (m / 2 ^ count_trailing_zeros 64 m / 2) ++ bs)
  walk_first r bs =
      let z = count_trailing_zeros 64 m in
      let u : suc (r + z) ≡ r + z + 1 = omega arith in
      let v : suc z ≡ z + 1 = omega arith in
      walk d 64 r z (d - z - 1) (r + z) m bs some fits most refl refl (omega (arith, walk-below))
      ∙ ap₂ (λ (x y : ℕ). st (r + z) (r + z) ∷ marks x (bits (d - z - 1) y ++ bs)) u (ap (λ (x : ℕ). m / 2 ^ x) v ∙ sym (shr-shr m z 1))

  -- the same where no bits follow
  pub walk-hit : (r : ℕ) → marks r (bits d m)
      ≡ st (r + count_trailing_zeros 64 m) (r + count_trailing_zeros 64 m)
      ∷ marks (r + count_trailing_zeros 64 m + 1) (bits (d - count_trailing_zeros 64 m - 1) (m / 2 ^ count_trailing_zeros 64 m / 2))
  walk-hit r =
      let z = count_trailing_zeros 64 m in
      ap (marks r) (sym (append-nil (bits d m))) ∙ walk_first r []
      ∙ ap (λ (l : List Bool). st (r + z) (r + z) ∷ marks (r + z + 1) l) (append-nil (bits (d - z - 1) (m / 2 ^ z / 2)))
