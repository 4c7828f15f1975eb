-- The bits of a number: of the or and the and of two, with one of them set or cleared, without the lowest, and how many are set; by the lowest bit and
-- the rest. Assumes nothing.
use Prim.Native.Nat.{ℕ, zero, suc, ◌+◌, ◌-◌, ◌*◌, ◌/◌, ◌%◌, ◌^◌, ◌≤◌, ◌<◌, min, max}
use mathlib.Core.Path.{◌≡◌, refl, sym, ap, ap₂, ◌∙◌}
use mathlib.Core.Bool.{Bool, true, false, cond, ◌&&◌, ◌||◌}
use mathlib.Core.List.{List, [], ◌∷◌}
use native.Mathlib.Nat.{pow-suc, mul-mod_left, mod-one, mod-eq_of_lt, div-one}
use native.Mathlib.Omega.{arith}
use lib.ListN.{length, get_or, take, drop, set, replicate}
use lib.Dec.{eqb}
use borrow.Author.Tests.{eqb-true, eqb-false, eq-eqb, ne_eqb}
use lib.Arith.{mod-mul}
use lib.Pow.{pow_pos, pow-lt, pow-add, shr-shr, shl-shr}
use lib.Bits.{bit_and, bit_or, or_step, and_step, or_zero_r, and_mask}
use lib.Count.{ones, ones_step, ones_cat, ones-le}
use Rattle.basics.proofs.Basics.{cases}
use Rattle.stretches.specs.Stretch.{either}
use Rattle.stretches.proofs.Union.{get_d-either}
use Rattle.marks.specs.Row.{bits, number, trues}

pub length-bits : (d w : ℕ) → length (bits d w) ≡ d
unfolding bits
length-bits zero w = refl
length-bits (suc d) w = ap suc (length-bits d (w / 2))

pub bits-zero : (d : ℕ) → bits d 0 ≡ replicate d false
unfolding bits
bits-zero zero = refl
bits-zero (suc d) = ap (λ (l : List Bool). false ∷ l) (bits-zero d)

-- a number by its lowest bit and the rest
pub joined : (d n q : ℕ) (b : Bool) → n / 2 ≡ q → eqb (n % 2) 1 ≡ b → bits (suc d) n ≡ b ∷ bits d q
unfolding bits
joined d n q b h k = cc

-- a number is that of its bits
pub number-bits : (d w : ℕ) → w < 2 ^ d → number (bits d w) ≡ w
unfolding bits number
number-bits zero w h = omega arith
number-bits (suc d) w h =
    let p = pow-suc 2 d in
    let r = number-bits d (w / 2) (omega arith) in
    cases (eqb (w % 2) 1) (λ b. cond b 1 0 + 2 * number (bits d (w / 2)) ≡ w)
    (λ k. let z = eqb-true (w % 2) 1 k in omega arith) (λ k. let z = eqb-false (w % 2) 1 k in omega (arith, z))

-- one bit more below
pub bits-more : (d n : ℕ) (b : Bool) → bits (suc d) (cond b 1 0 + 2 * n) ≡ b ∷ bits d n
bits-more d n true = joined d (1 + 2 * n) n true (omega arith) (eq-eqb ((1 + 2 * n) % 2) 1 (omega arith))
bits-more d n false = joined d (0 + 2 * n) n false (omega arith) (ne_eqb ((0 + 2 * n) % 2) 1 (λ x. omega arith))

-- and has them
pub bits-number : (bs : List Bool) (d : ℕ) → d ≡ length bs → bits d (number bs) ≡ bs
unfolding bits number
bits-number [] zero h = refl
bits-number [] (suc d) h = absurd (omega arith)
bits-number (b ∷ bs) zero h = absurd (omega arith)
bits-number (b ∷ bs) (suc d) h = bits-more d (number bs) b ∙ ap (λ (l : List Bool). b ∷ l) (bits-number bs d (omega arith))

-- a number of so many bits is below that power of two
pub number-below : (bs : List Bool) (d : ℕ) → length bs ≤ d → number bs < 2 ^ d
unfolding number
number-below [] d h = pow_pos d
number-below (b ∷ bs) zero h = absurd (omega arith)
number-below (true ∷ bs) (suc d) h = omega (arith, number-below bs d (omega arith), pow-suc 2 d)
number-below (false ∷ bs) (suc d) h = omega (arith, number-below bs d (omega arith), pow-suc 2 d)

-- ── Two words bit by bit ──

low_or : (x y : ℕ) → x < 2 → y < 2 → eqb (max x y) 1 ≡ (eqb x 1 || eqb y 1)
low_or x y h k = cases (eqb x 1) (λ b. eqb (max x y) 1 ≡ (b || eqb y 1))
    (λ i. let z = eqb-true x 1 i in eq-eqb (max x y) 1 (omega arith))
    (λ i. let z = eqb-false x 1 i in let w : max x y ≡ y = omega (arith, z) in ap (λ (n : ℕ). eqb n 1) w)

low_and : (x y : ℕ) → x < 2 → y < 2 → eqb (min x y) 1 ≡ (eqb x 1 && eqb y 1)
low_and x y h k = cases (eqb x 1) (λ b. eqb (min x y) 1 ≡ (b && eqb y 1))
    (λ i. let z = eqb-true x 1 i in let w : min x y ≡ y = omega arith in ap (λ (n : ℕ). eqb n 1) w)
    (λ i. let z = eqb-false x 1 i in ne_eqb (min x y) 1 (λ e. omega (arith, z)))

-- a bit of their or is set where either has it set
pub or-bits : (d a b : ℕ) → bits d (bit_or a b) ≡ either (bits d a) (bits d b)
unfolding bits
or-bits zero a b = refl
or-bits (suc d) a b =
    let s = or_step a b in
    let y : bit_or a b % 2 ≡ max (a % 2) (b % 2) = omega arith in
    joined d (bit_or a b) (bit_or (a / 2) (b / 2)) (eqb (a % 2) 1 || eqb (b % 2) 1) (omega arith)
    (ap (λ (n : ℕ). eqb n 1) y ∙ low_or (a % 2) (b % 2) (omega arith) (omega arith))
    ∙ ap (λ (l : List Bool). (eqb (a % 2) 1 || eqb (b % 2) 1) ∷ l) (or-bits d (a / 2) (b / 2))

pub or-bit : (d a b r : ℕ) → get_or (bits d (bit_or a b)) r false ≡ (get_or (bits d a) r false || get_or (bits d b) r false)
or-bit d a b r = ap (λ (l : List Bool). get_or l r false) (or-bits d a b) ∙ get_d-either (bits d a) (bits d b) r

-- a bit of their and
pub and-bit : (d a b r : ℕ) → get_or (bits d (bit_and a b)) r false ≡ (get_or (bits d a) r false && get_or (bits d b) r false)
unfolding bits
and-bit zero a b r = refl
and-bit (suc d) a b zero =
    let s = and_step a b in
    let y : bit_and a b % 2 ≡ min (a % 2) (b % 2) = omega arith in
    ap (λ (n : ℕ). eqb n 1) y ∙ low_and (a % 2) (b % 2) (omega arith) (omega arith)
and-bit (suc d) a b (suc r) =
    let s = and_step a b in
    let y : bit_and a b / 2 ≡ bit_and (a / 2) (b / 2) = omega arith in
    ap (λ (n : ℕ). get_or (bits d n) r false) y ∙ and-bit d (a / 2) (b / 2) r

-- ── One bit ──

-- the bit k of a word set
pub bits-set : (d a k : ℕ) → bits d (bit_or a (2 ^ k)) ≡ set (bits d a) k true
unfolding bits
bits-set zero a k = refl
bits-set (suc d) a zero =
    let s = or_step a (2 ^ zero) in
    let z = or_zero_r (a / 2) in
    joined d (bit_or a (2 ^ zero)) (a / 2) true (omega arith) (eq-eqb (bit_or a (2 ^ zero) % 2) 1 (omega arith))
bits-set (suc d) a (suc k) =
    let s = or_step a (2 ^ suc k) in
    let p = pow-suc 2 k in
    let h : 2 ^ suc k / 2 ≡ 2 ^ k = omega arith in
    let z : bit_or (a / 2) (2 ^ suc k / 2) ≡ bit_or (a / 2) (2 ^ k) = ap (bit_or (a / 2)) h in
    let y : bit_or a (2 ^ suc k) % 2 ≡ a % 2 = omega arith in
    joined d (bit_or a (2 ^ suc k)) (bit_or (a / 2) (2 ^ k)) (eqb (a % 2) 1) (omega arith) (ap (λ (x : ℕ). eqb x 1) y)
    ∙ ap (λ (l : List Bool). eqb (a % 2) 1 ∷ l) (bits-set d (a / 2) k)

-- all bits but one, without the lowest
mask-halved : (n k : ℕ) → k < n → (((2 ^ suc n - 1) - 2 ^ suc k) / 2 ≡ (2 ^ n - 1) - 2 ^ k) × (((2 ^ suc n - 1) - 2 ^ suc k) % 2 ≡ 1)
mask-halved n k h =
    let p = pow-suc 2 n in
    let q = pow-suc 2 k in
    let g = pow-lt {i = k} {j = n} h in
    (omega arith, omega arith)

remains : (n q r : ℕ) → n ≡ q * 2 + min r 1 → r < 2 → (n / 2 ≡ q) × (n % 2 ≡ r)
remains n q r e h = (omega arith, omega arith)

half-below : (a n : ℕ) → a < 2 ^ suc n → a / 2 < 2 ^ n
half-below a n h = let p = pow-suc 2 n in omega arith

-- the bit k of a word of n bits cleared
pub bits-clear : (d n a k : ℕ) → a < 2 ^ n → k < n → bits d (bit_and a ((2 ^ n - 1) - 2 ^ k)) ≡ set (bits d a) k false
unfolding bits
bits-clear zero n a k h l = refl
bits-clear (suc d) zero a k h l = absurd (omega arith)
bits-clear (suc d) (suc n) a zero h l =
    let m = (2 ^ suc n - 1) - 2 ^ zero in
    let s = and_step a m in
    let p = pow-suc 2 n in
    let q = pow_pos n in
    let j : m / 2 ≡ 2 ^ n - 1 = omega arith in
    let z : bit_and (a / 2) (m / 2) ≡ a / 2 = ap (bit_and (a / 2)) j ∙ and_mask (a / 2) n ∙ mod-eq_of_lt (omega arith) in
    joined d (bit_and a m) (a / 2) false (omega arith) (ne_eqb (bit_and a m % 2) 1 (λ x. omega arith))
bits-clear (suc d) (suc n) a (suc k) h l =
    let m = (2 ^ suc n - 1) - 2 ^ suc k in
    let M = (2 ^ n - 1) - 2 ^ k in
    let f = mask-halved n k (omega arith) in
    let g : bit_and a m ≡ bit_and (a / 2) M * 2 + min (a % 2) 1 = and_step a m ∙ ap₂ (λ (x y : ℕ). bit_and (a / 2) x * 2 + min (a % 2) y) f.0 f.1 in
    let y : bit_and a m % 2 ≡ a % 2 = (remains (bit_and a m) (bit_and (a / 2) M) (a % 2) g (omega arith)).1 in
    joined d (bit_and a m) (bit_and (a / 2) M) (eqb (a % 2) 1) (remains (bit_and a m) (bit_and (a / 2) M) (a % 2) g (omega arith)).0 (ap (λ (x : ℕ). eqb x 1) y)
    ∙ ap (λ (l : List Bool). eqb (a % 2) 1 ∷ l) (bits-clear d n (a / 2) k (half-below a n h) (omega arith))

-- ── Parts ──

-- the bits from o on
pub bits-from : (o d e w : ℕ) → e ≡ o + d → drop o (bits e w) ≡ bits d (w / 2 ^ o)
unfolding bits
bits-from zero d e w h = let z : e ≡ d = omega arith in ap (λ (x : ℕ). bits x w) z ∙ ap (bits d) (sym (div-one w))
bits-from (suc o) d zero w h = absurd (omega arith)
bits-from (suc o) d (suc e) w h =
    let z : 1 + o ≡ suc o = omega arith in
    bits-from o d e (w / 2) (omega arith) ∙ ap (bits d) (shr-shr w 1 o ∙ ap (λ (x : ℕ). w / 2 ^ x) z)

-- the bits below j
pub bits_below : (j d w : ℕ) → j ≤ d → take j (bits d w) ≡ bits j w
unfolding bits
bits_below zero d w h = refl
bits_below (suc j) zero w h = absurd (omega arith)
bits_below (suc j) (suc d) w h = ap (λ (l : List Bool). eqb (w % 2) 1 ∷ l) (bits_below j d (w / 2) (omega arith))

-- ── How many are set ──

one_more : (x t : ℕ) → x < 2 → cond (eqb x 1) (suc t) t ≡ x + t
one_more x t h = cases (eqb x 1) (λ b. cond b (suc t) t ≡ x + t) (λ k. let z = eqb-true x 1 k in omega arith) (λ k. let z = eqb-false x 1 k in omega (arith, z))

-- of the j lowest bits
pub trues-bits : (j w : ℕ) → trues (bits j w) ≡ ones (w % 2 ^ j)
unfolding bits trues ones
trues-bits zero w = ap ones (sym (mod-one w))
trues-bits (suc j) w =
    let n = w % 2 ^ suc j in
    let p : n ≡ w / 2 % 2 ^ j * 2 + w % 2 = ap (λ (x : ℕ). w % x) (pow-suc 2 j) ∙ mod-mul w (pow_pos j) (omega arith) in
    let h : n / 2 ≡ w / 2 % 2 ^ j = omega arith in
    one_more (w % 2) (trues (bits j (w / 2))) (omega arith)
    ∙ ap₂ (λ (x y : ℕ). x + y) (omega arith) (trues-bits j (w / 2) ∙ ap ones (sym h)) ∙ sym (ones_step n)

-- of a number of j bits
pub trues-all : (j w : ℕ) → w < 2 ^ j → trues (bits j w) ≡ ones w
trues-all j w h = trues-bits j w ∙ ap ones (mod-eq_of_lt h)

-- the j lowest bits of a word, moved to its top, are counted as they were
pub ones_low : (i j w : ℕ) → ones ((w * 2 ^ i) % 2 ^ (j + i)) ≡ ones (w % 2 ^ j)
ones_low i j w =
    ap (λ (x : ℕ). ones ((w * 2 ^ i) % x)) (pow-add 2 j i)
    ∙ ap ones (mod-mul (w * 2 ^ i) (pow_pos j) (pow_pos i))
    ∙ ap₂ (λ (x y : ℕ). ones (x % 2 ^ j * 2 ^ i + y)) (shl-shr w i) (mul-mod_left w (2 ^ i))
    ∙ ones_cat i (w % 2 ^ j) 0 (pow_pos i) ∙ none
  where
    none : ones (w % 2 ^ j) + ones 0 ≡ ones (w % 2 ^ j)
    none = omega (arith, ones-le 0 0 (omega arith))
