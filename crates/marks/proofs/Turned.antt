-- Lines turned, the marked ones unmarked and the others marked: what becomes of their words, the first and the rest. Assumes nothing.
use Prim.Native.Nat.{ℕ, suc, ◌+◌, ◌-◌, ◌*◌, ◌%◌, ◌^◌, ◌≤◌, ◌<◌}
use mathlib.Core.Path.{◌≡◌, refl, ap, ◌∙◌}
use mathlib.Core.Bool.{Bool, true, false, not}
use mathlib.Core.List.{List, [], ◌∷◌, map}
use native.Mathlib.Nat.{pow-suc, suc-mul}
use native.Mathlib.Omega.{arith}
use lib.ListN.{length, take, drop, length-take}
use lib.Arith.{digits_mod}
use lib.Pow.{pow-add, pow_pos}
use lib.Bits.{bit_and, and_mask}
use Rattle.basics.proofs.Basics.{take-map}
use Rattle.marks.specs.Row.{number, packed}

-- a row by its first word
pub packed-empty : (bs : List Bool) → packed 0 bs ≡ []
unfolding packed
packed-empty bs = refl

pub packed-first : (w : ℕ) (bs : List Bool) → packed (suc w) bs ≡ number (take 64 bs) ∷ packed w (drop 64 bs)
unfolding packed
packed-first w bs = refl

-- a number and that of the opposite bits have every bit between them
number-not : (bs : List Bool) → suc (number (map not bs) + number bs) ≡ 2 ^ length bs
unfolding number
number-not [] = refl
number-not (true ∷ bs) = omega (arith, number-not bs, pow-suc 2 (length bs))
number-not (false ∷ bs) = omega (arith, number-not bs, pow-suc 2 (length bs))

-- a word full of lines
pub word-not : (bs : List Bool) → 64 ≤ length bs → (2 ^ 64 - 1) - number (take 64 bs) ≡ number (take 64 (map not bs))
word-not bs h =
    let l : length (take 64 bs) ≡ 64 = omega (arith, length-take 64 bs) in
    omega (arith, number-not (take 64 bs), ap (λ (k : ℕ). 2 ^ k) l, ap number (take-map not 64 bs))

-- the word with the last n lines, clear past them
pub last-not : (bs : List Bool) (n : ℕ) → n ≡ length bs → n < 64 → bit_and ((2 ^ 64 - 1) - number (take 64 bs)) (2 ^ n - 1) ≡ number (take 64 (map not bs))
last-not bs n e h =
    let x = number (take 64 bs) in
    let y = number (take 64 (map not bs)) in
    let m : ℕ = 2 ^ (64 - n) - 1 in
    let l : length (take 64 bs) ≡ n = omega (arith, length-take 64 bs) in
    let s : suc (y + x) ≡ 2 ^ n = omega (arith, number-not (take 64 bs), ap (λ (k : ℕ). 2 ^ k) l, ap number (take-map not 64 bs)) in
    let d : 64 ≡ (64 - n) + n = omega arith in
    let g : 2 ^ (64 - n) ≡ suc m = omega (arith, pow_pos (64 - n)) in
    let a : 2 ^ 64 ≡ suc m * 2 ^ n = ap (λ (k : ℕ). 2 ^ k) d ∙ pow-add 2 (64 - n) n ∙ ap (λ (k : ℕ). k * 2 ^ n) g in
    let z : (2 ^ 64 - 1) - x ≡ m * 2 ^ n + y = omega (arith, a, suc-mul m (2 ^ n)) in
    and_mask ((2 ^ 64 - 1) - x) n ∙ ap (λ (k : ℕ). k % 2 ^ n) z ∙ digits_mod m (omega arith)
