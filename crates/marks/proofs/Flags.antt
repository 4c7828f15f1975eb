-- The bits of words: one word's change, and the bits from a word or from one of its bits on. By the first word and the rest. Assumes nothing.
use Prim.Native.Nat.{ℕ, zero, suc, ◌+◌, ◌*◌, ◌/◌, ◌^◌, ◌≤◌, ◌<◌}
use mathlib.Core.Path.{◌≡◌, refl, sym, ap, ◌∙◌}
use mathlib.Core.Bool.{Bool}
use mathlib.Core.List.{List, [], ◌∷◌, ◌++◌, append_assoc}
use native.Mathlib.Omega.{arith}
use lib.ListN.{length, get_or, drop, set, length-append, drop_of_length-le}
use lib.Seq.{drop-cons, drop-append-add, drop-append-le, set-append_left}
use Rattle.marks.specs.Row.{bits, flags}
use Rattle.marks.proofs.Bits.{length-bits, bits-from}

pub length-flags : (ws : List ℕ) → length (flags ws) ≡ 64 * length ws
unfolding flags
length-flags [] = refl
length-flags (w ∷ ws) = omega (arith, length-append (bits 64 w) (flags ws), length-bits 64 w, length-flags ws)

-- of some words and others
pub flags-append : (us vs : List ℕ) → flags (us ++ vs) ≡ flags us ++ flags vs
unfolding flags
flags-append [] vs = refl
flags-append (w ∷ us) vs = ap (λ (l : List Bool). bits 64 w ++ l) (flags-append us vs) ∙ sym (append_assoc (bits 64 w) (flags us) (flags vs))

set_append_right : (xs ys : List Bool) (i : ℕ) (a : Bool) → set (xs ++ ys) (length xs + i) a ≡ xs ++ set ys i a
set_append_right [] ys i a = let z : 0 + i ≡ i = omega arith in ap (λ (x : ℕ). set ys x a) z
set_append_right (x ∷ xs) ys i a =
    let z : length (x ∷ xs) + i ≡ suc (length xs + i) = omega arith in
    ap (λ (j : ℕ). set (x ∷ (xs ++ ys)) j a) z ∙ ap (λ (l : List Bool). x ∷ l) (set_append_right xs ys i a)

-- a word changed in one bit
pub set-flags : (ws : List ℕ) (k o v : ℕ) (b : Bool) → k < length ws → o < 64 → bits 64 v ≡ set (bits 64 (get_or ws k 0)) o b
    → flags (set ws k v) ≡ set (flags ws) (64 * k + o) b
unfolding flags
set-flags [] k o v b h l e = absurd (omega arith)
set-flags (w ∷ ws) zero o v b h l e =
    let z : 64 * 0 + o ≡ o = omega arith in
    ap (λ (m : List Bool). m ++ flags ws) e ∙ sym (set-append_left (bits 64 w) (flags ws) o b (omega (arith, length-bits 64 w)))
    ∙ ap (λ (x : ℕ). set (bits 64 w ++ flags ws) x b) (sym z)
set-flags (w ∷ ws) (suc k) o v b h l e =
    let z : length (bits 64 w) + (64 * k + o) ≡ 64 * suc k + o = omega (arith, length-bits 64 w) in
    ap (λ (m : List Bool). bits 64 w ++ m) (set-flags ws k o v b (omega arith) l e) ∙ sym (set_append_right (bits 64 w) (flags ws) (64 * k + o) b)
    ∙ ap (λ (x : ℕ). set (bits 64 w ++ flags ws) x b) z

-- the bits from one of a word's bits on
pub open-flags : (ws : List ℕ) (k o d : ℕ) → k < length ws → o + d ≡ 64
    → drop (64 * k + o) (flags ws) ≡ bits d (get_or ws k 0 / 2 ^ o) ++ flags (drop (suc k) ws)
unfolding flags
open-flags [] k o d h e = absurd (omega arith)
open-flags (w ∷ ws) zero o d h e =
    let z : 64 * 0 + o ≡ o = omega arith in
    ap (λ (x : ℕ). drop x (bits 64 w ++ flags ws)) z ∙ drop-append-le o (bits 64 w) (flags ws) (omega (arith, length-bits 64 w))
    ∙ ap (λ (l : List Bool). l ++ flags ws) (bits-from o d 64 w (sym e))
open-flags (w ∷ ws) (suc k) o d h e =
    let z : 64 * suc k + o ≡ length (bits 64 w) + (64 * k + o) = omega (arith, length-bits 64 w) in
    ap (λ (x : ℕ). drop x (bits 64 w ++ flags ws)) z ∙ drop-append-add (bits 64 w) (flags ws) (64 * k + o) ∙ open-flags ws k o d (omega arith) e

-- the bits from a whole word on
pub next-flags : (ws : List ℕ) (k : ℕ) → k < length ws → flags (drop k ws) ≡ bits 64 (get_or ws k 0) ++ flags (drop (suc k) ws)
unfolding flags
next-flags ws k h = ap flags (drop-cons ws k 0 h)

-- and past the last word
pub past-flags : (ws : List ℕ) (k : ℕ) → length ws ≤ k → flags (drop k ws) ≡ []
unfolding flags
past-flags ws k h = ap flags (drop_of_length-le ws h)
