-- The words with one line of a row changed: that line has the new value, and every other line of the row, every row that shares no word with it, and every
-- word outside it is as it was. By the cases of the test. Assumes nothing.
use Prim.Native.Nat.{ℕ, ◌+◌, ◌*◌, ◌/◌, ◌%◌, ◌≤◌, ◌<◌}
use mathlib.Core.Path.{◌≡◌, refl, sym, ap, ◌∙◌}
use mathlib.Core.Logic.{◌⊎◌, ⊎_elim}
use mathlib.Core.Bool.{Bool, true, false, cond, ◌&&◌}
use mathlib.Core.List.{List}
use native.Mathlib.Nat.{suc-mul, mul-le-mul_right}
use native.Mathlib.Omega.{arith}
use lib.ListN.{length, get_or, take, drop, set, length-set}
use lib.Seq.{set_out, take-set-lt, drop-set-add, get_or-set_other}
use lib.Dec.{ltb}
use borrow.Author.Tests.{ltb-true, ltb-false}
use Rattle.basics.proofs.Basics.{cases, and-true}
use Rattle.marks.specs.Row.{bits, flags, lies, row, with_bit, with_line, changed}
use Rattle.marks.proofs.Bits.{length-bits, bits-number}
use Rattle.marks.proofs.Flags.{set-flags}
use Rattle.marks.proofs.Rows.{lies-true, row_words, row-none, row-length, words-of-row, word-of-row, other_row}

module _ (b : Bool) (words : List ℕ) (at width p : ℕ) where
  -- as many words as before
  pub changed-length : length (changed b words at width p) ≡ length words
  unfolding changed
  changed-length = go (lies (length words) at width && ltb p (64 * width))
    where
      go : (c : Bool) → length (cond c (with_line b words at p) words) ≡ length words
      go true = length-set words (at + p / 64) (with_bit b (get_or words (at + p / 64) 0) (p % 64))
      go false = refl

  -- the words outside the row stay
  pub changed-outside : (i : ℕ) → (i < at) ⊎ (at + width ≤ i) → get_or (changed b words at width p) i 0 ≡ get_or words i 0
  unfolding changed
  changed-outside i h = cases (lies (length words) at width && ltb p (64 * width)) (λ c. get_or (cond c (with_line b words at p) words) i 0 ≡ get_or words i 0)
      (λ k. let q = ltb-true p (64 * width) (and-true (lies (length words) at width) (ltb p (64 * width)) k).1 in
      get_or-set_other words (at + p / 64) i (with_bit b (get_or words (at + p / 64) 0) (p % 64)) 0
      (λ e. ⊎_elim (λ (l : i < at). omega arith) (λ (l : at + width ≤ i). omega arith) h))
      (λ k. refl)

  -- the row has b at line p, and is as it was at every other line
  pub changed_row : row (changed b words at width p) at width ≡ set (row words at width) p b
  unfolding changed
  changed_row = cases (lies (length words) at width)
      (λ c. row (cond (c && ltb p (64 * width)) (with_line b words at p) words) at width ≡ set (row words at width) p b)
      (λ h. cases (ltb p (64 * width)) (λ c. row (cond c (with_line b words at p) words) at width ≡ set (row words at width) p b)
      (λ l. here h (ltb-true p (64 * width) l))
      (λ l. sym (set_out (row words at width) p b (omega (arith, ltb-false p (64 * width) l, row-length words at width h)))))
      (λ h. row-none words at width h ∙ sym (ap (λ (l : List Bool). set l p b) (row-none words at width h)))
    where
      here : lies (length words) at width ≡ true → p < 64 * width → row (with_line b words at p) at width ≡ set (row words at width) p b
      here h l =
          let w = get_or words (at + p / 64) 0 in
          let v = with_bit b w (p % 64) in
          let ws = take width (drop at words) in
          let z : 64 * (p / 64) + p % 64 ≡ p = omega arith in
          row_words (with_line b words at p) at width (ap (λ (x : ℕ). lies x at width) (length-set words (at + p / 64) v) ∙ h)
          ∙ ap flags (ap (take width) (drop-set-add at words (p / 64) v) ∙ take-set-lt width (drop at words) (p / 64) v (omega arith))
          ∙ set-flags ws (p / 64) (p % 64) v b (omega (arith, words-of-row words at width (lies-true (length words) at width h).0)) (omega arith)
          (bits-number (set (bits 64 w) (p % 64) b) 64 (omega (arith, length-set (bits 64 w) (p % 64) b, length-bits 64 w))
          ∙ ap (λ (x : ℕ). set (bits 64 x) (p % 64) b) (sym (word-of-row words at width (p / 64) (omega arith))))
          ∙ ap (λ (x : ℕ). set (flags ws) x b) z ∙ ap (λ (l : List Bool). set l p b) (sym (row_words words at width h))

  -- a row that shares no word with it is as it was
  pub changed-other : (at' width' : ℕ) → (at' + width' ≤ at) ⊎ (at + width ≤ at') → row (changed b words at width p) at' width' ≡ row words at' width'
  changed-other at' width' h = other_row words (changed b words at width p) at width changed-length changed-outside at' width' h

-- ── Rows that follow each other, row r from word r × w on ──

-- a row among n lies inside their words
pub row-among : (len n r w : ℕ) → n * w ≤ len → r < n → r * w + w ≤ len
row-among len n r w h l = omega (arith, suc-mul r w, mul-le-mul_right w l)
