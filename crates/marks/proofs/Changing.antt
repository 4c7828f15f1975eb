-- What `put` does to the words: the word of the line has its bit set by an or, and cleared by an and. Assumes nothing.
use Prim.Native.Nat.{ℕ, ◌+◌, ◌-◌, ◌*◌, ◌/◌, ◌%◌, ◌^◌, ◌≤◌, ◌<◌}
use mathlib.Core.Path.{◌≡◌, refl, sym, ap, ◌∙◌}
use mathlib.Core.Bool.{Bool, true, false, cond, ◌&&◌}
use mathlib.Core.List.{List}
use native.Mathlib.Nat.{mod-eq_of_lt, mod-lt, one-mul}
use native.Mathlib.Omega.{arith}
use lib.ListN.{length, get_or, set}
use lib.Dec.{ltb}
use lib.Pow.{pow-lt, pow_pos}
use lib.Bits.{bit_and, bit_or, or_lt, and_le_l}
use borrow.Author.Tests.{lt-ltb, le-ltb}
use Rattle.basics.proofs.Basics.{cases, true-and}
use Rattle.marks.specs.Row.{bits, number, lies, with_line, changed}
use Rattle.marks.proofs.Bits.{number-bits, bits-set, bits-clear}

module _ (b : Bool) (words : List ℕ) (at width p : ℕ) where
  pub unchanged-outside : lies (length words) at width ≡ false → words ≡ changed b words at width p
  unfolding changed
  unchanged-outside h = sym (ap (λ c. cond (c && ltb p (64 * width)) (with_line b words at p) words) h)

  pub unchanged-past : width ≤ p / 64 → words ≡ changed b words at width p
  unfolding changed
  unchanged-past h = cases (lies (length words) at width)
      (λ c. words ≡ cond (c && ltb p (64 * width)) (with_line b words at p) words)
      (λ k. sym (ap (λ c. cond c (with_line b words at p) words) (le-ltb p (64 * width) (omega arith)))) (λ k. refl)

  changed-bit : (v : ℕ) → lies (length words) at width ≡ true → p / 64 < width → v < 2 ^ 64 → bits 64 v ≡ set (bits 64 (get_or words (at + p / 64) 0)) (p % 64) b
      → set words (at + p / 64) v ≡ changed b words at width p
  unfolding changed
  changed-bit v h l f e =
      ap (set words (at + p / 64)) (sym (number-bits 64 v f) ∙ ap number e)
      ∙ sym (ap (λ c. cond c (with_line b words at p) words)
      (true-and (lies (length words) at width) (ltb p (64 * width)) h (lt-ltb p (64 * width) (omega arith))))

-- the word with one bit alone
pub alone : (k : ℕ) → k < 64 → (1 * 2 ^ k) % 2 ^ 64 ≡ 2 ^ k
alone k h = ap (λ (x : ℕ). x % 2 ^ 64) (one-mul (2 ^ k)) ∙ mod-eq_of_lt (pow-lt h)

module _ (words : List ℕ) (at width p : ℕ) (h : lies (length words) at width ≡ true) (l : p < 64 * width) (f : get_or words (at + p / 64) 0 < 2 ^ 64) where
  -- a line is marked by the or with its bit alone
  pub set_line : set words (at + p / 64) (bit_or (get_or words (at + p / 64) 0) ((1 * 2 ^ (p % 64)) % 2 ^ 64)) ≡ changed true words at width p
  set_line =
      let w = get_or words (at + p / 64) 0 in
      let bit = (1 * 2 ^ (p % 64)) % 2 ^ 64 in
      changed-bit true words at width p (bit_or w bit) h (omega arith) (or_lt 64 w bit f (mod-lt (1 * 2 ^ (p % 64)) (pow_pos 64)))
      (ap (λ (x : ℕ). bits 64 (bit_or w x)) (alone (p % 64) (omega arith)) ∙ bits-set 64 w (p % 64))

  -- its mark is taken away by the and with all bits but that one
  pub unset-line : set words (at + p / 64) (bit_and (get_or words (at + p / 64) 0) ((2 ^ 64 - 1) - (1 * 2 ^ (p % 64)) % 2 ^ 64)) ≡ changed false words at width p
  unset-line =
      let w = get_or words (at + p / 64) 0 in
      let others = (2 ^ 64 - 1) - (1 * 2 ^ (p % 64)) % 2 ^ 64 in
      changed-bit false words at width p (bit_and w others) h (omega arith) (omega (arith, and_le_l w others))
      (ap (λ (x : ℕ). bits 64 (bit_and w ((2 ^ 64 - 1) - x))) (alone (p % 64) (omega arith)) ∙ bits-clear 64 64 w (p % 64) f (omega arith))
