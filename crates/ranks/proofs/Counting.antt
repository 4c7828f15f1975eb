-- What is counted through a line and between two, by the cases of the tests. Assumes nothing.
use Prim.Native.Nat.{ℕ, zero, suc, ◌+◌, ◌-◌, ◌*◌, ◌/◌, ◌%◌, ◌^◌, ◌≤◌, ◌<◌}
use mathlib.Core.Path.{◌≡◌, sym, ap, ◌∙◌}
use mathlib.Core.Bool.{Bool, true, false, cond}
use mathlib.Core.List.{List}
use native.Mathlib.Omega.{arith}
use lib.ListN.{length, get_or, take, drop}
use lib.Dec.{ltb}
use borrow.Author.Tests.{lt-ltb, le-ltb}
use Rattle.marks.specs.Row.{bits, row, trues, mark_count}
use Rattle.marks.proofs.Rows.{true-lies, row_words, words-of-row, word-of-row}
use Rattle.row_search.proofs.Counting.{count-word}
use Rattle.marks.proofs.Counts.{count_most}
use Rattle.ranks.specs.Rank.{half, through, marks_by}

-- what is counted is no more than the lines
pub count-few : {r : ℕ} (bs : List Bool) (s e : ℕ) → r ≡ mark_count bs s e → r ≤ suc e - s
count-few bs s e h = omega (arith, count_most bs s e)

module _ (words : List ℕ) (p h : ℕ) (e : h ≡ half (length words)) where
  -- by the test of the row's having line p
  by-test : (b : Bool) → ltb (p / 64) h ≡ b → through words p ≡ cond b (get_or words (h + p / 64) 0 % 65536 + mark_count (row words 0 h) (p - p % 64) p) 0
  unfolding through
  by-test b l =
      ap (λ (x : ℕ). cond (ltb (p / 64) x) (get_or words (x + p / 64) 0 % 65536 + mark_count (row words 0 x) (p - p % 64) p) 0) (sym e)
      ∙ ap (λ (t : Bool). cond t (get_or words (h + p / 64) 0 % 65536 + mark_count (row words 0 h) (p - p % 64) p) 0) l

  pub through-in : p / 64 < h → through words p ≡ get_or words (h + p / 64) 0 % 65536 + mark_count (row words 0 h) (p - p % 64) p
  through-in l = by-test true (lt-ltb (p / 64) h l)

  -- where the row lies, by the word of line p
  pub through-word : (h ≤ 1024) × (h + h ≤ length words) → p / 64 < h
      → through words p ≡ get_or words (h + p / 64) 0 % 65536 + trues (bits 64 ((get_or words (p / 64) 0 * 2 ^ (63 - p % 64)) % 2 ^ 64))
  through-word m l =
      let k = p / 64 in
      let ws = take h (drop 0 words) in
      let z : 0 + k ≡ k = omega arith in
      let n = words-of-row words 0 h (omega (arith, m.1)) in
      through-in l ∙ ap (λ (x : ℕ). get_or words (h + k) 0 % 65536 + x)
      (ap (λ (bs : List Bool). mark_count bs (p - p % 64) p) (row_words words 0 h (true-lies (length words) 0 h (omega (arith, m.1)) (omega (arith, m.0))))
      ∙ count-word ws p (omega (arith, n))
      ∙ ap (λ (x : ℕ). trues (bits 64 ((x * 2 ^ (63 - p % 64)) % 2 ^ 64))) (word-of-row words 0 h k l ∙ ap (λ (x : ℕ). get_or words x 0) z))

  pub through-past : h ≤ p / 64 → through words p ≡ 0
  through-past l = by-test false (le-ltb (p / 64) h l)

module _ (words : List ℕ) where
  -- from the first line on
  pub marks-first : (s e : ℕ) → s ≡ 0 → marks_by words s e ≡ through words e
  unfolding marks_by
  marks-first s e h = ap (λ (x : ℕ). marks_by words x e) h

  -- from a later line on
  pub marks-later : (s e : ℕ) → 0 < s → marks_by words s e ≡ through words e - through words (s - 1)
  unfolding marks_by
  marks-later zero e h = absurd (omega arith)
  marks-later (suc p) e h = let z : p ≡ suc p - 1 = omega arith in ap (λ (x : ℕ). through words e - through words x) z

  -- no more than up to the last line
  pub marks-most : (s e : ℕ) → marks_by words s e ≤ through words e
  unfolding marks_by
  marks-most zero e = omega arith
  marks-most (suc p) e = omega arith
