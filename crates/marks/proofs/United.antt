-- Rows that share no word, and the words with one united with another: it has the lines of both, and every other row and the number of words are as they
-- were. By the cases of the test. Assumes nothing.
use Prim.Native.Nat.{ℕ, suc, ◌+◌, ◌≤◌}
use mathlib.Core.Path.{◌≡◌, refl, sym, ap}
use mathlib.Core.Logic.{◌⊎◌, inl, inr, ⊎_elim}
use mathlib.Core.Bool.{Bool, true, false, cond, ◌&&◌}
use mathlib.Core.List.{List, [], ◌∷◌}
use native.Mathlib.Omega.{arith}
use lib.ListN.{length}
use lib.Dec.{leb}
use borrow.Author.Tests.{leb-true, le-leb}
use Rattle.basics.proofs.Basics.{cases, and-true, true-and, or-true, or_left, or_right}
use Rattle.stretches.specs.Stretch.{either}
use Rattle.marks.specs.Row.{lies, row, with_row, apart, united}
use Rattle.marks.proofs.Rows.{lies-true}
use Rattle.marks.proofs.WithRow.{with-length}

-- ── Rows that share no word ──

pub apart-true : (to at width : ℕ) → apart to at width ≡ true → (to + width ≤ at) ⊎ (at + width ≤ to)
apart-true to at width h =
    ⊎_elim (λ (l : leb (to + width) at ≡ true). inl (leb-true (to + width) at l)) (λ (l : leb (at + width) to ≡ true). inr (leb-true (at + width) to l))
    (or-true (leb (to + width) at) (leb (at + width) to) h)

pub true-apart : (to at width : ℕ) → (to + width ≤ at) ⊎ (at + width ≤ to) → apart to at width ≡ true
true-apart to at width (inl l) = or_left (leb (to + width) at) (leb (at + width) to) (le-leb (to + width) at l)
true-apart to at width (inr l) = or_right (leb (to + width) at) (leb (at + width) to) (le-leb (at + width) to l)

-- ── The words that `unite` leaves ──

pub length-either : (xs ys : List Bool) → length xs ≡ length ys → length (either xs ys) ≡ length xs
length-either [] [] h = refl
length-either [] (y ∷ ys) h = absurd (omega arith)
length-either (x ∷ xs) [] h = refl
length-either (x ∷ xs) (y ∷ ys) h = ap suc (length-either xs ys (omega arith))

module _ (words : List ℕ) (to at width : ℕ) where
  abbrev test : Bool
  test = (lies (length words) to width && lies (length words) at width) && apart to at width

  abbrev lines : List Bool
  lines = either (row words to width) (row words at width)

  -- the rows lie inside the words, and apart
  pub united-is : lies (length words) to width ≡ true → lies (length words) at width ≡ true → apart to at width ≡ true
      → united words to at width ≡ with_row words to width (either (row words to width) (row words at width))
  unfolding united
  united-is f g s =
      let a = lies (length words) to width in
      let b = lies (length words) at width in
      ap (λ c. cond c (with_row words to width lines) words) (true-and (a && b) (apart to at width) (true-and a b f g) s)

  -- else nothing is done
  pub united-not : (lies (length words) to width && lies (length words) at width) && apart to at width ≡ false → words ≡ united words to at width
  unfolding united
  united-not h = sym (ap (λ c. cond c (with_row words to width lines) words) h)

  fits : test ≡ true → to + width ≤ length words
  fits k =
      let a = lies (length words) to width in
      let b = lies (length words) at width in
      (lies-true (length words) to width (and-true a b (and-true (a && b) (apart to at width) k).0).0).0

  -- as many words as before
  pub united-length : length (united words to at width) ≡ length words
  unfolding united
  united-length = cases test (λ c. length (cond c (with_row words to width lines) words) ≡ length words)
      (λ k. with-length words to width lines (fits k)) (λ k. refl)
