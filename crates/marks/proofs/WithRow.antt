-- The words with one row made of given lines: the row has them, and every other row, every word outside it and the number of words are as they were; and
-- such words with the row one word longer. By the three parts that they are made of. Assumes nothing.
use Prim.Native.Nat.{ℕ, suc, ◌+◌, ◌-◌, ◌*◌, ◌^◌, ◌≤◌, ◌<◌}
use mathlib.Core.Path.{◌≡◌, sym, ap, ap₂, ◌∙◌}
use mathlib.Core.Logic.{◌⊎◌, inl, inr}
use mathlib.Core.Bool.{Bool, true, false}
use mathlib.Core.List.{List, ◌∷◌, ◌++◌, append_assoc}
use native.Mathlib.Omega.{arith}
use lib.ListN.{length, get_or, take, drop, set, replicate, length-append, length-drop, length-replicate, get_or-append, take-append-drop}
use lib.Seq.{length-take-le, take_at, drop_at, get_or-take, get_or-drop, get_or-append-add, drop-cons, set_at, append_snoc}
use Rattle.marks.specs.Row.{bits, flags, lies, row, packed, with_row}
use Rattle.marks.proofs.Packed.{length-packed, flags-packed-all, packed-clear, packed_more}
use Rattle.marks.proofs.Rows.{lies-true, row_words, other_row}

module _ (words : List ℕ) (at width : ℕ) (bs : List Bool) (h : at + width ≤ length words) where
  front : length (take at words ++ packed width bs) ≡ at + width
  front = omega (arith, length-append (take at words) (packed width bs), length-take-le at words (omega arith), length-packed width bs)

  -- as many words as before
  pub with-length : length (with_row words at width bs) ≡ length words
  unfolding with_row
  with-length =
      omega (
        arith,
        length-append (take at words) (packed width bs ++ drop (at + width) words),
        length-append (packed width bs) (drop (at + width) words),
        length-take-le at words (omega arith),
        length-packed width bs,
        length-drop (at + width) words,
      )

  -- the words outside the row stay
  pub with-outside : (i : ℕ) → (i < at) ⊎ (at + width ≤ i) → get_or (with_row words at width bs) i 0 ≡ get_or words i 0
  unfolding with_row
  with-outside i (inl l) =
      get_or-append (take at words) (packed width bs ++ drop (at + width) words) 0 i (omega (arith, length-take-le at words (omega arith)))
      ∙ get_or-take at words i 0 l
  with-outside i (inr l) =
      let ys = drop (at + width) words in
      let j = i - (at + width) in
      let z : i ≡ length (take at words ++ packed width bs) + j = omega (arith, front) in
      let y : (at + width) + j ≡ i = omega arith in
      ap₂ (λ (x : List ℕ) (n : ℕ). get_or x n 0) (sym (append_assoc (take at words) (packed width bs) ys)) z
      ∙ get_or-append-add (take at words ++ packed width bs) ys j 0 ∙ get_or-drop (at + width) words j 0 ∙ ap (λ (n : ℕ). get_or words n 0) y

  -- a row that shares no word with it is as it was
  pub with-other : (at' width' : ℕ) → (at' + width' ≤ at) ⊎ (at + width ≤ at') → row (with_row words at width bs) at' width' ≡ row words at' width'
  with-other at' width' l = other_row words (with_row words at width bs) at width with-length with-outside at' width' l

  -- the words before the row stay
  pub with-before : take at (with_row words at width bs) ≡ take at words
  unfolding with_row
  with-before = take_at (take at words) (packed width bs ++ drop (at + width) words) at (length-take-le at words (omega arith))

  -- made once more, it is what it is made last
  pub with-again : (cs : List Bool) → with_row (with_row words at width bs) at width cs ≡ with_row words at width cs
  unfolding with_row
  with-again cs =
      let ys = drop (at + width) words in
      ap₂ (λ (l m : List ℕ). l ++ (packed width cs ++ m)) with-before
      (ap (drop (at + width)) (sym (append_assoc (take at words) (packed width bs) ys)) ∙ drop_at (take at words ++ packed width bs) ys (at + width) front)

-- the row has the lines
pub with-row : (words : List ℕ) (at width : ℕ) (bs : List Bool) → lies (length words) at width ≡ true → length bs ≡ 64 * width
    → row (with_row words at width bs) at width ≡ bs
unfolding with_row
with-row words at width bs h n =
    let i = (lies-true (length words) at width h).0 in
    row_words (with_row words at width bs) at width (ap (λ (x : ℕ). lies x at width) (with-length words at width bs i) ∙ h)
    ∙ ap flags (ap (take width) (drop_at (take at words) (packed width bs ++ drop (at + width) words) at (length-take-le at words (omega arith)))
    ∙ take_at (packed width bs) (drop (at + width) words) width (length-packed width bs)) ∙ flags-packed-all width bs n

-- clear lines at the end
pub with-clear : (words : List ℕ) (at width : ℕ) (bs : List Bool) → length bs ≤ 64 * width
    → with_row words at width (bs ++ replicate (64 * width - length bs) false) ≡ with_row words at width bs
unfolding with_row
with-clear words at width bs h = ap (λ (l : List ℕ). take at words ++ (l ++ drop (at + width) words)) (packed-clear width bs h)

-- the row has fewer lines, and then clear ones
pub with-short : (words : List ℕ) (at width : ℕ) (bs : List Bool) → lies (length words) at width ≡ true → length bs ≤ 64 * width
    → row (with_row words at width bs) at width ≡ bs ++ replicate (64 * width - length bs) false
with-short words at width bs h n =
    let m : ℕ = 64 * width - length bs in
    ap (λ (l : List ℕ). row l at width) (sym (with-clear words at width bs n))
    ∙ with-row words at width (bs ++ replicate m false) h (omega (arith, length-append bs (replicate m false), length-replicate {A = Bool} m false))

-- a row of no word
pub with_none : (words : List ℕ) (at : ℕ) (bs : List Bool) → with_row words at 0 bs ≡ words
unfolding with_row packed
with_none words at bs = let z : at + 0 ≡ at = omega arith in ap (λ (x : ℕ). take at words ++ drop x words) z ∙ take-append-drop at words

-- one more word of the row written
pub with-more : (words : List ℕ) (at k : ℕ) (bs : List Bool) (v : ℕ) → at + k < length words → length bs ≡ 64 * k → v < 2 ^ 64
    → set (with_row words at k bs) (at + k) v ≡ with_row words at (suc k) (bs ++ bits 64 v)
unfolding with_row
with-more words at k bs v h n f =
    let ys = drop (suc (at + k)) words in
    let z : suc (at + k) ≡ at + suc k = omega arith in
    ap (λ (l : List ℕ). set l (at + k) v) (sym (append_assoc (take at words) (packed k bs) (drop (at + k) words))
    ∙ ap (λ (l : List ℕ). (take at words ++ packed k bs) ++ l) (drop-cons words (at + k) 0 h))
    ∙ set_at (take at words ++ packed k bs) (get_or words (at + k) 0) ys v (at + k) (front words at k bs (omega arith))
    ∙ append_assoc (take at words) (packed k bs) (v ∷ ys)
    ∙ ap (λ (l : List ℕ). take at words ++ l) (sym (append_snoc (packed k bs) v ys))
    ∙ ap₂ (λ (l : List ℕ) (x : ℕ). take at words ++ (l ++ drop x words)) (sym (packed_more k bs v n f)) z
