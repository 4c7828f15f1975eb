-- The turns of `unite`: after k of them the rows of k words are united. Assumes nothing.
use Prim.Native.Nat.{ℕ, suc, ◌+◌, ◌^◌, ◌≤◌, ◌<◌}
use mathlib.Core.Path.{◌≡◌, refl, sym, ap, ap₂, ◌∙◌}
use mathlib.Core.Logic.{◌⊎◌, inl, inr, ⊎_elim}
use mathlib.Core.Bool.{Bool, true, false, cond, ◌&&◌, ◌||◌}
use mathlib.Core.List.{List, [], ◌∷◌, ◌++◌}
use native.Mathlib.Omega.{arith}
use lib.ListN.{length, get_or, set, length-set}
use lib.Bits.{bit_or, or_lt}
use Rattle.basics.proofs.Basics.{and-true}
use Rattle.stretches.specs.Stretch.{either}
use Rattle.marks.specs.Row.{bits, lies, row, with_row, apart, united}
use Rattle.marks.proofs.Bits.{or-bits}
use Rattle.marks.proofs.Rows.{Within, let-in, true-lies, row-length, row_more}
use Rattle.marks.proofs.United.{apart-true, true-apart, length-either, united-is}
use Rattle.marks.proofs.WithRow.{with-outside, with_none, with-more}

either-append : (xs ys us vs : List Bool) → length xs ≡ length ys → either (xs ++ us) (ys ++ vs) ≡ either xs ys ++ either us vs
either-append [] [] us vs h = refl
either-append [] (y ∷ ys) us vs h = absurd (omega arith)
either-append (x ∷ xs) [] us vs h = absurd (omega arith)
either-append (x ∷ xs) (y ∷ ys) us vs h = ap (λ (l : List Bool). (x || y) ∷ l) (either-append xs ys us vs (omega arith))

-- the first k words of the rows are united
pub record Uniting (words₀ words : List ℕ) (to at width k : ℕ) : Type 0 where
  pub upto : k ≤ width
  pub wide : length words ≡ length words₀
  pub into : Within words₀ to width
  pub from : Within words₀ at width
  pub clear : (to + width ≤ at) ⊎ (at + width ≤ to)
  pub done : words ≡ united words₀ to at k

pub begin : (words : List ℕ) (to at width : ℕ) → ((lies (length words) to width && lies (length words) at width) && apart to at width) ≡ true → Uniting words words to at width 0
unfolding united
begin words to at width h = record {
  upto = omega arith;
  wide = refl;
  into = let-in words to width rows.0;
  from = let-in words at width rows.1;
  clear = apart-true to at width parts.1;
  done = go ((lies (length words) to 0 && lies (length words) at 0) && apart to at 0);
}
  where
    parts : ((lies (length words) to width && lies (length words) at width) ≡ true) × (apart to at width ≡ true)
    parts = and-true (lies (length words) to width && lies (length words) at width) (apart to at width) h

    rows : (lies (length words) to width ≡ true) × (lies (length words) at width ≡ true)
    rows = and-true (lies (length words) to width) (lies (length words) at width) parts.0

    go : (c : Bool) → words ≡ cond c (with_row words to 0 (either (row words to 0) (row words at 0))) words
    go true = sym (with_none words to (either (row words to 0) (row words at 0)))
    go false = refl

module _ (words₀ words : List ℕ) (to at width k : ℕ) (c : Uniting words₀ words to at width k) where
  -- fewer words of the rows lie inside the words too, and apart
  into : (j : ℕ) → j ≤ width → lies (length words₀) to j ≡ true
  into j l = true-lies (length words₀) to j (omega (arith, c.into)) (omega (arith, c.into))

  from : (j : ℕ) → j ≤ width → lies (length words₀) at j ≡ true
  from j l = true-lies (length words₀) at j (omega (arith, c.from)) (omega (arith, c.from))

  part : (j : ℕ) → j ≤ width → united words₀ to at j ≡ with_row words₀ to j (either (row words₀ to j) (row words₀ at j))
  part j l = united-is words₀ to at j (into j l) (from j l)
      (true-apart to at j (⊎_elim (λ (q : to + width ≤ at). inl (omega arith)) (λ (q : at + width ≤ to). inr (omega arith)) c.clear))

  pub turn : k < width → get_or words (to + k) 0 < 2 ^ 64 → get_or words (at + k) 0 < 2 ^ 64
      → Uniting words₀ (set words (to + k) (bit_or (get_or words (to + k) 0) (get_or words (at + k) 0))) to at width (k + 1)
  turn l f g =
      let bs = either (row words₀ to k) (row words₀ at k) in
      let x = get_or words₀ (to + k) 0 in
      let y = get_or words₀ (at + k) 0 in
      let v = bit_or (get_or words (to + k) 0) (get_or words (at + k) 0) in
      let h : to + k ≤ length words₀ = omega (arith, c.into) in
      let n = row-length words₀ to k (into k c.upto) in
      let m = row-length words₀ at k (from k c.upto) in
      let e : words ≡ with_row words₀ to k bs = c.done ∙ part k c.upto in
      let p : get_or words (to + k) 0 ≡ x = ap (λ (ws : List ℕ). get_or ws (to + k) 0) e ∙ with-outside words₀ to k bs h (to + k) (inr (omega arith)) in
      let q : get_or words (at + k) 0 ≡ y = ap (λ (ws : List ℕ). get_or ws (at + k) 0) e
      ∙ with-outside words₀ to k bs h (at + k) (⊎_elim (λ (q : to + width ≤ at). inr (omega arith)) (λ (q : at + width ≤ to). inl (omega arith)) c.clear) in
      let z : suc k ≡ k + 1 = omega arith in
      record {
        upto = omega arith;
        wide = length-set words (to + k) v ∙ c.wide;
        into = c.into;
        from = c.from;
        clear = c.clear;
        done = ap (λ (ws : List ℕ). set ws (to + k) v) e
            ∙ with-more words₀ to k bs v (omega (arith, c.into)) (length-either (row words₀ to k) (row words₀ at k) (omega arith) ∙ n)
            (or_lt 64 (get_or words (to + k) 0) (get_or words (at + k) 0) f g)
            ∙ ap (λ (r : List Bool). with_row words₀ to (suc k) (bs ++ r)) (ap (bits 64) (ap₂ bit_or p q) ∙ or-bits 64 x y)
            ∙ ap (with_row words₀ to (suc k)) (sym (either-append (row words₀ to k) (row words₀ at k) (bits 64 x) (bits 64 y) (omega arith))
            ∙ sym (ap₂ either (row_more words₀ to k (into (suc k) (omega arith))) (row_more words₀ at k (from (suc k) (omega arith)))))
            ∙ sym (part (suc k) (omega arith)) ∙ ap (united words₀ to at) z;
      }
