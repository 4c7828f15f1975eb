-- A row with its counts: what `index` makes, and that the counts tell how many lines are marked. Assumes nothing.
use Prim.Native.Nat.{ℕ, zero, suc, ◌+◌, ◌-◌, ◌*◌, ◌/◌, ◌%◌, ◌≤◌, ◌<◌}
use mathlib.Core.Path.{◌≡◌, sym, ap, ap₂, ◌∙◌}
use mathlib.Core.Logic.{◌⊎◌, inl, inr}
use mathlib.Core.Bool.{Bool, false}
use mathlib.Core.List.{List, ◌++◌, append_assoc}
use native.Mathlib.Nat.{mod-eq_of_lt}
use native.Mathlib.Omega.{arith}
use lib.ListN.{length, get_or, take, drop, replicate, length-append, length-take}
use lib.Seq.{take_at, get_or-append-add}
use Rattle.basics.proofs.Basics.{le-or-lt}
use Rattle.marks.specs.Row.{flags, row, trues, mark_count, packed}
use Rattle.marks.proofs.Counts.{trues_most, flags-take, count-split, count-front}
use Rattle.marks.proofs.Packed.{length-packed, flags-packed-short}
use Rattle.marks.proofs.Rows.{true-lies, row_words}
use Rattle.ranks.specs.Rank.{half, before, ranked, indexed, through, marks_by}
use Rattle.ranks.proofs.Halves.{half-double}
use Rattle.ranks.proofs.Before.{length_before, before-word}
use Rattle.ranks.proofs.Counting.{count-few, through-in, through-past, marks-most}

-- `index` makes a row of packed lines one with its counts
pub index-ranked : (words : List ℕ) (bs : List Bool) → take (half (length words)) words ≡ packed (half (length words)) bs
    → indexed words ≡ ranked (half (length words)) bs ++ drop (half (length words) + half (length words)) words
unfolding indexed
index-ranked words bs e =
    let h = half (length words) in
    let ys = drop (h + h) words in
    ap (λ (ws : List ℕ). ws ++ (before 0 ws ++ ys)) e ∙ sym (append_assoc (packed h bs) (before 0 (packed h bs)) ys)

-- as many counts as words
pub ranked-length : (w : ℕ) (bs : List Bool) → length (ranked w bs) ≡ w + w
ranked-length w bs =
    omega (arith, length-append (packed w bs) (before 0 (packed w bs)), length_before 0 (packed w bs), length-packed w bs)

module _ (w : ℕ) (bs : List Bool) (words : List ℕ) (same : words ≡ ranked w bs) (most : w ≤ 1024) where
  all : w ≡ half (length words)
  all = sym (ap (λ (ws : List ℕ). half (length ws)) same ∙ ap half (ranked-length w bs) ∙ half-double w most)

  -- the row's lines
  lines : row words 0 w ≡ flags (packed w bs)
  lines =
      row_words words 0 w (true-lies (length words) 0 w (omega (arith, ap length same, ranked-length w bs)) (omega arith))
      ∙ ap (λ (ws : List ℕ). flags (take w ws)) same ∙ ap flags (take_at (packed w bs) (before 0 (packed w bs)) w (length-packed w bs))

  -- the count of word k
  rank : (k : ℕ) → k < w → get_or words (w + k) 0 ≡ trues (take (64 * k) (flags (packed w bs)))
  rank k l =
      let z : w + k ≡ length (packed w bs) + k = omega (arith, length-packed w bs) in
      ap₂ (λ (ws : List ℕ) (x : ℕ). get_or ws x 0) same z ∙ get_or-append-add (packed w bs) (before 0 (packed w bs)) k 0
      ∙ omega (arith, before-word 0 (packed w bs) k (omega (arith, length-packed w bs)), ap trues (flags-take (packed w bs) k (omega (arith, length-packed w bs))))

  -- the marks through a line of the row
  through-ranked : (p : ℕ) → p / 64 < w → through words p ≡ trues (take (suc p) (flags (packed w bs)))
  through-ranked p l =
      let fs = flags (packed w bs) in
      let z : p - p % 64 ≡ 64 * (p / 64) = omega arith in
      let few : trues (take (64 * (p / 64)) fs) < 65536 = omega (arith, trues_most (take (64 * (p / 64)) fs), length-take (64 * (p / 64)) fs) in
      through-in words p w all l
      ∙ ap₂ (λ (x y : ℕ). x + y) (ap (λ (x : ℕ). x % 65536) (rank (p / 64) l) ∙ mod-eq_of_lt few) (ap₂ (λ (l : List Bool) (x : ℕ). mark_count l x p) lines z)
      ∙ sym (count-split fs (64 * (p / 64)) p (omega arith))

  -- the marks from one line of the row through another
  marks-ranked : (s e : ℕ) → s ≤ e → e / 64 < w → marks_by words s e ≡ mark_count (flags (packed w bs)) s e
  unfolding marks_by
  marks-ranked zero e h l =
      let fs = flags (packed w bs) in omega (arith, through-ranked e l, count-split fs 0 e (omega arith), trues_most (take 0 fs))
  marks-ranked (suc p) e h l =
      omega (arith, through-ranked e l, through-ranked p (omega arith), count-split (flags (packed w bs)) (suc p) e (omega arith))

  -- the counts tell how many of the lines from s through e are marked
  pub count-ranked : (s e : ℕ) → s ≤ e → e < length bs → length bs ≤ 64 * w → marks_by words s e ≡ mark_count bs s e
  count-ranked s e h l m =
      marks-ranked s e h (omega arith) ∙ ap (λ (fs : List Bool). mark_count fs s e) (flags-packed-short w bs m)
      ∙ count-front bs (replicate (64 * w - length bs) false) s e (omega arith) l

  -- one line counts as one at most
  pub count-single : (p : ℕ) → marks_by words p p ≤ 1
  count-single p = go (le-or-lt w (p / 64))
    where
      go : (w ≤ p / 64) ⊎ (p / 64 < w) → marks_by words p p ≤ 1
      go (inl l) = omega (arith, marks-most words p p, through-past words p w all l)
      go (inr l) = omega (arith, count-few _ _ _ (marks-ranked p p (omega arith) l))
