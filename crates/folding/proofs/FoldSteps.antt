-- The folding's code: one law for each return and turn. The row of a folded `or` is cleared, then united with one operand's row after the other; it has the lines
-- of all of them, since these rows lie before it. Assumes nothing.
use Prim.Native.Nat.{ℕ, suc, ◌+◌, ◌-◌, ◌*◌, ◌≤◌, ◌<◌}
use mathlib.Core.Path.{◌≡◌, sym, ap, ap₂, ◌∙◌}
use mathlib.Core.Logic.{inl, inr}
use mathlib.Core.Bool.{Bool, true, false, cond, ◌&&◌}
use mathlib.Core.List.{List, [], ◌∷◌, map}
use native.Mathlib.Omega.{arith}
use lib.ListN.{length, replicate, length-replicate}
use Rattle.stretches.specs.Stretch.{either, any_of}
use Rattle.stretches.specs.declared.Node.{Node}
use Rattle.stretches.specs.Table.{first_at, next_of, operands_up, operand_numbers}
use Rattle.stretches.proofs.Table.{up_more, up-end}
use Rattle.stretches.proofs.Union.{either-none, either-three, either-clear}
use Rattle.marks.specs.Row.{lies, row, with_row, united}
use Rattle.marks.proofs.Rows.{lies-true, true-lies, row-length}
use Rattle.marks.proofs.United.{true-apart, united-is, length-either}
use Rattle.marks.proofs.WithRow.{with-length, with-other, with-row, with-again, with-clear}
use Rattle.folding.specs.Fold.{Folding, folding, row_before, rows_before, with_leaf, fold_or, fold_node, folded}
use Rattle.folding.specs.inner.Uniting.{united_all}
use Rattle.folding.proofs.FoldLaws.{are-rows, any-most}

-- ── Rows in use ──

module _ (rows : List Node) (width free stop : ℕ) (s : stop ≤ 32) where
  -- the operand at c decides, or those behind it
  pub rows-turn : (c : ℕ) (b : Bool) → c < stop → row_before rows width free c ≡ b
      → rows_before rows width free (operands_up rows stop c) ≡ (b && rows_before rows width free (operands_up rows stop (next_of rows c)))
  unfolding rows_before
  rows-turn c b h e = ap (rows_before rows width free) (up_more rows stop c h s) ∙ ap (λ x. x && rows_before rows width free (operands_up rows stop (next_of rows c))) e

  pub rows_end : (c : ℕ) → stop ≤ c → rows_before rows width free (operands_up rows stop c) ≡ true
  unfolding rows_before
  rows_end c h = ap (rows_before rows width free) (up-end rows stop c h)

-- ── The united row ──

module _ (rows : List Node) (to width stop : ℕ) (s : stop ≤ 32) where
  pub unite-turn : (words : List ℕ) (c : ℕ) → c < stop
      → united_all rows words to width (operands_up rows stop c) ≡ united_all rows (united words to (first_at rows c) width) to width (operands_up rows stop (next_of rows c))
  unfolding united_all
  unite-turn words c h = ap (united_all rows words to width) (up_more rows stop c h s)

  pub unite-end : (words : List ℕ) (c : ℕ) → stop ≤ c → united_all rows words to width (operands_up rows stop c) ≡ words
  unfolding united_all
  unite-end words c h = ap (united_all rows words to width) (up-end rows stop c h)

module _ (rows : List Node) (words : List ℕ) (to width : ℕ) (h : lies (length words) to width ≡ true) where
  abbrev row_of : ℕ → List Bool
  row_of c = row words (first_at rows c) width

  -- with rows that lie before it
  unite-more : (cs : List ℕ) → rows_before rows width to cs ≡ true → (bs : List Bool) → length bs ≡ 64 * width
      → united_all rows (with_row words to width bs) to width cs ≡ with_row words to width (either bs (any_of (map row_of cs)))
  unfolding united_all
  unite-more [] b bs n = ap (with_row words to width) (sym (either-none bs))
  unite-more (c ∷ cs) b bs n =
      let i = lies-true (length words) to width h in
      let r = are-rows rows width to c cs b in
      let at = first_at rows c in
      let ws = with_row words to width bs in
      let l : length ws ≡ length words = with-length words to width bs i.0 in
      let e = r.0.ends in
      let g : lies (length words) at width ≡ true = true-lies (length words) at width (omega arith) i.1 in
      let one : united ws to at width ≡ with_row words to width (either bs (row_of c)) =
      united-is ws to at width (ap (λ (x : ℕ). lies x to width) l ∙ h) (ap (λ (x : ℕ). lies x at width) l ∙ g) (true-apart to at width (inr e))
      ∙ ap₂ (λ (x y : List Bool). with_row ws to width (either x y)) (with-row words to width bs h n) (with-other words to width bs i.0 at width (inl e))
      ∙ with-again words to width bs i.0 (either bs (row_of c)) in
      ap (λ (x : List ℕ). united_all rows x to width cs) one
      ∙ unite-more cs r.1 (either bs (row_of c)) (length-either bs (row_of c) (n ∙ sym (row-length words at width g)) ∙ n)
      ∙ ap (with_row words to width) (either-three bs (row_of c) (any_of (map row_of cs)))

  -- from a clear row on
  united-rows : (cs : List ℕ) → rows_before rows width to cs ≡ true → united_all rows (with_row words to width []) to width cs ≡ with_row words to width (any_of (map row_of cs))
  united-rows cs b =
      let m : ℕ = 64 * width - 0 in
      let z : m ≡ 64 * width = omega arith in
      let bs = any_of (map row_of cs) in
      let k = any-most rows words width cs in
      ap (λ (x : List ℕ). united_all rows x to width cs) (sym (with-clear words to width [] (omega arith)))
      ∙ unite-more cs b (replicate m false) (length-replicate {A = Bool} m false ∙ z)
      ∙ ap (with_row words to width) (ap (λ (x : ℕ). either (replicate x false) bs) z ∙ either-clear (64 * width) bs k) ∙ with-clear words to width bs k

-- ── A node ──

module _ (rows : List Node) (words : List ℕ) (width free v : ℕ) where
  abbrev f : Folding
  f = folding rows words free

  abbrev made : Folding
  made =
      folding (with_leaf rows v free width)
      (with_row words free width (any_of (map (λ c. row words (first_at rows c) width) (operand_numbers rows v)))) (free + width)

  -- `fold_or`: no room, operands that are no rows, and the new row
  pub or-full : lies (length words) free width ≡ false → f ≡ fold_or width v f
  unfolding fold_or
  or-full e = sym (ap (λ b. cond (b && rows_before rows width free (operand_numbers rows v)) made f) e)

  pub or-other : lies (length words) free width ≡ true → rows_before rows width free (operand_numbers rows v) ≡ false → f ≡ fold_or width v f
  unfolding fold_or
  or-other h e = sym (ap₂ (λ a b. cond (a && b) made f) h e)

  pub or-made : {rows' : List Node} {ws ws' : List ℕ} → lies (length words) free width ≡ true → rows_before rows width free (operand_numbers rows v) ≡ true → ws ≡ with_row words free width []
      → ws' ≡ united_all rows ws free width (operand_numbers rows v) → rows' ≡ with_leaf rows v free width → folding rows' ws' (free + width) ≡ fold_or width v f
  unfolding fold_or
  or-made h e clear all put =
      ap₂ (λ (r : List Node) (w : List ℕ). folding r w (free + width)) put
      (all ∙ ap (λ (w : List ℕ). united_all rows w free width (operand_numbers rows v)) clear ∙ united-rows rows words free width h (operand_numbers rows v) e)
      ∙ sym (ap₂ (λ a b. cond (a && b) made f) h e)

-- ── All nodes ──

-- one node more
pub fold-turn : (width v : ℕ) (f g h : Folding) → 0 < v → v ≤ 32 → g ≡ folded width (32 - v) f → h ≡ fold_node width (v - 1) g → h ≡ folded width (32 - (v - 1)) f
unfolding folded
fold-turn width v f g h p q e k =
    let y : v - 1 ≡ 31 - (32 - v) = omega arith in
    let z : suc (32 - v) ≡ 32 - (v - 1) = omega arith in
    k ∙ ap₂ (λ (u : ℕ) (x : Folding). fold_node width u x) y e ∙ ap (λ (n : ℕ). folded width n f) z
