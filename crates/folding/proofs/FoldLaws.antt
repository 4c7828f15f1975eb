-- A folded table has the lists that the table had: an `or` of rows has the lines that any of them has, and a `max` keeps every single line. New rows lie behind
-- those in use, so no row in use is changed. Node by node. Assumes nothing.
use Prim.Native.Nat.{ℕ, zero, suc, ◌+◌, ◌-◌, ◌*◌, ◌≤◌, ◌<◌}
use mathlib.Core.Path.{◌≡◌, refl, sym, ap, ap₂, ◌∙◌}
use mathlib.Core.Logic.{◌⊎◌, inl, inr}
use mathlib.Core.Bool.{Bool, true, cond, ◌&&◌}
use mathlib.Core.List.{List, [], ◌∷◌, map, map-map}
use native.Mathlib.Omega.{arith}
use lib.ListN.{length}
use lib.Dec.{leb, ltb, eqb}
use borrow.Author.Tests.{leb-true, ltb-true, eqb-true, le-leb}
use Rattle.basics.proofs.Basics.{cases, and-true, le-or-lt}
use Rattle.stretches.specs.declared.Stretch.{Stretch}
use Rattle.stretches.specs.Stretch.{st, marks, any_of, keep, keep_first, at_most, Or, answers}
use Rattle.stretches.specs.declared.Node.{Node}
use Rattle.stretches.specs.Table.{kind_at, first_at, second_at, next_of, stop_of, operands_up, operand_numbers}
use Rattle.stretches.specs.inner.Operands.{operands_from}
use Rattle.stretches.proofs.Marks.{marks-clear, keep-marks}
use Rattle.stretches.proofs.Table.{next_past, stop-most, up_more, up-end, operands-lists, from_more}
use Rattle.stretches.proofs.Union.{either-most, or-marks}
use Rattle.marks.specs.Row.{lies, row, with_row}
use Rattle.marks.proofs.Rows.{lies-true, row-most}
use Rattle.marks.proofs.WithRow.{with-other, with-short}
use Rattle.seek.specs.Source.{Source, source, measured_by, measured, given, list_over, Good}
use Rattle.folding.specs.Fold.{Folding, folding, row_before, rows_before, with_leaf, fold_or, max_folded, fold_node, folded}
use Rattle.seek.proofs.Nodes.{by_kind, row_list, or-list}
use Rattle.folding.proofs.FoldLeaf.{Before, leaf-before, leaf-lists, leaf-good}

-- ── Rows in use ──

-- what the test of a row says
pub record IsRow (rows : List Node) (width free v : ℕ) : Type 0 where
  pub kind : kind_at rows v ≡ 16
  pub second : second_at rows v ≡ width
  pub ends : first_at rows v + width ≤ free

is-row : (rows : List Node) (width free v : ℕ) → row_before rows width free v ≡ true → IsRow rows width free v
is-row rows width free v h =
    let a = and-true (eqb (kind_at rows v) 16) (eqb (second_at rows v) width && leb (first_at rows v + width) free) h in
    let b = and-true (eqb (second_at rows v) width) (leb (first_at rows v + width) free) a.1 in
    record { kind = eqb-true (kind_at rows v) 16 a.0; second = eqb-true (second_at rows v) width b.0; ends = leb-true (first_at rows v + width) free b.1 }

-- of the first, and of the others
pub are-rows : (rows : List Node) (width free c : ℕ) (cs : List ℕ) → rows_before rows width free (c ∷ cs) ≡ true → IsRow rows width free c × (rows_before rows width free cs ≡ true)
unfolding rows_before
are-rows rows width free c cs h = let a = and-true (row_before rows width free c) (rows_before rows width free cs) h in (is-row rows width free c a.0, a.1)

-- rows of a width have no more lines together
pub any-most : (rows : List Node) (words : List ℕ) (width : ℕ) (cs : List ℕ) → length (any_of (map (λ c. row words (first_at rows c) width) cs)) ≤ 64 * width
any-most rows words width [] = omega arith
any-most rows words width (c ∷ cs) = either-most (64 * width) (row words (first_at rows c) width) (any_of (map (λ c. row words (first_at rows c) width) cs)) (row-most words (first_at rows c) width) (any-most rows words width cs)

-- a single line measures at most 1
abbrev pub Single : List ℕ → Type 0
Single sound = (p : ℕ) → measured_by sound (st p p) ≤ 1

-- ── `or` and `max` over rows ──

module _ (items sound words : List ℕ) (rows : List Node) (width free : ℕ) where
  abbrev src : Source
  src = source words items sound

  abbrev row_of : ℕ → List Bool
  row_of u = row words (first_at rows u) width

  -- a node that is a row has the row's list
  node-list : (u : ℕ) → u < 32 → IsRow rows width free u → list_over src rows u ≡ marks 0 (row_of u)
  node-list u h r = row_list src rows u h r.kind ∙ ap (λ (w : ℕ). marks 0 (row words (first_at rows u) w)) r.second

  -- and so have operands that are rows
  rows-lists : (stop : ℕ) → stop ≤ 32 → (n c : ℕ) → 32 ≤ c + n → rows_before rows width free (operands_up rows stop c) ≡ true
      → map (list_over src rows) (operands_up rows stop c) ≡ map (λ u. marks 0 (row_of u)) (operands_up rows stop c)
  rows-lists stop s zero c h b = let e = up-end rows stop c (omega arith) in ap (map (list_over src rows)) e ∙ sym (ap (map (λ u. marks 0 (row_of u))) e)
  rows-lists stop s (suc n) c h b = go (rows-lists stop s n (next_of rows c)) (le-or-lt stop c)
    where
      go : (32 ≤ next_of rows c + n → rows_before rows width free (operands_up rows stop (next_of rows c)) ≡ true
          → map (list_over src rows) (operands_up rows stop (next_of rows c)) ≡ map (λ u. marks 0 (row_of u)) (operands_up rows stop (next_of rows c)))
          → (stop ≤ c) ⊎ (c < stop) → map (list_over src rows) (operands_up rows stop c) ≡ map (λ u. marks 0 (row_of u)) (operands_up rows stop c)
      go on (inl l) = let e = up-end rows stop c l in ap (map (list_over src rows)) e ∙ sym (ap (map (λ u. marks 0 (row_of u))) e)
      go on (inr l) =
          let e = up_more rows stop c l s in
          let r = are-rows rows width free c (operands_up rows stop (next_of rows c)) (ap (rows_before rows width free) (sym e) ∙ b) in
          ap (map (list_over src rows)) e ∙ ap₂ (λ (x : List Stretch) (xs : List (List Stretch)). x ∷ xs) (node-list c (omega arith) r.0)
          (on (omega (arith, next_past rows c (omega arith))) r.1) ∙ sym (ap (map (λ u. marks 0 (row_of u))) e)

  module _ (v : ℕ) (lv : v < 32) where
    -- `or` of rows: the lines that any of them has
    or-rows : kind_at rows v ≡ 1 → rows_before rows width free (operand_numbers rows v) ≡ true → marks 0 (any_of (map row_of (operand_numbers rows v))) ≡ list_over src rows v
    or-rows k b =
        let cs = operand_numbers rows v in
        sym (or-list src rows v lv k
        ∙ ap (answers Or) (operands-lists (given src rows) rows (stop_of rows v) (v + 1) (omega arith)
        ∙ rows-lists (stop_of rows v) (stop-most rows v) 32 (v + 1) (omega arith) b ∙ sym (map-map (marks 0) row_of cs))
        ∙ or-marks (map row_of cs))

    -- `max` of a row: that row
    max-row : Single sound → kind_at rows v ≡ 6 → v + 1 < stop_of rows v → IsRow rows width free (v + 1) → 1 ≤ first_at rows v → marks 0 (row_of (v + 1)) ≡ list_over src rows v
    max-row single k h r one =
        let s = stop-most rows v in
        let k' = first_at rows v in
        let ls = operands_from (given src rows) rows (stop_of rows v) (next_of rows (v + 1)) in
        sym (by_kind src rows v lv 6 k ∙ ap (keep_first (at_most (measured src) k')) (from_more (given src rows) rows (stop_of rows v) (v + 1) h s)
        ∙ ap (keep (at_most (measured src) k' ls)) (node-list (v + 1) (omega arith) r)
        ∙ keep-marks (at_most (measured src) k' ls) (λ q. le-leb (measured src (st q q)) k' (omega (arith, single q))) 0 (row_of (v + 1)))

-- ── What folding keeps ──

-- the lists, that every node's own list is fine, and that the rows in use end before the free place
record Kept (items sound : List ℕ) (f f' : Folding) : Type 0 where
  before : Before f'.rows f'.free
  lists : (v : ℕ) → list_over (source f'.words items sound) f'.rows v ≡ list_over (source f.words items sound) f.rows v
  good : Good (source f.words items sound) f.rows → Good (source f'.words items sound) f'.rows

kept_same : (items sound : List ℕ) (f : Folding) → Before f.rows f.free → Kept items sound f f
kept_same items sound f b = record { before = b; lists = λ v. refl; good = λ g. g }

-- a node made a row that has its list
kept-leaf : (items sound : List ℕ) (f : Folding) (words' : List ℕ) (v at width free' : ℕ) → v < 32 → Before f.rows f.free
    → ((u : ℕ) → u < 32 → kind_at f.rows u ≡ 16 → row words' (first_at f.rows u) (second_at f.rows u) ≡ row f.words (first_at f.rows u) (second_at f.rows u))
    → marks 0 (row words' at width) ≡ list_over (source f.words items sound) f.rows v → at + width ≤ free' → f.free ≤ free'
    → Kept items sound f (folding (with_leaf f.rows v at width) words' free')
kept-leaf items sound f words' v at width free' lv b others list h k = record {
  before = leaf-before f.rows v at width b.wide lv f.free free' b h k;
  lists = leaf-lists f.rows v at width b.wide lv items sound f.words words' others list;
  good = leaf-good f.rows v at width b.wide lv items sound f.words words' others list;
}

module _ (items sound : List ℕ) (single : Single sound) (width v : ℕ) (lv : v < 32) (f : Folding) (b : Before f.rows f.free) where
  kept-or : kind_at f.rows v ≡ 1 → Kept items sound f (fold_or width v f)
  unfolding fold_or
  kept-or k =
      let cs = operand_numbers f.rows v in
      let bs = any_of (map (λ c. row f.words (first_at f.rows c) width) cs) in
      let words' = with_row f.words f.free width bs in
      cases (lies (length f.words) f.free width && rows_before f.rows width f.free cs)
      (λ t. Kept items sound f (cond t (folding (with_leaf f.rows v f.free width) words' (f.free + width)) f))
      (λ t.
      let h = and-true (lies (length f.words) f.free width) (rows_before f.rows width f.free cs) t in
      let i = (lies-true (length f.words) f.free width h.0).0 in
      kept-leaf items sound f words' v f.free width (f.free + width) lv b
      (λ u lu e. with-other f.words f.free width bs i (first_at f.rows u) (second_at f.rows u) (inl (b.ends u lu e)))
      (ap (marks 0) (with-short f.words f.free width bs h.0 (any-most f.rows f.words width cs))
      ∙ marks-clear 0 bs (64 * width - length bs) ∙ or-rows items sound f.words f.rows width f.free v lv k h.1)
      (omega arith) (omega arith))
      (λ t. kept_same items sound f b)

  kept-max : kind_at f.rows v ≡ 6 → Kept items sound f (folding (max_folded f.rows width f.free v) f.words f.free)
  unfolding max_folded
  kept-max k =
      let x = ltb (v + 1) (stop_of f.rows v) in
      let y = row_before f.rows width f.free (v + 1) in
      let z = leb 1 (first_at f.rows v) in
      cases (x && (y && z)) (λ t. Kept items sound f (folding (cond t (with_leaf f.rows v (first_at f.rows (v + 1)) width) f.rows) f.words f.free))
      (λ t.
      let h = and-true x (y && z) t in
      let i = and-true y z h.1 in
      let r = is-row f.rows width f.free (v + 1) i.0 in
      kept-leaf items sound f f.words v (first_at f.rows (v + 1)) width f.free lv b (λ u lu e. refl)
      (max-row items sound f.words f.rows width f.free v lv single k (ltb-true (v + 1) (stop_of f.rows v) h.0) r (leb-true 1 (first_at f.rows v) i.1)) r.ends (omega arith))
      (λ t. kept_same items sound f b)

  kept-node : Kept items sound f (fold_node width v f)
  unfolding fold_node
  kept-node =
      let g = folding (max_folded f.rows width f.free v) f.words f.free in
      cases (eqb (kind_at f.rows v) 1) (λ t. Kept items sound f (cond t (fold_or width v f) (cond (eqb (kind_at f.rows v) 6) g f))) (λ t. kept-or (eqb-true (kind_at f.rows v) 1 t))
      (λ t. cases (eqb (kind_at f.rows v) 6) (λ t. Kept items sound f (cond t g f)) (λ t. kept-max (eqb-true (kind_at f.rows v) 6 t)) (λ t. kept_same items sound f b))

-- ── The laws: n nodes folded ──

module _ (items sound : List ℕ) (single : Single sound) (width : ℕ) (f : Folding) (b : Before f.rows f.free) where
  kept : (n : ℕ) → Kept items sound f (folded width n f)
  unfolding folded
  kept zero = kept_same items sound f b
  kept (suc n) =
      let k = kept n in
      let m = kept-node items sound single width (31 - n) (omega arith) (folded width n f) k.before in
      record { before = m.before; lists = λ v. m.lists v ∙ k.lists v; good = λ g. m.good (k.good g) }

  -- every node has the list that it had
  pub fold-lists : (n v : ℕ) → list_over (source (folded width n f).words items sound) (folded width n f).rows v ≡ list_over (source f.words items sound) f.rows v
  fold-lists n v = (kept n).lists v

  -- and its own list is fine where all were
  pub fold-good : (n : ℕ) → Good (source f.words items sound) f.rows → Good (source (folded width n f).words items sound) (folded width n f).rows
  fold-good n g = (kept n).good g
