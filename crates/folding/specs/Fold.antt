-- A table folded over rows of marks: an `or` of rows alone becomes one row, and so does a `max` of a row. Assumes nothing.
use Rattle.std.specs.Prelude.{ℕ, zero, suc, ◌+◌, ◌-◌, Bool, true, cond, ◌&&◌, List, [], ◌∷◌, map, length, set, leb, ltb, eqb}
use Rattle.stretches.specs.Stretch.{any_of}
use Rattle.stretches.specs.declared.Node.{Node}
use Rattle.stretches.specs.Table.{node_at, kind_at, first_at, stop_of, operand_numbers}
use Rattle.marks.specs.Row.{lies, row, with_row}

-- a table and its words, and the place behind the last row in use
pub record Folding : Type 0 where
  pub rows : List Node
  pub words : List ℕ
  pub free : ℕ

abbrev pub folding : List Node → List ℕ → ℕ → Folding
folding r w n = record { rows = r; words = w; free = n }

-- ── Rows in use ──

-- the node is a row of this width that ends at or before place free
abbrev pub is_row : ℕ → ℕ → Node → Bool
is_row width free n = eqb n.kind 16 && (eqb n.second width && leb (n.first + width) free)

-- so is node v
abbrev pub row_before : List Node → ℕ → ℕ → ℕ → Bool
row_before rows width free v = is_row width free (node_at rows v)

-- all these nodes are
unfoldable pub rows_before : List Node → ℕ → ℕ → List ℕ → Bool
rows_before rows width free [] = true
rows_before rows width free (c ∷ cs) = row_before rows width free c && rows_before rows width free cs

-- a node made the row of width words from place at on
abbrev pub made_row : ℕ → ℕ → Node → Node
made_row at width n = record { kind = 16; size = n.size; first = at; second = width; third = n.third }

-- the table with node v made the row of width words from place at on
unfoldable pub with_leaf : List Node → ℕ → ℕ → ℕ → List Node
with_leaf rows v at width = set rows v (made_row at width (node_at rows v))

-- ── Node by node ──

-- `or` whose operands are such rows: a new row from place free on, of the lines that any of them has; unchanged where the words have no room for it
unfoldable pub fold_or : ℕ → ℕ → Folding → Folding
fold_or width v f =
    let cs = operand_numbers f.rows v in
    cond (lies (length f.words) f.free width && rows_before f.rows width f.free cs)
    (folding (with_leaf f.rows v f.free width)
    (with_row f.words f.free width (any_of (map (λ c. row f.words (first_at f.rows c) width) cs))) (f.free + width)) f

-- `max` whose operand is such a row and whose bound is at least 1: that row, since its stretches are single lines
unfoldable pub max_folded : List Node → ℕ → ℕ → ℕ → List Node
max_folded rows width free v =
    cond (ltb (v + 1) (stop_of rows v) && (row_before rows width free (v + 1) && leb 1 (first_at rows v)))
    (with_leaf rows v (first_at rows (v + 1)) width) rows

unfoldable pub fold_node : ℕ → ℕ → Folding → Folding
fold_node width v f =
    cond (eqb (kind_at f.rows v) 1) (fold_or width v f)
    (cond (eqb (kind_at f.rows v) 6) (folding (max_folded f.rows width f.free v) f.words f.free) f)

-- the last n nodes folded, the last first
unfoldable pub folded : ℕ → ℕ → Folding → Folding
folded width zero f = f
folded width (suc n) f = fold_node width (31 - n) (folded width n f)
