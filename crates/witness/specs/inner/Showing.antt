-- What is written node by node. Private contracts cite this. Assumes nothing.
use Rattle.std.specs.Prelude.{ℕ, ◌+◌, ◌≤◌, ◌≡◌, Bool, List, ◌++◌, length}
use Rattle.stretches.specs.declared.Node.{Node}
use Rattle.stretches.specs.declared.Stretch.{Stretch}
use Rattle.stretches.specs.Stretch.{In}
use Rattle.stretches.specs.Front.{Front, nth}
use Rattle.stretches.specs.Table.{list_at}
use Rattle.stretches.specs.inner.Below.{found_one}
use Rattle.records.specs.declared.Line.{Line}
use Rattle.records.specs.Line.{says}
use Rattle.pattern.specs.Pattern.{Pattern, nodes}
use Rattle.pattern.specs.Rows.{Tree}
use Rattle.meaning.specs.Meaning.{over_lines, over_table, answers_of}
use Rattle.meaning.specs.Shown.{Shown, of_front, shown_from, shown}
use Rattle.seek.specs.Source.{Source, list_over}
use Rattle.witness.specs.Witness.{written_shown, filled_shown}

-- ── Cells ──

-- of l as many as whole triples fit are written, n of them, and no other cell
abbrev pub Held : List Shown → List ℕ → ℕ → List ℕ → Type 0
Held l cells₀ n cells = (n ≡ length (written_shown l cells₀)) × (cells ≡ filled_shown l cells₀)

-- the part d was written behind whatever was
abbrev pub Grown : List Shown → ℕ → List ℕ → ℕ → List ℕ → Type 0
Grown d n cells n' cells' = (l : List Shown) (cells₀ : List ℕ) → Held l cells₀ n cells → Held (l ++ d) cells₀ n' cells'

-- ── Nodes ──

-- what is found of operand c for the answer f, the first from line t on or, by end, to f's end
unfoldable pub operand_of : Source → List Node → ℕ → ℕ → Bool → Stretch → Front
operand_of src table c t by_end f = found_one by_end f t (list_over src table c)

-- a pattern stands at node v of its table, and the machine's table has the lists of its nodes in these lines
pub record Stands (src : Source) (table rows : List Node) (ls : List Line) (v : ℕ) (p : Pattern) : Type 0 where
  pub tree : Tree rows v p
  pub fits : v + nodes p ≤ 32
  pub lists : (c : ℕ) → list_over src table c ≡ list_at (over_table rows ls) rows c

-- what the pattern at node v shows of its answer f was written
pub record ShownAt (src : Source) (table rows : List Node) (v : ℕ) (f : Stretch) (n : ℕ) (cells : List ℕ) (n' : ℕ) (cells' : List ℕ) : Type 0 where
  pub grows : (ls : List Line) (p : Pattern) → Stands src table rows ls v p → In f.start f.end (answers_of p ls)
      → Grown (shown_from (over_lines ls) v p f) n cells n' cells'

-- what the pattern shows of its answer number k was written into cells
pub record AnswerShown (src : Source) (table rows : List Node) (k : ℕ) (cells : List ℕ) (n : ℕ) (cells' : List ℕ) : Type 0 where
  pub holds : (ls : List Line) (p : Pattern) → Stands src table rows ls 0 p → Held (of_front (nth (answers_of p ls) k) (shown p ls)) cells n cells'

-- the same by the pattern's table
pub record TableShown (rows : List Node) (log : List ℕ) (k : ℕ) (cells : List ℕ) (n : ℕ) (cells' : List ℕ) : Type 0 where
  pub holds : (p : Pattern) → Tree rows 0 p → nodes p ≤ 32 → Held (of_front (nth (answers_of p (says log)) k) (shown p (says log))) cells n cells'
