-- What the functions over the nodes promise each other.
-- Assumes nothing.
use Rattle.std.specs.Prelude.{ℕ, ◌≤◌, ◌≡◌}
use Rattle.pattern.specs.Pattern.{Pattern, WellFormed, nodes, depth, preorder}
use Rattle.pattern.specs.Answer.{table}
use Rattle.pattern.specs.declared.Table.{Table}
use Rattle.pattern.specs.inner.Scanner.{unsized}

-- the nodes are the symbols of a well-formed tree of at most 32
pub record Encodes (t : Table) : Type 0 where
  pub tree : Pattern
  pub formed : WellFormed tree
  pub counted : t.count ≡ nodes tree
  pub small : t.count ≤ 32
  pub rows : t.rows ≡ unsized (preorder tree)

-- the table of a tree, and its depth
pub record Measured (tree : Pattern) (t : Table) (d : ℕ) : Type 0 where
  pub table : t ≡ table tree
  pub depth : d ≡ depth tree
