-- What runs over a log's marks is handed this. Assumes nothing.
use Rattle.std.specs.Prelude.{ℕ, ◌≡◌, List}
use Rattle.stretches.specs.declared.Node.{Node}
use Rattle.stretches.specs.Table.{list_at}
use Rattle.records.specs.Line.{says}
use Rattle.meaning.specs.Meaning.{over_table}
use Rattle.seek.specs.declared.Searched.{Searched}
use Rattle.seek.specs.Source.{source_of, list_over, Good}

-- what is searched has a fine list for each node, and the one that the node has in the pattern's table in the log
pub record Marks (rows : List Node) (log : List ℕ) (s : Searched) : Type 0 where
  pub good : Good (source_of s) s.rows.now
  pub lists : (v : ℕ) → list_over (source_of s) s.rows.now v ≡ list_at (over_table rows (says log)) rows v
