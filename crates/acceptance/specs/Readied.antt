-- The table that reading a pattern beside a log gives. Assumes nothing.
use Rattle.std.specs.Prelude.{ℕ, cond, List, replicate}
use Rattle.stretches.specs.declared.Node.{Node}
use Rattle.stretches.specs.Table.{no_node}
use Rattle.pattern.specs.Reading.{outcome_of, table_of}
use Rattle.meaning.specs.Refusals.{long_log}

-- a pattern's table; where pattern or log is refused, no nodes
abbrev pub rows_in : List ℕ → List ℕ → List Node
rows_in pattern log = cond (long_log log) (replicate 32 no_node) (table_of (outcome_of pattern)).rows
