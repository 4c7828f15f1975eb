-- The lists of a node's operands, as laws have them. No public promise cites this. Assumes nothing.
use Rattle.std.specs.Prelude.{ℕ, ◌+◌, ◌-◌, List}
use Rattle.stretches.specs.Stretch.{Stretch}
use Rattle.stretches.specs.declared.Node.{Node}
use Rattle.stretches.specs.Table.{Given, stop_of, operands, last_lists}

-- the lists of the operands from c on, and of all of v's
unfoldable pub operands_from : Given → List Node → ℕ → ℕ → List (List Stretch)
operands_from g rows stop c = operands rows stop c c (last_lists g rows (32 - c))

abbrev pub operands_of : Given → List Node → ℕ → List (List Stretch)
operands_of g rows v = operands_from g rows (stop_of rows v) (v + 1)
