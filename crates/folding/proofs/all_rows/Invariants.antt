-- `folding::all_rows` meets its contract. The loop's invariant: the operands from c on decide. Assumes nothing.
use mathlib.Core.Path.{◌≡◌}
use Rattle.stretches.specs.Table.{stop_of, operands_up, operand_numbers}
use Rattle.nodes.specs.Among.{Among}
use Rattle.folding.specs.Fold.{rows_before}
use Rattle.folding.proofs.all_rows.Given as goal

abbrev pub invariant-loop-c : goal.invariant-loop-c
invariant-loop-c l = Among l.rows l.v l.c-iterator × (rows_before l.rows l.width l.free (operands_up l.rows (stop_of l.rows l.v) l.c-iterator.at) ≡ rows_before l.rows l.width l.free (operand_numbers l.rows l.v))
