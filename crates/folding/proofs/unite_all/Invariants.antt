-- `folding::unite_all` meets its contract. The loop's invariant: the operands from u on are left to be united. Assumes nothing.
use mathlib.Core.Path.{◌≡◌}
use lib.ListN.{length}
use Rattle.stretches.specs.Table.{stop_of, operands_up, operand_numbers}
use Rattle.nodes.specs.Among.{Among}
use Rattle.folding.specs.inner.Uniting.{united_all}
use Rattle.folding.proofs.unite_all.Given as goal

abbrev pub invariant-loop-u : goal.invariant-loop-u
invariant-loop-u l =
    Among l.rows l.v l.u-iterator × (length l.words ≡ length l.initial.words) × (united_all l.rows l.words l.to l.width (operands_up l.rows (stop_of l.rows l.v) l.u-iterator.at) ≡ united_all l.rows l.initial.words l.to l.width (operand_numbers l.rows l.v))
