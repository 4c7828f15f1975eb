-- `finder_c::finder_lists_take` meets its contract: the numbers fit their bits, and the rest is what `taking::take` ensures. Assumes nothing.
use mathlib.Core.Path.{ap, ◌∙◌}
use Rattle.taking.specs.Taking.{take_reply}
use Rattle.finder_c.specs.Packing.{packed_taken}
use Rattle.finder_c.proofs.Small.{taking-small}
use Rattle.finder_c.proofs.finder_lists_take.Goals as goal

pub packed_taken-requires : goal.packed_taken-requires
packed_taken-requires c = taking-small c.args.op c.args.items.now c.args.ends.now c.args.counts.now c.args.number (take_reply c.take-r.result) c.take-r.ensures.value

pub returns : goal.returns
returns c = record { value = c.packed_taken.ensures ∙ ap packed_taken c.take-r.ensures.value; counts_after = c.take-r.ensures.counts_after }
