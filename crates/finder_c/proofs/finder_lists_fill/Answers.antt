-- `finder_c::finder_lists_fill` meets its contract: the numbers fit their bits, and the rest is what `lists::fill` ensures. Assumes nothing.
use mathlib.Core.Path.{ap, ◌∙◌}
use Rattle.meaning.specs.Replies.{fill_reply}
use Rattle.finder_c.specs.Packing.{packed_fill}
use Rattle.finder_c.proofs.Small.{lists-small}
use Rattle.finder_c.proofs.finder_lists_fill.Goals as goal

pub packed-requires : goal.packed-requires
packed-requires c = lists-small c.args.op c.args.k c.args.items.now c.args.ends.now c.args.cells.now c.args.from (fill_reply c.fill-r.result) c.fill-r.ensures.value

pub returns : goal.returns
returns c = record { value = c.packed.ensures ∙ ap packed_fill c.fill-r.ensures.value; cells_after = c.fill-r.ensures.cells_after }
