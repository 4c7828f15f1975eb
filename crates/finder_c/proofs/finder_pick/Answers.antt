-- `finder_c::finder_pick` meets its contract: the numbers fit their bits, and the rest is what `picks::pick` ensures. Assumes nothing.
use mathlib.Core.Path.{ap, ◌∙◌}
use Rattle.meaning.specs.Replies.{reply}
use Rattle.finder_c.specs.Packing.{packed_reply}
use Rattle.finder_c.proofs.Small.{picking-small}
use Rattle.finder_c.proofs.finder_pick.Goals as goal

pub packed_reply-requires : goal.packed_reply-requires
packed_reply-requires c = picking-small c.args.pattern.now c.args.log.now c.args.k c.args.cells.now (reply c.pick-r.result) c.pick-r.ensures.value

pub returns : goal.returns
returns c = record { value = c.packed_reply.ensures ∙ ap packed_reply c.pick-r.ensures.value; cells_after = c.pick-r.ensures.cells_after }
