-- `finder_c::finder_witness` meets its contract: the numbers fit their bits, and the rest is what `witness::show` ensures. Assumes nothing.
use mathlib.Core.Path.{ap, ◌∙◌}
use Rattle.meaning.specs.Replies.{reply}
use Rattle.finder_c.specs.Packing.{packed_reply}
use Rattle.finder_c.proofs.Small.{witness_small}
use Rattle.finder_c.proofs.finder_witness.Goals as goal

pub packed_reply-requires : goal.packed_reply-requires
packed_reply-requires c = let a = c.args in
    witness_small a.pattern.now a.log.now a.number a.cells.now (reply c.show-r.result) c.show-r.ensures.value

pub returns : goal.returns
returns c = record { value = c.packed_reply.ensures ∙ ap packed_reply c.show-r.ensures.value; cells_after = c.show-r.ensures.cells_after }
