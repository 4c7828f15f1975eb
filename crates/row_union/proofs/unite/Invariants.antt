-- `row_union::unite` meets its contract. The loop's invariant: the first k words of the rows are united. Assumes nothing.
use Rattle.row_union.proofs.Uniting.{Uniting}
use Rattle.row_union.proofs.unite.Given as goal

abbrev pub invariant-loop-k : goal.invariant-loop-k
invariant-loop-k l = Uniting l.initial.words l.words l.to l.at l.width l.k
