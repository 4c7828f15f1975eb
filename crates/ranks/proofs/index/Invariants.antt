-- `ranks::index` meets its contract. The loop's invariant: the counts of the first k words are written, and n marks are before word k. Assumes nothing.
use Rattle.ranks.proofs.Indexing.{Indexing}
use Rattle.ranks.proofs.index.Given as goal

abbrev pub invariant-loop-k : goal.invariant-loop-k
invariant-loop-k l = Indexing l.w-items l.initial.counts l.counts l.k l.n
