-- `row_search::first_of` meets its contract: none of the first k words has a mark. Assumes nothing.
use Rattle.std.proofs.Common.{◌≡◌, ◌+◌, ◌*◌, drop}
use Rattle.stretches.specs.Stretch.{marks}
use Rattle.stretches.specs.Front.{head_of}
use Rattle.marks.specs.Row.{flags}
use Rattle.row_search.proofs.first_of.Given as goal

abbrev pub invariant-loop-k : goal.invariant-loop-k
invariant-loop-k l = head_of (marks l.line (flags l.words)) ≡ head_of (marks (l.line + 64 * l.k) (flags (drop l.k l.words)))
