-- The input that is left grows shorter. Assumes nothing.
use Rattle.std.proofs.Common.{length}
use Rattle.pattern_cases.proofs.patterns.Given as goal

abbrev pub decreases-loop-left : goal.decreases-loop-left
decreases-loop-left g l = length l.left
