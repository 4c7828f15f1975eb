-- `find::read_all` meets its contract. The loop's invariant: there is an input of which the buffers keep what was read so far.
-- Assumes nothing.
use Rattle.std.proofs.Common.{ℕ, List}
use Rattle.input.specs.Input.{Keeps}
use Rattle.find.proofs.read_all.Given as goal

abbrev pub invariant-loop : goal.invariant-loop
invariant-loop g l = (input : List ℕ) × Keeps input l.t l.pattern l.log
