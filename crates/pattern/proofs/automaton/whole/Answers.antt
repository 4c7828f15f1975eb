-- `whole`: the sum of the operands still to come is small.
-- Assumes nothing.
use native.Mathlib.Omega.{arith}
use Rattle.pattern.proofs.KindLaws.{arity-below}
use Rattle.pattern.proofs.automaton.whole.Goals as goal

pub overflow_add-need : goal.overflow_add-need
overflow_add-need c = omega (arith, c.arity.ensures, arity-below c.args.node.kind c.args.node.first)
