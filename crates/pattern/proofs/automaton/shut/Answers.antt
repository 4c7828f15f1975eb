-- `shut`: the sum of the operands still to come is small.
-- Assumes nothing.
use native.Mathlib.Omega.{arith}
use Rattle.pattern.proofs.KindLaws.{arity-below}
use Rattle.pattern.proofs.automaton.shut.Goals as goal

pub overflow_add-n : goal.overflow_add-n
overflow_add-n c = omega (arith, c.arity.ensures, arity-below c.args.node.kind c.args.node.first)
