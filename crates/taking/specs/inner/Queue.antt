-- The queue of the taking call as the code keeps it: what the contracts of private functions cite. Assumes nothing.
use Rattle.std.specs.Prelude.{ℕ, ◌+◌, ◌≡◌, cond, List, drop, eqb, Option}
use Rattle.stretches.specs.declared.Stretch.{Stretch}
use Rattle.stretches.specs.Stretch as operators
use Rattle.stretches.specs.Front.{Front, None, Some}
use Rattle.stretches.specs.Taking.{AnswerCounts, Order, ends_first, starts_first, top, top_index, span}
use Rattle.taking.specs.declared.queue.Operator.{Operator}
use Rattle.taking.specs.declared.queue.Operator.TheVariants.{Or, And}

-- the algorithms' order, view and operator: or's go by the ends, and's by the starts
abbrev pub order_of : Operator → Order
order_of Or = ends_first
order_of And = starts_first

abbrev pub view_of : Operator → List Front → Front
view_of Or = top ends_first
view_of And = span

abbrev pub op_of : Operator → operators.Op
op_of Or = operators.Or
op_of And = operators.And

-- of the numbers 1 and 2
abbrev pub operator_at : ℕ → Operator
operator_at op = cond (eqb op 1) Or And

-- the better of the item of list i and the top of the later lists
abbrev pub better_of : Order → Front → ℕ → Option (Stretch × ℕ) → Option (Stretch × ℕ)
better_of o None i t = t
better_of o (Some x) i None = Some (x, i)
better_of o (Some x) i (Some t) = cond (o x t.0) (Some (x, i)) (Some t)

-- the top of the queue from list i on, and its list
abbrev pub Topped : Order → List Front → ℕ → Option (Stretch × ℕ) → Type 0
Topped o q i None = top o (drop i q) ≡ None
Topped o q i (Some t) = (top o (drop i q) ≡ Some t.0) × (t.1 ≡ i + top_index o (drop i q))

-- an answer with the counts
abbrev pub handed : Front → List ℕ → AnswerCounts
handed g ks = record { answer = g; counts = ks }
