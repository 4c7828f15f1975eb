-- What an operator shows of its operands, as the search finds it: each the first of its operand's list from some line on, or to one. Laws cite this.
-- Assumes nothing.
use Rattle.std.specs.Prelude.{ℕ, suc, Bool, true, false, cond, ◌||◌, List, [], ◌∷◌, leb, eqb}
use Rattle.stretches.specs.Stretch.{Stretch, Alone, Holder, Inner, Op, Or, And, Row, Then, Keep}
use Rattle.stretches.specs.Front.{Front, None, Some, first_from, first_to}
use Rattle.stretches.specs.Table.{chain_kind, proof_kind}
use Rattle.stretches.specs.Shown.{nothing}

-- the operators that show each operand, by number: `and`, `row` and `then`, `in` and `has`
abbrev pub each_kind : ℕ → Bool
each_kind k = eqb k 2 || (chain_kind k || proof_kind k)

-- `in`, whose B is sought by the answer's end
abbrev pub by_end_kind : ℕ → Bool
by_end_kind k = eqb k 7

-- one operand alone is shown
abbrev pub alone : Op → Bool
alone Or = true
alone And = false
alone Row = false
alone Then = false
alone (Keep f Alone) = true
alone (Keep f Holder) = false
alone (Keep f Inner) = false

-- each operand is sought behind the one before
abbrev pub chained : Op → Bool
chained Or = false
chained And = false
chained Row = true
chained Then = true
chained (Keep f b) = false

-- the operands behind the first are sought by the answer's end
abbrev pub by_end : Op → Bool
by_end Or = false
by_end And = false
by_end Row = false
by_end Then = false
by_end (Keep f Alone) = false
by_end (Keep f Holder) = true
by_end (Keep f Inner) = false

-- the front if it passes the test; else none
abbrev pub only_if : (Stretch → Bool) → Front → Front
only_if f None = None
only_if f (Some y) = cond (f y) (Some y) None

-- for the answer x, of an operand: its front from line t on, if it does not end behind x; by_end: its first to x's end, if it does not start behind x's start
abbrev pub found_one : Bool → Stretch → ℕ → List Stretch → Front
found_one false x t l = only_if (λ y. leb y.end x.end) (first_from l t)
found_one true x t l = only_if (λ y. leb y.start x.start) (first_to l x.end)

-- an operand's, and then what comes behind one that is there, or behind none
abbrev pub and_then : Front → (Stretch → List Front) → List Front → List Front
and_then None f r = None ∷ r
and_then (Some y) f r = Some y ∷ f y

-- these of each operand, or of one alone; chained: each sought behind the one before; h and k: the first, and the later ones, sought by the answer's end
abbrev pub found_below : Bool → Bool → Bool → Bool → Stretch → ℕ → List (List Stretch) → List Front
found_below a c h k x t [] = []
found_below a c h k x t (l ∷ ls) = and_then (found_one h x t l) (λ y. cond a (nothing ls) (found_below a c k k x (cond c (suc y.end) t) ls)) (found_below a c k k x t ls)
