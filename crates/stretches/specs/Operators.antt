-- The operators by number, and a node's list from its operands' lists: docs/FORMATS.md, "Lent lists". Assumes nothing.
use Rattle.std.specs.Prelude.{ℕ, zero, suc, ◌≡◌, refl, List, [], ◌∷◌, map}
use Rattle.std.proofs.Math.Option.{Option, none, some}
use Rattle.stretches.specs.Stretch.{Stretch, length_of, Op, Or, And, Row, Then, Less, Max, Inside, Outside, Holding, answers}

-- 1 or, 2 and, 3 row, 4 then, 5 less, 6 max, which has the measure m and the bound k, 7 in, 8 out, 9 has
abbrev pub operators : (Stretch → ℕ) → ℕ → List Op
operators m k = Or ∷ And ∷ Row ∷ Then ∷ Less ∷ Max m k ∷ Inside ∷ Outside ∷ Holding ∷ []

-- number n of these, the first being 0
abbrev pub among : List Op → ℕ → Option Op
among [] n = none
among (o ∷ os) zero = some o
among (o ∷ os) (suc n) = among os n

-- the operator of a number; none: it is no operator's
abbrev pub operator_of : (Stretch → ℕ) → ℕ → ℕ → Option Op
operator_of m zero k = none
operator_of m (suc n) k = among (operators m k) n

-- a node over the lists of its operands: an operator's answers, else its own list
abbrev pub apply : Option Op → List Stretch → List (List Stretch) → List Stretch
apply none own ls = own
apply (some o) own ls = answers o ls

ex-operators : map (λ n. operator_of length_of n 9) (0 ∷ 1 ∷ 2 ∷ 3 ∷ 4 ∷ 5 ∷ 6 ∷ 7 ∷ 8 ∷ 9 ∷ 10 ∷ [])
    ≡ none ∷ some Or ∷ some And ∷ some Row ∷ some Then ∷ some Less ∷ some (Max length_of 9) ∷ some Inside ∷ some Outside ∷ some Holding ∷ none ∷ []
ex-operators = refl
