-- Numbers that no operator has. Assumes nothing.
use Prim.Native.Nat.{ℕ, zero, suc, ◌≤◌, ◌<◌}
use mathlib.Core.Path.{◌≡◌, refl}
use mathlib.Core.Logic.{◌⊎◌, inl, inr}
use mathlib.Core.Bool.{true}
use mathlib.Core.List.{List, [], ◌∷◌}
use mathlib.Core.Option.{none}
use lib.ListN.{length}
use lib.Dec.{eqb}
use borrow.Author.Tests.{eqb-true}
use native.Mathlib.Omega.{arith}
use Rattle.basics.proofs.Basics.{or-true}
use Rattle.stretches.specs.Stretch.{Stretch, Op}
use Rattle.stretches.specs.Operators.{operators, among, operator_of}
use Rattle.stretches.specs.Table.{leaf_kind}

among_none : (os : List Op) (n : ℕ) → length os ≤ n → among os n ≡ none
among_none [] n h = refl
among_none (o ∷ os) zero h = absurd (omega arith)
among_none (o ∷ os) (suc n) h = among_none os n (omega arith)

-- past the operators' numbers there is none
pub no-operator : (m : Stretch → ℕ) (n k : ℕ) → 9 < n → operator_of m n k ≡ none
no-operator m zero k h = refl
no-operator m (suc n) k h = among_none (operators m k) n (omega arith)

-- no operator has a leaf's kind
pub leaf-none : (m : Stretch → ℕ) (n k : ℕ) → leaf_kind n ≡ true → operator_of m n k ≡ none
leaf-none m n k h = no-operator m n k (by (or-true (eqb n 16) (eqb n 17) h))
  where
    by : (eqb n 16 ≡ true) ⊎ (eqb n 17 ≡ true) → 9 < n
    by (inl e) = omega (arith, eqb-true n 16 e)
    by (inr e) = omega (arith, eqb-true n 17 e)
