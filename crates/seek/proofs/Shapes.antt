-- The operators' numbers. Assumes nothing.
use mathlib.Core.Logic.{◌⊎◌, inl, inr}
use mathlib.Core.Path.{◌≡◌, refl}
use Prim.Native.Nat.{ℕ, zero, suc, ◌<◌}
use native.Mathlib.Omega.{arith}
use mathlib.Core.Bool.{true, false}
use lib.Dec.{eqb}
use borrow.Author.Tests.{eqb-true, eqb-false}
use Rattle.basics.proofs.Basics.{or-true, or-false}
use Rattle.stretches.specs.Table.{chain_kind}
use Rattle.seek.specs.inner.Looks.{Narrows, Skips}

-- a chain's number, and one that no chain has
pub chains : (k : ℕ) → chain_kind k ≡ true → (k ≡ 3) ⊎ (k ≡ 4)
chains k e = go (or-true (eqb k 3) (eqb k 4) e)
  where
    go : (eqb k 3 ≡ true) ⊎ (eqb k 4 ≡ true) → (k ≡ 3) ⊎ (k ≡ 4)
    go (inl h) = inl (eqb-true k 3 h)
    go (inr h) = inr (eqb-true k 4 h)

pub no-chain : (k : ℕ) → chain_kind k ≡ false → (k ≡ 3 → ⊥) × (k ≡ 4 → ⊥)
no-chain k e = let n = or-false (eqb k 3) (eqb k 4) e in (eqb-false k 3 n.0, eqb-false k 4 n.1)

-- a filter's number, by cases
pub filter-kind : (P : ℕ → Type 0) (k : ℕ) → 4 < k → k < 10 → P 5 → P 6 → P 7 → P 8 → P 9 → P k
filter-kind P zero a b p5 p6 p7 p8 p9 = absurd (omega arith)
filter-kind P (suc zero) a b p5 p6 p7 p8 p9 = absurd (omega arith)
filter-kind P (suc (suc zero)) a b p5 p6 p7 p8 p9 = absurd (omega arith)
filter-kind P (suc (suc (suc zero))) a b p5 p6 p7 p8 p9 = absurd (omega arith)
filter-kind P (suc (suc (suc (suc zero)))) a b p5 p6 p7 p8 p9 = absurd (omega arith)
filter-kind P (suc (suc (suc (suc (suc zero))))) a b p5 p6 p7 p8 p9 = p5
filter-kind P (suc (suc (suc (suc (suc (suc zero)))))) a b p5 p6 p7 p8 p9 = p6
filter-kind P (suc (suc (suc (suc (suc (suc (suc zero))))))) a b p5 p6 p7 p8 p9 = p7
filter-kind P (suc (suc (suc (suc (suc (suc (suc (suc zero)))))))) a b p5 p6 p7 p8 p9 = p8
filter-kind P (suc (suc (suc (suc (suc (suc (suc (suc (suc zero))))))))) a b p5 p6 p7 p8 p9 = p9
filter-kind P (suc (suc (suc (suc (suc (suc (suc (suc (suc (suc k)))))))))) a b p5 p6 p7 p8 p9 = absurd (omega arith)

-- an operator but `or` narrows or skips, and none does both
pub operator : (k : ℕ) → 1 < k → k < 10 → Narrows k ⊎ Skips k
operator zero a b = absurd (omega arith)
operator (suc zero) a b = absurd (omega arith)
operator (suc (suc zero)) a b = inl (inl refl)
operator (suc (suc (suc zero))) a b = inr (inl refl)
operator (suc (suc (suc (suc zero)))) a b = inl (inr refl)
operator (suc (suc (suc (suc (suc k))))) a b = inr (inr (omega arith, b))

pub apart : (k : ℕ) → Narrows k → Skips k → ⊥
apart k (inl a) (inl b) = omega arith
apart k (inl a) (inr b) = omega arith
apart k (inr a) (inl b) = omega arith
apart k (inr a) (inr b) = omega arith
