-- What an accepted call is known to have: the refusal is opened test by test. Assumes nothing.
use Prim.Native.Nat.{ℕ}
use mathlib.Core.Path.{◌≡◌, refl}
use mathlib.Core.Bool.{Bool, true, false, cond}
use mathlib.Core.List.{List}
use native.Mathlib.Omega.{arith}
use Rattle.stretches.specs.Lent.{lists_of}
use Rattle.meaning.specs.Refusals.{miscut, disordered, lowest}

-- none of 6 to 8 applies
pub record Accepted (wrong : Bool) (items ends : List ℕ) : Type 0 where
  pub called : wrong ≡ false
  pub cut : miscut items ends ≡ false
  pub order : disordered (lists_of items ends) ≡ false

pub accepted : (wrong : Bool) (items ends : List ℕ) → lowest wrong items ends ≡ 0 → Accepted wrong items ends
accepted wrong items ends h = go wrong (miscut items ends) (disordered (lists_of items ends)) refl refl refl h
  where
    go : (u v w : Bool) → wrong ≡ u → miscut items ends ≡ v → disordered (lists_of items ends) ≡ w → ◌≡◌ {A = ℕ} (cond u 6 (cond v 7 (cond w 8 0))) 0 → Accepted wrong items ends
    go true v w p q r e = absurd (omega arith)
    go false true w p q r e = absurd (omega arith)
    go false false true p q r e = absurd (omega arith)
    go false false false p q r e = record { called = p; cut = q; order = r }
