-- The sheet of what was read. Assumes nothing.
use Prim.Native.Nat.{ℕ}
use mathlib.Core.Path.{◌≡◌, ap₂, ◌∙◌}
use mathlib.Core.List.{List}
use lib.ListN.{length, take}
use native.Mathlib.Omega.{arith}
use Rattle.input.specs.declared.Intake.{Intake}
use Rattle.print.specs.Print.{Writes}
use Rattle.sheet.specs.Sheet.{printed}
use Rattle.print.proofs.Placing.{laid-all}
use Rattle.sheet.proofs.Sheets.{keeps-sheet, short-sheet}
use Rattle.find.specs.Reading.{Held, Prints}

-- the bytes written are the sheet of what was read: the buffer has room for every sheet
pub held-prints : (t : Intake) (p l p' l' out out' s : List ℕ) (r : ℕ) → Held t p l → p' ≡ take t.pattern p → l' ≡ take t.log l → 800000 ≡ length out
    → Writes (printed p' l') out r out' → s ≡ take r out' → Prints t p l s
held-prints t p l p' l' out out' s r h ep el n w e = record {
  input = h.input;
  keeps = h.keeps;
  bytes = e ∙ (laid-all (printed p' l') out r out' w (omega (arith, short-sheet p' l')) ∙ (ap₂ printed ep el ∙ keeps-sheet h.input t p l h.keeps h.pattern h.log));
}
