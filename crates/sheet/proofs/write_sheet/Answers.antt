-- `sheet::write_sheet` meets its contract.
-- Assumes nothing.
use mathlib.Core.Path.{subst}
use mathlib.Core.List.{List}
use Prim.Native.Nat.{ℕ}
use Rattle.print.specs.Print.{Writes}
use Rattle.sheet.specs.Sheet.{reply_of}
use Rattle.sheet.proofs.Sheets.{sheet-refused, sheet-found}
use Rattle.sheet.proofs.write_sheet.Goals as goal

pub returns-then-f-ne0 : goal.returns-then-f-ne0
returns-then-f-ne0 c = let a = c.args in
    let w = c.write_refused in
    subst (λ (s : List ℕ). Writes s a.out.now w.result w.new.out) (sheet-refused (reply_of a.f) a.log.now a.cells.now c.if-f-ne0.true) w.ensures

pub returns : goal.returns
returns c = let a = c.args in
    let n = c.count-c in
    let w = c.write_found in
    subst (λ (s : List ℕ). Writes s a.out.now w.result w.new.out) (sheet-found (reply_of a.f) a.log.now a.cells.now n.result c.if-f-ne0.false n.ensures) w.ensures
