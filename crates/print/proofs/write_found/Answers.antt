-- `print::write_found` meets its contract.
-- Assumes nothing.
use Rattle.std.proofs.Common.{rules, arith, ap, length, ◌∙◌, ◌<◌, ◌≡◌, subst, take}
use Rattle.std.proofs.lemmas.Grind.{common_steps}
use Rattle.print.specs.Print.{found_sheet, shown, Writes}
use Rattle.print.specs.inner.Cells.{stretches_of}
use Rattle.print.proofs.Placing.{laid-not}
use Rattle.print.proofs.Printed.{shown_held}
use Rattle.print.proofs.Written.{found-laid, room-found}
use Rattle.print.proofs.write_found.Goals as goal

pub returns-then-not-found_fits : goal.returns-then-not-found_fits
returns-then-not-found_fits c =
    let a = c.args in
    let f = c.first-answers in
    let e : stretches_of f.result.now ≡ shown a.count a.cells.now = ap stretches_of (f.ensures.result_value ∙ ap (take a.count) c.as_chunks.ensures.front) ∙ shown_held a.count a.cells.now in
    let s = found_sheet a.lines a.damaged (stretches_of f.result.now) in
    let h : length a.out.now < length s = grind (arith, common_steps) in
    subst (λ l. Writes (found_sheet a.lines a.damaged l) a.out.now 0 a.out.now) e (laid-not s a.out.now h)

pub put_letter-requires : goal.put_letter-requires
put_letter-requires c = omega (arith, room-found c.args.lines c.args.damaged c.first-answers.result.now (length c.args.out.now) (c.if-not-found_fits.ensures.0 (search rules)))

pub put_field-second-requires : goal.put_field-second-requires
put_field-second-requires c = omega (arith, room-found c.args.lines c.args.damaged c.first-answers.result.now (length c.args.out.now) (c.if-not-found_fits.ensures.0 (search rules)))

pub put_field-third-requires : goal.put_field-third-requires
put_field-third-requires c = omega (arith, room-found c.args.lines c.args.damaged c.first-answers.result.now (length c.args.out.now) (c.if-not-found_fits.ensures.0 (search rules)))

pub put_field-first_row-requires : goal.put_field-first_row-requires
put_field-first_row-requires c = omega (arith, room-found c.args.lines c.args.damaged c.first-answers.result.now (length c.args.out.now) (c.if-not-found_fits.ensures.0 (search rules)))

pub put_rows-requires : goal.put_rows-requires
put_rows-requires c = omega (arith, room-found c.args.lines c.args.damaged c.first-answers.result.now (length c.args.out.now) (c.if-not-found_fits.ensures.0 (search rules)))

pub returns : goal.returns
returns c =
    let a = c.args in
    let f = c.first-answers in
    let e : stretches_of f.result.now ≡ shown a.count a.cells.now = ap stretches_of (f.ensures.result_value ∙ ap (take a.count) c.as_chunks.ensures.front) ∙ shown_held a.count a.cells.now in
    let o₀ = c.put_letter in
    let o₁ = c.put_field-second in
    let o₂ = c.put_field-third in
    let o₃ = c.put_field-first_row in
    let o₄ = c.put_rows in
    subst (λ l. Writes (found_sheet a.lines a.damaged l) a.out.now o₄.result o₄.new.out) e
    (found-laid a.lines a.damaged f.result.now a.out.now o₀.new.out o₁.new.out o₂.new.out o₃.new.out o₄.new.out o₁.result o₂.result o₃.result o₄.result
    (c.if-not-found_fits.ensures.0 (search rules)) o₀.ensures o₁.ensures o₂.ensures o₃.ensures o₄.ensures)
