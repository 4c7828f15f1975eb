-- `print::put_rows` meets its contract. The loop's invariant: the lines that are left, written from `place` on, would end the writing. Assumes nothing.
use Rattle.std.proofs.Common.{◌≡◌, ◌+◌, length, drop}
use Rattle.std.proofs.lemmas.List.Edits.{sets}
use Rattle.print.specs.Print.{rows}
use Rattle.print.specs.inner.Cells.{stretches_of}
use Rattle.print.proofs.put_rows.Given as goal

abbrev pub invariant-loop-start : goal.invariant-loop-start
invariant-loop-start l =
    let left = rows (stretches_of (drop l.start-index l.cells)) in
    let all = rows (stretches_of l.cells) in
    (length l.out ≡ length l.initial.out) × (l.place + length left ≡ l.at + length all) × (sets l.out l.place left ≡ sets l.initial.out l.at all)
