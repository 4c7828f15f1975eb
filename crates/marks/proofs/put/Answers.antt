-- `marks::put` meets its contract: the word of line p has its bit set by `or` with that bit alone, or cleared by `and` with all bits but that one. Assumes nothing.
use Rattle.std.proofs.Common.{sym, ◌∙◌, arith}
use Rattle.marks.proofs.Changing.{unchanged-outside, unchanged-past, set_line, unset-line}
use Rattle.marks.proofs.put.Goals as goal
use Rattle.marks.proofs.put.Goals.{then-marked, else-marked, else-inside-via-then-inside+else-p-width, else-inside-via-else-inside}

pub returns-after-marked : goal.returns-after-marked
returns-after-marked c = let a = c.args in
    let h = sym c.inside.ensures ∙ c.if-inside.true in
    elim c.if-marked.branch [
      | then-marked w ↦ rw (w.word-is, w.if-marked.true) (set_line a.words.now a.at a.width a.p h (omega arith) (omega arith))
      | else-marked w ↦ rw (w.word-is, w.if-marked.false) (unset-line a.words.now a.at a.width a.p h (omega arith) (omega arith))
    ]

pub returns-else-inside : goal.returns-else-inside
returns-else-inside c = let a = c.args in
    elim c.else-inside.branch [
      | else-inside-via-then-inside+else-p-width w ↦ unchanged-past a.marked a.words.now a.at a.width a.p (omega arith)
      | else-inside-via-else-inside w ↦ unchanged-outside a.marked a.words.now a.at a.width a.p (sym c.inside.ensures ∙ w.if-inside.false)
    ]
