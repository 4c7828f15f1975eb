-- `folding::fold_or` meets its contract: each return is one law. Assumes nothing.
use mathlib.Core.Path.{◌≡◌, ap, ◌∙◌}
use mathlib.Core.Bool.{true, cond}
use native.Mathlib.Omega.{arith}
use mathlib.Core.List.{[]}
use lib.ListN.{length}
use Rattle.marks.specs.Row.{lies, with_row}
use Rattle.marks.proofs.Rows.{said, lies-true}
use Rattle.folding.proofs.FoldSteps.{or-full, or-other, or-made}
use Rattle.folding.proofs.fold_or.Goals as goal
use Rattle.folding.proofs.fold_or.Goals.{Else-not-inside, then-not-inside-via-then-not-inside, then-not-inside-via-else-not-inside+then-not-all_rows}

-- past the first test there is room
room : (c : Else-not-inside) → let a = c.args in lies (length a.words.now) a.free a.width ≡ true
room c = said c.inside.ensures c.if-not-inside.false

pub returns-then-not-inside : goal.returns-then-not-inside
returns-then-not-inside c = let a = c.args in
    elim c.then-not-inside.branch [
      | then-not-inside-via-then-not-inside w ↦ or-full a.rows.now a.words.now a.width a.free a.v (said c.inside.ensures w.if-not-inside.true)
      | then-not-inside-via-else-not-inside+then-not-all_rows w ↦ or-other a.rows.now a.words.now a.width a.free a.v (said c.inside.ensures w.if-not-inside.false) (said w.all_rows.ensures w.if-not-all_rows.true)
    ]

pub overflow_add-result : goal.overflow_add-result
overflow_add-result c = let a = c.args in
    omega (arith, lies-true (length a.words.now) a.free a.width (room (goal.at.overflow_add-result c).Else-not-inside))

pub returns : goal.returns
returns c = let a = c.args in
    let r = room (goal.at.returns c).Else-not-inside in
    or-made a.rows.now a.words.now a.width a.free a.v r (said c.all_rows.ensures c.if-not-all_rows.false)
    (c.clear.ensures ∙ ap (λ b. cond b (with_row a.words.now a.free a.width []) a.words.now) r) c.unite_all.ensures c.put_row.ensures
