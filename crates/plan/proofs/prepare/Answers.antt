-- `plan::prepare` meets its contract. Assumes nothing.
use mathlib.Core.Path.{◌≡◌, sym, ap, ◌∙◌}
use mathlib.Core.List.{List}
use Rattle.leaves.specs.declared.Leaf.{Leaf}
use Rattle.leaves.specs.Leaves.{gathered, leaves_of}
use Rattle.plan.specs.Plan.{planned}
use Rattle.plan.proofs.Planning.{prepare-not, prepare-is}
use Rattle.plan.proofs.prepare.Goals as goal
use Rattle.plan.proofs.prepare.Goals.{After-fit}

-- the leaves are the table's
of_table : (c : After-fit) → c.as_slice-list.result.now ≡ leaves_of c.args.rows.now
of_table c = c.as_slice-list.ensures.0 ∙ c.gather.ensures ∙ ap (gathered c.args.rows.now) c.new-leaves.ensures

pub returns-then-not-fit : goal.returns-then-not-fit
returns-then-not-fit c = let a = c.args in
    let r = prepare-not a.rows.now a.log.now a.width a.words.now a.sound.now (of_table (goal.at.returns-then-not-fit c).After-fit) c.fit.ensures c.if-not-fit.true in
    record { value = r.0; words_after = r.1; sound_after = r.2 }

pub returns : goal.returns
returns c = let a = c.args in
    let table = c.plan.ensures ∙ ap (λ (l : List Leaf). planned l a.width a.rows.now) (sym c.as_slice-list.ensures.0) in
    let r = prepare-is a.rows.now a.log.now a.width a.words.now a.sound.now (of_table (goal.at.returns c).After-fit) c.fit.ensures c.if-not-fit.false c.mark.ensures.words_after c.mark.ensures.sound_after table c.fold.ensures.rows_after c.fold.ensures.words_after in
    record { value = r.0; words_after = r.1; sound_after = r.2 }
