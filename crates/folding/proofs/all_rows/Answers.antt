-- `folding::all_rows` meets its contract. The loop's invariant: the operands from c on decide. Assumes nothing.
use Prim.Native.Nat.{ℕ, ◌+◌}
use mathlib.Core.Path.{◌≡◌, sym, ap, subst, ◌∙◌}
use mathlib.Core.Bool.{true, false}
use mathlib.Core.List.{List}
use native.Mathlib.Omega.{arith}
use Rattle.stretches.specs.declared.Node.{Node}
use Rattle.stretches.specs.Table.{stop_of, operands_up}
use Rattle.stretches.proofs.Table.{stop-most}
use Rattle.nodes.specs.declared.Operands.{Operands}
use Rattle.nodes.specs.Among.{Among}
use Rattle.nodes.proofs.Operand.{given, all_given}
use Rattle.folding.specs.Fold.{rows_before}
use Rattle.folding.proofs.FoldSteps.{rows-turn, rows_end}
use Rattle.folding.proofs.all_rows.Goals as goal

-- what the call of `operands_of` gives
abbrev Begun : List Node → ℕ → Operands → Type 0
Begun rows v s = Among rows v s × (s.at ≡ v + 1)

pub loop-c-init : goal.loop-c-init
loop-c-init c =
    let a = c.args in
    let o = subst (Begun a.rows.now a.v) (sym c.into_iter-c-iterator.ensures.into_iter_gives) (c.operands_of-c-items.ensures.operands (omega (arith, c.requires))) in
    (o.0, ap (λ (n : ℕ). rows_before a.rows.now a.width a.free (operands_up a.rows.now (stop_of a.rows.now a.v) n)) o.1)

pub returns-then-not-is_row : goal.returns-then-not-is_row
returns-then-not-is_row c =
    let a = c.args in
    let i = c.loop-c.invariant in
    let o = given i.0 c.in-Some.ensures.steps in
    sym (rows-turn a.rows.now a.width a.free (stop_of a.rows.now a.v) (stop-most a.rows.now a.v) _ false o.inside (sym c.is_row.ensures ∙ c.if-not-is_row.true))
    ∙ ap (λ (n : ℕ). rows_before a.rows.now a.width a.free (operands_up a.rows.now (stop_of a.rows.now a.v) n)) o.here ∙ i.1

pub loop-c-preserved : goal.loop-c-preserved
loop-c-preserved c =
    let a = c.args in
    let i = c.loop-c.invariant in
    let o = given i.0 c.in-Some.ensures.steps in
    let left = λ (n : ℕ). rows_before a.rows.now a.width a.free (operands_up a.rows.now (stop_of a.rows.now a.v) n) in
    (o.among, ap left o.next ∙ sym (rows-turn a.rows.now a.width a.free (stop_of a.rows.now a.v) (stop-most a.rows.now a.v) _ true o.inside (sym c.is_row.ensures ∙ c.if-not-is_row.false)) ∙ ap left o.here ∙ i.1)

pub returns : goal.returns
returns c =
    let a = c.args in
    let i = c.loop-c.invariant in
    sym (rows_end a.rows.now a.width a.free (stop_of a.rows.now a.v) (stop-most a.rows.now a.v) _ (all_given i.0 c.in-None.ensures.steps)) ∙ i.1
