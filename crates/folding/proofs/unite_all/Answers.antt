-- `folding::unite_all` meets its contract. The loop's invariant: the operands from u on are left to be united. Assumes nothing.
use Prim.Native.Nat.{ℕ, ◌+◌}
use mathlib.Core.Path.{◌≡◌, refl, sym, ap, ap₂, subst, ◌∙◌}
use mathlib.Core.List.{List}
use native.Mathlib.Omega.{arith}
use lib.ListN.{length}
use Rattle.stretches.specs.declared.Node.{Node}
use Rattle.stretches.specs.Table.{first_at, stop_of, operands_up}
use Rattle.stretches.proofs.Table.{stop-most}
use Rattle.nodes.specs.declared.Operands.{Operands}
use Rattle.nodes.specs.Among.{Among}
use Rattle.nodes.proofs.Operand.{given, all_given}
use Rattle.marks.proofs.United.{united-length}
use Rattle.folding.specs.inner.Uniting.{united_all}
use Rattle.folding.proofs.FoldSteps.{unite-turn, unite-end}
use Rattle.folding.proofs.unite_all.Goals as goal

-- what the call of `operands_of` gives
abbrev Begun : List Node → ℕ → Operands → Type 0
Begun rows v s = Among rows v s × (s.at ≡ v + 1)

pub loop-u-init : goal.loop-u-init
loop-u-init c =
    let a = c.args in
    let o = subst (Begun a.rows.now a.v) (sym c.into_iter-u-iterator.ensures.into_iter_gives) (c.operands_of-u-items.ensures.operands (omega (arith, c.requires))) in
    (o.0, refl, ap (λ (n : ℕ). united_all a.rows.now a.words.now a.to a.width (operands_up a.rows.now (stop_of a.rows.now a.v) n)) o.1)

pub loop-u-preserved : goal.loop-u-preserved
loop-u-preserved c =
    let a = c.args in
    let l = c.loop-u in
    let r = a.rows.now in
    let stop = stop_of r a.v in
    let o = given l.invariant.0 c.in-Some.ensures.steps in (
      o.among,
      ap length c.unite.ensures ∙ united-length l.words a.to (first_at r c.in-Some.u) a.width ∙ l.invariant.1,
      ap₂ (λ (w : List ℕ) (n : ℕ). united_all r w a.to a.width (operands_up r stop n)) c.unite.ensures o.next
          ∙ sym (unite-turn r a.to a.width stop (stop-most r a.v) l.words _ o.inside)
          ∙ ap (λ (n : ℕ). united_all r l.words a.to a.width (operands_up r stop n)) o.here ∙ l.invariant.2,
    )

pub returns : goal.returns
returns c =
    let a = c.args in
    let l = c.loop-u in
    sym (unite-end a.rows.now a.to a.width (stop_of a.rows.now a.v) (stop-most a.rows.now a.v) l.words _ (all_given l.invariant.0 c.in-None.ensures.steps)) ∙ l.invariant.2
