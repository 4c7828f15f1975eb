-- `witness::show_node` meets its contract: one law for each return and turn of the loop. Assumes nothing.
use Prim.Native.Nat.{ℕ, ◌+◌}
use mathlib.Core.Path.{◌≡◌, refl, sym, subst, ◌∙◌}
use mathlib.Core.List.{List}
use native.Mathlib.Omega.{arith}
use Rattle.stretches.specs.declared.Node.{Node}
use Rattle.stretches.proofs.Table.{stop-most}
use Rattle.nodes.specs.declared.Operands.{Operands}
use Rattle.nodes.specs.Among.{Among}
use Rattle.nodes.proofs.Operand.{given, all_given}
use Rattle.witness.proofs.Showing.{midway_at, node-leaf, node-start, node_end, turn-past, turn_last, turn_more, operand_low}
use Rattle.witness.proofs.+show_node.Goals as goal

-- what the call of `operands_of` gives
abbrev Begun : List Node → ℕ → Operands → Type 0
Begun rows v s = Among rows v s × (s.at ≡ v + 1)

pub returns-then-is_leaf-clause-shown_at : goal.returns-then-is_leaf-clause-shown_at
returns-then-is_leaf-clause-shown_at t c = node-leaf c.put-k.ensures (sym c.is_leaf.ensures ∙ c.if-is_leaf.true)

pub loop-c-init : goal.loop-c-init
loop-c-init t c =
    let o = subst (Begun c.args.rows.now c.args.v) (sym c.into_iter-c-iterator.ensures.into_iter_gives) (c.operands_of-c-items.ensures.operands c.requires.2) in
    (o.0, c.requires.1, midway_at o.1 (node-start (sym c.is_leaf.ensures ∙ c.if-is_leaf.false) c.shows_each-each.ensures c.is_chain-chain.ensures refl))

pub operand-found-requires : goal.operand-found-requires
operand-found-requires t c = let o = given c.loop-c.invariant.0 c.in-Some.ensures.steps in (c.requires.0, c.loop-c.invariant.1, omega (arith, o.inside, stop-most c.args.rows.now c.args.v))

pub returns-then-not-each-clause-shown_at : goal.returns-then-not-each-clause-shown_at
returns-then-not-each-clause-shown_at t c =
    let o = given c.loop-c.invariant.0 c.in-Some.ensures.steps in
    turn_last (midway_at o.here c.loop-c.invariant.2) o.inside c.requires.0 c.operand-found.ensures.value c.in-Some-found.is c.show_node-k.ensures.shown_at c.put-k.ensures c.if-not-each.true

pub after-t-requires : goal.after-t-requires
after-t-requires t c =
    let o = given c.loop-c.invariant.0 c.in-Some.ensures.steps in
    operand_low _ _ _ _ _ _ c.requires.0 (omega (arith, o.inside, stop-most c.args.rows.now c.args.v)) (sym c.operand-found.ensures.value ∙ c.in-Some-found.is)

pub loop-c-preserved-in-Some-found : goal.loop-c-preserved-in-Some-found
loop-c-preserved-in-Some-found t c =
    let o = given c.loop-c.invariant.0 c.in-Some.ensures.steps in (
      o.among,
      c.show_node-k.ensures.ready,
      turn_more (midway_at o.here c.loop-c.invariant.2) o.inside c.requires.0 c.operand-found.ensures.value c.in-Some-found.is c.show_node-k.ensures.shown_at c.if-not-each.false o.next c.after-t.ensures,
    )

pub loop-c-preserved : goal.loop-c-preserved
loop-c-preserved t c =
    let o = given c.loop-c.invariant.0 c.in-Some.ensures.steps in
    (o.among, c.operand-found.ensures.ready, turn-past (midway_at o.here c.loop-c.invariant.2) o.inside c.requires.0 c.operand-found.ensures.value c.in_default.is o.next)

pub returns-clause-shown_at : goal.returns-clause-shown_at
returns-clause-shown_at t c = node_end c.loop-c.invariant.2 c.put-k.ensures (all_given c.loop-c.invariant.0 c.in-None.ensures.steps)
