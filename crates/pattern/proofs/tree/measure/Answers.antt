-- `measure`: the invariants `Outer` and `Inner` hold for every tree that the nodes encode.
-- Assumes nothing.
use Rattle.std.proofs.Common.{◌≡◌, suc, ◌+◌, ◌-◌, ◌<◌, refl, arith}
use mathlib.Core.Path.{subst, ◌∙◌}
use Rattle.std.specs.Ordering.{ord_max, nat_cmp}
use Rattle.std.proofs.Common.{max}
use Rattle.std.proofs.lemmas.Bool.Decides.{nat_tests}
use mathlib.Core.List.{List}
use Prim.Native.Nat.{ℕ}
use Rattle.stretches.specs.Table.{node_at}
use Rattle.pattern.specs.declared.Table.{Table}
use Rattle.pattern.specs.inner.Nodes.{Encodes}
use Rattle.pattern.proofs.Sizing.{Outer, outer-begin, inner-begin, inner-bounds, inner_below, inner-sum, inner-turn, outer-turn, outer-done}
use Rattle.pattern.proofs.tree.measure.Goals as goal

-- the place before which nothing is measured yet, by the node there
here : {tb : Table} {e : Encodes tb} {v : ℕ} {t : Table} {deep : List ℕ} → Outer tb e v t deep → 0 < v → Outer tb e (suc (v - 1)) t deep
here {tb} {e} {v} {t} {deep} o h = let z : v ≡ suc (v - 1) = omega arith in subst (λ x. Outer tb e x t deep) z o

-- the library's maximum is the greater of two
greater : (a b : ℕ) → ord_max nat_cmp a b ≡ max a b
greater a b = grind (arith, nat_tests)

pub loop-w-init : goal.loop-w-init
loop-w-init c = λ e. outer-begin c.args.table.now e

pub loop-seen-init : goal.loop-seen-init
loop-seen-init c = let l = c.loop-w in
    let t = c.args.table.now in (
      omega arith,
      omega arith,
      omega arith,
      λ e. inner-begin t e _ (l.w - 1) _ _ l.table l.depth (here (l.invariant e) c.loop-w-test.true) refl (omega arith) c.arity-seen-end.ensures,
    )

pub bounds-depth-c : goal.bounds-depth-c
bounds-depth-c c = let z = c.requires in
    let l = c.loop-w in
    let i = c.loop-seen in
    omega (arith, z.small, inner_below c.args.table.now z _ _ i.c i.d i._seen _ l.table l.depth (here (l.invariant z) c.loop-w-test.true) (i.invariant.3 z) c.loop-seen-test.true)

pub bounds-table-c : goal.bounds-table-c
bounds-table-c c = let z = c.requires in
    let l = c.loop-w in
    let i = c.loop-seen in
    omega (arith, z.small, inner_below c.args.table.now z _ _ i.c i.d i._seen _ l.table l.depth (here (l.invariant z) c.loop-w-test.true) (i.invariant.3 z) c.loop-seen-test.true)

pub overflow_add-c-in-loop-seen : goal.overflow_add-c-in-loop-seen
overflow_add-c-in-loop-seen c = let z = c.requires in
    let l = c.loop-w in
    let i = c.loop-seen in
    omega (arith, z.small, inner-sum c.args.table.now z _ _ i.c i.d i._seen _ l.table l.depth (here (l.invariant z) c.loop-w-test.true) (i.invariant.3 z) c.loop-seen-test.true)

pub loop-seen-preserved : goal.loop-seen-preserved
loop-seen-preserved c = let t = c.args.table.now in
    let z = c.requires in
    let l = c.loop-w in
    let i = c.loop-seen in
    let b = inner-bounds t z (suc (l.w - 1)) (l.w - 1) (i.c + (node_at l.table.rows i.c).size) c.max-d.result (i._seen + 1) _ (inner-turn t z _ _ i.c i.d i._seen _ l.table l.depth (here (l.invariant z) c.loop-w-test.true) (i.invariant.3 z) c.loop-seen-test.true c.max-d.result (c.max-d.ensures ∙ greater _ _)) in
    (b.1, b.2, b.3, λ e. inner-turn t e _ _ i.c i.d i._seen _ l.table l.depth (here (l.invariant e) c.loop-w-test.true) (i.invariant.3 e) c.loop-seen-test.true c.max-d.result (c.max-d.ensures ∙ greater _ _))

pub loop-w-preserved : goal.loop-w-preserved
loop-w-preserved c = let t = c.args.table.now in
    let l = c.loop-w in
    let i = c.loop-seen in
    λ e. outer-turn t e _ (l.w - 1) i.c i.d i._seen _ l.table l.depth (here (l.invariant e) c.loop-w-test.true) (i.invariant.3 e) c.loop-seen-test.false i.auto._seen-end

pub returns : goal.returns
returns c = λ e. outer-done c.args.table.now e c.loop-w.w c.loop-w.table c.loop-w.depth (omega arith) (c.loop-w.invariant e)
