-- `picks::shortest_left` meets its contract. Assumes nothing.
use Prim.Native.Nat.{◌+◌}
use mathlib.Core.Path.{refl, subst, sym}
use Rattle.seek.specs.declared.state.State.{State}
use Rattle.seek.specs.Source.{source_of}
use Rattle.picks.specs.inner.Passes.{held_in}
use Rattle.picks.proofs.Passes.{Short, short-none, Pass, pass-start, pass-end, pass-lies, pass-take, pass-skip}
use Rattle.stretches.specs.Front.{Front, None}
use Rattle.picks.proofs.shortest_left.Goals as goal
use Rattle.picks.proofs.shortest_left.Goals.{in_default-next-via-in-Some-next+else-p-f, in_default-next-via-in_default-next}

pub loop-f-init : goal.loop-f-init
loop-f-init c = let s = c.args.searched.now in let ps = held_in c.args.cells.now c.args.n in
    subst (λ (x : State). Pass (source_of s) s.rows.now ps x None c.next_pick-next.result 0) (sym c.new-st.ensures) (pass-start (source_of s) s.rows.now ps c.requires.0 c.requires.2 c.next_pick-next.ensures)

pub loop-f-preserved-then-p-f : goal.loop-f-preserved-then-p-f
loop-f-preserved-then-p-f c = let s = c.args.searched.now in
    pass-skip (source_of s) s.rows.now (held_in c.args.cells.now c.args.n) c.requires.0 c.requires.2 c.loop-f.invariant c.in-Some.ensures.first_of refl c.in-Some-next.is c.if-p-f.true c.next_pick-next-in-Some-next.ensures

pub better-best-requires : goal.better-best-requires
better-best-requires c = let s = c.args.searched.now in
    ((pass-lies (source_of s) s.rows.now (held_in c.args.cells.now c.args.n) c.requires.0 c.requires.2 c.loop-f.invariant c.in-Some.ensures.first_of refl).0, c.loop-f.invariant.upright)

pub loop-f-preserved : goal.loop-f-preserved
loop-f-preserved c = let s = c.args.searched.now in
    let take = λ (h : Short c.in-Some.f c.loop-f.next). pass-take (source_of s) s.rows.now (held_in c.args.cells.now c.args.n) c.requires.0 c.requires.2 c.loop-f.invariant c.in-Some.ensures.first_of refl h c.better-best.ensures in
    let on = λ (r : Front). Pass (source_of s) s.rows.now (held_in c.args.cells.now c.args.n) c.first.new.st c.better-best.result r (c.in-Some.f.start + 1) in
    elim c.in_default-next.branch [
      | in_default-next-via-in-Some-next+else-p-f w ↦ subst on (sym w.next-is) (subst on w.in-Some-next.is (take (subst (Short c.in-Some.f) (sym w.in-Some-next.is) w.if-p-f.false)))
      | in_default-next-via-in_default-next w ↦ subst on (sym w.next-is) (take (short-none c.in-Some.f c.loop-f.next w.in_default-next.not-Some))
    ]

pub returns : goal.returns
returns c = let s = c.args.searched.now in
    pass-end (source_of s) s.rows.now (held_in c.args.cells.now c.args.n) c.requires.0 c.requires.2 c.loop-f.invariant c.in_default.ensures.first_of refl
