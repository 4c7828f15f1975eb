-- `picks::pick_all` meets its contract. Assumes nothing.
use Prim.Native.Nat.{ℕ}
use mathlib.Core.Path.{◌≡◌, refl, subst}
use lib.ListN.{length-set}
use native.Mathlib.Omega.{arith}
use Rattle.seek.specs.Source.{source_of, list_over}
use Rattle.picks.specs.inner.Passes.{Wrote}
use Rattle.picks.proofs.Picking.{pick-lying, pick_end, pick-none, pick_some}
use Rattle.picks.proofs.pick_all.Goals as goal

pub shortest_left-requires : goal.shortest_left-requires
shortest_left-requires c = let l = c.loop-n in let s = c.args.searched.now in
    (c.requires, omega (arith, l.invariant.1.some), pick-lying (source_of s) s.rows.now c.requires c.args.k c.args.cells.now l.cells l.n (omega arith) l.invariant.1)

pub returns-in_default : goal.returns-in_default
returns-in_default c = let l = c.loop-n in let s = c.args.searched.now in
    pick-none (source_of s) s.rows.now c.requires c.args.k c.args.cells.now l.cells l.n (omega arith) l.invariant.1 (omega arith) (omega arith) _ c.in_default.ensures refl

pub loop-n-preserved : goal.loop-n-preserved
loop-n-preserved c = let l = c.loop-n in let s = c.args.searched.now in
    (simp (length-set, length-set) (omega arith), pick_some (source_of s) s.rows.now c.requires c.args.k c.args.cells.now l.cells l.n (omega arith) l.invariant.1 (omega arith) (omega arith) _ c.in-Some.ensures refl (omega arith))

pub returns : goal.returns
returns c = let l = c.loop-n in let s = c.args.searched.now in
    let n : l.n ≡ c.min-most.result = omega arith in
    subst (λ (m : ℕ). Wrote c.args.k (list_over (source_of s) s.rows.now 0) c.args.cells.now m l.cells) n
    (pick_end (source_of s) s.rows.now c.requires c.args.k c.args.cells.now l.cells l.n (omega arith) l.invariant.1 (omega arith) (omega arith))
