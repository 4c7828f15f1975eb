-- `list` meets its contract: a list stands from its start to its end place. Assumes nothing.
use Rattle.std.proofs.Common.{ℕ, List, [], ◌≤◌, ◌<◌, arith, length, get_or, sym, ap, ap₂, ◌∙◌}
use Rattle.stretches.specs.Lent.{part}
use Rattle.stretches.specs.inner.Starts.{start_of}
use Rattle.stretches.proofs.Lent.{lists_at, lists_length}
use Rattle.lent.proofs.Cutting.{start-up, ends-inside}
use Rattle.lent.proofs.Lists.list.Goals as goal
use Rattle.lent.proofs.Lists.list.Goals.{After-self}

here : (c : After-self) → c.args.i < length c.self.inside.ends.now
here c = omega (arith, lists_length 0 c.self.inside.items.now c.self.inside.ends.now, ap length c.self.view_is, c.requires)

record Stands (items ends : List ℕ) (i : ℕ) : Type 0 where
  up : start_of ends i ≤ get_or ends i 0
  inside : get_or ends i 0 ≤ length items

stands : (c : After-self) → Stands c.self.inside.items.now c.self.inside.ends.now c.args.i
stands c = record {
  up = start-up c.self.inside.items.now c.self.inside.ends.now c.self.invariant.0 c.args.i (here c);
  inside = ends-inside c.self.inside.items.now c.self.inside.ends.now c.self.invariant.0 c.args.i;
}

pub start_of-requires : goal.start_of-requires
start_of-requires c = here (goal.at.start_of-requires c).After-self

pub offset_bounds-self-inside-i : goal.offset_bounds-self-inside-i
offset_bounds-self-inside-i c = omega (arith, here (goal.at.offset_bounds-self-inside-i c).After-self)

pub bounds-self-inside-i : goal.bounds-self-inside-i
bounds-self-inside-i c = here (goal.at.bounds-self-inside-i c).After-self

pub slice_bounds-result-count : goal.slice_bounds-result-count
slice_bounds-result-count c = let s = stands (goal.at.slice_bounds-result-count c).After-self in omega (arith, s.up)

pub slice_bounds-result-start : goal.slice_bounds-result-start
slice_bounds-result-start c = let s = stands (goal.at.slice_bounds-result-start c).After-self in omega (arith, s.up, s.inside)

pub slice_bounds-result-end : goal.slice_bounds-result-end
slice_bounds-result-end c = let s = stands (goal.at.slice_bounds-result-end c).After-self in omega (arith, s.inside)

pub offset_bounds-self-inside-start_of : goal.offset_bounds-self-inside-start_of
offset_bounds-self-inside-start_of c = let s = stands (goal.at.offset_bounds-self-inside-start_of c).After-self in omega (arith, s.up, s.inside)

pub returns : goal.returns
returns c = ap₂ (part c.self.inside.items.now) c.start_of.ensures c.wide.ensures.0 ∙ sym (lists_at c.self.inside.items.now c.self.inside.ends.now c.args.i) ∙ ap (λ ls. get_or ls c.args.i []) c.self.view_is
