-- `shrink` meets its contract: a turn of the code is a turn of the definition. Assumes nothing.
use Rattle.std.proofs.Common.{◌+◌, ◌-◌, suc, arith, sym, ap, ◌∙◌}
use Rattle.stretches.specs.Taking.{total, is_top}
use Rattle.taking.proofs.Turns.{Turn, shrink-start, shrink-top, shrink-over, shrink_none, shrink-out, shrink-turn}
use Rattle.taking.proofs.algorithm.shrink.Goals as goal
use Rattle.taking.proofs.algorithm.shrink.Goals.{After-advance}

turn : (c : After-advance) → Turn c.args.lists.now c.loop-turn.c c.loop-turn.counts (suc (total c.args.lists.now)) c.loop-turn._turn c.advance.new.counts
turn c = record {
  within = omega arith;
  apart = ap (λ g. is_top g c.loop-turn.c) (sym c.top.ensures) ∙ (sym c.is_top.ensures ∙ c.if-is_top.false);
  moved = c.advance.ensures;
}

pub loop-turn-init : goal.loop-turn-init
loop-turn-init c = shrink-start c.args.lists.now c.args.c c.args.counts.now (suc (total c.args.lists.now))

pub returns-then-is_top : goal.returns-then-is_top
returns-then-is_top c =
    sym (c.loop-turn.invariant ∙ shrink-top c.args.lists.now c.loop-turn.c c.loop-turn.counts (suc (total c.args.lists.now) - c.loop-turn._turn) (ap (λ g. is_top g c.loop-turn.c) (sym c.top.ensures) ∙ (sym c.is_top.ensures ∙ c.if-is_top.true)))

pub returns-in_default : goal.returns-in_default
returns-in_default c = sym (c.loop-turn.invariant ∙ shrink-out (turn (goal.at.returns-in_default c).After-advance) c.in-Some.s c.in-Some.ensures (sym c.inside.ensures ∙ c.if-inside.false))

pub returns-in_default-2 : goal.returns-in_default-2
returns-in_default-2 c = sym (c.loop-turn.invariant ∙ shrink_none (turn (goal.at.returns-in_default-2 c).After-advance) c.in_default.ensures)

pub loop-turn-preserved : goal.loop-turn-preserved
loop-turn-preserved c = c.loop-turn.invariant ∙ shrink-turn (turn (goal.at.loop-turn-preserved c).After-advance) c.in-Some.s c.in-Some.ensures (sym c.inside.ensures ∙ c.if-inside.true)

-- after the last turn
pub returns-in-Some : goal.returns-in-Some
returns-in-Some c =
    sym (c.loop-turn.invariant ∙ (shrink-turn (turn (goal.at.returns-in-Some c).After-advance) c.in-Some.s c.in-Some.ensures (sym c.inside.ensures ∙ c.if-inside.true)
    ∙ shrink-over c.args.lists.now c.in-Some.s c.advance.new.counts (suc (total c.args.lists.now)) (c.loop-turn._turn + 1) (omega arith)))

pub returns : goal.returns
returns c = sym (c.loop-turn.invariant ∙ shrink-over c.args.lists.now c.loop-turn.c c.loop-turn.counts (suc (total c.args.lists.now)) c.loop-turn._turn (omega arith))
