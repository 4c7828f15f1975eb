-- `run` meets its contract: a call of next is one of the definition, and after none nothing moves. Assumes nothing.
use Rattle.std.proofs.Common.{◌≡◌, ◌+◌, length, arith, sym, ap, ◌∙◌}
use Rattle.stretches.specs.Front.{Front, Some}
use Rattle.stretches.specs.Taking.{taking}
use Rattle.taking.specs.inner.Queue.{op_of, handed}
use Rattle.taking.proofs.Runs.{run-first, run-turn, run_none}
use Rattle.taking.proofs.algorithm.run.Goals as goal
use Rattle.taking.proofs.algorithm.run.Goals.{After-next, After-next-in-loop-p}

first : (c : After-next) → handed c.next.result c.next.new.counts ≡ taking (op_of c.args.op) c.args.lists.now 0
first c = run-first c.args.op c.args.lists.now (length c.args.counts.now) c.fill.new.self (handed c.next.result c.next.new.counts) (c.fill.ensures.after (λ y e. e)) c.requires.room c.next.ensures

later : (c : After-next-in-loop-p) → handed c.next-in-loop-p.result c.next-in-loop-p.new.counts ≡ taking (op_of c.args.op) c.args.lists.now (c.loop-p._p + 1)
later c = run-turn c.args.op c.args.lists.now c.loop-p._p (handed (Some c.loop-p.c) c.loop-p.counts) (handed c.next-in-loop-p.result c.next-in-loop-p.new.counts) c.loop-p.invariant c.next-in-loop-p.ensures

pub returns-in_err-c : goal.returns-in_err-c
returns-in_err-c c =
    let w = λ (g : Front). handed g c.next.new.counts in
    ap w c.from_residual.ensures ∙ run_none c.args.op c.args.lists.now c.requires.order c.args.number 0 c.next.new.counts (omega arith) (ap w (sym c.in_err-c.was) ∙ first (goal.at.returns-in_err-c c).After-next)

pub loop-p-init : goal.loop-p-init
loop-p-init c = ap (λ g. handed g c.next.new.counts) (sym c.in_ok-c.was) ∙ first (goal.at.loop-p-init c).After-next

pub loop-p-preserved : goal.loop-p-preserved
loop-p-preserved c = ap (λ g. handed g c.next-in-loop-p.new.counts) (sym c.in_ok-c-2.was) ∙ later (goal.at.loop-p-preserved c).After-next-in-loop-p

pub returns-in_err-c-2 : goal.returns-in_err-c-2
returns-in_err-c-2 c =
    let w = λ (g : Front). handed g c.next-in-loop-p.new.counts in
    ap w c.from_residual-in_err-c-2.ensures
    ∙ run_none c.args.op c.args.lists.now c.requires.order c.args.number (c.loop-p._p + 1) c.next-in-loop-p.new.counts (omega arith) (ap w (sym c.in_err-c-2.was) ∙ later (goal.at.returns-in_err-c-2 c).After-next-in-loop-p)

pub returns : goal.returns
returns c = let z : c.loop-p._p ≡ c.args.number = omega arith in c.loop-p.invariant ∙ ap (taking (op_of c.args.op) c.args.lists.now) z
