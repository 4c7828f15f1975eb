-- `span_of` meets its contract: from list to list back to the first; where an item is missing, there is no span. Assumes nothing.
use Rattle.std.proofs.Common.{ℕ, ◌-◌, arith, ap₂, ◌∙◌}
use Rattle.stretches.specs.Stretch.{st}
use Rattle.stretches.specs.Front.{Some}
use Rattle.taking.proofs.Tops.{span-end, span-missing, span-back}
use Rattle.taking.proofs.queue.span_of.Goals as goal

pub returns-in_err-start : goal.returns-in_err-start
returns-in_err-start c = c.from_residual-in_err-start.ensures ∙ span-missing c.args.lists.now c.args.counts.now c.requires c.in_ok-last.last (omega arith) c.in_err-start.ensures

pub loop-i-init : goal.loop-i-init
loop-i-init c = (omega arith, c.in_ok-start.ensures ∙ span-end c.args.lists.now c.args.counts.now c.requires c.in_ok-last.last (omega arith))

pub returns-in_err-x : goal.returns-in_err-x
returns-in_err-x c = c.from_residual-in_err-x.ensures ∙ span-missing c.args.lists.now c.args.counts.now c.requires (c.loop-i.i - 1) (omega arith) c.in_err-x.ensures

pub loop-i-preserved : goal.loop-i-preserved
loop-i-preserved c =
    (omega arith, span-back c.args.lists.now c.args.counts.now c.requires c.loop-i.i (Some c.in_ok-x.x) (Some (st c.loop-i.start c.loop-i.end)) (Some (st c.min-start.result c.max-end.result)) c.loop-i-test.true c.loop-i.invariant.0 c.in_ok-x.ensures (ap₂ (λ (a b : ℕ). Some (st a b)) c.min-start.ensures c.max-end.ensures) c.loop-i.invariant.1)
