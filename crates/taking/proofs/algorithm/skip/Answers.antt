-- `skip` meets its contract: a turn of the code is a turn of the definition. Assumes nothing.
use Rattle.std.proofs.Common.{◌-◌, suc, arith, sym, ap, ◌∙◌}
use Rattle.stretches.specs.Taking.{total, contains}
use Rattle.taking.specs.inner.Queue.{order_of, view_of}
use Rattle.taking.proofs.Turns.{skip-start, skip-stop, skip-turn, skip-over}
use Rattle.taking.proofs.algorithm.skip.Goals as goal

pub loop-turn-init : goal.loop-turn-init
loop-turn-init c = skip-start (order_of c.args.op) (view_of c.args.op) c.args.lists.now c.args.c (suc (total c.args.lists.now)) c.args.counts.now

pub returns-then-not-contains : goal.returns-then-not-contains
returns-then-not-contains c = sym (c.loop-turn.invariant ∙ skip-stop (order_of c.args.op) (view_of c.args.op) c.args.lists.now c.args.c (suc (total c.args.lists.now) - c.loop-turn._turn) c.loop-turn.counts (ap (λ g. contains g c.args.c) (sym c.view.ensures) ∙ (sym c.contains.ensures ∙ c.if-not-contains.true)))

pub loop-turn-preserved : goal.loop-turn-preserved
loop-turn-preserved c = c.loop-turn.invariant ∙ skip-turn (order_of c.args.op) (view_of c.args.op) c.args.lists.now c.args.c (suc (total c.args.lists.now)) c.loop-turn._turn c.loop-turn.counts c.advance.new.counts (omega arith) (ap (λ g. contains g c.args.c) (sym c.view.ensures) ∙ (sym c.contains.ensures ∙ c.if-not-contains.false)) c.advance.ensures

pub returns : goal.returns
returns c = sym (c.loop-turn.invariant ∙ skip-over (order_of c.args.op) (view_of c.args.op) c.args.lists.now c.args.c (suc (total c.args.lists.now)) c.loop-turn._turn c.loop-turn.counts (omega arith))
