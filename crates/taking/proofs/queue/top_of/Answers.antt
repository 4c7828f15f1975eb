-- `top_of` meets its contract: from list to list back to the first. Assumes nothing.
use Rattle.std.proofs.Common.{◌≡◌, ℕ, arith, subst}
use Rattle.stretches.specs.Taking.{fronts}
use Rattle.taking.specs.inner.Queue.{order_of, Topped}
use Rattle.taking.proofs.Tops.{top-end, top_back, top-open}
use Rattle.taking.proofs.queue.top_of.Goals as goal
use Rattle.taking.proofs.queue.top_of.Goals.{After-loop-i}

pub loop-i-init : goal.loop-i-init
loop-i-init c = (omega arith, top-end (order_of c.args.op) c.args.lists.now c.args.counts.now c.requires c.len-i.result c.len-i.ensures.number)

pub loop-i-preserved : goal.loop-i-preserved
loop-i-preserved c =
    (omega arith, top_back (order_of c.args.op) c.args.lists.now c.args.counts.now c.requires c.loop-i.i c.taken.result c.loop-i.t c.better-t.result c.loop-i-test.true c.loop-i.invariant.0 c.taken.ensures c.better-t.ensures c.loop-i.invariant.1)

topped : (c : After-loop-i) → Topped (order_of c.args.op) (fronts c.args.lists.now c.args.counts.now) 0 c.loop-i.t
topped c = let z : c.loop-i.i ≡ 0 = omega arith in subst (λ (i : ℕ). Topped (order_of c.args.op) (fronts c.args.lists.now c.args.counts.now) i c.loop-i.t) z c.loop-i.invariant.1

pub returns-clause-top : goal.returns-clause-top
returns-clause-top c = topped c

pub returns-clause-open : goal.returns-clause-open
returns-clause-open c = top-open (order_of c.args.op) c.args.lists.now c.args.counts.now c.requires c.loop-i.t (topped c) c.len-i.ensures.order
