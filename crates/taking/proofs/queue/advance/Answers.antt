-- `advance` meets its contract: the store is one more at the top's list, and without a top nothing moves. Assumes nothing.
use Rattle.taking.specs.inner.Queue.{order_of}
use Rattle.taking.proofs.Tops.{moved, moved_none}
use Rattle.taking.proofs.queue.advance.Goals as goal

pub returns-in-Some : goal.returns-in-Some
returns-in-Some c = moved (order_of c.args.op) c.args.lists.now c.args.counts.now c.requires (c.in-Some.field-0-0, c.in-Some.i) c.in-Some.ensures.top c.in-Some.ensures.open.0

pub returns-in_default : goal.returns-in_default
returns-in_default c = moved_none (order_of c.args.op) c.args.lists.now c.args.counts.now c.requires c.in_default.ensures.top
