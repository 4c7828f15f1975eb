-- `list_disordered` meets its contract: at first a list is read from 0, and a stretch that is wrong spoils it. Assumes nothing.
use Rattle.std.proofs.Common.{sym, ◌∙◌}
use Rattle.stretches.specs.Lent.{pairs}
use Rattle.lent.proofs.Ordering.{list-unrisen, list-wrong}
use Rattle.lent.proofs.list_disordered.Goals as goal

pub loop-left-init : goal.loop-left-init
loop-left-init c = list-unrisen (pairs c.args.list.now)

pub returns-then-e-s : goal.returns-then-e-s
returns-then-e-s c = list-wrong c.loop-left.left.now c.loop-left.a c.loop-left.b c.wide-s.result c.wide-e.result c.in-len2-up.len_at_least c.wide-s.ensures.0 c.wide-e.ensures.0 c.then-e-s.either ∙ sym c.loop-left.invariant
