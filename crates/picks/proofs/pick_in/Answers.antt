-- `picks::pick_in` meets its contract. Assumes nothing.
use Rattle.plan.proofs.Planning.{marks-first}
use Rattle.picks.proofs.Picking.{wrote_in}
use Rattle.picks.proofs.pick_in.Goals as goal

pub returns : goal.returns
returns c = let h = rw c.unwrap.ensures at c.with_marks-picked.ensures in wrote_in c.args.k (marks-first h.4) h.5 h.7 h.6
