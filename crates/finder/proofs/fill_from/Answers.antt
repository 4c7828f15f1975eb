-- `finder::fill_from` meets its contract. Assumes nothing.
use Rattle.finder.proofs.Calls.{long-none, marks-fill}
use Rattle.finder.proofs.fill_from.Goals as goal

pub returns-in-Some : goal.returns-in-Some
returns-in-Some c = let h = c.in-Some.ensures in marks-fill h.4 h.0 h.6 h.5 h.7

pub returns-in-None : goal.returns-in-None
returns-in-None c = let h = c.in-None.ensures in rw h.1 (long-none _ _ _ _ _ h.0)
