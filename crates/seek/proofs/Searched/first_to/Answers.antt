-- `seek::Searched::first_to` meets its contract: each return is one law. Assumes nothing.
use native.Mathlib.Omega.{arith}
use Rattle.seek.proofs.Ahead.{reach_none}
use Rattle.seek.proofs.Searched.first_to.Goals as goal

pub returns-then-f-ge-NONE : goal.returns-then-f-ge-NONE
returns-then-f-ge-NONE c = reach_none (omega arith) c.reach-f.ensures c.if-f-ge-NONE.true
