-- `seek::Searched::first` meets its contract: each return is one law. Assumes nothing.
use native.Mathlib.Omega.{arith}
use Rattle.seek.proofs.Ahead.{first-none}
use Rattle.seek.proofs.Searched.first.Goals as goal

pub returns-then-f-ge-NONE-clause-first_of : goal.returns-then-f-ge-NONE-clause-first_of
returns-then-f-ge-NONE-clause-first_of c = first-none (omega arith) c.seek-f.ensures c.then-f-ge-NONE.either
