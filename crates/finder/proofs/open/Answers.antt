-- `finder::open` meets its contract. Assumes nothing.
use Rattle.finder.proofs.Calls.{open-refused}
use Rattle.finder.proofs.open.Goals as goal

pub returns-in-Err : goal.returns-in-Err
returns-in-Err c = open-refused _ _ _ _ c.in-Err.ensures.signal c.new-in-Err.ensures
