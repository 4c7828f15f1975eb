-- `witness::show_in` meets its contract. Assumes nothing.
use Rattle.witness.proofs.Answering.{marks-shown}
use Rattle.witness.proofs.show_in.Goals as goal

pub returns : goal.returns
returns c = let h = rw c.unwrap.ensures at c.with_marks-shown.ensures in marks-shown h.4 h.6 h.5 h.7
