-- `seek::leaves::resume` meets its contract. Assumes nothing.
use native.Mathlib.Omega.{arith}
use Rattle.seek.proofs.LeafLaws.{resume-at}
use Rattle.seek.proofs.leaves.resume.Goals as goal

pub returns : goal.returns
returns c = resume-at (omega arith) (omega arith) c.if-c-lo-ne0.false c.if-t-items.false
