-- `ranks::count` meets its contract: a case of the test for each. Assumes nothing.
use Rattle.std.proofs.Common.{arith}
use Rattle.ranks.proofs.Counting.{marks-first, marks-later}
use Rattle.ranks.proofs.count.Goals as goal
use Rattle.ranks.proofs.count.Goals.{then-s-eq0, else-s-eq0}

pub returns : goal.returns
returns c = let a = c.args in
    elim c.if-s-eq0.branch [
      | then-s-eq0 w ↦ omega (arith, c.through.ensures, w.before-is, marks-first a.words.now a.s a.e w.if-s-eq0.true)
      | else-s-eq0 w ↦ omega (arith, c.through.ensures, w.before-is, w.through-before.ensures, marks-later a.words.now a.s a.e (omega (arith, w.if-s-eq0.false)))
    ]
