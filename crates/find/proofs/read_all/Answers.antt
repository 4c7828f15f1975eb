-- `find::read_all` meets its contract: a piece that came is added to the input. Assumes nothing.
use Rattle.std.proofs.Common.{◌++◌}
use Rattle.input.proofs.Keeping.{keeps-more}
use Rattle.find.proofs.read_all.Goals as goal

pub loop-preserved : goal.loop-preserved
loop-preserved g c =
    let k = c.loop.invariant in
    let m = rw c.in-Some.is at c.in_ok-next.ensures in
    (k.0 ++ m.0, keeps-more k.0 m.0 _ _ _ _ _ _ k.1 m.1)
