-- `input::read_whole` meets its contract. Assumes nothing.
use Rattle.std.proofs.Common.{rules, ◌-◌, length, subst}
use Rattle.std.specs.Io.KnownBytes.{Consumes}
use Rattle.std.proofs.KnownBytes.{Consumes-trans}
use Rattle.input.proofs.Whole.{read-behind}
use Rattle.input.proofs.read_whole.Goals as goal

pub loop-used-preserved : goal.loop-used-preserved
loop-used-preserved g c =
    let l = c.loop-used in
    let e = c.in_ok-n.ensures in
    let joined = read-behind l.used (length l.buffer - l.used) c.in_ok-n.n l.buffer c.read.new.buf l.invariant.1 e.bound.0 in
    (search rules, search rules, subst (Consumes _ _) joined (Consumes-trans _ _ _ _ _ l.invariant.2 e.bytes.0))
