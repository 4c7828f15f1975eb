-- `input::parts` meets its contract. Assumes nothing.
use Rattle.std.proofs.Common.{arith, sym}
use Rattle.std.proofs.lemmas.Grind.{common_steps}
use Rattle.input.proofs.Keeping.{feed-absent, feed-there}
use Rattle.input.proofs.parts.Goals as goal

pub returns-in-None : goal.returns-in-None
returns-in-None c =
    let r = feed-absent c.args.piece.now c.in-None.ensures in
    grind (arith, common_steps)

pub returns-in-Some : goal.returns-in-Some
returns-in-Some c =
    let r = feed-there c.args.piece.now c.in-Some.feed c.in-Some.ensures in
    rw c.if-ended.false (record { front = r.1; ended = sym r.0; back = r.2 })
