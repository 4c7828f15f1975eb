-- `seek::fronts::better` meets its contract: each return and turn is one law or one case.
-- Assumes nothing.
use borrow.Author.Tests.{lt-ltb, le-ltb}
use Rattle.seek.specs.inner.Fronts.{better_of}
use Rattle.seek.proofs.fronts.better.Goals as goal

pub returns-then-b-a : goal.returns-then-b-a
unfolding better_of
returns-then-b-a c = simp (lt-ltb _ _ c.if-b-a.true)

pub returns-then-a-b : goal.returns-then-a-b
unfolding better_of
returns-then-a-b c = simp (le-ltb _ _ c.if-b-a.false, lt-ltb _ _ c.if-a-b.true)

pub returns-then-a-b-2 : goal.returns-then-a-b-2
unfolding better_of
returns-then-a-b-2 c = simp (le-ltb _ _ c.if-b-a.false, le-ltb _ _ c.if-a-b.false, lt-ltb _ _ c.if-a-b-2.true)

pub returns-else-a-b-2 : goal.returns-else-a-b-2
unfolding better_of
returns-else-a-b-2 c = simp (le-ltb _ _ c.if-b-a.false, le-ltb _ _ c.if-a-b.false, le-ltb _ _ c.if-a-b-2.false)
