-- `seek::fronts::past` meets its contract: each return and turn is one law or one case.
-- Assumes nothing.
use borrow.Author.Tests.{lt-ltb, le-ltb}
use Rattle.seek.specs.inner.Fronts.{past_of}
use Rattle.seek.proofs.fronts.past.Goals as goal

pub returns-then-n-lt-NONE : goal.returns-then-n-lt-NONE
unfolding past_of
returns-then-n-lt-NONE c = simp (lt-ltb _ _ c.if-n-lt-NONE.true)

pub returns-else-n-lt-NONE : goal.returns-else-n-lt-NONE
unfolding past_of
returns-else-n-lt-NONE c = simp (le-ltb _ _ c.if-n-lt-NONE.false)
