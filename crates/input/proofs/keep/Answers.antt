-- `input::keep` meets its contract. Assumes nothing.
use Rattle.std.proofs.Common.{rules}
use Rattle.input.proofs.Keeping.{sets_fit}
use Rattle.input.proofs.keep.Goals as goal

pub returns : goal.returns
returns c = search (rules, sets_fit)
