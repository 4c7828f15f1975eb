-- `finder::Finder::refill` meets its contract. Assumes nothing.
use borrow.Author.Rules.{rules}
use Rattle.finder.proofs.Calls.{fine-in, refill-room}
use Rattle.finder.proofs.Finder.refill.Goals as goal

pub line_after-next-requires : goal.line_after-next-requires
line_after-next-requires c = refill-room _ c.args.line c.args.self _ _ c.fill_from-w.ensures (fine-in _ _) (search rules)
