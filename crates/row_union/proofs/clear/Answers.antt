-- `row_union::clear` meets its contract: so many words are filled with 0. Assumes nothing.
use Rattle.std.proofs.Common.{sym, ◌∙◌, arith}
use Rattle.row_union.proofs.Clearing.{cleared-is}
use Rattle.row_union.proofs.clear.Goals as goal

pub returns-then-inside : goal.returns-then-inside
returns-then-inside c = let a = c.args in
    cleared-is a.words.now c.fill.new.self a.at a.width _ (sym c.inside.ensures ∙ c.if-inside.true) (omega arith) (c.fill.ensures.after (λ y h. h))
