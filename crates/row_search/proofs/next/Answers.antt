-- `row_search::next` meets its contract: the word with line t, and the words after it. Assumes nothing.
use Rattle.std.proofs.Common.{◌∙◌}
use Rattle.marks.specs.Row.{row}
use Rattle.row_search.proofs.Opening.{none_from, in-word, in_later}
use Rattle.row_search.proofs.next.Goals as goal

pub returns-in_err-w : goal.returns-in_err-w
returns-in_err-w c = let a = c.args in c.from_residual.ensures ∙ none_from (row a.words.now a.at a.width) a.t c.in_err-w.ensures

pub returns-then-w-ne0 : goal.returns-then-w-ne0
returns-then-w-ne0 c = let a = c.args in
    let o = c.in_ok-w in
    in-word (row a.words.now a.at a.width) a.t o.w o.later.now o.ensures c.if-w-ne0.true

pub returns : goal.returns
returns c = let a = c.args in
    let o = c.in_ok-w in
    c.first_of.ensures ∙ in_later (row a.words.now a.at a.width) a.t o.w o.later.now o.ensures c.if-w-ne0.false
