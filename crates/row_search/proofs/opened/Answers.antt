-- `row_search::opened` meets its contract. Assumes nothing.
use Rattle.std.proofs.Common.{rules, arith, ◌∙◌, sym}
use Rattle.row_search.proofs.Opening.{outside, past, opens}
use Rattle.row_search.proofs.opened.Goals as goal

pub returns-in_err-row : goal.returns-in_err-row
returns-in_err-row c = let a = c.args in
    let p = outside a.words.now a.at a.width a.t in
    search (rules, p)

pub returns-in_err-get : goal.returns-in_err-get
returns-in_err-get c = let a = c.args in
    let r = c.in_ok-row in
    let p = past a.words.now a.at a.width r.field-0.now a.t r.ensures in
    search (rules, p)

pub returns-in_err-first : goal.returns-in_err-first
returns-in_err-first c = let a = c.args in
    let r = c.in_ok-row in
    let p = past a.words.now a.at a.width r.field-0.now a.t r.ensures in
    search (rules, p)

pub returns : goal.returns
returns c = let a = c.args in
    let r = c.in_ok-row in
    opens a.words.now a.at a.width r.field-0.now a.t r.ensures c.in_ok-first.first.now c.in_ok-first.later.now (sym c.in_ok-get.ensures.lookup.0.2 ∙ c.in_ok-first.ensures.cases.0) (omega arith)
