-- `row_search::count` meets its contract: the word with line s, and the words after it. Assumes nothing.
use Rattle.std.proofs.Common.{◌-◌, ◌%◌, arith}
use Rattle.marks.specs.Row.{row}
use Rattle.row_search.proofs.Counting.{none_there, none_between, one-word, more-words, through-few}
use Rattle.row_search.proofs.count.Goals as goal

pub returns-in_default : goal.returns-in_default
returns-in_default c = let a = c.args in none_between (row a.words.now a.at a.width) a.s a.e c.in_default.ensures'

pub returns-in_default-2 : goal.returns-in_default-2
returns-in_default-2 c = let a = c.args in none_there (row a.words.now a.at a.width) a.s a.e c.in_default.ensures

pub overflow_add-result : goal.overflow_add-result
overflow_add-result c = let o = c.in-Some-Some in
    omega (arith, c.marks_through.ensures, through-few o.later.now (o.left - (64 - c.args.s % 64)), o.ensures.few)

pub returns-then-left-room : goal.returns-then-left-room
returns-then-left-room c = let a = c.args in
    let o = c.in-Some-Some in
    rw (c.marks_in.ensures.0, o.ensures'.1) (one-word (row a.words.now a.at a.width) a.s a.e o.w o.later.now o.ensures o.ensures'.0 (omega arith))

pub returns-else-left-room : goal.returns-else-left-room
returns-else-left-room c = let a = c.args in
    let o = c.in-Some-Some in
    rw (c.marks_in-else-left-room.ensures.0, c.marks_through.ensures, o.ensures'.1)
    (more-words (row a.words.now a.at a.width) a.s a.e o.w o.later.now o.ensures o.ensures'.0 (omega arith))
