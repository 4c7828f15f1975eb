-- `row_search::marks_through` meets its contract: the last line's word is cut after it. Assumes nothing.
use Rattle.std.proofs.Common.{rules, arith, ℕ, List, sum_by, length, take, ◌+◌, ◌*◌, ◌/◌, ◌<◌, ◌≤◌, ◌∙◌, sym}
use Rattle.marks.specs.Row.{bits, trues}
use lib.Seq.{length-take-le}
use Rattle.row_search.proofs.Counting.{trues-words, trues-few, through-word, through-all}
use Rattle.row_search.proofs.marks_through.Goals as goal

-- the words before the last line's
front : (ws : List ℕ) (k : ℕ) → k < length ws → sum_by (λ w. trues (bits 64 w)) (take k ws) + 64 ≤ 64 * length ws
front ws k h = omega (arith, trues-few (take k ws), length-take-le k ws (omega arith))

pub marks_of-requires : goal.marks_of-requires
marks_of-requires c = omega (arith, front c.args.words.now (c.args.e / 64) (search rules))

pub overflow_add-result : goal.overflow_add-result
overflow_add-result c = omega (arith, c.marks_of.ensures, front c.args.words.now (c.args.e / 64) (search rules))

pub marks_of-requires-in-None : goal.marks_of-requires-in-None
marks_of-requires-in-None c = omega (arith, trues-few c.args.words.now)

pub returns-in-Some : goal.returns-in-Some
returns-in-Some c = let ws = c.args.words.now in
    omega (arith, through-word ws c.args.e c.in-Some.w.now (search rules) (search rules), c.marks_of.ensures ∙ trues-words (take (c.args.e / 64) ws), c.marks_in.ensures.0)

pub returns-in-None : goal.returns-in-None
returns-in-None c = let ws = c.args.words.now in
    c.marks_of-in-None.ensures ∙ trues-words ws ∙ sym (through-all ws c.args.e (search rules))
