-- `row_search::first_of` meets its contract: none of the first k words has a mark. Assumes nothing.
use Rattle.std.proofs.Common.{suc, ◌*◌, ◌+◌, ◌∙◌, ap, sym, arith, get_or, drop}
use Rattle.stretches.specs.Stretch.{marks}
use Rattle.stretches.specs.Front.{head_of}
use Rattle.marks.specs.Row.{flags}
use Rattle.marks.proofs.Flags.{next-flags, past-flags}
use Rattle.row_search.specs.Line.{line_of}
use Rattle.row_search.proofs.Opening.{hit, passed}
use Rattle.row_search.proofs.first_of.Goals as goal

pub returns-then-w-ne0 : goal.returns-then-w-ne0
returns-then-w-ne0 c = let ws = c.args.words.now in
    let l = c.loop-k in
    let p = c.args.line + 64 * l.k in
    sym (ap line_of (l.invariant ∙ ap (λ b. head_of (marks p b)) (next-flags ws l.k (omega arith)))
    ∙ hit 64 (get_or ws l.k 0) p (flags (drop (suc l.k) ws)) c.if-w-ne0.true (omega arith) (omega arith))

pub loop-k-preserved : goal.loop-k-preserved
loop-k-preserved c = c.loop-k.invariant ∙ passed c.args.words.now c.loop-k.k c.args.line (omega arith) c.if-w-ne0.false

pub returns : goal.returns
returns c = let l = c.loop-k in
    sym (ap line_of (l.invariant ∙ ap (λ b. head_of (marks (c.args.line + 64 * l.k) b)) (past-flags c.args.words.now l.k (omega arith))))
