-- `row_union::unite` meets its contract. The loop's invariant: the first k words of the rows are united. Assumes nothing.
use Rattle.std.proofs.Common.{sym, ◌∙◌, arith}
use Rattle.marks.proofs.United.{united-not}
use Rattle.row_union.proofs.Uniting.{begin, turn}
use Rattle.row_union.proofs.unite.Goals as goal

pub loop-k-init : goal.loop-k-init
loop-k-init c = let a = c.args in begin a.words.now a.to a.at a.width (sym c.separate.ensures ∙ c.if-separate.true)

pub loop-k-preserved : goal.loop-k-preserved
loop-k-preserved c = let a = c.args in
    let l = c.loop-k in
    turn a.words.now l.words a.to a.at a.width l.k l.invariant (omega arith) (omega arith) (omega arith)

pub returns-else-separate : goal.returns-else-separate
returns-else-separate c = let a = c.args in united-not a.words.now a.to a.at a.width (sym c.separate.ensures ∙ c.if-separate.false)
