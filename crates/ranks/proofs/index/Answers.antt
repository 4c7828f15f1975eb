-- `ranks::index` meets its contract. The loop's invariant: the counts of the first k words are written, and n marks are before word k. Assumes nothing.
use Rattle.std.proofs.Common.{arith}
use Rattle.ranks.proofs.Indexing.{begin, turn, finish}
use Rattle.ranks.proofs.index.Goals as goal

pub loop-k-init : goal.loop-k-init
loop-k-init c = let s = c.split_at_mut-row in begin s.result.0.now s.result.1.now (omega (arith, s.ensures.front_len, s.ensures.back_len))

pub overflow_add-n : goal.overflow_add-n
overflow_add-n c = omega (arith, c.loop-k.invariant.few, c.marks_in.ensures.1, c.half-h.ensures.upper_bound.0, c.split_at_mut-row.ensures.front_len)

pub loop-k-preserved : goal.loop-k-preserved
loop-k-preserved c = let s = c.split_at_mut-row in
    let l = c.loop-k in
    turn s.result.0.now s.result.1.now l.counts l.k l.n l.invariant c.marks_in.result c.marks_in.ensures.0 c.marks_in.ensures.1 c.loop-k-test.true

pub returns : goal.returns
returns c = let s = c.split_at_mut-row in
    let l = c.loop-k in
    finish c.args.words.now s.result.0.now s.result.1.now l.counts c.half-h.result l.k l.n c.half-h.ensures.value s.ensures.front s.ensures.back s.ensures.front_len
    (omega (arith, s.ensures.front_len)) l.invariant
