-- `ranks::through` meets its contract: a case of the test for each return. Assumes nothing.
use Rattle.std.proofs.Common.{ℕ, ◌+◌, ◌/◌, ◌%◌, sym, ap, ◌∙◌, arith, get_or}
use Rattle.ranks.proofs.Counting.{through-word, through-past}
use Rattle.ranks.proofs.through.Goals as goal

pub returns-then-k-h : goal.returns-then-k-h
returns-then-k-h c = let a = c.args in
    let f = c.half-h in
    ap (λ (x : ℕ). get_or a.words.now (f.result + a.p / 64) 0 % 65536 + x) c.marks_in.ensures.0
    ∙ sym (through-word a.words.now a.p f.result f.ensures.value f.ensures.upper_bound (omega arith))

pub returns-else-k-h : goal.returns-else-k-h
returns-else-k-h c = let a = c.args in sym (through-past a.words.now a.p c.half-h.result c.half-h.ensures.value (omega arith))
