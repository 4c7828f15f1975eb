-- `last`: each branch is a case of the end of the text, by the state.
-- Assumes nothing.
use borrow.Author.Tests.{lt-leb, le-leb, lt-ltb, le-ltb}
use mathlib.Core.Path.{◌∙◌, sym, ap}
use Rattle.pattern.specs.inner.Scanner.{final, end_of}
use Rattle.pattern.proofs.Steps.{end-other}
use Rattle.pattern.proofs.automaton.last.Goals as goal
use Rattle.pattern.proofs.automaton.last.Goals.{then-value-low-via-then-value-low, then-value-low-via-else-value-low+then-slot-field_count}

pub returns-in_default : goal.returns-in_default
returns-in_default c = end-other c.args.s c.in_default.not-Digits

pub returns-then-value-low : goal.returns-then-value-low
unfolding end_of
returns-then-value-low c =
    elim c.then-value-low.branch [
      | then-value-low-via-then-value-low w ↦ sym (ap end_of c.in-Digits.is ∙ simp (← c.low.ensures, lt-leb _ _ w.if-value-low.true))
      | then-value-low-via-else-value-low+then-slot-field_count w ↦ sym (ap end_of c.in-Digits.is ∙ simp (← c.low.ensures, le-leb _ _ w.if-value-low.false, ← w.field_count.ensures, lt-ltb _ _ w.if-slot-field_count.true))
    ]

pub returns : goal.returns
unfolding end_of
returns c = c.whole.ensures ∙ (ap (λ h. final h c.in-Digits.slot.need) c.with_value.ensures ∙ sym (ap end_of c.in-Digits.is ∙ simp (← c.low.ensures, le-leb _ _ c.if-value-low.false, ← c.field_count.ensures, le-ltb _ _ c.if-slot-field_count.false)))
