-- `advance`: each branch is a case of the step, by the state and the byte.
-- Assumes nothing.
use Prim.Native.Nat.{◌+◌, ◌-◌, ◌*◌}
use mathlib.Core.Path.{◌≡◌, sym, ap, ◌∙◌}
use native.Mathlib.Omega.{arith}
use Rattle.digits.proofs.ChartLaws.{digit-true}
use Rattle.pattern.specs.Automaton.{step}
use Rattle.pattern.proofs.Steps.{field-bounded, field-piece, field-other, field-digit, at-end, digits-piece, more-other, more-zero, more-digit, more-past, digits-bounded}
use Rattle.pattern.proofs.Numbers.{first-value, more-value}
use Rattle.pattern.proofs.automaton.advance.Goals as goal
use Rattle.pattern.proofs.automaton.advance.Goals.{After-sum, After-sum-in-Digits, then-not-is_ascii_digit-2-via-then-not-is_ascii_digit-2, then-not-is_ascii_digit-2-via-else-not-is_ascii_digit-2+then-value-eq0, then-not-is_ascii_digit-2-via-else-not-is_ascii_digit-2+else-value-eq0+then-piece-gt5}

-- the value of the digits read, with the byte
field-value : (c : After-sum) → c.sum.result ≡ c.args.b - 48
field-value c = let d = digit-true c.args.b (sym c.is_ascii_digit.ensures.value ∙ c.if-not-is_ascii_digit.false) in
    c.sum.ensures ∙ first-value c.requires.0 c.args.b d.0 d.1 c.args.piece.now (field-piece c.args.s c.args.b c.in-Field.is c.args.piece.now c.requires.2)

more-digits : (c : After-sum-in-Digits) → c.sum-in-Digits.result ≡ 10 * c.in-Digits.value + (c.args.b - 48)
more-digits c =
    let e = c.in-Digits.is in
    let r = digits-bounded c.args.s c.args.b e 1000000 c.requires.1 in
    let d = digit-true c.args.b (sym c.is_ascii_digit-in-Digits.ensures.value ∙ c.if-not-is_ascii_digit-2.false) in
    c.sum-in-Digits.ensures ∙ more-value c.requires.0 c.args.b d.0 d.1 c.args.piece.now _ r.2 (digits-piece c.args.s c.args.b e c.args.piece.now c.requires.2) c.if-piece-gt5.false

pub returns-in-Letters : goal.returns-in-Letters
unfolding step
returns-in-Letters c = c.letter.ensures ∙ sym (ap (λ s. step s c.args.b) c.in-Letters.is)

pub returns-then-not-is_ascii_digit : goal.returns-then-not-is_ascii_digit
returns-then-not-is_ascii_digit c = field-other c.args.s c.args.b c.in-Field.is (sym c.is_ascii_digit.ensures.value ∙ c.if-not-is_ascii_digit.true)

pub number-requires : goal.number-requires
number-requires c = (omega (arith, field-value (goal.at.number-requires c).After-sum), field-bounded c.args.s c.args.b c.in-Field.is 1000000 c.requires.1)

pub returns-else-not-is_ascii_digit : goal.returns-else-not-is_ascii_digit
returns-else-not-is_ascii_digit c = c.number.ensures ∙ field-digit c.args.s c.args.b c.in-Field.is (sym c.is_ascii_digit.ensures.value ∙ c.if-not-is_ascii_digit.false) (field-value (goal.at.returns-else-not-is_ascii_digit c).After-sum)

pub returns-then-b-eq44 : goal.returns-then-b-eq44
returns-then-b-eq44 c = c.number_end.ensures ∙ at-end c.args.s c.args.b c.in-Digits.is c.if-b-eq44.true

pub returns-then-not-is_ascii_digit-2 : goal.returns-then-not-is_ascii_digit-2
returns-then-not-is_ascii_digit-2 c = let a = c.args in
    let v = c.is_ascii_digit-in-Digits.ensures.value in
    elim c.then-not-is_ascii_digit-2.branch [
      | then-not-is_ascii_digit-2-via-then-not-is_ascii_digit-2 w ↦ more-other a.s a.b c.in-Digits.is c.if-b-eq44.false (sym v ∙ w.if-not-is_ascii_digit-2.true)
      | then-not-is_ascii_digit-2-via-else-not-is_ascii_digit-2+then-value-eq0 w ↦ more-zero a.s a.b c.in-Digits.is c.if-b-eq44.false w.if-value-eq0.true
      | then-not-is_ascii_digit-2-via-else-not-is_ascii_digit-2+else-value-eq0+then-piece-gt5 w ↦
          more-past a.s a.b c.in-Digits.is c.if-b-eq44.false (sym v ∙ w.if-not-is_ascii_digit-2.false) w.if-value-eq0.false a.piece.now c.requires.2 w.if-piece-gt5.true
    ]

pub number-requires-in-Digits : goal.number-requires-in-Digits
number-requires-in-Digits c = let d = digits-bounded c.args.s c.args.b c.in-Digits.is 1000000 c.requires.1 in
    (omega (arith, more-digits (goal.at.number-requires-in-Digits c).After-sum-in-Digits, d.2, c.ranges.b.fits), d.4)

pub returns-else-piece-gt5 : goal.returns-else-piece-gt5
returns-else-piece-gt5 c = let a = c.args in
    c.number-in-Digits.ensures ∙ more-digit a.s a.b c.in-Digits.is c.if-b-eq44.false (sym c.is_ascii_digit-in-Digits.ensures.value ∙ c.if-not-is_ascii_digit-2.false) c.if-value-eq0.false (more-digits (goal.at.returns-else-piece-gt5 c).After-sum-in-Digits)
