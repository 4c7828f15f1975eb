-- `scan`: the invariant `Scanning` is kept by each turn's step and told at each return.
-- Assumes nothing.
use Rattle.std.proofs.Common.{◌≡◌, ap, ◌∙◌, Option, Some, None, Err, length, arith}
use Rattle.std.proofs.lemmas.Result.{err_from_is_err_and}
use Rattle.std.specs.Option.{ok_or}
use Rattle.pattern.specs.declared.Refusal.{Refusal}
use Rattle.pattern.specs.declared.Refusal.TheVariants.{Misspelt}
use Rattle.pattern.proofs.Loop.{bounded, begun-past, begun-piece, begun-comma, begun-on, went, closed, turn-none, turn-within, turn-closed, tells-stop, end-none, end-some}
use Rattle.pattern.proofs.scanner.scan.Goals as goal
use Rattle.pattern.proofs.scanner.scan.Goals.{in-Within, in-Closed, then-b-eq44, else-b-eq44}

-- the refusal in place of none
refused : {A : Type 0} (o : Option A) (r d : Refusal) → o ≡ None → Err r ≡ ok_or o d → r ≡ d
refused None r d n e = cc
refused (Some x) r d n e = cc

pub advance-requires : goal.advance-requires
advance-requires c = let l = c.loop-i in
    (c.chart-places.ensures, bounded (omega arith) l.invariant.0, begun-piece l.invariant.1 (omega arith))

pub returns-in_err-t : goal.returns-in_err-t
returns-in_err-t c =
    let p = err_from_is_err_and c.from_residual.result c.from_residual.ensures.1 in
    let n = c.in_err-t.ensures.ok_part in
    rw (p.1, p.2) (tells-stop (turn-none c.loop-i.invariant.0 (omega arith) c.advance.ensures n) (refused c.advance.result _ _ n c.in_err-t.ensures.value))

pub loop-i-preserved : goal.loop-i-preserved
loop-i-preserved c =
    let l = c.loop-i in
    let a = c.advance.ensures in
    let o = c.in_ok-t.ensures.ok_part in
    elim c.match-branch-2.branch [
      | in-Within w ↦
          let e = o ∙ ap Some w.in-Within.is in
          rw (w.table-is, w.s-is) (
            turn-within l.invariant.0 (omega arith) a e,
            elim c.if-b-eq44.branch [
              | then-b-eq44 x ↦ rw x.from-is (begun-comma l.invariant.1 (omega arith) (went l.invariant.0 (omega arith) a e) x.if-b-eq44.true)
              | else-b-eq44 x ↦ rw x.from-is (begun-on l.invariant.1 (omega arith) (went l.invariant.0 (omega arith) a e) x.if-b-eq44.false)
            ],
          )
      | in-Closed w ↦
          let e = o ∙ ap Some w.in-Closed.is in
          let h = closed l.invariant.0 (omega arith) a e in
          rw (w.table-is, w.put.ensures, w.s-is) (
            turn-closed l.invariant.0 (omega arith) a e,
            elim c.if-b-eq44.branch [ then-b-eq44 x ↦ rw x.from-is (begun-past _ _ _ h.written) | else-b-eq44 x ↦ absurd (x.if-b-eq44.false h.comma) ],
          )
    ]

pub last-requires : goal.last-requires
last-requires c = bounded (omega arith) c.loop-i.invariant.0

pub returns-in_err-node : goal.returns-in_err-node
returns-in_err-node c =
    let p = err_from_is_err_and c.from_residual-in_err-node.result c.from_residual-in_err-node.ensures.1 in
    let n = c.in_err-node.ensures.ok_part in
    let end : length c.args.text.now ≡ c.loop-i.i = omega arith in
    rw (p.1, p.2) (end-none c.loop-i.invariant.0 (omega arith) c.last.ensures n (refused c.last.result _ _ n c.in_err-node.ensures.value ∙ ap Misspelt end))

pub returns : goal.returns
returns c = rw c.put-2.ensures (end-some c.loop-i.invariant.0 (omega arith) c.last.ensures c.in_ok-node.ensures.ok_part)
