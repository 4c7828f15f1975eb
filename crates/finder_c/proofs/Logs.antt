-- The calls over a log alone: their numbers fit their bits, and are packed as defined. Assumes nothing.
use Prim.Native.Nat.{ℕ, ◌+◌, ◌*◌, ◌≤◌, ◌<◌}
use mathlib.Core.Path.{◌≡◌, sym, ap, ◌∙◌}
use mathlib.Core.Bool.{Bool, cond}
use mathlib.Core.List.{List}
use lib.ListN.{length}
use borrow.Author.Tests.{lt-ltb, le-ltb}
use native.Mathlib.Omega.{arith}
use Rattle.lines.specs.Lines.{offset, stretch_lines, stretch_start}
use Rattle.lines.proofs.StretchLaws.{stretch-part}
use Rattle.records.specs.Line.{says}
use Rattle.records.proofs.Walk.{damaged-few}
use Rattle.meaning.proofs.Run.{says-few}
use Rattle.marking.specs.declared.pass.Counted.{Counted}
use Rattle.marking.specs.Rows.{counted}
use Rattle.finder_c.specs.Packing.{packed_count, packed_lines}

-- ── Counting ──

pub count_small : (log : List ℕ) (c : Counted) → c ≡ counted log → length log ≤ 61440 → (c.damaged ≤ 61440) × (c.lines ≤ 61440)
count_small log c e h =
    let few : length (says log) ≤ 61440 = omega (arith, says-few log) in
    (omega (arith, ap (λ (x : Counted). x.damaged) e, damaged-few (says log), few), omega (arith, ap (λ (x : Counted). x.lines) e, few))

pub count_long : (log : List ℕ) → 61440 < length log → 1 ≡ packed_count log
count_long log h = sym (ap (λ (b : Bool). cond b 1 (65536 * (counted log).damaged + 4294967296 * (counted log).lines)) (lt-ltb 61440 (length log) h))

pub count-packed : (log : List ℕ) (c : Counted) → c ≡ counted log → length log ≤ 61440 → 65536 * c.damaged + 4294967296 * c.lines ≡ packed_count log
count-packed log c e h =
    ap (λ (x : Counted). 65536 * x.damaged + 4294967296 * x.lines) e
    ∙ sym (ap (λ (b : Bool). cond b 1 (65536 * (counted log).damaged + 4294967296 * (counted log).lines)) (le-ltb 61440 (length log) h))

-- ── The lines of a stretch ──

module _ (log : List ℕ) (f l : ℕ) (s : List ℕ) (e : s ≡ stretch_lines log f l) where
  -- an empty part
  pub lines_none : length s ≡ 0 → 0 ≡ packed_lines log f l
  lines_none h = omega (arith, ap length e, (stretch-part log f l).none (omega (arith, h, ap length e)))

  -- a part that starts where line f does
  module _ (at : ℕ) (p : at ≡ offset log f) (h : 0 < length s) where
    start : at ≡ stretch_start log f l
    start = p ∙ sym ((stretch-part log f l).first (omega (arith, h, ap length e)))

    pub lines-small : at + length s ≤ 61440
    lines-small = omega (arith, start, ap length e, (stretch-part log f l).short)

    pub lines-packed : at + 4294967296 * length s ≡ packed_lines log f l
    lines-packed = omega (arith, start, ap length e)
