-- `finder_c::finder_lines` meets its contract: the part is what `lines::stretch_lines` ensures, and its first line starts where `lines::place_after` says.
-- Assumes nothing.
use Prim.Native.Nat.{◌+◌, ◌<◌, ◌≤◌}
use native.Mathlib.Omega.{arith}
use lib.ListN.{length}
use Rattle.finder_c.proofs.Logs.{lines_none, lines-small, lines-packed}
use Rattle.finder_c.proofs.finder_lines.Goals as goal
use Rattle.finder_c.proofs.finder_lines.Goals.{After-place_after-start}

pub returns-then-length-eq0 : goal.returns-then-length-eq0
returns-then-length-eq0 c = let a = c.args in
    lines_none a.log.now a.first a.last c.stretch_lines-part.result.now c.stretch_lines-part.ensures.result_value c.if-length-eq0.true

some : (c : After-place_after-start) → 0 < length c.stretch_lines-part.result.now
some c = omega (arith, c.if-length-eq0.false)

small : (c : After-place_after-start) → c.place_after-start.result + length c.stretch_lines-part.result.now ≤ 61440
small c =
    let a = c.args in
    let s = c.stretch_lines-part in
    lines-small a.log.now a.first a.last s.result.now s.ensures.result_value c.place_after-start.result c.place_after-start.ensures (some c)

pub overflow_mul-result : goal.overflow_mul-result
overflow_mul-result c = omega (arith, small (goal.at.overflow_mul-result c).After-place_after-start)

pub overflow_add-result : goal.overflow_add-result
overflow_add-result c = omega (arith, small (goal.at.overflow_add-result c).After-place_after-start)

pub returns : goal.returns
returns c = let a = c.args in
    let s = c.stretch_lines-part in
    lines-packed a.log.now a.first a.last s.result.now s.ensures.result_value c.place_after-start.result c.place_after-start.ensures (some (goal.at.returns c).After-place_after-start)
