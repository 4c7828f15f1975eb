-- `plan::width` meets its contract. Assumes nothing.
use mathlib.Core.Path.{sym, ap, ◌∙◌}
use Prim.Native.Nat.{ℕ, ◌+◌, ◌/◌}
use lib.ListN.{length-map}
use Rattle.lines.specs.Lines.{lines}
use Rattle.records.specs.Line.{meaning}
use Rattle.lines.proofs.LinesLaws.{cut-few}
use native.Mathlib.Omega.{arith}
use Rattle.plan.proofs.width.Goals as goal

pub overflow_add-result : goal.overflow_add-result
overflow_add-result c = omega (arith, c.line_count.ensures, cut-few 10 c.args.log.now)

pub returns : goal.returns
returns c = ap (λ (k : ℕ). (k + 63) / 64) (c.line_count.ensures ∙ sym (length-map (lines c.args.log.now) meaning))
