-- The undamaged run over bytes: the lines of logs put together at line feeds are the lines of each in turn, so the law over lines carries over.
-- Assumes nothing.
use Prim.Native.Nat.{ℕ, ◌≤◌}
use mathlib.Core.Path.{◌≡◌, ap, ap₂, sym, ◌∙◌}
use mathlib.Core.List.{List, ◌++◌}
use lib.ListN.{length, length-map}
use native.Mathlib.Omega.{arith}
use Rattle.stretches.specs.Run.{in_run}
use Rattle.lines.specs.Lines.{lines, Whole}
use Rattle.lines.proofs.LinesLaws.{cut-few}
use Rattle.records.specs.Line.{meaning, says}
use Rattle.records.specs.declared.Line.{Line}
use Rattle.records.proofs.Walk.{says-run}
use Rattle.pattern.specs.Pattern.{Pattern}
use Rattle.meaning.specs.Meaning.{answers_of, answers_in, Local}
use Rattle.meaning.proofs.Tree.{run-lines}

-- a line says something for each line there is
pub says-length : (log : List ℕ) → length (says log) ≡ length (lines log)
says-length log = length-map (lines log) meaning

-- and there are no more lines than bytes
pub says-few : (log : List ℕ) → length (says log) ≤ length log
says-few log = omega (arith, says-length log, cut-few 10 log)

-- demand 3 over bytes: whatever whole lines precede a run of whole lines, and whatever follows it
pub run-bytes : (p : Pattern) → Local p → (a run b : List ℕ) → Whole a → Whole run → in_run (length (lines a)) (length (lines run)) (answers_in p (a ++ (run ++ b))) ≡ answers_in p run
run-bytes p k a run b wa wr =
    ap₂ (λ (r n : ℕ). in_run r n (answers_in p (a ++ (run ++ b)))) (sym (says-length a)) (sym (says-length run))
    ∙ (ap (λ (x : List Line). in_run (length (says a)) (length (says run)) (answers_of p x)) (says-run a run b wa wr)
    ∙ run-lines p k (says a) (says run) (says b))
