-- The filling call over lent lists: what it returns, and what it leaves in every cell: docs/FORMATS.md, "Lent lists".
-- Assumes nothing.
use Rattle.std.specs.Prelude.{ℕ, false, cond, List, [], length, eqb}
use Rattle.stretches.specs.declared.Stretch.{Stretch}
use Rattle.stretches.specs.Stretch.{length_of}
use Rattle.stretches.specs.Operators.{operator_of, apply}
use Rattle.stretches.specs.Filling.{written, filled, more_after}
use Rattle.stretches.specs.Lent.{lists_of}
use Rattle.meaning.specs.Replies.{FillReply}
use Rattle.meaning.specs.Refusals.{lists_refusal}

-- the operator's answers over the lent lists
abbrev pub list_answers : ℕ → ℕ → List ℕ → List ℕ → List Stretch
list_answers op k items ends = apply (operator_of length_of op k) [] (lists_of items ends)

-- the number of stretches written of the list, and "more" or "done"
abbrev pub wrote : List Stretch → List ℕ → ℕ → FillReply
wrote l cells f = record { number = 0; place = 0; count = length (written l f cells); more = more_after l f cells }

-- a refusal returns its number, count 0, and the place 0
abbrev pub not_filled : ℕ → FillReply
not_filled n = record { number = n; place = 0; count = 0; more = false }

-- what the call returns
unfoldable pub fill_result : ℕ → ℕ → List ℕ → List ℕ → List ℕ → ℕ → FillReply
fill_result op k items ends cells f = cond (eqb (lists_refusal op k items ends) 0) (wrote (list_answers op k items ends) cells f) (not_filled (lists_refusal op k items ends))

-- the cells afterwards; where the call is refused, all keep their contents
unfoldable pub fill_cells : ℕ → ℕ → List ℕ → List ℕ → List ℕ → ℕ → List ℕ
fill_cells op k items ends cells f = cond (eqb (lists_refusal op k items ends) 0) (filled (list_answers op k items ends) f cells) cells
