-- The taking call over lent lists: what it returns, and what it leaves in every count cell: docs/FORMATS.md, "Taking".
-- Assumes nothing.
use Rattle.std.specs.Prelude.{ℕ, Bool, true, false, cond, List, ◌++◌, length, drop, eqb, Result, Ok, Err}
use Rattle.std.proofs.Math.Option.{Option, none, some}
use Rattle.stretches.specs.declared.Stretch.{Stretch}
use Rattle.stretches.specs.Stretch.{Op, length_of}
use Rattle.stretches.specs.Operators.{operator_of}
use Rattle.stretches.specs.Front.{Front, None, Some}
use Rattle.stretches.specs.Taking.{begun, taking}
use Rattle.stretches.specs.Lent.{lists_of}
use Rattle.stretches.specs.Taking as algorithm
use Rattle.meaning.specs.declared.Refusal.{Refusal}
use Rattle.meaning.specs.Refusals.{taking_refusal}
use Rattle.meaning.specs.Replies.{number_of}

-- answer number p or "none" with the items taken, by the operator's algorithm
abbrev pub taken_by : Option Op → List (List Stretch) → ℕ → algorithm.AnswerCounts
taken_by none ls p = begun ls
taken_by (some o) ls p = taking o ls p

abbrev pub taken_of : ℕ → List ℕ → List ℕ → ℕ → algorithm.AnswerCounts
taken_of op items ends p = taken_by (operator_of length_of op 0) (lists_of items ends) p

-- ── The reply ──

-- number: the refusal, 0 where the call is accepted. Not found: "none", and start and end are 0
pub record TakeReply : Type 0 where
  pub number : ℕ
  pub found : Bool
  pub start : ℕ
  pub end : ℕ

-- an answer, or "none"
abbrev pub given : Front → TakeReply
given None = record { number = 0; found = false; start = 0; end = 0 }
given (Some x) = record { number = 0; found = true; start = x.start; end = x.end }

-- a refusal returns its number and no answer
abbrev pub not_taken : ℕ → TakeReply
not_taken n = record { number = n; found = false; start = 0; end = 0 }

-- what the call returns, as a reply
abbrev pub take_reply : Result Front Refusal → TakeReply
take_reply (Ok g) = given g
take_reply (Err e) = not_taken (number_of e)

-- ── The call ──

-- what the call returns
unfoldable pub take_result : ℕ → List ℕ → List ℕ → List ℕ → ℕ → TakeReply
take_result op items ends counts p = cond (eqb (taking_refusal op items ends counts) 0) (given (taken_of op items ends p).answer) (not_taken (taking_refusal op items ends counts))

-- the cells afterwards: one count for each list, and further cells keep their contents; where the call is refused, all do
unfoldable pub take_cells : ℕ → List ℕ → List ℕ → List ℕ → ℕ → List ℕ
take_cells op items ends counts p = cond (eqb (taking_refusal op items ends counts) 0) ((taken_of op items ends p).counts ++ drop (length ends) counts) counts
