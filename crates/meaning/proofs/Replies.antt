-- Laws of the replies: number and place fix a refusal, a reply fixes the result, and what a result signals. Assumes nothing.
use Prim.Native.Nat.{ℕ, ◌≤◌}
use mathlib.Core.Path.{◌≡◌, refl, sym, ap, ap₂, ◌∙◌}
use mathlib.Core.Bool.{false, cond}
use lib.Dec.{eqb}
use borrow.Author.Tests.{eqb-false}
use native.Mathlib.Omega.{arith}
use Rattle.std.specs.Prelude.{Result, Ok, Err}
use Rattle.meaning.specs.declared.Refusal.{Refusal}
use Rattle.meaning.specs.declared.Refusal.TheVariants.{LongLog, LongPattern, Misspelt, Crowded, Deep, Miscalled, Miscut, Disordered, BadCount}
use Rattle.meaning.specs.declared.Filled.{Filled}
use Rattle.meaning.specs.Replies.{number_of, place_of, FillReply, fill_reply, Reply, reply}

-- the refusal of a number and a place
abbrev refusal_at : ℕ → ℕ → Refusal
refusal_at n p = cond (eqb n 1) LongLog (cond (eqb n 2) LongPattern (cond (eqb n 3) (Misspelt p) (cond (eqb n 4) Crowded (cond (eqb n 5) Deep
    (cond (eqb n 6) Miscalled (cond (eqb n 7) Miscut (cond (eqb n 8) Disordered BadCount)))))))

at_own : (e : Refusal) → refusal_at (number_of e) (place_of e) ≡ e
at_own LongLog = refl
at_own LongPattern = refl
at_own (Misspelt n) = refl
at_own Crowded = refl
at_own Deep = refl
at_own Miscalled = refl
at_own Miscut = refl
at_own Disordered = refl
at_own BadCount = refl

-- no refusal has the number 0
pub number_some : (e : Refusal) → eqb (number_of e) 0 ≡ false
number_some LongLog = refl
number_some LongPattern = refl
number_some (Misspelt n) = refl
number_some Crowded = refl
number_some Deep = refl
number_some Miscalled = refl
number_some Miscut = refl
number_some Disordered = refl
number_some BadCount = refl

pub some_number : (e : Refusal) → 1 ≤ number_of e
some_number e = omega (arith, eqb-false (number_of e) 0 (number_some e))

-- number and place fix the refusal
pub refusal-unique : (d e : Refusal) → number_of d ≡ number_of e → place_of d ≡ place_of e → d ≡ e
refusal-unique d e n p = sym (at_own d) ∙ (ap₂ refusal_at n p ∙ at_own e)

-- a reply fixes the result
abbrev filled_by : FillReply → Result Filled Refusal
filled_by r = cond (eqb r.number 0) (Ok (record { count = r.count; more = r.more })) (Err (refusal_at r.number r.place))

filled_own : (a : Result Filled Refusal) → filled_by (fill_reply a) ≡ a
filled_own (Ok r) = refl
filled_own (Err e) = rw number_some (ap Err (at_own e))

pub fill-reply-unique : (a b : Result Filled Refusal) → fill_reply a ≡ fill_reply b → a ≡ b
fill-reply-unique a b e = sym (filled_own a) ∙ (ap filled_by e ∙ filled_own b)

abbrev result_by : Reply → Result ℕ Refusal
result_by r = cond (eqb r.number 0) (Ok r.count) (Err (refusal_at r.number r.place))

result_own : (a : Result ℕ Refusal) → result_by (reply a) ≡ a
result_own (Ok n) = refl
result_own (Err e) = rw number_some (ap Err (at_own e))

pub reply-unique : (a b : Result ℕ Refusal) → reply a ≡ reply b → a ≡ b
reply-unique a b e = sym (result_own a) ∙ (ap result_by e ∙ result_own b)
