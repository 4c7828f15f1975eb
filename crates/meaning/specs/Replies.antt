-- What the calls reply, as numbers: of a refusal its number and place, of an accepted call number 0 and what it gives. Assumes nothing.
use Rattle.std.specs.Prelude.{ℕ, Bool, false, Result, Ok, Err}
use Rattle.meaning.specs.declared.Refusal.{Refusal}
use Rattle.meaning.specs.declared.Refusal.TheVariants.{LongLog, LongPattern, Misspelt, Crowded, Deep, Miscalled, Miscut, Disordered, BadCount}
use Rattle.meaning.specs.declared.Filled.{Filled}
use Rattle.pattern.specs.declared.Refusal as pattern
use Rattle.pattern.specs.declared.Refusal.TheVariants as pattern_says
use Rattle.meaning.specs.Refusals.{Signal, refused, accepted}

-- ── A refusal's number, and its place: 0 but of a misspelt pattern ──

abbrev pub number_of : Refusal → ℕ
number_of LongLog = 1
number_of LongPattern = 2
number_of (Misspelt n) = 3
number_of Crowded = 4
number_of Deep = 5
number_of Miscalled = 6
number_of Miscut = 7
number_of Disordered = 8
number_of BadCount = 10

abbrev pub place_of : Refusal → ℕ
place_of LongLog = 0
place_of LongPattern = 0
place_of (Misspelt n) = n
place_of Crowded = 0
place_of Deep = 0
place_of Miscalled = 0
place_of Miscut = 0
place_of Disordered = 0
place_of BadCount = 0

-- the refusal of a pattern among those of the calls
abbrev pub told : pattern.Refusal → Refusal
told pattern_says.Long = LongPattern
told (pattern_says.Misspelt n) = Misspelt n
told pattern_says.Crowded = Crowded
told pattern_says.Deep = Deep

-- what a call that may be refused signals
abbrev pub signal : {A : Type 0} → Result A Refusal → Signal
signal (Ok x) = accepted
signal (Err e) = refused (number_of e) (place_of e)

-- ── Replies ──

-- of a filling call; "more": a further answer exists. Of a refused call the count is 0
pub record FillReply : Type 0 where
  pub number : ℕ
  pub place : ℕ
  pub count : ℕ
  pub more : Bool

abbrev pub fill_reply : Result Filled Refusal → FillReply
fill_reply (Ok r) = record { number = 0; place = 0; count = r.count; more = r.more }
fill_reply (Err e) = record { number = number_of e; place = place_of e; count = 0; more = false }

-- of a call that gives a count
pub record Reply : Type 0 where
  pub number : ℕ
  pub place : ℕ
  pub count : ℕ

abbrev pub reply : Result ℕ Refusal → Reply
reply (Ok n) = record { number = 0; place = 0; count = n }
reply (Err e) = record { number = number_of e; place = place_of e; count = 0 }
