-- The automaton by which the reading computes: what a byte does to a state, and what it makes of a text.
-- `Says` and `says-unique` pin it: what it makes of a text is proved to be what `Says` says of it, and that is unique.
-- Assumes nothing.
use Rattle.std.specs.Prelude.{ℕ, zero, suc, ◌+◌, ◌-◌, ◌*◌, Bool, true, not, cond, ◌&&◌, ◌||◌, List, [], ◌∷◌, leb, ltb, eqb, length, get_or, Option, Some, None}
use Rattle.digits.specs.Chart.{digit}
use Rattle.pattern.specs.Kinds.{Symbol, Kind, kinds, find, kind_in, field_count, low, high, arity, symbol}
use Rattle.stretches.specs.declared.Node as row
use Rattle.pattern.specs.declared.Slot.{Slot}
use Rattle.pattern.specs.declared.State.{State}
use Rattle.pattern.specs.declared.State.TheVariants.{Letters, Field, Digits}
use Rattle.pattern.specs.declared.Step.{Step}
use Rattle.pattern.specs.declared.Step.TheVariants.{Within, Closed}

-- ── Words ──

-- the byte at place i of a word; past its letters comes a comma
abbrev pub letter_at : List ℕ → ℕ → ℕ
letter_at w i = get_or w i 44

-- the words agree in their first m letters
abbrev pub alike : ℕ → List ℕ → List ℕ → Bool
alike zero v w = true
alike (suc m) v w = alike m v w && eqb (letter_at v m) (letter_at w m)

-- the kind's word has the first m letters of v, and then b
abbrev pub continues : List ℕ → ℕ → ℕ → Kind → Bool
continues v m b x = alike m v x.word && eqb (letter_at x.word m) b

-- the row of the first such kind, v being the word of row r; the number of kinds where there is none
unfoldable pub next : ℕ → ℕ → ℕ → ℕ
next r m b = find (continues (kind_in r).word m b) kinds

-- ── Numbers ──

-- digits of value v are the start of a number from lo to hi (lo at most 10)
abbrev pub live : ℕ → ℕ → ℕ → Bool
live lo hi v = leb v hi && (leb lo v || (leb 1 v && leb (10 * v) hi))

-- ── What is read of a symbol ──

-- a node of a kind with three numbers, the size of its subtree not known yet
abbrev pub coded : ℕ → ℕ → ℕ → ℕ → row.Node
coded k a b c = record { kind = k; size = 0; first = a; second = b; third = c }

-- its symbol
abbrev pub said : row.Node → Symbol
said h = symbol h.kind h.first h.second h.third

-- the number at place j of a kind, the numbers before it, and the trees still to come
abbrev pub slot : ℕ → ℕ → ℕ → ℕ → ℕ → Slot
slot k j a b n = record { kind = k; field = j; first = a; second = b; need = n }

-- ── Steps; none where no pattern goes on so ──

-- digits of value v, if they start a number of the field
abbrev pub number : Slot → ℕ → Option Step
number f v = cond (live (low f.kind f.field) (high f.kind f.field) v) (Some (Within (Digits f v))) None

-- a comma after a whole symbol
abbrev pub shut : row.Node → ℕ → Option Step
shut h n = cond (eqb (n + arity h.kind h.first) 1) None (Some (Closed h (Letters 0 0 (n + arity h.kind h.first - 1))))

-- a comma after a word
abbrev pub word_end : ℕ → ℕ → Option Step
word_end k n = cond (eqb (field_count k) 0) (shut (coded k 0 0 0) n) (Some (Within (Field (slot k 0 0 0 n))))

-- a letter or a comma that leads to row r
abbrev pub letter : ℕ → ℕ → ℕ → ℕ → Option Step
letter r m b n = cond (ltb r (length kinds)) (cond (eqb b 44) (word_end (kind_in r).number n) (Some (Within (Letters r (m + 1) n)))) None

-- a symbol's first number after the field at place j, of value v
abbrev pub first_field : ℕ → ℕ → ℕ → ℕ
first_field j a v = cond (eqb j 0) v a

-- the second; 0 before its field
abbrev pub second_field : ℕ → ℕ → ℕ → ℕ
second_field j b v = cond (eqb j 0) 0 (cond (eqb j 1) v b)

-- the third
abbrev pub third_field : ℕ → ℕ → ℕ
third_field j v = cond (eqb j 0) 0 (cond (eqb j 1) 0 v)

-- the three, of the symbol so far
abbrev pub with_value : Slot → ℕ → row.Node
with_value f v = coded f.kind (first_field f.field f.first v) (second_field f.field f.second v) (third_field f.field v)

-- and where its next number stands
abbrev pub next_slot : Slot → ℕ → Slot
next_slot f v = slot f.kind (f.field + 1) (first_field f.field f.first v) (second_field f.field f.second v) f.need

-- a comma after a number
abbrev pub number_end : Slot → ℕ → Option Step
number_end f v = cond (leb (low f.kind f.field) v) (cond (ltb (f.field + 1) (field_count f.kind)) (Some (Within (Field (next_slot f v)))) (shut (with_value f v) f.need)) None

-- what a byte does to a state
unfoldable pub step : State → ℕ → Option Step
step (Letters r m n) x = letter (next r m x) m x n
step (Field f) x = cond (digit x) (number f (x - 48)) None
step (Digits f v) x = cond (eqb x 44) (number_end f v) (cond (digit x && not (eqb v 0)) (number f (10 * v + (x - 48))) None)

-- ── Scanning a text ──

-- the place where no pattern goes on, or the symbols of the text
pub data Scan : Type 0 where
  Stop : ℕ → Scan
  Whole : List Symbol → Scan

-- a byte before, inside a symbol
abbrev pub later : Scan → Scan
later (Stop p) = Stop (suc p)
later (Whole hs) = Whole hs

-- a byte before, that ends a symbol
abbrev pub after : Symbol → Scan → Scan
after h (Stop p) = Stop (suc p)
after h (Whole hs) = Whole (h ∷ hs)

-- at the end of the text
abbrev pub last : row.Node → ℕ → Scan
last h n = cond (eqb (n + arity h.kind h.first) 1) (Whole (said h ∷ [])) (Stop 0)

-- what the end of the text makes of a state
unfoldable pub finish : State → Scan
finish (Letters r m n) = Stop 0
finish (Field f) = Stop 0
finish (Digits f v) = cond (leb (low f.kind f.field) v) (cond (ltb (f.field + 1) (field_count f.kind)) (Stop 0) (last (with_value f v) f.need)) (Stop 0)

-- what a step makes of the rest
abbrev pub go : (State → Scan) → Option Step → Scan
go r None = Stop 0
go r (Some (Within s)) = later (r s)
go r (Some (Closed h s)) = after (said h) (r s)

-- what a text makes of a state
unfoldable pub scan : List ℕ → State → Scan
scan [] s = finish s
scan (b ∷ w) s = go (scan w) (step s b)
