-- Rows of marks in words of 64 bits: line p of a row is bit p mod 64, the lowest being bit 0, of the row's word p div 64. Assumes nothing.
use Rattle.std.specs.Prelude.{◌≡◌, ℕ, zero, suc, ◌+◌, ◌-◌, ◌*◌, ◌/◌, ◌%◌, ◌^◌, Bool, true, cond, ◌&&◌, ◌||◌, List, [], ◌∷◌, ◌++◌, length, get_or, take, drop, set, leb, ltb, eqb}
use Rattle.stretches.specs.Stretch.{either}

-- the d lowest bits of a number, the lowest first
unfoldable pub bits : ℕ → ℕ → List Bool
bits zero w = []
bits (suc d) w = eqb (w % 2) 1 ∷ bits d (w / 2)

-- the number that has these bits, the lowest first
unfoldable pub number : List Bool → ℕ
number [] = zero
number (b ∷ bs) = cond b 1 0 + 2 * number bs

-- the bits of the words, 64 of each
unfoldable pub flags : List ℕ → List Bool
flags [] = []
flags (w ∷ ws) = bits 64 w ++ flags ws

-- width words from place at on lie inside so many words, and a usize holds the number of their bits
abbrev pub lies : ℕ → ℕ → ℕ → Bool
lies len at width = leb (at + width) len && ltb (64 * width) (2 ^ 64)

-- n rows of w words each fit into so many words; a row of more than 1,024 words (65,536 lines) never does
abbrev pub fit : ℕ → ℕ → ℕ → Bool
fit n w len = leb w 1024 && leb (n * w) len

-- the row of width words from place at on: its lines, each marked or not; a row that does not lie inside the words has no line
unfoldable pub row : List ℕ → ℕ → ℕ → List Bool
row words at width = cond (lies (length words) at width) (flags (take width (drop at words))) []

-- the row lies inside the words, and these are its own
pub record RowIs (words : List ℕ) (at width : ℕ) (ws : List ℕ) : Type 0 where
  pub inside : lies (length words) at width ≡ true
  pub are : ws ≡ take width (drop at words)

-- a word with its bit k made b
abbrev pub with_bit : Bool → ℕ → ℕ → ℕ
with_bit b w k = number (set (bits 64 w) k b)

-- the words with the bit of line p, counted from word at on, made b
abbrev pub with_line : Bool → List ℕ → ℕ → ℕ → List ℕ
with_line b words at p = set words (at + p / 64) (with_bit b (get_or words (at + p / 64) 0) (p % 64))

-- the words with line p of the row made b; unchanged where the row has no line p
unfoldable pub changed : Bool → List ℕ → ℕ → ℕ → ℕ → List ℕ
changed b words at width p = cond (lies (length words) at width && ltb p (64 * width)) (with_line b words at p) words

-- how many are true
unfoldable pub trues : List Bool → ℕ
trues [] = zero
trues (b ∷ bs) = cond b (suc (trues bs)) (trues bs)

-- how many lines from s through e are marked
unfoldable pub mark_count : List Bool → ℕ → ℕ → ℕ
mark_count bs s e = trues (take (suc e - s) (drop s bs))

-- w words whose bits are these lines, clear past the last; lines past 64 × w are dropped
unfoldable pub packed : ℕ → List Bool → List ℕ
packed zero bs = []
packed (suc w) bs = number (take 64 bs) ∷ packed w (drop 64 bs)

-- the words with the row of width words from place at on made these lines
unfoldable pub with_row : List ℕ → ℕ → ℕ → List Bool → List ℕ
with_row words at width bs = take at words ++ (packed width bs ++ drop (at + width) words)

-- the words with the row clear; unchanged where it does not lie inside the words
abbrev pub cleared : List ℕ → ℕ → ℕ → List ℕ
cleared words at width = cond (lies (length words) at width) (with_row words at width []) words

-- two rows of width words, from place to on and from place at on, share no word
abbrev pub apart : ℕ → ℕ → ℕ → Bool
apart to at width = leb (to + width) at || leb (at + width) to

-- the words with the row from place to on marked also where the row from place at on is; unchanged where one does not lie inside the words, or they share one
unfoldable pub united : List ℕ → ℕ → ℕ → ℕ → List ℕ
united words to at width =
    cond ((lies (length words) to width && lies (length words) at width) && apart to at width)
    (with_row words to width (either (row words to width) (row words at width))) words
