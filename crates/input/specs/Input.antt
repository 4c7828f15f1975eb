-- Standard input: the pattern up to the first line feed (or the end), then the log; taken in piece by piece, and kept as far as two lent buffers hold.
-- Assumes nothing.
use Rattle.std.specs.Prelude.{ℕ, ◌+◌, min, ◌≡◌, Bool, false, cond, ◌||◌, List, [], ◌∷◌, length, take, eqb}
use Rattle.std.proofs.lemmas.List.Edits.{sets}
use Rattle.input.specs.declared.Intake.{Intake}

-- the pattern: the bytes up to the first line feed, or the end
abbrev pub pattern_of : List ℕ → List ℕ
pattern_of [] = []
pattern_of (b ∷ s) = cond (eqb b 10) [] (b ∷ pattern_of s)

-- then the log
abbrev pub log_of : List ℕ → List ℕ
log_of [] = []
log_of (b ∷ s) = cond (eqb b 10) s (log_of s)

-- whether the pattern's line feed is among the bytes
abbrev pub feed_in : List ℕ → Bool
feed_in [] = false
feed_in (b ∷ s) = eqb b 10 || feed_in s

-- what a further piece adds to the pattern and to the log, by whether the line feed had come
abbrev pub pattern_part : Bool → List ℕ → List ℕ
pattern_part ended piece = cond ended [] (pattern_of piece)

abbrev pub log_part : Bool → List ℕ → List ℕ
log_part ended piece = cond ended piece (log_of piece)

-- the bytes go behind those used, as far as the buffer goes
pub record Kept (buffer : List ℕ) (used : ℕ) (added : List ℕ) (r : ℕ) (buffer' : List ℕ) : Type 0 where
  pub count : r ≡ min (used + length added) (length buffer)
  pub bytes : buffer' ≡ sets buffer used added

-- what taking in a piece leaves in the buffers p of the pattern and l of the log
pub record TakenIn (piece : List ℕ) (t : Intake) (p l : List ℕ) (r : Intake) (p' l' : List ℕ) : Type 0 where
  pub ended : r.ended ≡ t.ended || feed_in piece
  pub pattern : Kept p t.pattern (pattern_part t.ended piece) r.pattern p'
  pub log : Kept l t.log (log_part t.ended piece) r.log l'

-- the first `used` bytes of the buffer are the first of those held, as far as the buffer goes
pub record Holds (held : List ℕ) (used : ℕ) (buffer : List ℕ) : Type 0 where
  pub count : used ≡ min (length held) (length buffer)
  pub bytes : take used buffer ≡ take (length buffer) held

-- the input's pattern and log are kept, as far as the buffers go
pub record Keeps (input : List ℕ) (t : Intake) (p l : List ℕ) : Type 0 where
  pub ended : t.ended ≡ feed_in input
  pub pattern : Holds (pattern_of input) t.pattern p
  pub log : Holds (log_of input) t.log l
