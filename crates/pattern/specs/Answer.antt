-- What reading a text answers: the table of the pattern's nodes in preorder, or the refusal.
-- Assumes nothing.
use Rattle.std.specs.Prelude.{ℕ, ◌≤◌, ◌<◌, ◌≡◌, List, length, replicate, Result, Ok, Err}
use Rattle.stretches.specs.Table.{no_node}
use Rattle.pattern.specs.Pattern.{Pattern, Spells, Longest, nodes, depth}
use Rattle.pattern.specs.Rows.{rows_of}
use Rattle.pattern.specs.declared.Table.{Table}
use Rattle.pattern.specs.declared.Refusal.{Refusal}
use Rattle.pattern.specs.declared.Refusal.TheVariants.{Long, Misspelt, Crowded, Deep}

-- the table of a pattern
abbrev pub table : Pattern → Table
table p = record { count = nodes p; rows = rows_of p }

-- what stands for the table of a refused text: one of no nodes
abbrev pub no_table : Table
no_table = record { count = 0; rows = replicate 32 no_node }

-- no refusal
pub record IsAccepted (s : List ℕ) (t : Table) : Type 0 where
  pub short : length s ≤ 1024
  pub pattern : Pattern
  pub spells : Spells pattern s
  pub few : nodes pattern ≤ 32
  pub shallow : depth pattern ≤ 8
  pub tabled : t ≡ table pattern

-- refusal 2
pub record IsLong (s : List ℕ) : Type 0 where
  pub long : 1024 < length s

-- refusal 3, with the place
pub record IsMisspelt (s : List ℕ) (n : ℕ) : Type 0 where
  pub short : length s ≤ 1024
  pub none : (p : Pattern) → Spells p s → ⊥
  pub place : Longest s n

-- refusal 4
pub record IsCrowded (s : List ℕ) : Type 0 where
  pub short : length s ≤ 1024
  pub pattern : Pattern
  pub spells : Spells pattern s
  pub many : 32 < nodes pattern

-- refusal 5
pub record IsDeep (s : List ℕ) : Type 0 where
  pub short : length s ≤ 1024
  pub pattern : Pattern
  pub spells : Spells pattern s
  pub few : nodes pattern ≤ 32
  pub deep : 8 < depth pattern

-- what each answer says of the text
abbrev pub Says : List ℕ → Result Table Refusal → Type 0
Says s (Ok t) = IsAccepted s t
Says s (Err Long) = IsLong s
Says s (Err (Misspelt n)) = IsMisspelt s n
Says s (Err Crowded) = IsCrowded s
Says s (Err Deep) = IsDeep s

-- the refusal's number
abbrev pub number_of : Refusal → ℕ
number_of Long = 2
number_of (Misspelt n) = 3
number_of Crowded = 4
number_of Deep = 5

-- the refusal's place
abbrev pub place_of : Refusal → ℕ
place_of Long = 0
place_of (Misspelt n) = n
place_of Crowded = 0
place_of Deep = 0
