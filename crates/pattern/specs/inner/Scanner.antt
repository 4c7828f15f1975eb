-- What the scanner's functions promise each other.
-- Assumes nothing.
use Rattle.std.specs.Prelude.{ℕ, ◌+◌, ◌-◌, ◌≤◌, ◌<◌, ◌≡◌, cond, List, [], ◌∷◌, ◌++◌, map, leb, ltb, eqb, length, set, replicate, Option, Some, None, Result, Ok, Err}
use Rattle.basics.specs.Decimal.{decimal}
use Rattle.pattern.specs.Kinds.{Symbol, kinds, field_count, low, arity}
use Rattle.stretches.specs.Table.{no_node}
use Rattle.pattern.specs.Rows.{entry}
use Rattle.pattern.specs.Automaton.{first_field, with_value, Scan, Stop, Whole}
use Rattle.stretches.specs.declared.Node as row
use Rattle.pattern.specs.declared.State.{State}
use Rattle.pattern.specs.declared.State.TheVariants.{Letters, Field, Digits}
use Rattle.pattern.specs.declared.Table.{Table}
use Rattle.pattern.specs.declared.Refusal.{Refusal}
use Rattle.pattern.specs.declared.Refusal.TheVariants.{Misspelt}

-- the row, if it is one
abbrev pub row_found : ℕ → Option ℕ
row_found r = cond (ltb r (length kinds)) (Some r) None

-- the numbers of a state are small
abbrev pub Bounded : ℕ → State → Type 0
Bounded m (Letters r i n) = (1 ≤ n) × (n ≤ m) × (i ≤ m) × (r < length kinds)
Bounded m (Field f) = (1 ≤ f.need) × (f.need ≤ m) × (f.field ≤ 2)
Bounded m (Digits f v) = (1 ≤ f.need) × (f.need ≤ m) × (v ≤ 65535) × (first_field f.field f.first v ≤ 65535) × (f.field ≤ 2)

-- what a state has read of its word or number, from its start on: the digits of a number are its decimal
abbrev pub Written : State → List ℕ → Type 0
Written (Letters r m n) t = Unit {0}
Written (Field f) t = t ≡ []
Written (Digits f v) t = t ≡ decimal v

-- and then the byte b
pub record Piece (s : State) (b : ℕ) (piece : List ℕ) : Type 0 where
  pub before : List ℕ
  pub written : Written s before
  pub whole : piece ≡ before ++ (b ∷ [])

-- after the byte b: nothing, where it is a comma
abbrev pub since : ℕ → List ℕ → List ℕ
since b t = cond (eqb b 44) [] (t ++ (b ∷ []))

-- a symbol that ends the text
abbrev pub final : row.Node → ℕ → Option row.Node
final h n = cond (eqb (n + arity h.kind h.first) 1) (Some h) None

-- the symbol that the end of the text ends
unfoldable pub end_of : State → Option row.Node
end_of (Letters r m n) = None
end_of (Field f) = None
end_of (Digits f v) = cond (leb (low f.kind f.field) v) (cond (ltb (f.field + 1) (field_count f.kind)) None (final (with_value f v) f.need)) None

-- a node more, counted only where there is no room
abbrev pub put : Table → row.Node → Table
put t h = record { count = t.count + 1; rows = cond (ltb t.count 32) (set t.rows t.count h) t.rows }

-- the symbols as nodes whose sizes are not known yet, and then no nodes
abbrev pub unsized : List Symbol → List row.Node
unsized hs = map (λ h. entry h 0) hs ++ replicate (32 - length hs) no_node

-- what the code keeps of a scan
abbrev pub Tells : Scan → Result Table Refusal → Type 0
Tells (Stop p) (Ok t) = ⊥
Tells (Stop p) (Err e) = e ≡ Misspelt p
Tells (Whole hs) (Ok t) = (t.count ≡ length hs) × (length hs ≤ 32 → t.rows ≡ unsized hs)
Tells (Whole hs) (Err e) = ⊥
