-- The reading of a text as a definition that computes: measure the text, scan it, build the tree of its symbols, count nodes and depth.
-- Assumes nothing.
use Rattle.std.specs.Prelude.{ℕ, zero, suc, ◌≡◌, cond, List, [], ◌∷◌, ltb, length, Result, Ok, Err}
use Rattle.pattern.specs.Kinds.{Symbol, rank}
use Rattle.pattern.specs.Pattern.{Pattern, Node, Patterns, Nil, Cons, nodes, depth}
use Rattle.pattern.specs.Automaton.{Scan, Stop, Whole, scan}
use Rattle.pattern.specs.Answer.{table, no_table, Says, number_of, place_of}
use Rattle.pattern.specs.declared.State.TheVariants.{Letters}
use Rattle.pattern.specs.declared.Table.{Table}
use Rattle.pattern.specs.declared.Refusal.{Refusal}

-- ── Symbols in preorder to trees: from the last to the first, each symbol takes its operands off the trees made so far ──

-- the first n trees
abbrev pub firsts : ℕ → Patterns → Patterns
firsts zero ps = Nil
firsts (suc n) Nil = Nil
firsts (suc n) (Cons p ps) = Cons p (firsts n ps)

-- the trees past the first n
abbrev pub others : ℕ → Patterns → Patterns
others zero ps = ps
others (suc n) Nil = Nil
others (suc n) (Cons p ps) = others n ps

-- the trees of the symbols
unfoldable pub build : List Symbol → Patterns
build [] = Nil
build (h ∷ hs) = Cons (Node h (firsts (rank h) (build hs))) (others (rank h) (build hs))

-- ── What comes of a text ──

-- a pattern; or the refusal's number and place
pub data Outcome : Type 0 where
  Accepts : Pattern → Outcome
  Refuses : ℕ → ℕ → Outcome

-- refusals 4 and 5
abbrev pub of_tree : Pattern → Outcome
of_tree p = cond (ltb 32 (nodes p)) (Refuses 4 0) (cond (ltb 8 (depth p)) (Refuses 5 0) (Accepts p))

-- the symbols of a whole text make one tree
abbrev pub of_trees : Patterns → Outcome
of_trees Nil = Refuses 3 0
of_trees (Cons p ps) = of_tree p

-- refusal 3
abbrev pub of_scan : Scan → Outcome
of_scan (Stop p) = Refuses 3 p
of_scan (Whole hs) = of_trees (build hs)

-- refusal 2 goes first
unfoldable pub outcome_of : List ℕ → Outcome
outcome_of s = cond (ltb 1024 (length s)) (Refuses 2 0) (of_scan (scan s (Letters 0 0 1)))

-- ── The answer ──

-- an outcome's number, 0 where it accepts
abbrev pub number_in : Outcome → ℕ
number_in (Accepts p) = 0
number_in (Refuses n q) = n

-- its place
abbrev pub place_in : Outcome → ℕ
place_in (Accepts p) = 0
place_in (Refuses n q) = q

-- its table
abbrev pub table_of : Outcome → Table
table_of (Accepts p) = table p
table_of (Refuses n q) = no_table

-- the answer that an outcome gives: its table, or the refusal of its number and place, of which there is one (`verdict-unique`)
abbrev pub Gives : Outcome → Result Table Refusal → Type 0
Gives (Accepts p) (Ok t) = t ≡ table p
Gives (Accepts p) (Err e) = ⊥
Gives (Refuses n q) (Ok t) = ⊥
Gives (Refuses n q) (Err e) = (number_of e ≡ n) × (place_of e ≡ q)

-- what `read` promises: the answer of the text's outcome, and what it says of the text
pub record ReadGives (s : List ℕ) (r : Result Table Refusal) : Type 0 where
  pub gives : Gives (outcome_of s) r
  pub says : Says s r
