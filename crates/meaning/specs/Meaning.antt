-- What a pattern answers in a log: docs/FORMATS.md, "The pattern" and "What the operators mean".
-- Assumes nothing.
use Rattle.std.specs.Prelude.{ℕ, suc, ◌≡◌, refl, Bool, false, cond, List, [], ◌∷◌, map, take, drop, eqb}
use Rattle.std.proofs.Math.Option.{Option, none, some}
use Rattle.stretches.specs.Stretch as s
use Rattle.stretches.specs.declared.Node as row
use Rattle.stretches.specs.declared.Stretch.{Stretch}
use Rattle.stretches.specs.Stretch.{st, Op, marks}
use Rattle.stretches.specs.Operators.{operator_of, apply}
use Rattle.stretches.specs.Table.{kind_at, first_at, second_at, holder_kind, Given, list_at}
use Rattle.stretches.specs.Run.{in_run}
use Rattle.records.specs.declared.Record.{Record}
use Rattle.records.specs.declared.Layout.TheVariants.{One}
use Rattle.records.specs.declared.Line.{Line}
use Rattle.records.specs.declared.Line.TheVariants.{Damaged, Sound}
use Rattle.records.specs.Line.{says, sound_lines}
use Rattle.records.specs.Leaf.{code_is, frame_is}
use Rattle.pattern.specs.Kinds.{Symbol, Ev, Fr, Or, And, Row, Then, Less, Max, Inside, Outside, Holding, kind_of, first_of, second_of}
use Rattle.pattern.specs.Pattern.{Pattern, Patterns, Node, Nil, Cons}

-- which lines a leaf matches, by its kind and numbers: `ev,c,l`, kind 16, those with code c on lane l; `fr,f,l`, kind 17, those with frame f on lane l
abbrev pub hits : ℕ → ℕ → ℕ → Line → Bool
hits k a l x = cond (eqb k 16) (code_is a l x) (cond (eqb k 17) (frame_is a l x) false)

abbrev pub matches : Symbol → Line → Bool
matches h x = hits (kind_of h) (first_of h) (second_of h) x

-- the operator of a symbol, `max` with the measure m; none: a leaf
abbrev pub operator : (Stretch → ℕ) → Symbol → Option Op
operator m h = operator_of m (kind_of h) (first_of h)

-- each symbol with its own operator or its own test
ex-operators : (m : Stretch → ℕ) (n k c l : ℕ) → map (operator m) (Or n ∷ And n ∷ Row n ∷ Then n ∷ Less ∷ Max k ∷ Inside ∷ Outside ∷ Holding ∷ Ev c l ∷ Fr c l ∷ [])
    ≡ some s.Or ∷ some s.And ∷ some s.Row ∷ some s.Then ∷ some s.Less ∷ some (s.Max m k) ∷ some s.Inside ∷ some s.Outside ∷ some s.Holding ∷ none ∷ none ∷ []
ex-operators m n k c l = refl

ex-ev : (c l : ℕ) (x : Line) → matches (Ev c l) x ≡ code_is c l x
ex-ev c l x = refl

ex-fr : (f l : ℕ) (x : Line) → matches (Fr f l) x ≡ frame_is f l x
ex-fr f l x = refl

-- what the leaves' lists are, and what `max` measures
pub record Valuation : Type 0 where
  pub leaf : Symbol → List Stretch
  pub measure : Stretch → ℕ

-- the list of a pattern
abbrev mutual
  pub eval : Valuation → Pattern → List Stretch
  eval v (Node h ps) = apply (operator v.measure h) (v.leaf h) (evals v ps)

  pub evals : Valuation → Patterns → List (List Stretch)
  evals v Nil = []
  evals v (Cons p ps) = eval v p ∷ evals v ps

-- the lines from start through end
abbrev pub lines_of : List Line → Stretch → List Line
lines_of ls x = drop x.start (take (suc x.end) ls)

-- what `max` measures in these lines: the number of sound ones from start through end
abbrev pub measure_in : List Line → Stretch → ℕ
measure_in ls x = sound_lines (lines_of ls x)

-- lines 1 and 2 of four are damaged: [0..3] holds two sound lines, [1..2] none
ex-measure : (r : Record) → map (measure_in (Sound r ∷ Damaged ∷ Damaged ∷ Sound r ∷ [])) (st 0 3 ∷ st 0 2 ∷ st 1 2 ∷ st 3 3 ∷ []) ≡ 2 ∷ 1 ∷ 0 ∷ 1 ∷ []
ex-measure r = refl

-- over lines: a leaf has [p..p] for each matching line p
abbrev pub over_lines : List Line → Valuation
over_lines ls = record { leaf = λ h. marks 0 (map (matches h) ls); measure = measure_in ls }

-- the answers of a pattern in these lines
abbrev pub answers_of : Pattern → List Line → List Stretch
answers_of p ls = eval (over_lines ls) p

-- and in a log
abbrev pub answers_in : Pattern → List ℕ → List Stretch
answers_in p log = answers_of p (says log)

-- ── What lines outside a run may decide ──

-- no `in` and no `out`, which look for a stretch of B that holds the answer and may reach out of the run
abbrev mutual
  pub Local : Pattern → Type 0
  Local (Node h ps) = (holder_kind (kind_of h) ≡ false) × Locals ps

  pub Locals : Patterns → Type 0
  Locals Nil = Unit {0}
  Locals (Cons p ps) = Local p × Locals ps

-- a line with this code
abbrev coded : ℕ → Line
coded c = Sound (record { layout = One; lane = 1; code = c; frame = 1; pins = 0 })

-- between codes 8 and 9 line 1 lies in a stretch that has both; alone it lies in none
abbrev practice : Pattern
practice = Node (And 2) (Cons (Node (Ev 8 0) Nil) (Cons (Node (Ev 9 0) Nil) Nil))

abbrev foul : Pattern
foul = Node (Ev 7 0) Nil

-- so the lines around a run of one line decide what `in` and `out` keep in it
ex-in-breaks : (in_run 1 1 (answers_of (Node Inside (Cons foul (Cons practice Nil))) (coded 8 ∷ coded 7 ∷ coded 9 ∷ [])) ≡ st 0 0 ∷ []) × (answers_of (Node Inside (Cons foul (Cons practice Nil))) (coded 7 ∷ []) ≡ [])
ex-in-breaks = (refl, refl)

ex-out-breaks : (in_run 1 1 (answers_of (Node Outside (Cons foul (Cons practice Nil))) (coded 8 ∷ coded 7 ∷ coded 9 ∷ [])) ≡ []) × (answers_of (Node Outside (Cons foul (Cons practice Nil))) (coded 7 ∷ []) ≡ st 0 0 ∷ [])
ex-out-breaks = (refl, refl)

-- ── The same of a table of nodes, as a pattern is read into one ──

-- a node's own list has [p..p] for each line p that it matches
abbrev pub over_table : List row.Node → List Line → Given
over_table rows ls = record { own = λ v. marks 0 (map (hits (kind_at rows v) (first_at rows v) (second_at rows v)) ls); measure = measure_in ls }

-- the list of its first node, which is the pattern's (`table-answers` of proofs/Table.antt)
unfoldable pub table_in : List row.Node → List ℕ → List Stretch
table_in rows log = list_at (over_table rows (says log)) rows 0
