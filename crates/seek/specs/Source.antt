-- What the leaves of a table read, and the list that each node stands for. Assumes nothing.
use Rattle.std.specs.Prelude.{ℕ, ◌<◌, ◌≡◌, refl, cond, List, [], ◌∷◌, length, replicate, leb, eqb}
use Rattle.stretches.specs.declared.Node.{Node}
use Rattle.stretches.specs.declared.Stretch.{Stretch}
use Rattle.stretches.specs.Stretch.{st, Fine, marks, length_of}
use Rattle.stretches.specs.Lent.{part}
use Rattle.stretches.specs.Table.{kind_at, first_at, second_at, no_node, Given, list_at}
use Rattle.marks.specs.Row.{row}
use Rattle.ranks.specs.Rank.{marks_by}
use Rattle.seek.specs.declared.Searched.{Searched}

-- rows of marks in words, lent lists in items, and the row of the sound lines with the number of marks before each of its words; over lists there is none
pub record Source : Type 0 where
  pub words : List ℕ
  pub items : List ℕ
  pub sound : List ℕ

abbrev pub source : List ℕ → List ℕ → List ℕ → Source
source w i s = record { words = w; items = i; sound = s }

-- what is searched, but for the table
abbrev pub source_of : Searched → Source
source_of s = source s.words.now s.items.now s.sound.now

-- the stretches from place i of the items up to place h; a list that does not lie inside the items has none
abbrev pub lent : List ℕ → ℕ → ℕ → List Stretch
lent items i h = cond (leb h (length items)) (part items i h) []

-- a node's own list by its kind and numbers: 16 a row of marks by its first word and its width, 17 a lent list by its places from and to
abbrev pub own_list : Source → ℕ → ℕ → ℕ → List Stretch
own_list src k a b = cond (eqb k 16) (marks 0 (row src.words a b)) (cond (eqb k 17) (lent src.items a b) [])

-- what `max` measures: the sound lines from start through end, by their row; without one, the length in lines
abbrev pub measured_by : List ℕ → Stretch → ℕ
measured_by sound x = cond (eqb (length sound) 0) (length_of x) (marks_by sound x.start x.end)

abbrev pub measured : Source → Stretch → ℕ
measured src x = measured_by src.sound x

abbrev pub given : Source → List Node → Given
given src rows = record { own = λ v. own_list src (kind_at rows v) (first_at rows v) (second_at rows v); measure = measured src }

-- the list that node v stands for
abbrev pub list_over : Source → List Node → ℕ → List Stretch
list_over src rows v = list_at (given src rows) rows v

-- each node's own list is fine and ends below line 65,536
abbrev pub Good : Source → List Node → Type 0
Good src rows = (v : ℕ) → v < 32 → Fine 65536 ((given src rows).own v)

-- ── An example: less of lines 0, 2 and 64 by a lent list ──

abbrev node : ℕ → ℕ → ℕ → ℕ → Node
node k n a b = record { kind = k; size = n; first = a; second = b; third = 0 }

abbrev sample : List Node
sample = node 5 3 0 0 ∷ node 16 1 1 2 ∷ node 17 1 2 4 ∷ replicate 29 no_node

ex-list : list_over (source (9 ∷ 5 ∷ 1 ∷ []) (0 ∷ 0 ∷ 2 ∷ 2 ∷ []) []) sample 0 ≡ st 0 0 ∷ st 64 64 ∷ []
unfolding list_at Rattle.stretches.specs.Table.last_lists Rattle.stretches.specs.Table.operands Rattle.stretches.specs.Table.next_of Rattle.stretches.specs.Table.stop_of row Rattle.marks.specs.Row.flags Rattle.marks.specs.Row.bits
ex-list = refl
