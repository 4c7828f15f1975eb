-- Worked examples: the place where a misspelt pattern stops, computed, and the pattern of a whole text.
-- Assumes nothing.
use mathlib.Core.Path.{◌≡◌, refl}
use mathlib.Core.List.{[], ◌∷◌}
use Rattle.pattern.specs.Kinds.{Ev, Fr, Then, Inside, Outside, Holding, kind_in, row_of, kind_by}
use Rattle.pattern.specs.Pattern.{Node, Nil, Cons}
use Rattle.pattern.specs.Automaton.{next, step, finish, scan}
use Rattle.pattern.specs.Reading.{build, outcome_of, Accepts}
use Rattle.pattern.proofs.Trees.{Misread, reading}

-- or,1,ev,1,0
or-one : Misread (111 ∷ 114 ∷ 44 ∷ 49 ∷ 44 ∷ 101 ∷ 118 ∷ 44 ∷ 49 ∷ 44 ∷ 48 ∷ []) 4
unfolding kind_in kind_by row_of next step finish scan
or-one = reading (111 ∷ 114 ∷ 44 ∷ 49 ∷ 44 ∷ 101 ∷ 118 ∷ 44 ∷ 49 ∷ 44 ∷ 48 ∷ [])

-- or,0
or-none : Misread (111 ∷ 114 ∷ 44 ∷ 48 ∷ []) 3
unfolding kind_in kind_by row_of next step finish scan
or-none = reading (111 ∷ 114 ∷ 44 ∷ 48 ∷ [])

-- or,40
or-forty : Misread (111 ∷ 114 ∷ 44 ∷ 52 ∷ 48 ∷ []) 4
unfolding kind_in kind_by row_of next step finish scan
or-forty = reading (111 ∷ 114 ∷ 44 ∷ 52 ∷ 48 ∷ [])

-- ev,256,0
event-high : Misread (101 ∷ 118 ∷ 44 ∷ 50 ∷ 53 ∷ 54 ∷ 44 ∷ 48 ∷ []) 5
unfolding kind_in kind_by row_of next step finish scan
event-high = reading (101 ∷ 118 ∷ 44 ∷ 50 ∷ 53 ∷ 54 ∷ 44 ∷ 48 ∷ [])

-- ev,0
event-zero : Misread (101 ∷ 118 ∷ 44 ∷ 48 ∷ []) 3
unfolding kind_in kind_by row_of next step finish scan
event-zero = reading (101 ∷ 118 ∷ 44 ∷ 48 ∷ [])

-- max,65536
max-high : Misread (109 ∷ 97 ∷ 120 ∷ 44 ∷ 54 ∷ 53 ∷ 53 ∷ 51 ∷ 54 ∷ []) 8
unfolding kind_in kind_by row_of next step finish scan
max-high = reading (109 ∷ 97 ∷ 120 ∷ 44 ∷ 54 ∷ 53 ∷ 53 ∷ 51 ∷ 54 ∷ [])

-- fr,11
frame-high : Misread (102 ∷ 114 ∷ 44 ∷ 49 ∷ 49 ∷ []) 4
unfolding kind_in kind_by row_of next step finish scan
frame-high = reading (102 ∷ 114 ∷ 44 ∷ 49 ∷ 49 ∷ [])

-- ev,1,0,
comma : Misread (101 ∷ 118 ∷ 44 ∷ 49 ∷ 44 ∷ 48 ∷ 44 ∷ []) 6
unfolding kind_in kind_by row_of next step finish scan
comma = reading (101 ∷ 118 ∷ 44 ∷ 49 ∷ 44 ∷ 48 ∷ 44 ∷ [])

-- then,2,ev,1,0
unfinished : Misread (116 ∷ 104 ∷ 101 ∷ 110 ∷ 44 ∷ 50 ∷ 44 ∷ 101 ∷ 118 ∷ 44 ∷ 49 ∷ 44 ∷ 48 ∷ []) 13
unfolding kind_in kind_by row_of next step finish scan
unfinished = reading (116 ∷ 104 ∷ 101 ∷ 110 ∷ 44 ∷ 50 ∷ 44 ∷ 101 ∷ 118 ∷ 44 ∷ 49 ∷ 44 ∷ 48 ∷ [])

-- ot
o-other : Misread (111 ∷ 116 ∷ []) 1
unfolding kind_in kind_by row_of next step finish scan
o-other = reading (111 ∷ 116 ∷ [])

-- ou
out-started : Misread (111 ∷ 117 ∷ []) 2
unfolding kind_in kind_by row_of next step finish scan
out-started = reading (111 ∷ 117 ∷ [])

-- oud
out-other : Misread (111 ∷ 117 ∷ 100 ∷ []) 2
unfolding kind_in kind_by row_of next step finish scan
out-other = reading (111 ∷ 117 ∷ 100 ∷ [])

-- out
out-alone : Misread (111 ∷ 117 ∷ 116 ∷ []) 3
unfolding kind_in kind_by row_of next step finish scan
out-alone = reading (111 ∷ 117 ∷ 116 ∷ [])

-- inn
in-other : Misread (105 ∷ 110 ∷ 110 ∷ []) 2
unfolding kind_in kind_by row_of next step finish scan
in-other = reading (105 ∷ 110 ∷ 110 ∷ [])

-- in,1
in-number : Misread (105 ∷ 110 ∷ 44 ∷ 49 ∷ []) 3
unfolding kind_in kind_by row_of next step finish scan
in-number = reading (105 ∷ 110 ∷ 44 ∷ 49 ∷ [])

-- hat
has_other : Misread (104 ∷ 97 ∷ 116 ∷ []) 2
unfolding kind_in kind_by row_of next step finish scan
has_other = reading (104 ∷ 97 ∷ 116 ∷ [])

-- (nothing)
empty : Misread ([]) 0
unfolding kind_in kind_by row_of next step finish scan
empty = reading ([])

-- then,2,ev,7,0,ev,9,0
whole :
    outcome_of (116 ∷ 104 ∷ 101 ∷ 110 ∷ 44 ∷ 50 ∷ 44 ∷ 101 ∷ 118 ∷ 44 ∷ 55 ∷ 44 ∷ 48 ∷ 44 ∷ 101 ∷ 118 ∷ 44 ∷ 57 ∷ 44 ∷ 48 ∷ [])
    ≡ Accepts (Node (Then 2) (Cons (Node (Ev 7 0) Nil) (Cons (Node (Ev 9 0) Nil) Nil)))
unfolding kind_in kind_by row_of next step finish scan build outcome_of
whole = refl

-- in,ev,7,0,out,fr,3,0,has,ev,1,0,ev,2,0
nested :
    outcome_of (105 ∷ 110 ∷ 44 ∷ 101 ∷ 118 ∷ 44 ∷ 55 ∷ 44 ∷ 48 ∷ 44 ∷ 111 ∷ 117 ∷ 116 ∷ 44 ∷ 102 ∷ 114 ∷ 44 ∷ 51 ∷ 44 ∷ 48 ∷ 44 ∷ 104 ∷ 97 ∷ 115 ∷ 44 ∷ 101 ∷ 118 ∷ 44 ∷ 49 ∷ 44 ∷ 48 ∷ 44 ∷ 101 ∷ 118 ∷ 44 ∷ 50 ∷ 44 ∷ 48 ∷ [])
    ≡ Accepts (Node Inside (Cons (Node (Ev 7 0) Nil) (Cons (Node Outside (Cons (Node (Fr 3 0) Nil) (Cons (Node Holding (Cons (Node (Ev 1 0) Nil) (Cons (Node (Ev 2 0) Nil) Nil))) Nil))) Nil)))
unfolding kind_in kind_by row_of next step finish scan build outcome_of
nested = refl
