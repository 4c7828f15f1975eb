-- Lent lists: one run of starts and ends in turn holding the lists one after another, and one run with the place where each list ends:
-- docs/FORMATS.md, "Lent lists".
-- Assumes nothing.
use Rattle.std.specs.Prelude.{ℕ, ◌-◌, List, [], ◌∷◌, take, drop}
use Rattle.stretches.specs.Stretch.{Stretch, st}

-- starts and ends in turn
abbrev pub pairs : List ℕ → List Stretch
pairs [] = []
pairs (s ∷ []) = []
pairs (s ∷ (e ∷ r)) = st s e ∷ pairs r

-- the stretches from place i of the items up to place h
abbrev pub part : List ℕ → ℕ → ℕ → List Stretch
part items i h = pairs (take (h - i) (drop i items))

-- the lists, where the first starts at place i of the items
abbrev pub lists_from : ℕ → List ℕ → List ℕ → List (List Stretch)
lists_from i items [] = []
lists_from i items (e ∷ ends) = part items i e ∷ lists_from e items ends

abbrev pub lists_of : List ℕ → List ℕ → List (List Stretch)
lists_of items ends = lists_from 0 items ends
