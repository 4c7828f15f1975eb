-- What a filling call leaves in every lent cell, and what it returns: docs/FORMATS.md, "The filling call".
-- Assumes nothing.
use Rattle.std.specs.Prelude.{ℕ, ◌+◌, ◌*◌, ◌/◌, Bool, List, [], ◌∷◌, ◌++◌, length, take, drop, ltb}
use Rattle.stretches.specs.Stretch.{Stretch}

-- start then end
abbrev pub flat : List Stretch → List ℕ
flat [] = []
flat (x ∷ xs) = x.start ∷ x.end ∷ flat xs

-- as many as whole pairs fit
abbrev pub pairs_in : List ℕ → ℕ
pairs_in cells = length cells / 2

-- the answers from number f (the first is 0) that are written
abbrev pub written : List Stretch → ℕ → List ℕ → List Stretch
written l f cells = take (pairs_in cells) (drop f l)

-- the cells afterwards: later cells keep their contents
abbrev pub filled : List Stretch → ℕ → List ℕ → List ℕ
filled l f cells = flat (written l f cells) ++ drop (2 * length (written l f cells)) cells

-- "more" exactly if a further answer exists, else "done"
abbrev pub more_after : List Stretch → ℕ → List ℕ → Bool
more_after l f cells = ltb (f + length (written l f cells)) (length l)
