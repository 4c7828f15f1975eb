-- Rows, changes, counts and united rows worked out. Assumes nothing.
use Rattle.std.specs.Prelude.{◌≡◌, refl, true, false, [], ◌∷◌, ◌++◌, replicate}
use Rattle.stretches.specs.Stretch.{st, marks}
use Rattle.marks.specs.Row.{bits, number, flags, row, changed, trues, mark_count, packed, with_row, united}

-- the lowest bit first
ex-bits : bits 4 5 ≡ true ∷ false ∷ true ∷ false ∷ []
unfolding bits
ex-bits = refl

-- lines 0 and 2 of the first word, line 64 of the second
ex-row : marks 0 (row (9 ∷ 5 ∷ 1 ∷ []) 1 2) ≡ st 0 0 ∷ st 2 2 ∷ st 64 64 ∷ []
unfolding row flags bits
ex-row = refl

-- a row that does not lie inside the words
ex-none : row (9 ∷ 5 ∷ 1 ∷ []) 2 2 ≡ []
unfolding row
ex-none = refl

-- line 65 of the row from word 1 on is bit 1 of word 2
ex-set : changed true (9 ∷ 5 ∷ 1 ∷ []) 1 2 65 ≡ 9 ∷ 5 ∷ 3 ∷ []
unfolding changed number bits
ex-set = refl

ex-unset : changed false (9 ∷ 5 ∷ 1 ∷ []) 1 2 2 ≡ 9 ∷ 1 ∷ 1 ∷ []
unfolding changed number bits
ex-unset = refl

-- the row has lines 0 to 127
ex-past : changed true (9 ∷ 5 ∷ 1 ∷ []) 1 2 128 ≡ 9 ∷ 5 ∷ 1 ∷ []
unfolding changed
ex-past = refl

-- lines 2 and 64
ex-count : mark_count (row (9 ∷ 5 ∷ 1 ∷ []) 1 2) 1 64 ≡ 2
unfolding mark_count trues row flags bits
ex-count = refl

-- lines 1 and 64, in two words and in one
ex-packed : packed 2 (false ∷ true ∷ (replicate 62 false ++ (true ∷ []))) ≡ 2 ∷ 1 ∷ []
unfolding packed number
ex-packed = refl

ex-packed-past : packed 1 (false ∷ true ∷ (replicate 62 false ++ (true ∷ []))) ≡ 2 ∷ []
unfolding packed number
ex-packed-past = refl

ex-with-row : with_row (9 ∷ 5 ∷ 1 ∷ []) 1 1 (false ∷ true ∷ []) ≡ 9 ∷ 2 ∷ 1 ∷ []
unfolding with_row packed number
ex-with-row = refl

-- the row of word 2 into the row of word 0
ex-united : united (9 ∷ 5 ∷ 3 ∷ []) 0 2 1 ≡ 11 ∷ 5 ∷ 3 ∷ []
unfolding united with_row packed number row flags bits
ex-united = refl

-- rows that share word 1
ex-overlap : united (9 ∷ 5 ∷ 3 ∷ []) 0 1 2 ≡ 9 ∷ 5 ∷ 3 ∷ []
unfolding united
ex-overlap = refl

-- a row that does not lie inside the words
ex-outside : united (9 ∷ 5 ∷ 3 ∷ []) 0 2 2 ≡ 9 ∷ 5 ∷ 3 ∷ []
unfolding united
ex-outside = refl
