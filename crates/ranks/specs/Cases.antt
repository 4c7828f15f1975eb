-- Counts and what is read by them, worked out. Assumes nothing.
use Rattle.std.specs.Prelude.{◌≡◌, refl, List, [], ◌∷◌, ℕ}
use Rattle.marks.specs.Row.{bits, flags, row, trues, mark_count}
use Rattle.ranks.specs.Rank.{half, before, indexed, through, marks_by}

-- a last odd word is not the row's; of 2,050 words none is
ex-half : half 5 ≡ 2
ex-half = refl

ex-longest : half 2049 ≡ 1024
ex-longest = refl

ex-too-long : half 2050 ≡ 0
ex-too-long = refl

-- a row of two words, lines 0, 2 and 63 and lines 64 and 127; a last odd word stays
ex-indexed : indexed (0x8000_0000_0000_0005 ∷ 0x8000_0000_0000_0001 ∷ 7 ∷ 7 ∷ 9 ∷ []) ≡ 0x8000_0000_0000_0005 ∷ 0x8000_0000_0000_0001 ∷ 0 ∷ 3 ∷ 9 ∷ []
unfolding indexed before trues bits
ex-indexed = refl

-- one word has no room for a count
ex-alone : indexed (5 ∷ []) ≡ 5 ∷ []
unfolding indexed before
ex-alone = refl

-- that row with its counts
abbrev five : List ℕ
five = 0x8000_0000_0000_0005 ∷ 0x8000_0000_0000_0001 ∷ 0 ∷ 3 ∷ 9 ∷ []

-- through the last line of a word and the first of the next
ex-through : through five 63 ≡ 3
unfolding through mark_count trues row flags bits
ex-through = refl

ex-next : through five 64 ≡ 4
unfolding through mark_count trues row flags bits
ex-next = refl

ex-all : marks_by five 0 127 ≡ 5
unfolding marks_by through mark_count trues row flags bits
ex-all = refl

-- lines 63 and 64, in two words
ex-across : marks_by five 63 64 ≡ 2
unfolding marks_by through mark_count trues row flags bits
ex-across = refl

-- one line, marked and not
ex-one : marks_by five 127 127 ≡ 1
unfolding marks_by through mark_count trues row flags bits
ex-one = refl

ex-clear : marks_by five 1 1 ≡ 0
unfolding marks_by through mark_count trues row flags bits
ex-clear = refl

-- the row has lines 0 to 127
ex-past : marks_by five 0 128 ≡ 0
unfolding marks_by through
ex-past = refl

-- counts that are not the row's are taken as they are, below 65,536
ex-wrong : marks_by (5 ∷ 1 ∷ 0 ∷ 65543 ∷ []) 0 64 ≡ 8
unfolding marks_by through mark_count trues row flags bits
ex-wrong = refl

ex-falling : marks_by (5 ∷ 1 ∷ 40 ∷ 3 ∷ []) 1 64 ≡ 0
unfolding marks_by through mark_count trues row flags bits
ex-falling = refl
