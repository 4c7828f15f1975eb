-- The printed sheet, byte by byte, and what writing it into a lent buffer leaves: docs/FORMATS.md, "The printed sheet".
-- Assumes nothing.
use Rattle.std.specs.Prelude.{ℕ, ◌≡◌, refl, cond, List, [], ◌∷◌, ◌++◌, length, take, drop, leb}
use Rattle.stretches.specs.declared.Stretch.{Stretch}
use Rattle.stretches.specs.Stretch.{st}
use Rattle.stretches.specs.Lent.{pairs}
use Rattle.basics.specs.Decimal.{digits_of, decimal}

-- a number and the byte that ends it: 44, a comma; 10, a line feed
unfoldable pub field : ℕ → ℕ → List ℕ
field n mark = decimal n ++ (mark ∷ [])

-- then each `start,end`; a line feed ends each printed line
unfoldable pub rows : List Stretch → List ℕ
rows [] = []
rows (x ∷ xs) = field x.start 44 ++ (field x.end 10 ++ rows xs)

-- `F,lines,damaged,answers`, then each `start,end`
unfoldable pub found_sheet : ℕ → ℕ → List Stretch → List ℕ
found_sheet lines damaged answers = 70 ∷ 44 ∷ (field lines 44 ++ (field damaged 44 ++ (field (length answers) 10 ++ rows answers)))

-- or only `R,number,place`
unfoldable pub refused_sheet : ℕ → ℕ → List ℕ
refused_sheet number place = 82 ∷ 44 ∷ (field number 44 ++ field place 10)

-- the first `count` stretches that the cells hold, start then end; all of them where they are fewer
abbrev pub shown : ℕ → List ℕ → List Stretch
shown count cells = take count (pairs cells)

-- the buffer afterwards: the sheet where it fits, and what was behind it; else nothing is written
unfoldable pub written_over : List ℕ → List ℕ → List ℕ
written_over sheet out = cond (leb (length sheet) (length out)) (sheet ++ drop (length sheet) out) out

-- the number of bytes written: the sheet's where it fits, else 0
unfoldable pub bytes_written : List ℕ → List ℕ → ℕ
bytes_written sheet out = cond (leb (length sheet) (length out)) (length sheet) 0

-- a sheet is written into `out`: r bytes, and these stand there afterwards
abbrev pub Writes : List ℕ → List ℕ → ℕ → List ℕ → Type 0
Writes sheet out r out' = (r ≡ bytes_written sheet out) × (out' ≡ written_over sheet out)

-- the sheet of its example: F,5,1,1 and 0,3
example-found : found_sheet 5 1 (st 0 3 ∷ []) ≡ 70 ∷ 44 ∷ 53 ∷ 44 ∷ 49 ∷ 44 ∷ 49 ∷ 10 ∷ 48 ∷ 44 ∷ 51 ∷ 10 ∷ []
unfolding found_sheet field rows decimal digits_of
example-found = refl

-- R,3,4
example-refused : refused_sheet 3 4 ≡ 82 ∷ 44 ∷ 51 ∷ 44 ∷ 52 ∷ 10 ∷ []
unfolding refused_sheet field decimal digits_of
example-refused = refl
