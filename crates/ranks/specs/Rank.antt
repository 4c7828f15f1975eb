-- A row of marks with the number of marks before each of its words behind it: how many lines from one through another are marked, by these counts.
-- Assumes nothing.
use Rattle.std.specs.Prelude.{ℕ, zero, suc, ◌+◌, ◌-◌, ◌/◌, ◌%◌, Bool, cond, List, [], ◌∷◌, ◌++◌, length, get_or, take, drop, leb, ltb}
use Rattle.marks.specs.Row.{bits, row, trues, mark_count, packed}

-- how many words the row has that lies, with its counts behind it, in so many words: half of them; more than 1,024 are not kept
abbrev pub half : ℕ → ℕ
half len = cond (leb (len / 2) 1024) (len / 2) 0

-- the number of marks before each of these words, n being before the first
unfoldable pub before : ℕ → List ℕ → List ℕ
before n [] = []
before n (w ∷ ws) = n ∷ before (n + trues (bits 64 w)) ws

-- these lines as a row of w words, and behind it the counts
abbrev pub ranked : ℕ → List Bool → List ℕ
ranked w bs = packed w bs ++ before 0 (packed w bs)

-- the words with the counts of the row in front written behind it; later words stay
unfoldable pub indexed : List ℕ → List ℕ
indexed words = let h = half (length words) in take h words ++ (before 0 (take h words) ++ drop (h + h) words)

-- how many lines up to line p, p included, are marked, by the count of p's word, which is read below 65,536; none where the row has no line p
unfoldable pub through : List ℕ → ℕ → ℕ
through words p =
    let h = half (length words) in
    cond (ltb (p / 64) h) (get_or words (h + p / 64) 0 % 65536 + mark_count (row words 0 h) (p - p % 64) p) 0

-- how many lines from s through e are marked, by the counts
unfoldable pub marks_by : List ℕ → ℕ → ℕ → ℕ
marks_by words zero e = through words e
marks_by words (suc p) e = through words e - through words p
