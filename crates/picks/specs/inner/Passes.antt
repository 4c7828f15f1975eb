-- A pass over the answers, with the picks so far in the cells; and a refusal's number. Private contracts cite this. Assumes nothing.
use Rattle.std.specs.Prelude.{ℕ, ◌*◌, ◌≤◌, ◌<◌, ◌≡◌, Bool, true, cond, ◌&&◌, List, [], ◌∷◌, length, take, leb, ltb}
use Rattle.stretches.specs.declared.Stretch.{Stretch}
use Rattle.stretches.specs.Stretch.{In}
use Rattle.stretches.specs.Front.{Front, None, Some}
use Rattle.stretches.specs.Filling.{written, filled}
use Rattle.stretches.specs.Lent.{pairs}
use Rattle.picks.specs.Picks.{ahead, picks_of}

-- the n picks in the cells
abbrev pub held_in : List ℕ → ℕ → List Stretch
held_in cells n = pairs (take (2 * n) cells)

-- each starts at or before its end, and ends below line 65,536
abbrev pub Lying : List Stretch → Type 0
Lying ps = (s e : ℕ) → In s e ps → (s ≤ e) × (e < 65536)

-- the pick x, or r, whichever starts first; one that ends before line t does not count
abbrev pub before : Stretch → Front → Bool
before x None = true
before x (Some r) = ltb x.start r.start

abbrev pub nearer : ℕ → Stretch → Front → Front
nearer t x r = cond (leb t x.end && before x r) (Some x) r

-- of r and the picks that end at line t or later, the one that starts first
abbrev pub next_of : ℕ → Front → List Stretch → Front
next_of t r [] = r
next_of t r (x ∷ ps) = next_of t (nearer t x r) ps

-- it starts at or before its end
abbrev pub Upright : Front → Type 0
Upright None = Unit {0}
Upright (Some x) = x.start ≤ x.end

-- the best so far, or x where it is ahead of it or there is none yet
abbrev pub better : Front → Stretch → Front
better None x = Some x
better (Some b) x = cond (ahead x b) (Some x) (Some b)

-- of up to k picks of the list as many as whole pairs fit are written, n of them, and no other cell
abbrev pub Wrote : ℕ → List Stretch → List ℕ → ℕ → List ℕ → Type 0
Wrote k l cells n cells' = (n ≡ length (written (picks_of k l) 0 cells)) × (cells' ≡ filled (picks_of k l) 0 cells)
