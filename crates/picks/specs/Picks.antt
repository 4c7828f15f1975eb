-- The picks of a list of stretches: docs/FORMATS.md, "Picks". Assumes nothing.
use Rattle.std.specs.Prelude.{ℕ, zero, suc, ◌≡◌, refl, Bool, cond, ◌&&◌, ◌||◌, List, [], ◌∷◌, ltb, eqb}
use Rattle.stretches.specs.declared.Stretch.{Stretch}
use Rattle.stretches.specs.Stretch.{st, keep, length_of}
use Rattle.stretches.specs.Run.{in_run}

-- x is shorter than y; of equal lengths, it starts later
abbrev pub ahead : Stretch → Stretch → Bool
ahead x y = ltb (length_of x) (length_of y) || (eqb (length_of x) (length_of y) && ltb y.start x.start)

-- the shortest of x and a list
abbrev pub shortest : Stretch → List Stretch → Stretch
shortest x [] = x
shortest x (y ∷ l) = shortest (cond (ahead y x) y x) l

-- x and y share no line: one ends before the other starts
abbrev pub apart : Stretch → Stretch → Bool
apart x y = ltb x.end y.start || ltb y.end x.start

-- the shortest, then the same over those that share no line with it; up to k
unfoldable pub picks_of : ℕ → List Stretch → List Stretch
picks_of zero l = []
picks_of (suc k) [] = []
picks_of (suc k) (x ∷ l) = shortest x l ∷ picks_of k (keep (apart (shortest x l)) (x ∷ l))

-- ── Examples ──

-- of equal lengths the later; a line shared is enough to drop an answer
ex-picks : picks_of 16 (st 0 2 ∷ st 2 3 ∷ st 3 4 ∷ st 4 7 ∷ st 8 12 ∷ []) ≡ st 3 4 ∷ st 0 2 ∷ st 8 12 ∷ []
unfolding picks_of
ex-picks = refl

-- the example of FORMATS.md, "The undamaged run": of a log's picks none lies within the run of lines 2 to 4, which alone has one
abbrev ex_answers : List Stretch
ex_answers = st 0 1 ∷ st 1 2 ∷ st 2 4 ∷ st 4 5 ∷ st 5 6 ∷ []

ex-log : picks_of 2 ex_answers ≡ st 5 6 ∷ st 1 2 ∷ []
unfolding picks_of
ex-log = refl

ex-run : picks_of 2 (in_run 2 3 ex_answers) ≡ st 0 2 ∷ []
unfolding picks_of
ex-run = refl
