-- What the witness call returns and leaves in every lent cell: docs/FORMATS.md, "The witness call". Assumes nothing.
use Rattle.std.specs.Prelude.{ℕ, ◌*◌, ◌/◌, ◌≡◌, refl, List, [], ◌∷◌, ◌++◌, length, take, drop}
use Rattle.stretches.specs.Stretch.{st}
use Rattle.stretches.specs.Front.{Front, nth}
use Rattle.records.specs.Line.{says}
use Rattle.pattern.specs.Reading.{Outcome, Accepts, Refuses, outcome_of}
use Rattle.meaning.specs.Refusals.{refusal}
use Rattle.meaning.specs.Finding.{list_of}
use Rattle.meaning.specs.Shown.{Shown, shows, of_front, shown}
use Rattle.meaning.specs.Replies.{Reply}

-- ── What is shown ──

-- of an answer, by what the pattern was read as
abbrev pub shown_by : Outcome → List ℕ → Front → List Shown
shown_by (Accepts p) log g = of_front g (shown p (says log))
shown_by (Refuses n q) log g = []

-- of answer number n, the first being 0; past the last answer, and of a refused call, nothing
unfoldable pub shown_in : List ℕ → List ℕ → ℕ → List Shown
shown_in pattern log n = shown_by (outcome_of pattern) log (nth (list_of pattern log) n)

-- ── The cells ──

-- node, start, end
abbrev pub flat_shown : List Shown → List ℕ
flat_shown [] = []
flat_shown (z ∷ zs) = z.node ∷ z.stretch.start ∷ z.stretch.end ∷ flat_shown zs

-- as many as whole triples fit
abbrev pub triples_in : List ℕ → ℕ
triples_in cells = length cells / 3

abbrev pub written_shown : List Shown → List ℕ → List Shown
written_shown l cells = take (triples_in cells) l

-- the cells afterwards: later cells keep their contents
abbrev pub filled_shown : List Shown → List ℕ → List ℕ
filled_shown l cells = flat_shown (written_shown l cells) ++ drop (3 * length (written_shown l cells)) cells

-- a triple that does not fit is not begun
ex-filled : filled_shown (shows 0 (st 4 9) ∷ shows 2 (st 4 4) ∷ []) (70 ∷ 71 ∷ 72 ∷ 73 ∷ 74 ∷ []) ≡ 0 ∷ 4 ∷ 9 ∷ 73 ∷ 74 ∷ []
ex-filled = refl

-- ── The call ──

-- the number and place of the refusal, which is the filling call's, and the number of triples written; the cells afterwards are `filled_shown (shown_in pattern log n) cells`
abbrev pub witnessing : List ℕ → List ℕ → ℕ → List ℕ → Reply
witnessing pattern log n cells = record {
  number = (refusal pattern log).number;
  place = (refusal pattern log).place;
  count = length (written_shown (shown_in pattern log n) cells);
}
