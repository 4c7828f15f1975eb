-- The list of a pattern in a log, and what the filling call over them returns: docs/FORMATS.md, "Finding".
-- Assumes nothing.
use Rattle.std.specs.Prelude.{ℕ, cond, List, [], length, eqb}
use Rattle.stretches.specs.declared.Stretch.{Stretch}
use Rattle.stretches.specs.Filling.{written, more_after}
use Rattle.pattern.specs.Reading.{Outcome, Accepts, Refuses, outcome_of}
use Rattle.meaning.specs.Meaning.{answers_in, Local}
use Rattle.meaning.specs.Refusals.{refusal}
use Rattle.meaning.specs.Replies.{FillReply}

-- the answers of what a text was read as
abbrev pub answers_by : Outcome → List ℕ → List Stretch
answers_by (Accepts p) log = answers_in p log
answers_by (Refuses n q) log = []

-- the text spells a pattern without `in` and `out`, or none
abbrev pub LocalBy : Outcome → Type 0
LocalBy (Accepts p) = Local p
LocalBy (Refuses n q) = Unit {0}

abbrev pub LocalText : List ℕ → Type 0
LocalText pattern = LocalBy (outcome_of pattern)

-- the answers where pattern and log are accepted; where they are refused, nothing
unfoldable pub list_of : List ℕ → List ℕ → List Stretch
list_of pattern log = cond (eqb (refusal pattern log).number 0) (answers_by (outcome_of pattern) log) []

-- the number and place of the refusal, the number of stretches written, and "more" exactly if a further answer exists; of a refused call the count is 0
abbrev pub filling : List ℕ → List ℕ → ℕ → List ℕ → FillReply
filling pattern log f cells = record {
  number = (refusal pattern log).number;
  place = (refusal pattern log).place;
  count = length (written (list_of pattern log) f cells);
  more = more_after (list_of pattern log) f cells;
}
