-- What the picking call returns and leaves in every lent cell: docs/FORMATS.md, "The picking call". Assumes nothing.
use Rattle.std.specs.Prelude.{ℕ, cond, List, [], length, eqb}
use Rattle.stretches.specs.declared.Stretch.{Stretch}
use Rattle.stretches.specs.Filling.{written}
use Rattle.meaning.specs.Refusals.{pick_refusal}
use Rattle.meaning.specs.Finding.{list_of}
use Rattle.meaning.specs.Replies.{Reply}
use Rattle.picks.specs.Picks.{picks_of}

-- up to k picks of the answers; of a refused call, nothing
unfoldable pub picks_in : List ℕ → List ℕ → ℕ → List Stretch
picks_in pattern log k = cond (eqb (pick_refusal pattern log k).number 0) (picks_of k (list_of pattern log)) []

-- the number and place of the refusal, and the number of picks written; the cells afterwards are `filled (picks_in pattern log k) 0 cells`
abbrev pub picking : List ℕ → List ℕ → ℕ → List ℕ → Reply
picking pattern log k cells = record {
  number = (pick_refusal pattern log k).number;
  place = (pick_refusal pattern log k).place;
  count = length (written (picks_in pattern log k) 0 cells);
}
