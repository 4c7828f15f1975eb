-- The example of docs/FORMATS.md, "The printed sheet", input and output whole.
-- Assumes nothing.
use mathlib.Core.Path.{◌≡◌, refl}
use mathlib.Core.List.{[], ◌∷◌}
use Rattle.pattern.specs.Kinds.{kind_in, row_of, kind_by}
use Rattle.pattern.specs.Automaton.{next, step, finish, scan}
use Rattle.pattern.specs.Reading.{build, outcome_of}
use Rattle.basics.specs.Decimal.{decimal, digits_of}
use Rattle.meaning.specs.Refusals.{refusal}
use Rattle.meaning.specs.Finding.{list_of}
use Rattle.print.specs.Print.{field, rows, found_sheet, refused_sheet}
use Rattle.sheet.specs.Sheet.{printed, printed_of}

-- its input and its sheet
example-whole : printed_of (116 ∷ 104 ∷ 101 ∷ 110 ∷ 44 ∷ 50 ∷ 44 ∷ 101 ∷ 118 ∷ 44 ∷ 55 ∷ 44 ∷ 48 ∷ 44 ∷ 101 ∷ 118 ∷ 44 ∷ 57 ∷ 44 ∷ 48 ∷ 10 ∷ 49 ∷ 44 ∷ 52 ∷ 44 ∷ 55 ∷ 44 ∷ 51 ∷ 44 ∷ 54 ∷ 10 ∷ 50 ∷ 44 ∷ 52 ∷ 44 ∷ 49 ∷ 50 ∷ 44 ∷ 50 ∷ 48 ∷ 44 ∷ 51 ∷ 44 ∷ 48 ∷ 10 ∷ 111 ∷ 111 ∷ 112 ∷ 115 ∷ 10 ∷ 49 ∷ 44 ∷ 52 ∷ 44 ∷ 57 ∷ 44 ∷ 48 ∷ 44 ∷ 48 ∷ 10 ∷ 49 ∷ 44 ∷ 53 ∷ 44 ∷ 57 ∷ 44 ∷ 48 ∷ 44 ∷ 48 ∷ 10 ∷ []) ≡ 70 ∷ 44 ∷ 53 ∷ 44 ∷ 49 ∷ 44 ∷ 49 ∷ 10 ∷ 48 ∷ 44 ∷ 51 ∷ 10 ∷ []
unfolding kind_in row_of kind_by next step finish scan build outcome_of decimal digits_of refusal list_of field rows found_sheet printed
example-whole = refl

-- nothing is read: R,3,0
example-empty : printed_of [] ≡ 82 ∷ 44 ∷ 51 ∷ 44 ∷ 48 ∷ 10 ∷ []
unfolding finish scan outcome_of decimal digits_of refusal field refused_sheet printed
example-empty = refl
