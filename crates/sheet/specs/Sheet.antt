-- The sheet of what a filling call left, of a pattern and a log, and of an input: docs/FORMATS.md, "The printed sheet".
-- Assumes nothing.
use Rattle.std.specs.Prelude.{ℕ, cond, List, eqb}
use Rattle.marking.specs.Rows.{counted}
use Rattle.meaning.specs.Replies.{FillReply}
use Rattle.meaning.specs.Refusals.{refusal}
use Rattle.meaning.specs.Finding.{list_of}
use Rattle.input.specs.Input.{pattern_of, log_of}
use Rattle.sheet.specs.declared.FillReply as sheet
use Rattle.print.specs.Print.{found_sheet, refused_sheet, shown}

-- what a filling call replied
abbrev pub reply_of : sheet.FillReply → FillReply
reply_of f = record { number = f.number; place = f.place; count = f.count; more = f.more }

-- the sheet of what a filling call from number 0 replied and left in the cells
unfoldable pub sheet_of : FillReply → List ℕ → List ℕ → List ℕ
sheet_of f log cells =
    cond (eqb f.number 0) (found_sheet (counted log).lines (counted log).damaged (shown f.count cells)) (refused_sheet f.number f.place)

-- the sheet of a pattern and a log: `F,lines,damaged,answers` and each `start,end`; or only `R,number,place`
unfoldable pub printed : List ℕ → List ℕ → List ℕ
printed pattern log =
    cond (eqb (refusal pattern log).number 0) (found_sheet (counted log).lines (counted log).damaged (list_of pattern log))
    (refused_sheet (refusal pattern log).number (refusal pattern log).place)

-- the sheet of an input: the pattern up to the first line feed (or the end), then the log
abbrev pub printed_of : List ℕ → List ℕ
printed_of input = printed (pattern_of input) (log_of input)
