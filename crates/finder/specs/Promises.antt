-- What the opening and a step give: docs/FORMATS.md, "Opening and step". Assumes nothing.
use Rattle.std.specs.Prelude.{ℕ, zero, suc, ◌+◌, ◌*◌, Bool, cond, ◌&&◌, List, [], length, get_or, replicate, ltb, eqb, Option, Some, None}
use Rattle.stretches.specs.declared.Node.{Node}
use Rattle.stretches.specs.declared.Stretch.{Stretch}
use Rattle.stretches.specs.Stretch.{st}
use Rattle.stretches.specs.Front.{onward}
use Rattle.stretches.specs.Filling.{written, filled, more_after}
use Rattle.meaning.specs.Meaning.{table_in}
use Rattle.meaning.specs.Refusals.{long_log, refusal}
use Rattle.meaning.specs.Replies.{signal}
use Rattle.acceptance.specs.Readied.{rows_in}
use Rattle.finder.specs.declared.Finder.{Finder}
use Rattle.finder.specs.declared.Opened.{Opened}
use Rattle.finder.specs.declared.Stepped.{Stepped}

-- ── Opening ──

-- no answer found yet, and the first is sought from this line on; where there is no line, none is
abbrev pub fresh : List Node → Option ℕ → Finder
fresh rows from = record { rows = rows; found = replicate 128 0; count = 0; given = 0; from = from }

-- the number and place of the refusal, and the finder
pub record OpenReply : Type 0 where
  pub number : ℕ
  pub place : ℕ
  pub finder : Finder

abbrev pub open_reply : Opened → OpenReply
open_reply r = record { number = (signal r.outcome).number; place = (signal r.outcome).place; finder = r.finder }

-- it seeks, from line 0 on, exactly if pattern and log are accepted
abbrev pub opened : List ℕ → List ℕ → OpenReply
opened pattern log = record {
  number = (refusal pattern log).number;
  place = (refusal pattern log).place;
  finder = fresh (rows_in pattern log) (cond (eqb (refusal pattern log).number 0) (Some 0) None);
}

-- ── Stepping ──

-- the list that a table has in a log; in a log above 61,440 bytes it is empty
unfoldable pub list_in : List Node → List ℕ → List Stretch
list_in rows log = cond (long_log log) [] (table_in rows log)

-- a found answer is still to be given; there is room for 64
abbrev pub waits : Finder → Bool
waits f = ltb f.given f.count && ltb f.given 64

-- the next found answer
abbrev pub handed : Finder → Stepped
handed f = record {
  answer = Some (st (get_or f.found (2 * f.given) 0) (get_or f.found (2 * f.given + 1) 0));
  finder = record { rows = f.rows; found = f.found; count = f.count; given = f.given + 1; from = f.from };
}

-- "none", and the same finder
abbrev pub none : Finder → Stepped
none f = record { answer = None; finder = f }

abbrev pub offered : Finder → Stepped
offered f = cond (waits f) (handed f) (none f)

-- the line after the start of the last of n found answers; where there is none, the line itself
abbrev pub line_after : ℕ → List ℕ → ℕ → ℕ
line_after line found zero = line
line_after line found (suc n) = get_or found (2 * n) 0 + 1

-- the next answers of l found, those that start at the line or later; a line to seek on from exactly if a further one exists
abbrev pub refilled : List Stretch → ℕ → Finder → Finder
refilled l line f =
    let rest = onward l line in
    let found = filled rest 0 f.found in
    let count = length (written rest 0 f.found) in
    record { rows = f.rows; found = found; count = count; given = 0; from = cond (more_after rest 0 f.found) (Some (line_after line found count)) None }

-- sought on from the line that there is
abbrev pub sought : List Stretch → Option ℕ → Finder → Finder
sought l None f = f
sought l (Some line) f = refilled l line f

-- a step, l being the list: it offers what is found, and seeks on first where nothing waits
unfoldable pub step_over : List Stretch → Finder → Stepped
step_over l f = offered (cond (waits f) f (sought l f.from f))

-- with any log, for every finder
abbrev pub stepped : Finder → List ℕ → Stepped
stepped f log = step_over (list_in f.rows log) f
