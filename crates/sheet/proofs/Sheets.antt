-- The sheet of a pattern and a log: from what a filling call left, of a pattern and a log cut short, of what is kept of an input, and its length.
-- Assumes nothing.
use Prim.Native.Nat.{ℕ, ◌*◌, ◌≤◌, ◌<◌}
use mathlib.Core.Path.{◌≡◌, refl, sym, ap, ap₂, subst, ◌∙◌}
use mathlib.Core.Logic.{◌⊎◌, inl, inr}
use mathlib.Core.Bool.{Bool, true, false, cond}
use mathlib.Core.List.{List, [], ◌∷◌, ◌++◌}
use lib.ListN.{length, take, drop, length-append, length-take}
use lib.Seq.{take_all}
use lib.Dec.{eqb}
use borrow.Author.Tests.{eqb-true, eq-eqb, ne_eqb}
use native.Mathlib.Omega.{arith}
use Rattle.stretches.specs.declared.Stretch.{Stretch}
use Rattle.stretches.specs.Stretch.{Sound}
use Rattle.stretches.specs.Filling.{written, filled}
use Rattle.stretches.proofs.InRun.{Below}
use Rattle.records.specs.Line.{says}
use Rattle.lines.proofs.LinesLaws.{cut-few}
use Rattle.records.proofs.Walk.{damaged-few}
use Rattle.basics.proofs.Basics.{le-or-lt}
use Rattle.pattern.proofs.Outcomes.{refuses-long}
use Rattle.meaning.specs.Replies.{FillReply}
use Rattle.meaning.specs.Refusals.{Signal, refused, refusal}
use Rattle.meaning.specs.Finding.{list_of, filling}
use Rattle.meaning.proofs.Tree.{fine-answers_of}
use Rattle.meaning.proofs.Run.{says-length}
use Rattle.stretches.proofs.Filling.{done_all, room-done}
use Rattle.meaning.proofs.Finding.{long-log, bad-pattern, accepted-list, accepted-number}
use Rattle.meaning.proofs.Bounds.{refusal-small, list-small}
use Rattle.marking.specs.declared.pass.Counted.{Counted}
use Rattle.marking.specs.Rows.{counted}
use Rattle.input.specs.declared.Intake.{Intake}
use Rattle.input.specs.Input.{pattern_of, log_of, Keeps}
use Rattle.print.specs.Print.{field, rows, found_sheet, refused_sheet, shown, Writes}
use Rattle.basics.proofs.Decimals.{decimal-short}
use Rattle.print.proofs.Printed.{length-field, shown-flat}
use Rattle.print.proofs.Written.{length_found, length-refused}
use Rattle.sheet.specs.Sheet.{sheet_of, printed, printed_of}

-- ── From a filling call ──

-- the sheet of a filling call, by whether it was refused
pub sheet-refused : (f : FillReply) (log cells : List ℕ) → (f.number ≡ 0 → ⊥) → refused_sheet f.number f.place ≡ sheet_of f log cells
unfolding sheet_of
sheet-refused f log cells n = rw (ne_eqb f.number 0 n)

pub sheet-found : (f : FillReply) (log cells : List ℕ) (c : Counted) → f.number ≡ 0 → c ≡ counted log
    → found_sheet c.lines c.damaged (shown f.count cells) ≡ sheet_of f log cells
unfolding sheet_of
sheet-found f log cells c e k = rw (eq-eqb f.number 0 e, k)

-- with two cells for each answer that there can be, what the filling call from number 0 returns and leaves has the sheet of the pattern and the log
pub filled-sheet : (pattern log cells : List ℕ) → 122880 ≤ length cells
    → sheet_of (filling pattern log 0 cells) log (filled (list_of pattern log) 0 cells) ≡ printed pattern log
unfolding sheet_of printed
filled-sheet pattern log cells h =
    let l = list_of pattern log in
    let w : written l 0 cells ≡ l = done_all l cells (room-done l cells (omega (arith, list-small pattern log))) in
    let s : shown (length (written l 0 cells)) (filled l 0 cells) ≡ l = shown-flat (written l 0 cells) (drop (2 * length (written l 0 cells)) cells) ∙ w in
    ap (λ (x : List Stretch). cond (eqb (refusal pattern log).number 0) (found_sheet (counted log).lines (counted log).damaged x) (refused_sheet (refusal pattern log).number (refusal pattern log).place)) s

-- so the sheet that is written of it is that one
pub fill-laid : (pattern log cells cells' out out' : List ℕ) (f : FillReply) (r : ℕ) → (f ≡ filling pattern log 0 cells) × (cells' ≡ filled (list_of pattern log) 0 cells) → 122880 ≤ length cells
    → Writes (sheet_of f log cells') out r out' → Writes (printed pattern log) out r out'
fill-laid pattern log cells cells' out out' f r g h w =
    subst (λ (s : List ℕ). Writes s out r out') (ap₂ (λ (x : FillReply) (m : List ℕ). sheet_of x log m) g.0 g.1 ∙ filled-sheet pattern log cells h) w

-- ── Cut short ──

-- the sheet of a refusal
printed-refused : (pattern log : List ℕ) (n q : ℕ) → refusal pattern log ≡ refused n q → 1 ≤ n → printed pattern log ≡ refused_sheet n q
unfolding printed
printed-refused pattern log n q e h =
    ap (λ (r : Signal). cond (eqb r.number 0) (found_sheet (counted log).lines (counted log).damaged (list_of pattern log)) (refused_sheet r.number r.place)) e
    ∙ rw (ne_eqb n 0 (λ z. omega (arith, z)))

printed-long-log : (pattern log : List ℕ) → 61440 < length log → printed pattern log ≡ refused_sheet 1 0
printed-long-log pattern log h = printed-refused pattern log 1 0 (long-log pattern log h) (omega arith)

printed-long-pattern : (pattern log : List ℕ) → length log ≤ 61440 → 1024 < length pattern → printed pattern log ≡ refused_sheet 2 0
printed-long-pattern pattern log h k = printed-refused pattern log 2 0 (bad-pattern pattern log 2 0 h (refuses-long pattern k)) (omega arith)

-- a log cut behind byte 61,441 or later
cut-log : (pattern log : List ℕ) (n : ℕ) → 61441 ≤ n → printed pattern (take n log) ≡ printed pattern log
cut-log pattern log n h = pick (le-or-lt (length log) n)
  where
    pick : (length log ≤ n) ⊎ (n < length log) → printed pattern (take n log) ≡ printed pattern log
    pick (inl k) = ap (printed pattern) (take_all n log k)
    pick (inr k) = printed-long-log pattern (take n log) (omega (arith, length-take n log)) ∙ sym (printed-long-log pattern log (omega arith))

-- a pattern cut behind byte 1,025 or later
cut-pattern : (pattern log : List ℕ) (m : ℕ) → 1025 ≤ m → printed (take m pattern) log ≡ printed pattern log
cut-pattern pattern log m h = pick (le-or-lt (length pattern) m) (le-or-lt (length log) 61440)
  where
    pick : (length pattern ≤ m) ⊎ (m < length pattern) → (length log ≤ 61440) ⊎ (61440 < length log) → printed (take m pattern) log ≡ printed pattern log
    pick (inl k) j = ap (λ (p : List ℕ). printed p log) (take_all m pattern k)
    pick (inr k) (inl j) = printed-long-pattern (take m pattern) log j (omega (arith, length-take m pattern)) ∙ sym (printed-long-pattern pattern log j (omega arith))
    pick (inr k) (inr j) = printed-long-log (take m pattern) log j ∙ sym (printed-long-log pattern log j)

-- cutting changes no sheet where one byte more than are accepted is left
pub cut-sheet : (pattern log : List ℕ) (m n : ℕ) → 1025 ≤ m → 61441 ≤ n → printed (take m pattern) (take n log) ≡ printed pattern log
cut-sheet pattern log m n h k = cut-pattern pattern (take n log) m h ∙ cut-log pattern log n k

-- what is kept of an input has the input's sheet
pub keeps-sheet : (input : List ℕ) (t : Intake) (p l : List ℕ) → Keeps input t p l → 1025 ≤ length p → 61441 ≤ length l
    → printed (take t.pattern p) (take t.log l) ≡ printed_of input
keeps-sheet input t p l k h j = ap₂ printed k.pattern.bytes k.log.bytes ∙ cut-sheet (pattern_of input) (log_of input) (length p) (length l) h j

-- ── Its length ──

short-field : (n mark : ℕ) → n < 100000 → length (field n mark) ≤ 6
short-field n mark h = omega (arith, length-field n mark, decimal-short 4 n (omega arith))

short-rows : (l : List Stretch) → Sound l → Below 61440 l → length (rows l) ≤ 12 * length l
unfolding rows
short-rows [] s b = omega arith
short-rows (x ∷ l) s b =
    let a = field x.start 44 in
    let d = field x.end 10 in
    let h = s x.start x.end (inl (refl, refl)) in
    let k = b x.start x.end (inl (refl, refl)) in
    omega (
      arith,
      length-append a (d ++ rows l),
      length-append d (rows l),
      short-field x.start 44 (omega arith),
      short-field x.end 10 (omega arith),
      short-rows l (λ i j m. s i j (inr m)) (λ i j m. b i j (inr m)),
    )

-- every sheet has at most 800,000 bytes
pub short-sheet : (pattern log : List ℕ) → length (printed pattern log) ≤ 800000
unfolding printed
short-sheet pattern log = go (eqb (refusal pattern log).number 0) refl
  where
    found : (refusal pattern log).number ≡ 0 → length (found_sheet (counted log).lines (counted log).damaged (list_of pattern log)) ≤ 800000
    found e =
        let a = accepted-number pattern log e in
        let f = fine-answers_of a.tree (says log) in
        let few : length (says log) ≤ length log = omega (arith, says-length log, cut-few 10 log) in
        let z = accepted-list pattern log a.tree a.brief a.reads in
        let w : length (rows (list_of pattern log)) ≤ 12 * length (list_of pattern log) =
        subst (λ (x : List Stretch). length (rows x) ≤ 12 * length x) (sym z)
        (short-rows _ f.sound (λ i j m. omega (arith, f.below i j m, few, a.brief))) in
        omega (
          arith,
          length_found (counted log).lines (counted log).damaged (list_of pattern log),
          short-field (counted log).lines 44 (omega (arith, few, a.brief)),
          short-field (counted log).damaged 44 (omega (arith, damaged-few (says log), few, a.brief)),
          short-field (length (list_of pattern log)) 10 (omega (arith, list-small pattern log)),
          list-small pattern log,
          w,
        )

    go : (b : Bool) → eqb (refusal pattern log).number 0 ≡ b
        → length (cond b (found_sheet (counted log).lines (counted log).damaged (list_of pattern log)) (refused_sheet (refusal pattern log).number (refusal pattern log).place)) ≤ 800000
    go true e = found (eqb-true (refusal pattern log).number 0 e)
    go false e =
        let s = refusal-small pattern log in
        omega (
          arith,
          length-refused (refusal pattern log).number (refusal pattern log).place,
          short-field (refusal pattern log).number 44 (omega (arith, s.number)),
          short-field (refusal pattern log).place 10 (omega (arith, s.place)),
        )
