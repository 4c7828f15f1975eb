-- Each part of a call's word is read back as it was packed: its numbers fit their bits. Assumes nothing.
use Prim.Native.Nat.{ℕ, ◌+◌, ◌*◌, ◌^◌, ◌≤◌, ◌<◌}
use mathlib.Core.Path.{◌≡◌, refl, ap₂, ◌∙◌}
use mathlib.Core.Bool.{Bool, true, false, cond}
use mathlib.Core.List.{List}
use lib.ListN.{length, take, drop}
use borrow.Author.Tests.{ltb-false}
use native.Mathlib.Omega.{arith}
use Rattle.basics.proofs.Basics.{cases}
use Rattle.lines.specs.Lines.{stretch_lines, stretch_start}
use Rattle.lines.proofs.StretchLaws.{stretch-part}
use Rattle.meaning.specs.Replies.{FillReply}
use Rattle.meaning.specs.Finding.{filling}
use Rattle.meaning.specs.Replies.{Reply}
use Rattle.meaning.specs.Refusals.{long_log}
use Rattle.marking.specs.Rows.{counted}
use Rattle.picks.specs.Picking.{picking}
use Rattle.witness.specs.Witness.{witnessing}
use Rattle.lists.specs.Filling.{fill_result}
use Rattle.taking.specs.Taking.{take_result}
use Rattle.finder_c.specs.Packing.{bit, packed_fill, packed_reply, packed_taken, packed_count, packed_lines, refusal_in, flag_in, place_in, written_in, end_in, start_in, ReadsFill, ReadsReply, ReadsTaken, ReadsCount, ReadsLines}
use Rattle.finder_c.proofs.Small.{filling-small, picking-small, witness_small, lists-small, taking-small}
use Rattle.finder_c.proofs.Logs.{count_small}

bit-small : (b : Bool) → bit b < 2
bit-small true = omega arith
bit-small false = omega arith

-- four numbers in one word
parts : (a b c d w : ℕ) → w ≡ a + 256 * b + 65536 * c + 4294967296 * d → a < 256 → b < 2 → c < 65536 → d < 4294967296
    → (w < 2 ^ 64) × (refusal_in w ≡ a) × (flag_in w ≡ b) × (place_in w ≡ c) × (written_in w ≡ d)
parts a b c d w e ha hb hc hd = (omega arith, omega arith, omega arith, omega arith, omega arith)

reads-fill : (r : FillReply) → (r.number ≤ 8) × (r.place ≤ 1024) × (r.count ≤ 65536) → ReadsFill (packed_fill r) r
reads-fill r h =
    let p = parts r.number (bit r.more) r.place r.count (packed_fill r) refl (omega (arith, h.0)) (bit-small r.more) (omega (arith, h.1)) (omega (arith, h.2)) in
    record { fits = p.0; number = p.1; more = p.2; place = p.3; count = p.4 }

-- what finder_fill returns
pub fill-reads : (pattern log : List ℕ) (from : ℕ) (cells : List ℕ) → ReadsFill (packed_fill (filling pattern log from cells)) (filling pattern log from cells)
fill-reads pattern log from cells = let r = filling pattern log from cells in reads-fill r (filling-small pattern log from cells r refl)

reads-reply : (r : Reply) → (r.number ≤ 10) × (r.place ≤ 1024) × (r.count ≤ 65536) → ReadsReply (packed_reply r) r
reads-reply r h =
    let p = parts r.number 0 r.place r.count (packed_reply r) (omega arith) (omega (arith, h.0)) (omega arith) (omega (arith, h.1)) (omega (arith, h.2)) in
    record { fits = p.0; number = p.1; more = p.2; place = p.3; count = p.4 }

-- what finder_pick returns
pub pick-reads : (pattern log : List ℕ) (k : ℕ) (cells : List ℕ) → ReadsReply (packed_reply (picking pattern log k cells)) (picking pattern log k cells)
pick-reads pattern log k cells = let r = picking pattern log k cells in reads-reply r (picking-small pattern log k cells r refl)

-- what finder_witness returns
pub witness-reads : (pattern log : List ℕ) (n : ℕ) (cells : List ℕ) → ReadsReply (packed_reply (witnessing pattern log n cells)) (witnessing pattern log n cells)
witness-reads pattern log n cells = let r = witnessing pattern log n cells in reads-reply r (witness_small pattern log n cells r refl)

-- what finder_lists_fill returns
pub lists-fill-reads : (op k : ℕ) (items ends cells : List ℕ) (from : ℕ) → ReadsFill (packed_fill (fill_result op k items ends cells from)) (fill_result op k items ends cells from)
lists-fill-reads op k items ends cells from = let r = fill_result op k items ends cells from in reads-fill r (lists-small op k items ends cells from r refl)

-- what finder_lists_take returns
pub lists-take-reads : (op : ℕ) (items ends counts : List ℕ) (number : ℕ) → ReadsTaken (packed_taken (take_result op items ends counts number)) (take_result op items ends counts number)
lists-take-reads op items ends counts number =
    let r = take_result op items ends counts number in
    let h = taking-small op items ends counts number r refl in
    let p = parts r.number (bit r.found) r.start r.end (packed_taken r) refl (omega (arith, h.0)) (bit-small r.found) (omega (arith, h.1)) (omega (arith, h.2)) in
    let end : end_in (packed_taken r) ≡ r.end = omega (arith, p.4, h.2) in
    record { fits = p.0; number = p.1; found = p.2; start = p.3; end = end }

-- what finder_count returns
pub count-reads : (log : List ℕ) → ReadsCount (packed_count log) log
count-reads log =
    let p = cases (long_log log) (λ b. long_log log ≡ b → Parts b) (λ _ k. long) (λ _ k. short (ltb-false 61440 (length log) k)) refl in
    record { fits = p.0; number = p.1; damaged = p.2; lines = p.3 }
  where
    word : Bool → ℕ
    word b = cond b 1 (65536 * (counted log).damaged + 4294967296 * (counted log).lines)

    Parts : Bool → Type 0
    Parts b = (word b < 2 ^ 64) × (refusal_in (word b) ≡ cond b 1 0) × (place_in (word b) ≡ cond b 0 (counted log).damaged) × (written_in (word b) ≡ cond b 0 (counted log).lines)

    long : Parts true
    long = (omega arith, omega arith, omega arith, omega arith)

    short : length log ≤ 61440 → Parts false
    short h =
        let s = count_small log (counted log) refl h in
        let p = parts 0 0 (counted log).damaged (counted log).lines (word false) (omega arith) (omega arith) (omega arith) (omega (arith, s.0)) (omega (arith, s.1)) in
        (p.0, p.1, p.3, p.4)

-- what finder_lines returns
pub lines-reads : (log : List ℕ) (first last : ℕ) → ReadsLines (packed_lines log first last) log first last
lines-reads log first last =
    let w = packed_lines log first last in
    let a = stretch_start log first last in
    let n = length (stretch_lines log first last) in
    let h = stretch-part log first last in
    let k = h.short in
    let start : start_in w ≡ a = omega (arith, k) in
    let bytes : written_in w ≡ n = omega (arith, k) in
    record { fits = omega (arith, k); start = start; bytes = bytes; part = ap₂ (λ (i j : ℕ). take j (drop i log)) start bytes ∙ h.part }
