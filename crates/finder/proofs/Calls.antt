-- What each return of the finder's functions shows. Assumes nothing.
use Prim.Native.Nat.{ℕ, zero, suc, ◌+◌, ◌-◌, ◌*◌, ◌≤◌, ◌<◌}
use mathlib.Core.Path.{◌≡◌, refl, sym, ap, ap₂, subst, subst₂, ◌∙◌}
use mathlib.Core.Logic.{inl, inr}
use mathlib.Core.Bool.{false, cond}
use mathlib.Core.List.{List, [], ◌∷◌, ◌++◌, map}
use lib.ListN.{length, get_or, take, drop, length-map, length-take}
use lib.Dec.{ltb, eqb}
use borrow.Author.Tests.{lt-ltb, le-ltb, ltb-false}
use native.Mathlib.Omega.{arith}
use Rattle.basics.proofs.Basics.{cases}
use Rattle.stretches.specs.declared.Node.{Node}
use Rattle.stretches.specs.declared.Stretch.{Stretch}
use Rattle.stretches.specs.Stretch.{Fine, In}
use Rattle.stretches.specs.Front.{onward}
use Rattle.stretches.specs.Filling.{flat, pairs_in, written, filled}
use Rattle.stretches.specs.Table.{kind_at, first_at, second_at, no_node}
use Rattle.stretches.proofs.Fine.{fine-none, fine-marks}
use Rattle.stretches.proofs.Steps.{in-onward, onward-all}
use Rattle.stretches.proofs.Table.{fine-list}
use Rattle.records.specs.Line.{says}
use Rattle.meaning.specs.Meaning.{hits, over_table, table_in}
use Rattle.std.specs.Prelude.{Ok, Err, Some, None, replicate}
use Rattle.meaning.specs.declared.Refusal.{Refusal}
use Rattle.meaning.specs.Refusals.{Signal, refused, accepted, long_log, refusal}
use Rattle.meaning.specs.Finding.{list_of, filling}
use Rattle.meaning.specs.Replies.{number_of, place_of, FillReply, fill_reply}
use Rattle.meaning.proofs.Run.{says-few}
use Rattle.meaning.proofs.Table.{table-in}
use Rattle.meaning.proofs.Finding.{accepted-number}
use Rattle.acceptance.specs.Readied.{rows_in}
use Rattle.acceptance.proofs.Reading.{table-list, refused-empty, refused-rows}
use Rattle.meaning.proofs.Replies.{number_some}
use Rattle.plan.specs.Marks.{Marks}
use Rattle.plan.proofs.Planning.{marks-first}
use Rattle.walk.specs.declared.Walked.{Walked}
use Rattle.seek.specs.declared.Searched.{Searched}
use Rattle.seek.specs.Source.{Source, source_of, list_over, Good}
use Rattle.walk.specs.Filling.{Filling, FillAll}
use Rattle.finder.specs.declared.Finder.{Finder}
use Rattle.finder.specs.Promises.{fresh, open_reply, opened, list_in}

-- ── The lists ──

-- every table's list is fine
pub fine-in : (rows : List Node) (log : List ℕ) → Fine 65536 (list_in rows log)
unfolding list_in
fine-in rows log = cases (long_log log) (λ b. Fine 65536 (cond b [] (table_in rows log))) (λ e. fine-none 65536)
    (λ e. subst (Fine 65536) (sym (table-in rows log)) (fine-list (over_table rows (says log)) rows 65536 (λ v h.
    let hit = hits (kind_at rows v) (first_at rows v) (second_at rows v) in
    let f = fine-marks (map hit (says log)) in
    record { rising = f.rising; sound = f.sound; below = λ s x m. omega (arith, f.below s x m, length-map (says log) hit, says-few log, ltb-false 61440 (length log) e) }) 0 (omega arith)))

-- the list of an accepted pattern's table is the pattern's
pub list-in : (text log : List ℕ) → (refusal text log).number ≡ 0 → list_in (rows_in text log) log ≡ list_of text log
unfolding list_in
list-in text log e = ap (λ b. cond b [] (table_in (rows_in text log) log)) (le-ltb 61440 (length log) (accepted-number text log e).brief) ∙ table-list text log e

-- ── Filling ──

-- of an empty list nothing is written
pub filling-none : (l : List Stretch) (f : ℕ) (cells : List ℕ) → l ≡ [] → Filling l f cells (record { count = 0; more = false }) cells
filling-none l f cells e = subst (λ (x : List Stretch). Filling x f cells (record { count = 0; more = false }) cells) (sym e) (record {
  count = sym (ap length empty);
  more = sym (ap (λ (x : List Stretch). ltb (f + length x) 0) empty ∙ le-ltb (f + 0) 0 (omega arith));
  wrote = sym (ap (λ (x : List Stretch). flat x ++ drop (2 * length x) cells) empty);
})
  where
    nothing : (n f : ℕ) → ◌≡◌ {A = List Stretch} (take n (drop f [])) []
    nothing zero f = refl
    nothing (suc n) zero = refl
    nothing (suc n) (suc f) = refl

    empty : written [] f cells ≡ []
    empty = nothing (pairs_in cells) f

-- a log that is too long has no answer
pub long-none : (rows : List Node) (log : List ℕ) (line f : ℕ) (cells : List ℕ) → 61440 < length log → Filling (onward (list_in rows log) line) f cells (record { count = 0; more = false }) cells
unfolding list_in
long-none rows log line f cells h =
    filling-none (onward (list_in rows log) line) f cells (ap (λ b. onward (cond b [] (table_in rows log)) line) (lt-ltb 61440 (length log) h))

-- any other has the table's
pub short-list : (rows : List Node) (log : List ℕ) (line f : ℕ) (cells : List ℕ) (w : Walked) (cells' : List ℕ) → length log ≤ 61440
    → Filling (onward (table_in rows log) line) f cells w cells' → Filling (onward (list_in rows log) line) f cells w cells'
unfolding list_in
short-list rows log line f cells w cells' h g =
    subst (λ (l : List Stretch). Filling (onward l line) f cells w cells') (sym (ap (λ b. cond b [] (table_in rows log)) (le-ltb 61440 (length log) h))) g

-- a table of the machine with this list fills it
pub machine-fills : {src : Source} {t : List Node} {l : List Stretch} {line f : ℕ} {cells : List ℕ} {r : Walked} {cells' : List ℕ}
    → Good src t × (list_over src t 0 ≡ l) → FillAll src t line f cells r cells' → Filling (onward l line) f cells r cells'
machine-fills {line = line} {f} {cells} {r} {cells'} m g = subst (λ (l : List Stretch). Filling (onward l line) f cells r cells') m.1 (g.fills m.0)

-- over a log's marks
pub marks-fill : {rows : List Node} {log : List ℕ} {s : Searched} {line f : ℕ} {old new cells : List ℕ} {r : Walked} {cells' : List ℕ}
    → Marks rows log s → length log ≤ 61440 → FillAll (source_of s) s.rows.now line f old r new → old ≡ cells → new ≡ cells' → Filling (onward (list_in rows log) line) f cells r cells'
marks-fill {rows} {log} {s} {line = line} {f} {old} {new} {cells} {r} {cells'} m h g e k =
    short-list rows log line f cells r cells' h
    (subst (λ (c : List ℕ). Filling (onward (table_in rows log) line) f c r cells') e
    (subst₂ (λ (l : List Stretch) (c : List ℕ). Filling (onward l line) f old r c) (marks-first m) k (g.fills m.good)))

-- the filling call
module _ (text log : List ℕ) (f : ℕ) (cells : List ℕ) where
  -- the reply of a signal, and of what was written
  whole : (r : Signal) → r ≡ refusal text log → (w : Walked) (cells' : List ℕ) → Filling (list_of text log) f cells w cells'
      → (◌≡◌ {A = FillReply} (record { number = r.number; place = r.place; count = w.count; more = w.more }) (filling text log f cells)) × (cells' ≡ filled (list_of text log) f cells)
  whole r e w cells' g = ((λ i. record { number = (e i).number; place = (e i).place; count = g.count i; more = g.more i }), g.wrote)

  pub fill-refused : (e : Refusal) → refused (number_of e) (place_of e) ≡ refusal text log → (fill_reply (Err e) ≡ filling text log f cells) × (cells ≡ filled (list_of text log) f cells)
  fill-refused e k = whole (refused (number_of e) (place_of e)) k (record { count = 0; more = false }) cells (filling-none (list_of text log) f cells (refused-empty text log e k))

  pub fill-accepted : accepted ≡ refusal text log → (rows : List Node) → rows ≡ rows_in text log → (w : Walked) (cells' : List ℕ) → Filling (onward (list_in rows log) 0) f cells w cells'
      → (fill_reply (Ok (record { count = w.count; more = w.more })) ≡ filling text log f cells) × (cells' ≡ filled (list_of text log) f cells)
  fill-accepted k rows e w cells' g =
      let l : onward (list_in rows log) 0 ≡ list_of text log =
      onward-all (list_in rows log) (fine-in rows log).rising ∙ ap (λ (r : List Node). list_in r log) e ∙ list-in text log (ap (λ (x : Signal). x.number) (sym k)) in
      whole accepted k w cells' (subst (λ (x : List Stretch). Filling x f cells w cells') l g)

-- ── Stepping ──

-- a refused opening
pub open-refused : (text log : List ℕ) (e : Refusal) (f : Finder) → refused (number_of e) (place_of e) ≡ refusal text log → f ≡ fresh (replicate 32 no_node) None
    → open_reply (record { outcome = Err e; finder = f }) ≡ opened text log
open-refused text log e f k h =
    let from : None ≡ cond (eqb (refusal text log).number 0) (Some 0) None =
    sym (ap (λ (r : Signal). cond (eqb r.number 0) (Some 0) None) (sym k) ∙ ap (λ b. cond b (Some 0) None) (number_some e)) in
    λ i. record { number = (k i).number; place = (k i).place; finder = (h ∙ ap₂ fresh (sym (refused-rows text log e k)) from) i }

-- the buffer of the next answers
module _ (l : List Stretch) (fine : Fine 65536 l) (line : ℕ) (found : List ℕ) (wide : length found ≡ 128) where
  abbrev rest : List Stretch
  rest = onward l line

  pub found-few : length (written rest 0 found) ≤ 64
  found-few = omega (arith, length-take (pairs_in found) (drop 0 rest))

  -- a start among the first n
  start_small : (xs : List Stretch) (after : List ℕ) → ((s e : ℕ) → In s e xs → s < 65536) → (n : ℕ) → n < length xs → get_or (flat xs ++ after) (2 * n) 0 < 65536
  start_small [] after h n k = absurd (omega arith)
  start_small (x ∷ xs) after h zero k = h x.start x.end (inl (refl, refl))
  start_small (x ∷ xs) after h (suc n) k =
      let z : 2 * suc n ≡ suc (suc (2 * n)) = omega arith in
      subst (λ (i : ℕ). get_or (x.start ∷ x.end ∷ (flat xs ++ after)) i 0 < 65536) (sym z) (start_small xs after (λ s e m. h s e (inr m)) n (omega arith))

  taken_in : (n : ℕ) (xs : List Stretch) (s e : ℕ) → In s e (take n xs) → In s e xs
  taken_in zero xs s e m = absurd m
  taken_in (suc n) [] s e m = absurd m
  taken_in (suc n) (x ∷ xs) s e (inl m) = inl m
  taken_in (suc n) (x ∷ xs) s e (inr m) = inr (taken_in n xs s e m)

  pub start_fits : (n : ℕ) → n ≡ length (written rest 0 found) → 0 < n → get_or (filled rest 0 found) (2 * (n - 1)) 0 < 65536
  start_fits n e h =
      start_small (written rest 0 found) (drop (2 * length (written rest 0 found)) found)
      (λ s x m. let k = (in-onward l line s x (taken_in (pairs_in found) rest s x m)).0 in omega (arith, fine.sound s x k, fine.below s x k)) (n - 1) (omega arith)

-- finding the next answers
module _ (l : List Stretch) (line : ℕ) (f : Finder) (w : Walked) (found : List ℕ) (g : Filling (onward l line) 0 f.found w found) where
  pub refill-room : Fine 65536 l → length f.found ≡ 128 → (w.count ≤ 64) × (0 < w.count → get_or found (2 * (w.count - 1)) 0 < 65536)
  refill-room fine wide = (
    omega (arith, g.count, found-few l fine line f.found wide),
    λ h. subst (λ (c : List ℕ). get_or c (2 * (w.count - 1)) 0 < 65536) (sym g.wrote) (start_fits l fine line f.found wide w.count g.count h),
  )
