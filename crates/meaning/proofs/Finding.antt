-- Laws of the refusals and of the list of a pattern in a log: each refusal by its cause, the list where both are accepted, that it is no longer than the
-- log has lines, the undamaged run for that list, and when the picking call is accepted. Assumes nothing.
use Prim.Native.Nat.{ℕ, ◌≤◌, ◌<◌}
use mathlib.Core.Path.{◌≡◌, refl, sym, ap, ap₂, subst, ◌∙◌}
use mathlib.Core.Bool.{Bool, true, false, not, cond, ◌&&◌}
use mathlib.Core.List.{List, [], ◌++◌}
use lib.ListN.{length, length-append}
use lib.Dec.{leb, ltb, eqb}
use borrow.Author.Tests.{leb-true, le-leb, ltb-true, ltb-false, lt-ltb, le-ltb, eqb-true, eqb-false, eq-eqb, not-false}
use native.Mathlib.Omega.{arith}
use Rattle.basics.proofs.Basics.{and-true, true-and}
use Rattle.stretches.specs.Run.{in_run}
use Rattle.lines.specs.Lines.{lines, Whole}
use Rattle.records.specs.Line.{says}
use Rattle.pattern.specs.Pattern.{Pattern}
use Rattle.pattern.specs.Reading.{Outcome, Accepts, Refuses, outcome_of}
use Rattle.pattern.proofs.Outcomes.{refuses-says}
use Rattle.meaning.specs.Meaning.{answers_in}
use Rattle.meaning.specs.Refusals.{Signal, refused, accepted, bad_count, of_pattern, refusal, pick_refusal}
use Rattle.meaning.specs.Finding.{answers_by, LocalBy, LocalText, list_of}
use Rattle.meaning.proofs.Tree.{few-answers}
use Rattle.meaning.proofs.Run.{says-length, run-bytes}

-- 1: the log is too long
pub long-log : (pattern log : List ℕ) → 61440 < length log → refusal pattern log ≡ refused 1 0
unfolding refusal
long-log pattern log h = rw (lt-ltb 61440 (length log) h)

-- else what the pattern is read as
pub short-log : (pattern log : List ℕ) → length log ≤ 61440 → refusal pattern log ≡ of_pattern (outcome_of pattern)
unfolding refusal
short-log pattern log h = rw (le-ltb 61440 (length log) h)

-- 2 to 5: the pattern's refusal
pub bad-pattern : (pattern log : List ℕ) (n q : ℕ) → length log ≤ 61440 → outcome_of pattern ≡ Refuses n q → refusal pattern log ≡ refused n q
bad-pattern pattern log n q h e = short-log pattern log h ∙ ap of_pattern e

-- else both are accepted
pub good-pattern : (pattern log : List ℕ) (p : Pattern) → length log ≤ 61440 → outcome_of pattern ≡ Accepts p → refusal pattern log ≡ accepted
good-pattern pattern log p h e = short-log pattern log h ∙ ap of_pattern e

-- the list of a refused pattern or log is empty
pub refused-list : (pattern log : List ℕ) (r : Signal) → refusal pattern log ≡ r → 1 ≤ r.number → list_of pattern log ≡ []
unfolding list_of
refused-list pattern log r e h = go (eqb (refusal pattern log).number 0) refl
  where
    go : (b : Bool) → eqb (refusal pattern log).number 0 ≡ b → cond b (answers_by (outcome_of pattern) log) [] ≡ []
    go true k = absurd (omega (arith, eqb-true (refusal pattern log).number 0 k, ap (λ (x : Signal). x.number) e))
    go false k = refl

-- the list of an accepted one is its answers
pub accepted-list : (pattern log : List ℕ) (p : Pattern) → length log ≤ 61440 → outcome_of pattern ≡ Accepts p → list_of pattern log ≡ answers_in p log
unfolding list_of
accepted-list pattern log p h e =
    ap₂ (λ (x : Signal) (o : Outcome). cond (eqb x.number 0) (answers_by o log) []) (good-pattern pattern log p h e) e

-- for every pattern and every log, accepted or not, the answers are no more than the log's lines
pub list-few : (pattern log : List ℕ) → length (list_of pattern log) ≤ length (lines log)
unfolding list_of
list-few pattern log = go (eqb (refusal pattern log).number 0) (outcome_of pattern)
  where
    go : (b : Bool) (o : Outcome) → length (cond b (answers_by o log) []) ≤ length (lines log)
    go true (Accepts p) = omega (arith, few-answers p (says log), says-length log)
    go true (Refuses n q) = omega arith
    go false o = omega arith

-- what acceptance says
pub record AcceptedPattern (pattern log : List ℕ) : Type 0 where
  pub brief : length log ≤ 61440
  pub tree : Pattern
  pub reads : outcome_of pattern ≡ Accepts tree

pub accepted-number : (pattern log : List ℕ) → (refusal pattern log).number ≡ 0 → AcceptedPattern pattern log
accepted-number pattern log e = go (ltb 61440 (length log)) refl (outcome_of pattern) refl
  where
    number : (r : Signal) → refusal pattern log ≡ r → 0 ≡ r.number
    number r k = sym e ∙ ap (λ (x : Signal). x.number) k

    go : (b : Bool) → ltb 61440 (length log) ≡ b → (o : Outcome) → outcome_of pattern ≡ o → AcceptedPattern pattern log
    go true k o j = absurd (omega (arith, number (refused 1 0) (long-log pattern log (ltb-true 61440 (length log) k))))
    go false k (Accepts p) j = record { brief = ltb-false 61440 (length log) k; tree = p; reads = j }
    go false k (Refuses n q) j = absurd (omega (arith, number (refused n q) (bad-pattern pattern log n q (ltb-false 61440 (length log) k) j), (refuses-says pattern n q j).some))

pub accepted-by : (pattern log : List ℕ) → refusal pattern log ≡ accepted → AcceptedPattern pattern log
accepted-by pattern log e = accepted-number pattern log (ap (λ (x : Signal). x.number) e)

-- the undamaged run, for the list of an accepted pattern and log: the run alone is accepted, and has, without `in` and `out`, the part of the list that lies within it
module _ (pattern a run b : List ℕ) (e : refusal pattern (a ++ (run ++ b)) ≡ accepted) where
  pub run-accepted : refusal pattern run ≡ accepted
  run-accepted =
      let k = accepted-by pattern (a ++ (run ++ b)) e in
      good-pattern pattern run k.tree (omega (arith, k.brief, length-append a (run ++ b), length-append run b)) k.reads

  pub run-list : LocalText pattern → Whole a → Whole run → in_run (length (lines a)) (length (lines run)) (list_of pattern (a ++ (run ++ b))) ≡ list_of pattern run
  run-list loc wa wr =
      let k = accepted-by pattern (a ++ (run ++ b)) e in
      let j = accepted-by pattern run run-accepted in
      ap (in_run (length (lines a)) (length (lines run))) (accepted-list pattern (a ++ (run ++ b)) k.tree k.brief k.reads)
      ∙ (run-bytes k.tree (subst LocalBy k.reads loc) a run b wa wr ∙ sym (accepted-list pattern run k.tree j.brief k.reads))

-- the picking call is refused as pattern and log are, and then by its count
module _ (pattern log : List ℕ) (k : ℕ) where
  pub pick-as : eqb (refusal pattern log).number 0 ≡ false → pick_refusal pattern log k ≡ refusal pattern log
  unfolding pick_refusal
  pick-as e = rw e

  pub pick-count : (b : Bool) → eqb (refusal pattern log).number 0 ≡ true → bad_count k ≡ b → pick_refusal pattern log k ≡ cond b (refused 10 0) accepted
  unfolding pick_refusal
  pick-count b e h = rw (e, h)

  -- it is accepted exactly where they are, and k is 1 to 16
  pub pick-accepted : (pick_refusal pattern log k).number ≡ 0 → ((refusal pattern log).number ≡ 0) × (1 ≤ k) × (k ≤ 16)
  pick-accepted e = go (eqb (refusal pattern log).number 0) (bad_count k) refl refl
    where
      go : (a b : Bool) → eqb (refusal pattern log).number 0 ≡ a → bad_count k ≡ b → ((refusal pattern log).number ≡ 0) × (1 ≤ k) × (k ≤ 16)
      go true true i j = absurd (omega (arith, e, ap (λ (x : Signal). x.number) (pick-count true i j)))
      go true false i j =
          let c = and-true (leb 1 k) (leb k 16) (not-false (leb 1 k && leb k 16) j) in
          (eqb-true (refusal pattern log).number 0 i, leb-true 1 k c.0, leb-true k 16 c.1)
      go false b i j = absurd (eqb-false (refusal pattern log).number 0 i (sym (ap (λ (x : Signal). x.number) (pick-as i)) ∙ e))

  pub pick-allowed : (refusal pattern log).number ≡ 0 → 1 ≤ k → k ≤ 16 → (pick_refusal pattern log k).number ≡ 0
  pick-allowed e h i = ap (λ (x : Signal). x.number) (pick-count false (eq-eqb (refusal pattern log).number 0 e) (ap not (true-and (leb 1 k) (leb k 16) (le-leb 1 k h) (le-leb k 16 i))))
