-- Whatever the calls show is the list of the pattern in the log, and the calls do show it; so it is no longer than the log has lines, and a run of whole lines decides its own
-- stretches, for patterns without `in` and `out`.
-- Assumes nothing.
use Prim.Native.Nat.{ℕ, zero, suc, ◌*◌, ◌≤◌}
use mathlib.Core.Path.{◌≡◌, refl, sym, ap, ◌∙◌}
use mathlib.Core.Logic.{inl, inr}
use mathlib.Core.Bool.{false}
use mathlib.Core.List.{List, [], ◌∷◌, ◌++◌}
use lib.ListN.{length, drop}
use native.Mathlib.Omega.{arith}
use Rattle.stretches.specs.declared.Stretch.{Stretch}
use Rattle.stretches.specs.Front as front
use Rattle.stretches.specs.Filling.{more_after}
use Rattle.stretches.specs.Run.{in_run}
use Rattle.stretches.proofs.Filling.{filled-front, done_all, room-done, drop-step}
use Rattle.lines.specs.Lines.{lines, Whole}
use Rattle.meaning.specs.Refusals.{Signal, refusal, accepted}
use Rattle.meaning.specs.Finding.{LocalText, list_of, filling}
use Rattle.meaning.proofs.Finding.{good-pattern, accepted-number, list-few, run-accepted, run-list}
use Rattle.finder.specs.declared.Finder.{Finder}
use Rattle.std.specs.Prelude.{Some, None}
use Rattle.finder.specs.Promises.{stepped}
use Rattle.finder.specs.Whole.{after, Accepted, Steps, last, more, BySteps, Written, Shown}
use Rattle.finder.proofs.Stepping.{step-answer}

-- ── The steps ──

-- the list from number n on, by its first
pub rest-none : (l : List Stretch) (n : ℕ) → front.nth l n ≡ None → drop n l ≡ []
rest-none [] zero e = refl
rest-none [] (suc n) e = refl
rest-none (x ∷ l) zero e = absurd cc
rest-none (x ∷ l) (suc n) e = rest-none l n e

pub rest_some : (l : List Stretch) (n : ℕ) (y : Stretch) → front.nth l n ≡ Some y → drop n l ≡ y ∷ drop (suc n) l
rest_some [] zero y e = absurd cc
rest_some [] (suc n) y e = absurd cc
rest_some (x ∷ l) zero y e = cc
rest_some (x ∷ l) (suc n) y e = rest_some l n y e

module _ (pattern log : List ℕ) where
  steps-rest : {f : Finder} {xs : List Stretch} → Steps log f xs → (n : ℕ) → f ≡ after pattern log n → xs ≡ drop n (list_of pattern log)
  unfolding after
  steps-rest (last e) n k = sym (rest-none (list_of pattern log) n (sym (step-answer pattern log n) ∙ sym (ap (λ (f : Finder). (stepped f log).answer) k) ∙ e))
  steps-rest (more x e rest) n k =
      ap (λ (ys : List Stretch). x ∷ ys) (steps-rest rest (suc n) (ap (λ (f : Finder). (stepped f log).finder) k))
      ∙ sym (rest_some (list_of pattern log) n x (sym (step-answer pattern log n) ∙ sym (ap (λ (f : Finder). (stepped f log).answer) k) ∙ e))

  steps-there : (n : ℕ) (rest : List Stretch) → drop n (list_of pattern log) ≡ rest → Steps log (after pattern log n) rest
  unfolding after
  steps-there n [] e = last (step-answer pattern log n ∙ ap (λ (l : List Stretch). front.head_of l) e)
  steps-there n (x ∷ xs) e =
      more x (step-answer pattern log n ∙ ap (λ (l : List Stretch). front.head_of l) e)
      (steps-there (suc n) xs (drop-step n (list_of pattern log) x xs e).0)

  -- the steps up to the first none give exactly the list
  pub taken-list : (xs : List Stretch) → BySteps pattern log xs → xs ≡ list_of pattern log
  unfolding after
  taken-list xs t = steps-rest t 0 refl

  pub taken-there : BySteps pattern log (list_of pattern log)
  unfolding after
  taken-there = steps-there 0 (list_of pattern log) refl

  -- a filling that says "done" has written exactly the list
  pub written-list : (xs : List Stretch) → Written pattern log xs → xs ≡ list_of pattern log
  written-list xs w = w.shows ∙ filled-front (list_of pattern log) 0 w.cells ∙ done_all (list_of pattern log) w.cells w.done

  -- and with two cells for each answer it says so
  pub written-there : (cells : List ℕ) → 2 * length (list_of pattern log) ≤ length cells → Written pattern log (list_of pattern log)
  written-there cells h =
      let d : more_after (list_of pattern log) 0 cells ≡ false = room-done (list_of pattern log) cells h in
      record { cells = cells; done = d; shows = sym (filled-front (list_of pattern log) 0 cells ∙ done_all (list_of pattern log) cells d) }

  pub shown-list : (xs : List Stretch) → Shown pattern log xs → xs ≡ list_of pattern log
  shown-list xs (inl t) = taken-list xs t
  shown-list xs (inr w) = written-list xs w

  -- they are no more than the log's lines
  pub calls-few : (xs : List Stretch) → Shown pattern log xs → length xs ≤ length (lines log)
  calls-few xs p = omega (arith, list-few pattern log, ap length (shown-list xs p))

  -- so a filling from number 0 with two cells for each line says "done"
  pub lines-enough : (cells : List ℕ) → 2 * length (lines log) ≤ length cells → (filling pattern log 0 cells).more ≡ false
  lines-enough cells h = room-done (list_of pattern log) cells (omega (arith, list-few pattern log))

-- ── Acceptance ──

-- neither call refuses exactly if the table of refusals has none
pub accepted-only : (pattern log : List ℕ) → Accepted pattern log → refusal pattern log ≡ accepted
accepted-only pattern log a = let k = accepted-number pattern log a.opens in good-pattern pattern log k.tree k.brief k.reads

pub accepted-there : (pattern log : List ℕ) → refusal pattern log ≡ accepted → Accepted pattern log
accepted-there pattern log e = let z : (refusal pattern log).number ≡ 0 = ap (λ (r : Signal). r.number) e in record { opens = z; fills = λ from cells. z }

-- ── Demand 3 ──

-- a run of whole lines decides its own stretches: whatever whole lines precede it and whatever follows it in an accepted log, the run alone is accepted,
-- and the stretches that lie wholly within it, counted from its first line, are those of the run alone, in the same order, whichever way they are taken, where
-- the pattern has no `in` and no `out`
pub run-decides : (pattern a run b : List ℕ) → Whole a → Whole run → Accepted pattern (a ++ (run ++ b))
    → Accepted pattern run × (LocalText pattern → (xs ys : List Stretch) → Shown pattern (a ++ (run ++ b)) xs → Shown pattern run ys
    → in_run (length (lines a)) (length (lines run)) xs ≡ ys)
run-decides pattern a run b wa wr ok =
    let e = accepted-only pattern (a ++ (run ++ b)) ok in (
      accepted-there pattern run (run-accepted pattern a run b e),
      λ loc xs ys p q. ap (in_run (length (lines a)) (length (lines run))) (shown-list pattern (a ++ (run ++ b)) xs p) ∙ run-list pattern a run b e loc wa wr ∙ sym (shown-list pattern run ys q),
    )

-- the same run in two accepted logs, at any two places
pub runs-agree : (pattern a b c d run : List ℕ) → LocalText pattern → Whole a → Whole c → Whole run
    → Accepted pattern (a ++ (run ++ b)) → Accepted pattern (c ++ (run ++ d))
    → (xs ys : List Stretch) → Shown pattern (a ++ (run ++ b)) xs → Shown pattern (c ++ (run ++ d)) ys
    → in_run (length (lines a)) (length (lines run)) xs ≡ in_run (length (lines c)) (length (lines run)) ys
runs-agree pattern a b c d run loc wa wc wr ok ok' xs ys p q =
    let l = list_of pattern run in
    (run-decides pattern a run b wa wr ok).1 loc xs l p (inl (taken-there pattern run)) ∙ sym ((run-decides pattern c run d wc wr ok').1 loc ys l q (inl (taken-there pattern run)))
