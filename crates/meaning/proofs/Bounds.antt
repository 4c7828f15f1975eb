-- Which numbers a refusal can have, of which 9 is none, and how large the other numbers of a call's result can be. Assumes nothing.
use Prim.Native.Nat.{ℕ, ◌≤◌, ◌<◌}
use mathlib.Core.Path.{◌≡◌, refl, sym, ap, subst}
use mathlib.Core.Logic.{◌⊎◌, inl, inr}
use mathlib.Core.Bool.{Bool, true, false, cond}
use mathlib.Core.List.{List}
use lib.ListN.{length, drop, length-take, length-drop}
use lib.Dec.{eqb}
use native.Mathlib.Omega.{arith}
use Rattle.basics.proofs.Basics.{le-or-lt}
use Rattle.stretches.specs.Filling.{pairs_in, written}
use Rattle.stretches.specs.Lent.{lists_of}
use Rattle.lines.proofs.LinesLaws.{cut-few}
use Rattle.pattern.specs.Answer.{Says, number_of, place_of}
use Rattle.pattern.specs.Reading.{Outcome, Accepts, Refuses, outcome_of}
use Rattle.std.specs.Prelude.{Err}
use Rattle.pattern.specs.declared.Refusal as pattern
use Rattle.pattern.specs.declared.Refusal.TheVariants.{Long, Misspelt, Crowded, Deep}
use Rattle.pattern.proofs.Outcomes.{refuses-says}
use Rattle.meaning.specs.Refusals.{Signal, refused, miscut, disordered, bad_count, of_pattern, refusal, pick_refusal, lowest}
use Rattle.meaning.specs.Finding.{list_of}
use Rattle.meaning.proofs.Finding.{long-log, short-log, refused-list, list-few, pick-as, pick-count}

-- ── Over a pattern and a log ──

-- a refusal of at most this number and place
pub record Small (r : Signal) : Type 0 where
  pub number : r.number ≤ 5
  pub place : r.place ≤ 1024

says-small : (s : List ℕ) (v : pattern.Refusal) → Says s (Err v) → (number_of v ≤ 5) × (place_of v ≤ 1024)
says-small s Long h = (omega arith, omega arith)
says-small s (Misspelt n) h = (omega arith, omega (arith, h.short, h.place.within))
says-small s Crowded h = (omega arith, omega arith)
says-small s Deep h = (omega arith, omega arith)

pattern-small : (pattern : List ℕ) (o : Outcome) → outcome_of pattern ≡ o → Small (of_pattern o)
pattern-small pattern (Accepts p) e = record { number = omega arith; place = omega arith }
pattern-small pattern (Refuses n q) e =
    let h = refuses-says pattern n q e in
    let z = says-small pattern h.refusal h.says in
    record { number = omega (arith, h.number, z.0); place = omega (arith, h.place, z.1) }

module _ (pattern log : List ℕ) where
  -- no number above 5
  pub refusal-small : Small (refusal pattern log)
  refusal-small = go (le-or-lt (length log) 61440)
    where
      go : (length log ≤ 61440) ⊎ (61440 < length log) → Small (refusal pattern log)
      go (inl h) = subst Small (sym (short-log pattern log h)) (pattern-small pattern (outcome_of pattern) refl)
      go (inr h) = subst Small (sym (long-log pattern log h)) (record { number = omega arith; place = omega arith })

  -- of the picking call none above 5 but 10
  pub pick_small : (k : ℕ) → Small (pick_refusal pattern log k) ⊎ (pick_refusal pattern log k ≡ refused 10 0)
  pick_small k = go (eqb (refusal pattern log).number 0) (bad_count k) refl refl
    where
      go : (a b : Bool) → eqb (refusal pattern log).number 0 ≡ a → bad_count k ≡ b → Small (pick_refusal pattern log k) ⊎ (pick_refusal pattern log k ≡ refused 10 0)
      go true true i j = inr (pick-count pattern log k true i j)
      go true false i j = inl (subst Small (sym (pick-count pattern log k false i j)) (record { number = omega arith; place = omega arith }))
      go false b i j = inl (subst Small (sym (pick-as pattern log k i)) refusal-small)

  -- the number of answers
  pub list-small : length (list_of pattern log) ≤ 61440
  list-small = go (le-or-lt (length log) 61440)
    where
      go : (length log ≤ 61440) ⊎ (61440 < length log) → length (list_of pattern log) ≤ 61440
      go (inl h) = omega (arith, list-few pattern log, cut-few 10 log)
      go (inr h) = omega (arith, ap length (refused-list pattern log (refused 1 0) (long-log pattern log h) (omega arith)))

  -- the number of stretches written
  pub few-written : (f : ℕ) (cells : List ℕ) → length (written (list_of pattern log) f cells) ≤ 61440
  few-written f cells = omega (arith, length-take (pairs_in cells) (drop f (list_of pattern log)), length-drop f (list_of pattern log), list-small)

-- ── Over lent lists ──

-- no number above 8
pub lowest-small : (wrong : Bool) (items ends : List ℕ) → lowest wrong items ends ≤ 8
lowest-small true items ends = omega arith
lowest-small false items ends = go (miscut items ends) (disordered (lists_of items ends))
  where
    go : (a b : Bool) → cond a 7 (cond b 8 0) ≤ 8
    go true b = omega arith
    go false true = omega arith
    go false false = omega arith
