-- The refusals: docs/FORMATS.md, "Refusals", when each applies, 1 to 8 and 10 in number order; and which a call gets, the lowest that applies.
-- A refusal has its number and a place, 0 but for 3; number 0: accepted. No refusal has the number 9.
-- Assumes nothing.
use Rattle.std.specs.Prelude.{ℕ, ◌%◌, Bool, false, not, cond, ◌&&◌, ◌||◌, List, [], ◌∷◌, length, leb, ltb, eqb}
use Rattle.stretches.specs.declared.Stretch.{Stretch}
use Rattle.stretches.specs.Lent.{lists_of}
use Rattle.pattern.specs.Reading.{Outcome, outcome_of, number_in, place_in}

pub record Signal : Type 0 where
  pub number : ℕ
  pub place : ℕ

abbrev pub refused : ℕ → ℕ → Signal
refused n p = record { number = n; place = p }

abbrev pub accepted : Signal
accepted = refused 0 0

-- ── When each applies ──

-- 1, long log: above 61,440 bytes
abbrev pub long_log : List ℕ → Bool
long_log log = ltb 61440 (length log)

-- 2, long pattern: above 1,024 bytes: `outcome_of` (pattern/specs/Reading.antt)
-- 3, misspelt: not a pattern, node and depth bounds aside: `of_scan` there, with its place
-- 4, crowded: above 32 nodes: `of_tree` there
-- 5, deep: above 8 deep: `of_tree` there

-- 6, miscalled: operator not 1 to 9; not 2 to 31 lists (less, in, out and has 2, max 1); k not 0, or for max not 1 to 65,535;
-- taking call for another operator or with fewer count cells than lists
abbrev pub takes_lists : ℕ → ℕ → Bool
takes_lists n lists = cond (eqb n 6) (eqb lists 1) (cond (leb 5 n) (eqb lists 2) (leb 2 lists && leb lists 31))

abbrev pub takes_bound : ℕ → ℕ → Bool
takes_bound n k = cond (eqb n 6) (leb 1 k && leb k 65535) (eqb k 0)

-- the filling call
abbrev pub miscalled : ℕ → ℕ → List ℕ → Bool
miscalled n k ends = not (leb 1 n && leb n 9) || (not (takes_lists n (length ends)) || not (takes_bound n k))

-- the taking call, for or and and
abbrev pub miscalled_taking : ℕ → List ℕ → List ℕ → Bool
miscalled_taking n ends counts = not (leb 1 n && leb n 2) || (not (takes_lists n (length ends)) || ltb (length counts) (length ends))

-- 7, miscut: an end place odd, below the one before (i, 0 at first), or the last not the run's length
abbrev pub miscut_from : ℕ → List ℕ → ℕ → Bool
miscut_from i [] len = not (eqb i len)
miscut_from i (e ∷ ends) len = not (eqb (e % 2) 0) || (ltb e i || miscut_from e ends len)

abbrev pub miscut : List ℕ → List ℕ → Bool
miscut items ends = miscut_from 0 ends (length items)

-- 8, disordered: a start above its end, a position above 65,535, or a start or end not above the previous one of its list
abbrev pub spoiled : Stretch → Bool
spoiled x = ltb x.end x.start || (ltb 65535 x.start || ltb 65535 x.end)

abbrev pub disordered_after : Stretch → List Stretch → Bool
disordered_after x [] = false
disordered_after x (y ∷ l) = spoiled y || ((leb y.start x.start || leb y.end x.end) || disordered_after y l)

abbrev pub disordered_list : List Stretch → Bool
disordered_list [] = false
disordered_list (x ∷ l) = spoiled x || disordered_after x l

abbrev pub disordered : List (List Stretch) → Bool
disordered [] = false
disordered (l ∷ ls) = disordered_list l || disordered ls

-- 10, bad count: the number of picks asked for not 1 to 16
abbrev pub bad_count : ℕ → Bool
bad_count k = not (leb 1 k && leb k 16)

-- ── Which a call gets ──

-- of what the pattern is read as: 2 to 5
abbrev pub of_pattern : Outcome → Signal
of_pattern o = refused (number_in o) (place_in o)

-- over a pattern and a log: 1, then these
unfoldable pub refusal : List ℕ → List ℕ → Signal
refusal pattern log = cond (long_log log) (refused 1 0) (of_pattern (outcome_of pattern))

-- of the picking call: these, then 10
unfoldable pub pick_refusal : List ℕ → List ℕ → ℕ → Signal
pick_refusal pattern log k = cond (eqb (refusal pattern log).number 0) (cond (bad_count k) (refused 10 0) accepted) (refusal pattern log)

-- over lent lists, given whether the call is miscalled: 6, 7, 8; its number, the place being 0
abbrev pub lowest : Bool → List ℕ → List ℕ → ℕ
lowest wrong items ends = cond wrong 6 (cond (miscut items ends) 7 (cond (disordered (lists_of items ends)) 8 0))

-- of the filling call
unfoldable pub lists_refusal : ℕ → ℕ → List ℕ → List ℕ → ℕ
lists_refusal op k items ends = lowest (miscalled op k ends) items ends

-- of the taking call
unfoldable pub taking_refusal : ℕ → List ℕ → List ℕ → List ℕ → ℕ
taking_refusal op items ends counts = lowest (miscalled_taking op ends counts) items ends
