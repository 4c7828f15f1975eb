-- How far the lists are read when an answer is handed out: docs/FORMATS.md, "How far a list is read".
-- Assumes nothing.
use Rattle.std.specs.Prelude.{ℕ, suc, ◌<◌, ◌≡◌, ◌⊎◌, true, cond, List, [], ◌∷◌, map}
use Rattle.stretches.specs.Stretch.{Stretch, inside}
use Rattle.stretches.specs.Front.{Some, nth}

-- ── and: the items taken reach the first one inside the answer ──

-- the number of the first item inside c, the list's first being 0; the list's length where none is
abbrev pub inside_at : Stretch → List Stretch → ℕ
inside_at c [] = 0
inside_at c (x ∷ l) = cond (inside x c) 0 (suc (inside_at c l))

-- the items up to that one, itself counted; and of each list
abbrev pub to_first : Stretch → List Stretch → ℕ
to_first c l = suc (inside_at c l)

abbrev pub each_to_first : Stretch → List (List Stretch) → List ℕ
each_to_first c ls = map (to_first c) ls

-- k items taken, x being the first one inside c and n the items up to it: none beyond it, or one, and that only where x starts at c's start
abbrev pub TakenTo : Stretch → Stretch → ℕ → ℕ → Type 0
TakenTo c x n k = (k ≡ n) ⊎ ((k ≡ suc n) × (x.start ≡ c.start))

-- when the answer c is handed out, the k items taken of a list reach the first one inside c, with at most one beyond it
pub record Reaches (c : Stretch) (l : List Stretch) (k : ℕ) : Type 0 where
  pub first : Stretch
  pub there : nth l (inside_at c l) ≡ Some first
  pub within : inside first c ≡ true
  pub taken : TakenTo c first (to_first c l) k

-- from each list
abbrev pub EachReaches : Stretch → List (List Stretch) → List ℕ → Type 0
EachReaches c [] [] = Unit {0}
EachReaches c [] (k ∷ ks) = ⊥
EachReaches c (l ∷ ls) [] = ⊥
EachReaches c (l ∷ ls) (k ∷ ks) = Reaches c l k × EachReaches c ls ks

-- ── or and and: the items taken decide ──

-- two lists agree on their first k items, the end mark counted as one: past the last item each has none
abbrev pub AgreeTo : ℕ → List Stretch → List Stretch → Type 0
AgreeTo k l m = (j : ℕ) → j < k → nth l j ≡ nth m j

-- two sets of lists, as many of each, agree on the items counted
abbrev pub Agree : List ℕ → List (List Stretch) → List (List Stretch) → Type 0
Agree [] [] [] = Unit {0}
Agree [] [] (m ∷ ms) = ⊥
Agree [] (l ∷ ls) ms = ⊥
Agree (k ∷ ks) [] ms = ⊥
Agree (k ∷ ks) (l ∷ ls) [] = ⊥
Agree (k ∷ ks) (l ∷ ls) (m ∷ ms) = AgreeTo k l m × Agree ks ls ms
