-- The code's table of numbers and words is the list of kinds.
-- Assumes nothing.
use Prim.Native.Nat.{ℕ, zero, suc, ◌<◌}
use mathlib.Core.Path.{◌≡◌, refl, ap, ◌∙◌}
use mathlib.Core.List.{List, [], ◌∷◌, map}
use lib.ListN.{length, get_or}
use native.Mathlib.Omega.{arith}
use Rattle.pattern.specs.Kinds.{Kind, kinds, no_kind, kind_in}
use Rattle.pattern.specs.Automaton.{letter_at}
use Rattle.pattern.proofs.Fields.{three}

-- a row of a table made of the kinds
row_at : {A : Type 0} (f : Kind → A) (d : A) (xs : List Kind) (r : ℕ) → r < length xs → get_or (map f xs) r d ≡ f (get_or xs r no_kind)
row_at f d [] r h = absurd (omega arith)
row_at f d (x ∷ xs) zero h = refl
row_at f d (x ∷ xs) (suc r) h = row_at f d xs r (omega arith)

-- a word in four cells
abbrev spaced : Kind → List ℕ
spaced x = letter_at x.word 0 ∷ letter_at x.word 1 ∷ letter_at x.word 2 ∷ letter_at x.word 3 ∷ []

abbrev cells : Kind → ℕ × List ℕ
cells x = (x.number, spaced x)

-- a number's cell
pub number-cell : (r : ℕ) → r < length kinds → (get_or (map cells kinds) r (0, [])).0 ≡ (kind_in r).number
unfolding kind_in
number-cell r h = ap (λ (x : ℕ × List ℕ). x.0) (row_at cells (0, []) kinds r h)

-- a letter's cell
pub letter-cell : (r i : ℕ) → r < length kinds → i < 4 → get_or (get_or (map cells kinds) r (0, [])).1 i 0 ≡ letter_at (kind_in r).word i
unfolding kind_in
letter-cell r i h l = ap (λ (x : ℕ × List ℕ). get_or x.1 i 0) (row_at cells (0, []) kinds r h) ∙ go (kind_in r) i l
  where
    go : (x : Kind) (i : ℕ) → i < 4 → get_or (spaced x) i 0 ≡ letter_at x.word i
    go x zero l = refl
    go x (suc i) l = three (λ i. get_or (spaced x) (suc i) 0 ≡ letter_at x.word (suc i)) refl refl refl i (omega arith)
