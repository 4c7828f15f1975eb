-- The lines of several leaves together; and an `or` of leaves is the leaf that has a line where any of them has it: its list is the union of the lines.
-- Assumes nothing.
use Prim.Native.Nat.{ℕ, zero, suc, ◌-◌, ◌≤◌, ◌<◌}
use mathlib.Core.Path.{◌≡◌, refl, sym, ap, ap₂, subst, ◌∙◌}
use mathlib.Core.Logic.{inl, inr, ⊎_elim}
use mathlib.Core.Bool.{Bool, true, false, ◌||◌}
use mathlib.Core.List.{List, [], ◌∷◌, ◌++◌, map}
use lib.ListN.{length, get_or, replicate}
use native.Mathlib.Omega.{arith}
use Rattle.stretches.specs.Stretch.{In, AllRising, AllSound, marks, either, any_of, Or, answers}
use Rattle.basics.proofs.Basics.{or-true, or_left, or_right}
use Rattle.stretches.proofs.Lists.{ext-rising}
use Rattle.stretches.proofs.Tuples.{InAny}
use Rattle.stretches.proofs.Answers.{answer-cand, least-answer, rising-answers}
use Rattle.stretches.proofs.Marks.{in-marks, marks-in, rising-marks}

or-none : (b : Bool) → b ≡ (b || false)
or-none true = refl
or-none false = refl

pub get_d-either : (xs ys : List Bool) (i : ℕ) → get_or (either xs ys) i false ≡ (get_or xs i false || get_or ys i false)
get_d-either [] ys i = refl
get_d-either (x ∷ xs) [] i = or-none (get_or (x ∷ xs) i false)
get_d-either (x ∷ xs) (y ∷ ys) zero = refl
get_d-either (x ∷ xs) (y ∷ ys) (suc i) = get_d-either xs ys i

-- none beside
pub either-none : (xs : List Bool) → either xs [] ≡ xs
either-none [] = refl
either-none (x ∷ xs) = refl

or-three : (x y z : Bool) → ((x || y) || z) ≡ (x || (y || z))
or-three true y z = refl
or-three false y z = refl

pub either-three : (xs ys zs : List Bool) → either (either xs ys) zs ≡ either xs (either ys zs)
either-three [] ys zs = refl
either-three (x ∷ xs) [] zs = refl
either-three (x ∷ xs) (y ∷ ys) [] = refl
either-three (x ∷ xs) (y ∷ ys) (z ∷ zs) = ap₂ (λ (b : Bool) (l : List Bool). b ∷ l) (or-three x y z) (either-three xs ys zs)

-- no more lines than either
pub either-most : (n : ℕ) (xs ys : List Bool) → length xs ≤ n → length ys ≤ n → length (either xs ys) ≤ n
either-most n [] ys h k = k
either-most n (x ∷ xs) [] h k = h
either-most zero (x ∷ xs) (y ∷ ys) h k = absurd (omega arith)
either-most (suc n) (x ∷ xs) (y ∷ ys) h k = omega (arith, either-most n xs ys (omega arith) (omega arith))

-- beside clear lines
pub either-clear : (n : ℕ) (bs : List Bool) → length bs ≤ n → either (replicate n false) bs ≡ bs ++ replicate (n - length bs) false
either-clear zero [] h = refl
either-clear zero (b ∷ bs) h = absurd (omega arith)
either-clear (suc n) [] h = let z : suc n ≡ suc n - 0 = omega arith in ap (λ (m : ℕ). replicate m false) z
either-clear (suc n) (b ∷ bs) h = let z : n - length bs ≡ suc n - suc (length bs) = omega arith in
    ap (λ (l : List Bool). b ∷ l) (either-clear n bs (omega arith)) ∙ ap (λ (m : ℕ). b ∷ (bs ++ replicate m false)) z

true-inside : (bs : List Bool) (i : ℕ) → get_or bs i false ≡ true → i < length bs
true-inside [] i e = let z : ◌≡◌ {A = ℕ} 0 1 = cc in absurd (omega arith)
true-inside (b ∷ bs) zero e = omega arith
true-inside (b ∷ bs) (suc i) e = omega (arith, true-inside bs i e)

any-line : (bs : List (List Bool)) (s e : ℕ) → InAny s e (map (marks 0) bs) → (s ≡ e) × (get_or (any_of bs) s false ≡ true)
any-line [] s e m = absurd m
any-line (b ∷ bs) s e (inl m) =
    let w = in-marks 0 b s e m in
    let z : s - 0 ≡ s = omega arith in
    (w.one, get_d-either b (any_of bs) s ∙ or_left (get_or b s false) (get_or (any_of bs) s false) (ap (λ (i : ℕ). get_or b i false) (sym z) ∙ w.match))
any-line (b ∷ bs) s e (inr m) = let w = any-line bs s e m in (w.0, get_d-either b (any_of bs) s ∙ or_right (get_or b s false) (get_or (any_of bs) s false) w.1)

line-any : (bs : List (List Bool)) (s : ℕ) → get_or (any_of bs) s false ≡ true → InAny s s (map (marks 0) bs)
line-any [] s e = let z : ◌≡◌ {A = ℕ} 0 1 = cc in absurd (omega arith)
line-any (b ∷ bs) s e = ⊎_elim
    (λ (h : get_or b s false ≡ true). inl (marks-in 0 b s (true-inside b s h) h s (omega arith)))
    (λ (h : get_or (any_of bs) s false ≡ true). inr (line-any bs s h))
    (or-true (get_or b s false) (get_or (any_of bs) s false) (sym (get_d-either b (any_of bs) s) ∙ e))

all-rising : (bs : List (List Bool)) → AllRising (map (marks 0) bs)
all-rising [] = tt
all-rising (b ∷ bs) = (rising-marks 0 b, all-rising bs)

all_sound : (bs : List (List Bool)) → AllSound (map (marks 0) bs)
all_sound [] = tt
all_sound (b ∷ bs) = (λ s e m. omega (arith, (in-marks 0 b s e m).one), all_sound bs)

-- the law
pub or-marks : (bs : List (List Bool)) → answers Or (map (marks 0) bs) ≡ marks 0 (any_of bs)
or-marks bs = ext-rising (answers Or (map (marks 0) bs)) (marks 0 (any_of bs)) (rising-answers Or (map (marks 0) bs) (all-rising bs) (all_sound bs)) (rising-marks 0 (any_of bs)) to from
  where
    to : (s e : ℕ) → In s e (answers Or (map (marks 0) bs)) → In s e (marks 0 (any_of bs))
    to s e m =
        let w = any-line bs s e (answer-cand Or (map (marks 0) bs) s e m) in
        subst (λ (x : ℕ). In s x (marks 0 (any_of bs))) w.0 (marks-in 0 (any_of bs) s (true-inside (any_of bs) s w.1) w.1 s (omega arith))

    from : (s e : ℕ) → In s e (marks 0 (any_of bs)) → In s e (answers Or (map (marks 0) bs))
    from s e m =
        let w = in-marks 0 (any_of bs) s e m in
        let z : s - 0 ≡ s = omega arith in
        let c = line-any bs s (ap (λ (i : ℕ). get_or (any_of bs) i false) (sym z) ∙ w.match) in
        least-answer Or (map (marks 0) bs) s e (subst (λ (x : ℕ). InAny s x (map (marks 0) bs)) w.one c)
        (λ s' e' k p q. let y = any-line bs s' e' k in (omega (arith, y.0, w.one), omega (arith, y.0, w.one)))
