-- The printed lines of the stretches from one on, step by step.
-- Assumes nothing.
use Prim.Native.Nat.{ℕ, suc, ◌+◌, ◌/◌, ◌≤◌, ◌<◌}
use mathlib.Core.Path.{◌≡◌, refl, sym, ap, ◌∙◌}
use mathlib.Core.List.{List, [], ◌∷◌, ◌++◌}
use lib.ListN.{length, get_or, take, drop, length-append, drop_of_length-le}
use lib.Seq.{drop-cons, sets}
use native.Mathlib.Omega.{arith}
use Rattle.std.specs.Simd.{first_chunks}
use Rattle.basics.proofs.Basics.{take-map}
use Rattle.stretches.specs.declared.Stretch.{Stretch}
use Rattle.stretches.specs.Stretch.{st}
use Rattle.stretches.specs.Lent.{pairs}
use Rattle.stretches.specs.Filling.{flat}
use Rattle.basics.specs.Decimal.{decimal}
use Rattle.print.specs.Print.{field, rows, shown}
use Rattle.print.specs.inner.Cells.{stretches_of}
use Rattle.print.proofs.Placing.{sets-append}

pub length-field : (n mark : ℕ) → length (field n mark) ≡ length (decimal n) + 1
unfolding field
length-field n mark = length-append (decimal n) (mark ∷ [])

-- the printed line of number i, and the lines after it
pub rows_next : (cells : List (List ℕ)) (i : ℕ) → i < length cells
    → rows (stretches_of (drop i cells)) ≡ field (get_or (get_or cells i []) 0 0) 44 ++ (field (get_or (get_or cells i []) 1 0) 10 ++ rows (stretches_of (drop (i + 1) cells)))
unfolding rows
rows_next cells i h =
    let z : suc i ≡ i + 1 = omega arith in
    ap (λ l. rows (stretches_of l)) (drop-cons cells i [] h ∙ ap (λ k. get_or cells i [] ∷ drop k cells) z)

-- its length, field by field
pub length-turn : (cells : List (List ℕ)) (i : ℕ) → i < length cells
    → length (rows (stretches_of (drop i cells))) ≡ length (field (get_or (get_or cells i []) 0 0) 44) + length (field (get_or (get_or cells i []) 1 0) 10) + length (rows (stretches_of (drop (i + 1) cells)))
length-turn cells i h =
    let a = field (get_or (get_or cells i []) 0 0) 44 in
    let b = field (get_or (get_or cells i []) 1 0) 10 in
    let r = rows (stretches_of (drop (i + 1) cells)) in
    omega (arith, ap length (rows_next cells i h), length-append a (b ++ r), length-append b r)

-- and in digits
pub digits-turn : (cells : List (List ℕ)) (i : ℕ) → i < length cells → (s e : ℕ) → s ≡ get_or (get_or cells i []) 0 0 → e ≡ get_or (get_or cells i []) 1 0
    → length (rows (stretches_of (drop i cells))) ≡ length (decimal s) + length (decimal e) + 2 + length (rows (stretches_of (drop (i + 1) cells)))
digits-turn cells i h s e p q =
    omega (arith, length-turn cells i h, ap (λ n. length (field n 44)) p, ap (λ n. length (field n 10)) q, length-field s 44, length-field e 10)

-- it is written first, field by field, then the lines after it
pub rows-turn : (cells : List (List ℕ)) (i : ℕ) → i < length cells → (out : List ℕ) (place : ℕ)
    → let a = field (get_or (get_or cells i []) 0 0) 44 in
    let b = field (get_or (get_or cells i []) 1 0) 10 in
    sets (sets (sets out place a) (place + length a) b) (place + length a + length b) (rows (stretches_of (drop (i + 1) cells))) ≡ sets out place (rows (stretches_of (drop i cells)))
rows-turn cells i h out place =
    let a = field (get_or (get_or cells i []) 0 0) 44 in
    let b = field (get_or (get_or cells i []) 1 0) 10 in
    let r = rows (stretches_of (drop (i + 1) cells)) in
    sets-append b r (sets out place a) (place + length a) ∙ (sets-append a (b ++ r) out place ∙ ap (sets out place) (sym (rows_next cells i h)))

-- and none is left at the end
pub rows_last : (cells : List (List ℕ)) (i : ℕ) → length cells ≤ i → rows (stretches_of (drop i cells)) ≡ []
unfolding rows
rows_last cells i h = ap (λ l. rows (stretches_of l)) (drop_of_length-le cells h)

-- ── The stretches that the cells hold ──

held : (cells : List ℕ) → stretches_of (first_chunks 2 (length cells / 2) cells) ≡ pairs cells
held [] = refl
held (s ∷ []) = refl
held (s ∷ (e ∷ r)) =
    let z : suc (suc (length r)) / 2 ≡ suc (length r / 2) = omega arith in
    ap (λ k. stretches_of (first_chunks 2 k (s ∷ (e ∷ r)))) z ∙ ap (λ l. st s e ∷ l) (held r)

pub shown_held : (count : ℕ) (cells : List ℕ) → stretches_of (take count (first_chunks 2 (length cells / 2) cells)) ≡ shown count cells
shown_held count cells = sym (take-map _ count (first_chunks 2 (length cells / 2) cells)) ∙ ap (take count) (held cells)

-- what a filling call wrote is what is shown
pub shown-flat : (l : List Stretch) (r : List ℕ) → shown (length l) (flat l ++ r) ≡ l
shown-flat [] r = refl
shown-flat (x ∷ l) r = ap (λ (t : List Stretch). x ∷ t) (shown-flat l r)
