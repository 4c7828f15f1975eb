-- Lent lists by their places: a part opened at its first stretch, where each list stands, and how many there are.
-- Assumes nothing.
use Prim.Native.Nat.{ℕ, zero, suc, ◌+◌, ◌-◌, ◌≤◌, ◌<◌}
use mathlib.Core.Path.{◌≡◌, refl, sym, ap, ap₂, ◌∙◌}
use mathlib.Core.List.{List, [], ◌∷◌}
use lib.ListN.{length, get_or, take, drop}
use lib.Seq.{drop-cons}
use native.Mathlib.Omega.{arith}
use Rattle.stretches.specs.Stretch.{st}
use Rattle.stretches.specs.Lent.{pairs, part, lists_from, lists_of}
use Rattle.stretches.specs.inner.Starts.{start_of}

-- ── A part of the items ──

-- its first stretch, and the part past that
pub part-cons : (items : List ℕ) (i h : ℕ) → i + 1 < h → h ≤ length items → part items i h ≡ st (get_or items i 0) (get_or items (i + 1) 0) ∷ part items (i + 2) h
part-cons items i h lt le =
    let a : drop i items ≡ get_or items i 0 ∷ drop (suc i) items = drop-cons items i 0 (omega arith) in
    let b : drop (suc i) items ≡ get_or items (suc i) 0 ∷ drop (suc (suc i)) items = drop-cons items (suc i) 0 (omega arith) in
    let n : h - i ≡ suc (suc (h - (i + 2))) = omega arith in
    let p : suc i ≡ i + 1 = omega arith in
    let q : suc (suc i) ≡ i + 2 = omega arith in
    ap₂ (λ (m : ℕ) (l : List ℕ). pairs (take m l)) n (a ∙ ap (λ (l : List ℕ). get_or items i 0 ∷ l) b)
    ∙ ap₂ (λ (j k : ℕ). st (get_or items i 0) (get_or items j 0) ∷ pairs (take (h - (i + 2)) (drop k items))) p q

short-pairs : (n : ℕ) (l : List ℕ) → n ≤ 1 → pairs (take n l) ≡ []
short-pairs zero l le = refl
short-pairs (suc zero) [] le = refl
short-pairs (suc zero) (x ∷ l) le = refl
short-pairs (suc (suc n)) l le = absurd (omega arith)

-- of one place or none, no stretch
pub part-nil : (items : List ℕ) (i h : ℕ) → h ≤ i + 1 → part items i h ≡ []
part-nil items i h le = short-pairs (h - i) (drop i items) (omega arith)

-- ── The lists ──

-- a list but the first starts where the one before it ends
pub start-later : (ends : List ℕ) (k : ℕ) → (k ≡ 0 → ⊥) → get_or ends (k - 1) 0 ≡ start_of ends k
start-later ends zero n = absurd (n refl)
start-later ends (suc k) n = let z : suc k - 1 ≡ k = omega arith in ap (λ (i : ℕ). get_or ends i 0) z

start_is : (ends : List ℕ) (k : ℕ) → start_of (0 ∷ ends) (suc k) ≡ start_of ends k
start_is ends zero = refl
start_is ends (suc k) = refl

lists-from : (i : ℕ) (items ends : List ℕ) (k : ℕ) → get_or (lists_from i items ends) k [] ≡ part items (start_of (i ∷ ends) (suc k)) (get_or ends k 0)
lists-from i items [] k = sym (part-nil items (start_of (i ∷ []) (suc k)) 0 (omega arith))
lists-from i items (e ∷ ends) zero = refl
lists-from i items (e ∷ ends) (suc k) = lists-from e items ends k

-- list k is the part from its start to its end place; empty where there is no list k
pub lists_at : (items ends : List ℕ) (k : ℕ) → get_or (lists_of items ends) k [] ≡ part items (start_of ends k) (get_or ends k 0)
lists_at items ends k = lists-from 0 items ends k ∙ ap (λ (i : ℕ). part items i (get_or ends k 0)) (start_is ends k)

-- as many lists as end places
pub lists_length : (i : ℕ) (items ends : List ℕ) → length (lists_from i items ends) ≡ length ends
lists_length i items [] = refl
lists_length i items (e ∷ ends) = ap suc (lists_length e items ends)
