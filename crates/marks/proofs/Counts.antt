-- How many lines are marked: of two parts, of words, and between two lines; and never more than there are lines. Assumes nothing.
use Prim.Native.Nat.{ℕ, zero, suc, ◌+◌, ◌-◌, ◌*◌, ◌≤◌, ◌<◌}
use mathlib.Core.Path.{◌≡◌, refl, sym, ap, ◌∙◌}
use mathlib.Core.Bool.{Bool, true, false, cond}
use mathlib.Core.List.{List, [], ◌∷◌, ◌++◌, map}
use native.Mathlib.Omega.{arith}
use lib.ListN.{length, get_or, take, drop, length-take, take-append-drop}
use lib.Seq.{take-nil, take-suc, take-add, take_at, take-append-le, length-take-le}
use Rattle.basics.proofs.Basics.{take-map, drop-map}
use Rattle.marks.specs.Row.{bits, flags, trues, mark_count}
use Rattle.marks.proofs.Flags.{length-flags, flags-append}

pub trues-append : (a b : List Bool) → trues (a ++ b) ≡ trues a + trues b
unfolding trues
trues-append [] b = omega arith
trues-append (true ∷ a) b = omega (arith, trues-append a b)
trues-append (false ∷ a) b = trues-append a b

pub trues_most : (bs : List Bool) → trues bs ≤ length bs
unfolding trues
trues_most [] = omega arith
trues_most (true ∷ bs) = omega (arith, trues_most bs)
trues_most (false ∷ bs) = omega (arith, trues_most bs)

-- of a word and the words after it
pub trues-word : (w : ℕ) (ws : List ℕ) → trues (flags (w ∷ ws)) ≡ trues (bits 64 w) + trues (flags ws)
unfolding flags
trues-word w ws = trues-append (bits 64 w) (flags ws)

-- of no words
pub trues-none : trues (flags []) ≡ 0
unfolding flags trues
trues-none = refl

-- the bits of the first k words are the first 64 × k
pub flags-take : (ws : List ℕ) (k : ℕ) → k ≤ length ws → flags (take k ws) ≡ take (64 * k) (flags ws)
flags-take ws k h =
    sym (take_at (flags (take k ws)) (flags (drop k ws)) (64 * k) (omega (arith, length-flags (take k ws), length-take-le k ws h)))
    ∙ ap (take (64 * k)) (sym (flags-append (take k ws) (drop k ws)) ∙ ap flags (take-append-drop k ws))

-- how many are set in one word more
pub trues-more : (ws : List ℕ) (k : ℕ) → k < length ws → trues (flags (take (suc k) ws)) ≡ trues (flags (take k ws)) + trues (bits 64 (get_or ws k 0))
trues-more ws k h =
    let w = get_or ws k 0 in
    ap (λ (l : List ℕ). trues (flags l)) (take-suc ws k 0 h) ∙ ap trues (flags-append (take k ws) (w ∷ [])) ∙ trues-append (flags (take k ws)) (flags (w ∷ []))
    ∙ omega (arith, trues-word w [], trues-none)

module _ (bs : List Bool) (s e : ℕ) where
  -- no more than the lines from s through e
  pub count_most : mark_count bs s e ≤ suc e - s
  unfolding mark_count
  count_most = omega (arith, trues_most (take (suc e - s) (drop s bs)), length-take (suc e - s) (drop s bs))

  -- those through e are those before s and those from s through e
  pub count-split : s ≤ suc e → trues (take (suc e) bs) ≡ trues (take s bs) + mark_count bs s e
  unfolding mark_count
  count-split h =
      let z : suc e ≡ s + (suc e - s) = omega arith in
      ap (λ (n : ℕ). trues (take n bs)) z ∙ ap trues (take-add s (suc e - s) bs) ∙ trues-append (take s bs) (take (suc e - s) (drop s bs))

-- lines behind those of the first part change nothing
pub count-front : (bs cs : List Bool) (s e : ℕ) → s ≤ suc e → e < length bs → mark_count (bs ++ cs) s e ≡ mark_count bs s e
count-front bs cs s e h l =
    omega (
      arith,
      count-split (bs ++ cs) s e h,
      count-split bs s e h,
      ap trues (take-append-le s bs cs (omega arith)),
      ap trues (take-append-le (suc e) bs cs (omega arith)),
    )

-- ── Lines that pass a test ──

-- from s on, as many as come before n, are those before n from s on
take-drop : {A : Type 0} (s n : ℕ) (xs : List A) → take (n - s) (drop s xs) ≡ drop s (take n xs)
take-drop zero n xs = let z : n - zero ≡ n = omega arith in ap (λ (k : ℕ). take k xs) z
take-drop (suc s) zero xs = let z : zero - suc s ≡ zero = omega arith in ap (λ (k : ℕ). take k (drop (suc s) xs)) z
take-drop (suc s) (suc n) [] = take-nil (suc n - suc s)
take-drop (suc s) (suc n) (x ∷ xs) = let z : suc n - suc s ≡ n - s = omega arith in ap (λ (k : ℕ). take k (drop s xs)) z ∙ take-drop s n xs

-- a count that goes line by line is the number of marks
module _ {A : Type 0} (f : A → Bool) (c : List A → ℕ) (none : c [] ≡ 0) (more : (x : A) (xs : List A) → c (x ∷ xs) ≡ cond (f x) 1 0 + c xs) where
  trues-count : (xs : List A) → trues (map f xs) ≡ c xs
  unfolding trues
  trues-count [] = sym none
  trues-count (x ∷ xs) = one (f x) (trues (map f xs)) ∙ ap (λ (n : ℕ). cond (f x) 1 0 + n) (trues-count xs) ∙ sym (more x xs)
    where
      one : (b : Bool) (n : ℕ) → cond b (suc n) n ≡ cond b 1 0 + n
      one true n = omega arith
      one false n = omega arith

  -- and so it is from s through e
  pub count-lines : (s e : ℕ) (xs : List A) → mark_count (map f xs) s e ≡ c (drop s (take (suc e) xs))
  unfolding mark_count
  count-lines s e xs =
      ap trues (take-drop s (suc e) (map f xs) ∙ ap (drop s) (take-map f (suc e) xs) ∙ drop-map f s (take (suc e) xs)) ∙ trues-count (drop s (take (suc e) xs))
