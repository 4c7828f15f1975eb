-- Lines packed into words: their bits, their number and their size; and words are known by their bits. By the first word and the rest. Assumes nothing.
use Prim.Native.Nat.{ℕ, zero, suc, ◌+◌, ◌-◌, ◌*◌, ◌^◌, ◌≤◌, ◌<◌}
use mathlib.Core.Path.{◌≡◌, refl, sym, ap, ap₂, ◌∙◌}
use mathlib.Core.Bool.{Bool, false}
use mathlib.Core.List.{List, [], ◌∷◌, ◌++◌}
use native.Mathlib.Omega.{arith}
use lib.ListN.{length, get_or, take, drop, replicate, length-append, length-take, length-drop, length-replicate, replicate-append-replicate}
use lib.Seq.{take_all, take_at, drop_at, take-append-le, drop-append-le, take-append-add, take-add, drop-nil}
use lib.Pow.{pow_pos}
use Rattle.marks.specs.Row.{bits, number, flags, packed}
use Rattle.marks.proofs.Bits.{length-bits, bits-zero, number-bits, bits-more, number-below}

pub length-packed : (w : ℕ) (bs : List Bool) → length (packed w bs) ≡ w
unfolding packed
length-packed zero bs = refl
length-packed (suc w) bs = ap suc (length-packed w (drop 64 bs))

-- each is a word of 64 bits
pub packed-below : (w : ℕ) (bs : List Bool) (k : ℕ) → get_or (packed w bs) k 0 < 2 ^ 64
unfolding packed
packed-below zero bs k = pow_pos 64
packed-below (suc w) bs zero = number-below (take 64 bs) 64 (omega (arith, length-take 64 bs))
packed-below (suc w) bs (suc k) = packed-below w (drop 64 bs) k

-- ── Their bits ──

pub take-clear : (d n : ℕ) → d ≤ n → take d (replicate n false) ≡ replicate d false
take-clear d n h =
    let z : d + (n - d) ≡ n = omega arith in
    ap (λ (x : ℕ). take d (replicate x false)) (sym z) ∙ ap (take d) (sym (replicate-append-replicate d (n - d) false))
    ∙ take_at (replicate d false) (replicate (n - d) false) d (length-replicate {A = Bool} d false)

drop-clear : (d n m : ℕ) (bs : List Bool) → m ≡ n - (d - length bs) → drop d (bs ++ replicate n false) ≡ drop d bs ++ replicate m false
drop-clear zero n m bs h = let z : n ≡ m = omega arith in ap (λ (x : ℕ). bs ++ replicate x false) z
drop-clear (suc d) zero m [] h = let z : 0 ≡ m = omega arith in ap (λ (x : ℕ). replicate x false) z
drop-clear (suc d) (suc n) m [] h = drop-clear d n m [] (omega arith) ∙ ap (λ (l : List Bool). l ++ replicate m false) (drop-nil d)
drop-clear (suc d) n m (b ∷ bs) h = drop-clear d n m bs (omega arith)

pub number-flags : (d n : ℕ) (bs : List Bool) → d ≤ n → bits d (number (take d bs)) ≡ take d (bs ++ replicate n false)
unfolding bits number
number-flags zero n bs h = refl
number-flags (suc d) n [] h = bits-zero (suc d) ∙ sym (take-clear (suc d) n h)
number-flags (suc d) n (b ∷ bs) h = bits-more d (number (take d bs)) b ∙ ap (λ (l : List Bool). b ∷ l) (number-flags d n bs (omega arith))

pub words_flags : (w n : ℕ) (bs : List Bool) → 64 * w ≤ n → flags (packed w bs) ≡ take (64 * w) (bs ++ replicate n false)
unfolding flags packed
words_flags zero n bs h = refl
words_flags (suc w) n bs h =
    let z : 64 + 64 * w ≡ 64 * suc w = omega arith in
    let m = n - (64 - length bs) in
    ap₂ (λ (l m : List Bool). l ++ m) (number-flags 64 n bs (omega arith)) (words_flags w m (drop 64 bs) (omega arith))
    ∙ ap (λ (l : List Bool). take 64 (bs ++ replicate n false) ++ take (64 * w) l) (sym (drop-clear 64 n m bs refl))
    ∙ sym (take-add 64 (64 * w) (bs ++ replicate n false)) ∙ ap (λ (x : ℕ). take x (bs ++ replicate n false)) z

module _ (w : ℕ) (bs : List Bool) where
  -- the lines, clear past the last, up to the last bit of the last word
  pub flags-packed : flags (packed w bs) ≡ take (64 * w) (bs ++ replicate (64 * w) false)
  flags-packed = words_flags w (64 * w) bs (omega arith)

  -- no more lines than bits
  pub flags-packed-short : length bs ≤ 64 * w → flags (packed w bs) ≡ bs ++ replicate (64 * w - length bs) false
  flags-packed-short h =
      let z : 64 * w ≡ length bs + (64 * w - length bs) = omega arith in
      flags-packed ∙ ap (λ (x : ℕ). take x (bs ++ replicate (64 * w) false)) z ∙ take-append-add bs (replicate (64 * w) false) (64 * w - length bs)
      ∙ ap (λ (l : List Bool). bs ++ l) (take-clear (64 * w - length bs) (64 * w) (omega arith))

  -- no fewer
  pub flags-packed-long : 64 * w ≤ length bs → flags (packed w bs) ≡ take (64 * w) bs
  flags-packed-long h = flags-packed ∙ take-append-le (64 * w) bs (replicate (64 * w) false) h

  -- as many
  pub flags-packed-all : length bs ≡ 64 * w → flags (packed w bs) ≡ bs
  flags-packed-all h = flags-packed-long (omega arith) ∙ take_all (64 * w) bs (omega arith)

-- ── Words by their bits ──

-- words below 2^64 are their bits packed
pub packed-flags : (ws : List ℕ) → ((k : ℕ) → k < length ws → get_or ws k 0 < 2 ^ 64) → packed (length ws) (flags ws) ≡ ws
unfolding flags packed
packed-flags [] f = refl
packed-flags (w ∷ ws) f =
    ap₂ (λ (x : ℕ) (l : List ℕ). x ∷ l)
    (ap number (take_at (bits 64 w) (flags ws) 64 (length-bits 64 w)) ∙ number-bits 64 w (f 0 (omega arith)))
    (ap (packed (length ws)) (drop_at (bits 64 w) (flags ws) 64 (length-bits 64 w)) ∙ packed-flags ws (λ k l. f (suc k) (omega arith)))

-- words with the bits of packed lines are those
pub packed-is : (ws : List ℕ) (w : ℕ) (bs : List Bool) → length ws ≡ w → ((k : ℕ) → k < w → get_or ws k 0 < 2 ^ 64)
    → flags ws ≡ take (64 * w) (bs ++ replicate (64 * w) false) → ws ≡ packed w bs
packed-is ws w bs n f e =
    sym (packed-flags ws (λ k l. f k (omega arith))) ∙ ap₂ packed (n ∙ sym (length-packed w bs)) (e ∙ sym (flags-packed w bs))
    ∙ packed-flags (packed w bs) (λ k l. packed-below w bs k)

-- clear lines at the end
pub packed-clear : (w : ℕ) (bs : List Bool) → length bs ≤ 64 * w → packed w (bs ++ replicate (64 * w - length bs) false) ≡ packed w bs
packed-clear w bs h =
    let m : ℕ = 64 * w - length bs in
    let cs = bs ++ replicate m false in
    packed-is (packed w cs) w bs (length-packed w cs) (λ k l. packed-below w cs k)
    (flags-packed-all w cs (omega (arith, length-append bs (replicate m false), length-replicate {A = Bool} m false)) ∙ sym (flags-packed-short w bs h) ∙ flags-packed w bs)

-- one word more
pub packed_more : (k : ℕ) (bs : List Bool) (v : ℕ) → length bs ≡ 64 * k → v < 2 ^ 64 → packed (suc k) (bs ++ bits 64 v) ≡ packed k bs ++ (v ∷ [])
unfolding packed
packed_more zero [] v h f = ap (λ (x : ℕ). x ∷ []) (ap number (take_all 64 (bits 64 v) (omega (arith, length-bits 64 v))) ∙ number-bits 64 v f)
packed_more zero (b ∷ bs) v h f = absurd (omega arith)
packed_more (suc k) bs v h f =
    ap₂ (λ (x y : List Bool). number x ∷ packed (suc k) y) (take-append-le 64 bs (bits 64 v) (omega arith)) (drop-append-le 64 bs (bits 64 v) (omega arith))
    ∙ ap (λ (l : List ℕ). number (take 64 bs) ∷ l) (packed_more k (drop 64 bs) v (omega (arith, length-drop 64 bs)) f)
