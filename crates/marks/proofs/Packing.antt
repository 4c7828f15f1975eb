-- Lines packed one after another: a further line that is marked changes the row's words as `put` does, and one that is not leaves them. Assumes nothing.
use Prim.Native.Nat.{ℕ, zero, suc, ◌+◌, ◌-◌, ◌*◌, ◌/◌, ◌%◌, ◌^◌, ◌≤◌, ◌<◌}
use mathlib.Core.Path.{◌≡◌, refl, sym, ap, ap₂, ◌∙◌}
use mathlib.Core.Logic.{◌⊎◌, inl, inr}
use mathlib.Core.Bool.{Bool, true, false, cond}
use mathlib.Core.List.{List, [], ◌∷◌, ◌++◌, append_assoc}
use native.Mathlib.Omega.{arith}
use lib.ListN.{length, get_or, set, take, drop, replicate, length-append, length-drop, drop_of_length-le, get_or-append}
use lib.Seq.{take_all, take-append-le, take-append-add, drop-append-le, get_or-append-add, set-append_seam, set-append_left}
use lib.Dec.{ltb}
use borrow.Author.Tests.{lt-ltb}
use Rattle.basics.proofs.Basics.{true-and, le-or-lt}
use Rattle.marks.specs.Row.{bits, number, lies, with_bit, with_line, changed, packed}
use Rattle.marks.proofs.Rows.{true-lies}
use Rattle.marks.proofs.Changing.{unchanged-past}
use Rattle.marks.proofs.Packed.{length-packed, packed-below, take-clear, number-flags, words_flags, flags-packed-long, packed-is}

pub number-clear : (bs : List Bool) (d : ℕ) → number (bs ++ replicate d false) ≡ number bs
unfolding number
number-clear [] zero = refl
number-clear [] (suc d) = omega (arith, number-clear [] d)
number-clear (b ∷ bs) d = ap (λ (n : ℕ). cond b 1 0 + 2 * n) (number-clear bs d)

-- the first word, where the line is one of its
word_line : (bs : List Bool) (k : ℕ) → k ≡ length bs → k < 64 → number (take 64 (bs ++ (true ∷ []))) ≡ with_bit true (number (take 64 bs)) k
word_line bs k e h =
    let n : 64 ≡ length bs + suc (63 - k) = omega arith in
    let all : bits 64 (number (take 64 bs)) ≡ bs ++ (false ∷ replicate (63 - k) false) =
    number-flags 64 64 bs (omega arith) ∙ ap (λ (x : ℕ). take x (bs ++ replicate 64 false)) n ∙ take-append-add bs (replicate 64 false) (suc (63 - k))
    ∙ ap (λ (l : List Bool). bs ++ l) (take-clear (suc (63 - k)) 64 (omega arith)) in
    ap number (take_all 64 (bs ++ (true ∷ [])) (omega (arith, length-append bs (true ∷ [])))) ∙ sym (number-clear (bs ++ (true ∷ [])) (63 - k))
    ∙ ap number (append_assoc bs (true ∷ []) (replicate (63 - k) false) ∙ sym (set-append_seam bs false (replicate (63 - k) false) true)
    ∙ ap₂ (λ (l : List Bool) (x : ℕ). set l x true) (sym all) (sym e))

packed-line : (w : ℕ) (bs : List Bool) (k : ℕ) → k ≡ length bs → k < 64 * w
    → packed w (bs ++ (true ∷ [])) ≡ set (packed w bs) (k / 64) (with_bit true (get_or (packed w bs) (k / 64) 0) (k % 64))
unfolding packed
packed-line zero bs k e h = absurd (omega arith)
packed-line (suc w) bs k e h = go (le-or-lt 64 k) (packed-line w (drop 64 bs) (k - 64))
  where
    go : (64 ≤ k) ⊎ (k < 64)
        → (k - 64 ≡ length (drop 64 bs) → k - 64 < 64 * w
        → packed w (drop 64 bs ++ (true ∷ [])) ≡ set (packed w (drop 64 bs)) ((k - 64) / 64) (with_bit true (get_or (packed w (drop 64 bs)) ((k - 64) / 64) 0) ((k - 64) % 64)))
        → packed (suc w) (bs ++ (true ∷ [])) ≡ set (packed (suc w) bs) (k / 64) (with_bit true (get_or (packed (suc w) bs) (k / 64) 0) (k % 64))
    go (inl l) later =
        let d : k / 64 ≡ suc ((k - 64) / 64) = omega arith in
        let m : k % 64 ≡ (k - 64) % 64 = omega arith in
        ap₂ (λ (x : ℕ) (ws : List ℕ). x ∷ ws) (ap number (take-append-le 64 bs (true ∷ []) (omega arith)))
        (ap (packed w) (drop-append-le 64 bs (true ∷ []) (omega arith)) ∙ later (omega (arith, length-drop 64 bs)) (omega arith))
        ∙ sym (ap₂ (λ (x y : ℕ). set (packed (suc w) bs) x (with_bit true (get_or (packed (suc w) bs) x 0) y)) d m)
    go (inr l) later =
        let d : k / 64 ≡ 0 = omega arith in
        let m : k % 64 ≡ k = omega arith in
        ap₂ (λ (x : ℕ) (ws : List ℕ). x ∷ ws) (word_line bs k e l)
        (ap (packed w) (drop_of_length-le (bs ++ (true ∷ [])) {i = 64} (omega (arith, length-append bs (true ∷ []))) ∙ sym (drop_of_length-le bs {i = 64} (omega arith))))
        ∙ sym (ap₂ (λ (x y : ℕ). set (packed (suc w) bs) x (with_bit true (get_or (packed (suc w) bs) x 0) y)) d m)

module _ (w : ℕ) (bs : List Bool) where
  -- a line that is not marked
  pub packed-unmarked : packed w (bs ++ (false ∷ [])) ≡ packed w bs
  packed-unmarked =
      sym (packed-is (packed w bs) w (bs ++ (false ∷ [])) (length-packed w bs) (λ k l. packed-below w bs k)
      (words_flags w (suc (64 * w)) bs (omega arith) ∙ ap (take (64 * w)) (sym (append_assoc bs (false ∷ []) (replicate (64 * w) false)))))

  -- a line past the last
  packed-past : (b : Bool) → 64 * w ≤ length bs → packed w (bs ++ (b ∷ [])) ≡ packed w bs
  packed-past b h =
      sym (packed-is (packed w bs) w (bs ++ (b ∷ [])) (length-packed w bs) (λ k l. packed-below w bs k)
      (flags-packed-long w bs h ∙ sym (take-append-le (64 * w) bs (b ∷ replicate (64 * w) false) h) ∙ ap (take (64 * w)) (sym (append_assoc bs (b ∷ []) (replicate (64 * w) false)))))

set-append-add : (xs ys : List ℕ) (i v : ℕ) → set (xs ++ ys) (length xs + i) v ≡ xs ++ set ys i v
set-append-add [] ys i v = let z : 0 + i ≡ i = omega arith in ap (λ (x : ℕ). set ys x v) z
set-append-add (x ∷ xs) ys i v = let z : suc (length xs) + i ≡ suc (length xs + i) = omega arith in ap (λ (n : ℕ). set (x ∷ (xs ++ ys)) n v) z ∙ ap (λ (l : List ℕ). x ∷ l) (set-append-add xs ys i v)

-- a marked line, among other words
pub packed-marked : (before after : List ℕ) (w : ℕ) (bs : List Bool) (at p : ℕ) → at ≡ length before → p ≡ length bs → 64 * w < 2 ^ 64
    → changed true (before ++ (packed w bs ++ after)) at w p ≡ before ++ (packed w (bs ++ (true ∷ [])) ++ after)
unfolding changed
packed-marked before after w bs at p e f h = go (le-or-lt (64 * w) p)
  where
    go : (64 * w ≤ p) ⊎ (p < 64 * w) → changed true (before ++ (packed w bs ++ after)) at w p ≡ before ++ (packed w (bs ++ (true ∷ [])) ++ after)
    go (inl l) = sym (unchanged-past true (before ++ (packed w bs ++ after)) at w p (omega arith)) ∙ ap (λ (ws : List ℕ). before ++ (ws ++ after)) (sym (packed-past w bs true (omega arith)))
    go (inr l) =
        let ws = packed w bs in
        let all = before ++ (ws ++ after) in
        let n : at + p / 64 ≡ length before + p / 64 = omega arith in
        let k : p / 64 < length ws = omega (arith, length-packed w bs) in
        let s : lies (length all) at w ≡ true =
        true-lies (length all) at w (omega (arith, length-append before (ws ++ after), length-append ws after, length-packed w bs)) h in
        let g : get_or all (at + p / 64) 0 ≡ get_or ws (p / 64) 0 =
        ap (λ (x : ℕ). get_or all x 0) n ∙ get_or-append-add before (ws ++ after) (p / 64) 0 ∙ get_or-append ws after 0 (p / 64) k in
        ap (λ b. cond b (with_line true all at p) all) (true-and (lies (length all) at w) (ltb p (64 * w)) s (lt-ltb p (64 * w) l))
        ∙ ap₂ (λ (x y : ℕ). set all x (with_bit true y (p % 64))) n g
        ∙ set-append-add before (ws ++ after) (p / 64) (with_bit true (get_or ws (p / 64) 0) (p % 64))
        ∙ ap (λ (l : List ℕ). before ++ l) (set-append_left ws after (p / 64) (with_bit true (get_or ws (p / 64) 0) (p % 64)) k)
        ∙ ap (λ (l : List ℕ). before ++ (l ++ after)) (sym (packed-line w bs p f l))
