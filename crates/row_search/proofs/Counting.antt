-- The marks of words, and of the first lines of words. Assumes nothing.
use Rattle.std.proofs.Common.{◌≡◌, ℕ, suc, ◌+◌, ◌-◌, ◌*◌, ◌/◌, ◌%◌, ◌^◌, ◌<◌, ◌≤◌, Bool, List, [], ◌∷◌, ◌++◌, length, get_or, take, drop, refl, sym, ap, ap₂, ◌∙◌, arith, sum_by}
use lib.ListN.{take-append-drop, length-take}
use lib.Seq.{take-append-add, take-append-le, take_all, take-nil, length-take-le}
use native.Mathlib.Nat.{div-one}
use lib.Count.{ones}
use lib.Pow.{pow_mono}
use Rattle.std.proofs.lemmas.List.Sums.{sum_by-cons}
use Rattle.marks.specs.Row.{bits, flags, trues, mark_count}
use Rattle.row_search.specs.inner.Opened.{Opened}
use Rattle.marks.proofs.Bits.{length-bits, bits_below, trues-bits, trues-all, ones_low}
use Rattle.marks.proofs.Counts.{trues-append, trues_most}
use Rattle.marks.proofs.Flags.{length-flags, flags-append, next-flags, open-flags}

-- of words, word by word
pub trues-words : (ws : List ℕ) → sum_by (λ w. trues (bits 64 w)) ws ≡ trues (flags ws)
unfolding flags trues
trues-words [] = refl
trues-words (w ∷ ws) = omega (arith, sum_by-cons (λ v. trues (bits 64 v)) w ws, trues-words ws, trues-append (bits 64 w) (flags ws))

pub trues-few : (ws : List ℕ) → sum_by (λ w. trues (bits 64 w)) ws ≤ 64 * length ws
trues-few ws = omega (arith, trues-words ws, trues_most (flags ws), length-flags ws)

-- a word wholly among the lines to count
pub whole : (d n w : ℕ) (rest : List Bool) → d ≤ n → trues (take (suc n) (bits d w ++ rest)) ≡ trues (bits d w) + trues (take (suc (n - d)) rest)
whole d n w rest h =
    let z : suc n ≡ length (bits d w) + suc (n - d) = omega (arith, length-bits d w) in
    ap (λ (x : ℕ). trues (take x (bits d w ++ rest))) z ∙ ap trues (take-append-add (bits d w) rest (suc (n - d))) ∙ trues-append (bits d w) (take (suc (n - d)) rest)

-- the word with the last of them
pub part : (d n w : ℕ) (rest : List Bool) → n < d → d ≤ 64 → trues (take (suc n) (bits d w ++ rest)) ≡ trues (bits 64 ((w * 2 ^ (63 - n)) % 2 ^ 64))
part d n w rest h l =
    let z : suc n + (63 - n) ≡ 64 = omega arith in
    ap trues (take-append-le (suc n) (bits d w) rest (omega (arith, length-bits d w)) ∙ bits_below (suc n) d w (omega arith))
    ∙ trues-bits (suc n) w ∙ sym (ones_low (63 - n) (suc n) w) ∙ ap (λ (x : ℕ). ones ((w * 2 ^ (63 - n)) % 2 ^ x)) z
    ∙ sym (trues-all 64 ((w * 2 ^ (63 - n)) % 2 ^ 64) (omega arith))

-- lines through line e of which the first s are passed
module _ (bs : List Bool) (s e : ℕ) where
  pub none_there : drop s bs ≡ [] → 0 ≡ mark_count bs s e
  unfolding mark_count trues
  none_there h = sym (ap (λ (b : List Bool). trues (take (suc e - s) b)) h ∙ ap trues (take-nil (suc e - s)))

  pub none_between : (s ≤ e → ⊥) → 0 ≡ mark_count bs s e
  unfolding mark_count trues
  none_between h = let z : suc e - s ≡ 0 = omega (arith, h) in sym (ap (λ (x : ℕ). trues (take x (drop s bs))) z)

  module _ (w : ℕ) (later : List ℕ) (o : Opened (drop s bs) s w later) (h : s ≤ e) where
    here : mark_count bs s e ≡ trues (take (suc (e - s)) (bits (64 - s % 64) w ++ flags later))
    unfolding mark_count
    here = let z : suc e - s ≡ suc (e - s) = omega arith in ap₂ (λ (x : ℕ) (b : List Bool). trues (take x b)) z o.are

    pub one-word : e - s < 64 - s % 64 → trues (bits 64 ((w * 2 ^ (63 - (e - s))) % 2 ^ 64)) ≡ mark_count bs s e
    one-word l = sym (here ∙ part (64 - s % 64) (e - s) w (flags later) l (omega arith))

    pub more-words : 64 - s % 64 ≤ e - s → trues (bits 64 w) + trues (take (suc (e - s - (64 - s % 64))) (flags later)) ≡ mark_count bs s e
    more-words l =
        let d = 64 - s % 64 in
        let m = pow_mono {i = d} {j = 64} (omega arith) in
        ap (λ (x : ℕ). x + trues (take (suc (e - s - d)) (flags later))) (trues-all 64 w (omega (arith, o.word)) ∙ sym (trues-all d w o.word))
        ∙ sym (here ∙ whole d (e - s) w (flags later) l)

-- lines of words, the last of them in word e / 64
pub through-word : (ws : List ℕ) (e w : ℕ) → e / 64 < length ws → get_or ws (e / 64) 0 ≡ w
    → trues (take (suc e) (flags ws)) ≡ trues (flags (take (e / 64) ws)) + trues (bits 64 ((w * 2 ^ (63 - e % 64)) % 2 ^ 64))
through-word ws e w h g =
    let k = e / 64 in
    let us = take k ws in
    let z : suc e ≡ length (flags us) + suc (e % 64) = omega (arith, length-flags us, length-take-le k ws (omega arith)) in
    ap (λ (v : List ℕ). trues (take (suc e) (flags v))) (sym (take-append-drop k ws))
    ∙ ap₂ (λ (x : ℕ) (b : List Bool). trues (take x b)) z (flags-append us (drop k ws))
    ∙ ap trues (take-append-add (flags us) (flags (drop k ws)) (suc (e % 64)))
    ∙ trues-append (flags us) (take (suc (e % 64)) (flags (drop k ws)))
    ∙ ap (λ (b : List Bool). trues (flags us) + trues (take (suc (e % 64)) b)) (next-flags ws k h ∙ ap (λ (x : ℕ). bits 64 x ++ flags (drop (suc k) ws)) g)
    ∙ ap (λ (x : ℕ). trues (flags us) + x) (part 64 (e % 64) w (flags (drop (suc k) ws)) (omega arith) (omega arith))

-- lines of which none follows the words
pub through-all : (ws : List ℕ) (e : ℕ) → length ws ≤ e / 64 → trues (take (suc e) (flags ws)) ≡ trues (flags ws)
through-all ws e h = ap trues (take_all (suc e) (flags ws) (omega (arith, length-flags ws)))

pub through-few : (ws : List ℕ) (e : ℕ) → trues (take (suc e) (flags ws)) ≤ 64 * length ws
through-few ws e = omega (arith, trues_most (take (suc e) (flags ws)), length-take (suc e) (flags ws), length-flags ws)

-- the lines of one word up to line p
pub count-word : (ws : List ℕ) (p : ℕ) → p / 64 < length ws
    → mark_count (flags ws) (p - p % 64) p ≡ trues (bits 64 ((get_or ws (p / 64) 0 * 2 ^ (63 - p % 64)) % 2 ^ 64))
unfolding mark_count
count-word ws p h =
    let k = p / 64 in
    let w = get_or ws k 0 in
    let z : suc p - (p - p % 64) ≡ suc (p % 64) = omega arith in
    let y : p - p % 64 ≡ 64 * k + 0 = omega arith in
    ap₂ (λ (x y : ℕ). trues (take x (drop y (flags ws)))) z y
    ∙ ap (λ (b : List Bool). trues (take (suc (p % 64)) b)) (open-flags ws k 0 64 h refl)
    ∙ ap (λ (x : ℕ). trues (take (suc (p % 64)) (bits 64 x ++ flags (drop (suc k) ws)))) (div-one w)
    ∙ part 64 (p % 64) w (flags (drop (suc k) ws)) (omega arith) (omega arith)
