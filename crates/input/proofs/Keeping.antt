-- The input parted at its first line feed, and the pieces put together: whatever the pieces, pattern and log are kept as far as the buffers go.
-- Assumes nothing.
use Prim.Native.Nat.{ℕ, zero, suc, ◌+◌, ◌-◌, ◌≤◌, ◌<◌, min}
use mathlib.Core.Path.{◌≡◌, refl, sym, ap, ap₂, subst, ◌∙◌}
use mathlib.Core.Logic.{◌⊎◌, inl, inr}
use mathlib.Core.Bool.{Bool, true, false, cond, ◌||◌}
use mathlib.Core.List.{List, [], ◌∷◌, ◌++◌, append-nil, append_assoc}
use lib.ListN.{length, get_or, set, take, drop, length-append, length-set, length-drop}
use lib.Seq.{sets, length-sets, set_out, take_all, take-append-le, take-suc-set, take-nil, length-take-le}
use Rattle.std.proofs.lemmas.List.{take-append-drop}
use lib.Dec.{eqb}
use borrow.Rule.Slice.PartMut.{put_mid}
use Rattle.std.specs.List.{position_or_len}
use Rattle.std.specs.Prelude.{◌==◌, not, position, None, Some}
use Rattle.std.proofs.lemmas.Grind.{common_steps}
use Rattle.std.proofs.lemmas.List.Quantifiers.{position-Some}
use native.Mathlib.Omega.{arith}
use Rattle.basics.proofs.Basics.{cases, le-or-lt, put_sets}
use Rattle.input.specs.declared.Intake.{Intake}
use Rattle.input.specs.Input.{pattern_of, log_of, feed_in, pattern_part, log_part, Kept, TakenIn, Holds, Keeps}

-- ── A piece parted ──

-- a test for the line feed
abbrev is_feed : ℕ → Bool
is_feed b = b == 10

absent : (s : List ℕ) → length s ≤ position_or_len is_feed s → (feed_in s ≡ false) × (s ≡ pattern_of s) × (log_of s ≡ [])
absent [] = λ h. (refl, refl, refl)
absent (b ∷ s) =
    cases (eqb b 10) (λ t. suc (length s) ≤ cond (not t) (1 + position_or_len is_feed s) 0 → (t || feed_in s ≡ false) × (b ∷ s ≡ cond t [] (b ∷ pattern_of s)) × (cond t s (log_of s) ≡ []))
    (λ e h. absurd (omega arith)) (λ e h. let r = absent s (omega arith) in (r.0, ap (λ l. b ∷ l) r.1, r.2))

pub feed-absent : (s : List ℕ) → None ≡ position is_feed s → (feed_in s ≡ false) × (s ≡ pattern_of s) × (log_of s ≡ [])
feed-absent s e = absent s (grind (arith, common_steps))

first : (s : List ℕ) (i : ℕ) → i < length s → is_feed (get_or s i 0) ≡ true → ((k : ℕ) → k < i → is_feed (get_or s k 0) ≡ false) → (feed_in s ≡ true) × (take i s ≡ pattern_of s) × (drop (suc i) s ≡ log_of s)
first [] i h t f = absurd (omega arith)
first (b ∷ s) zero h t f = rw t (refl, refl, refl)
first (b ∷ s) (suc i) h t f =
    let r = first s i (omega arith) t (λ k l. f (suc k) (omega arith)) in
    rw (f 0 (omega arith)) (r.0, ap (λ l. b ∷ l) r.1, r.2)

pub feed-there : (s : List ℕ) (i : ℕ) → Some i ≡ position is_feed s → (feed_in s ≡ true) × (take i s ≡ pattern_of s) × (take (length s - (i + 1)) (drop (i + 1) s) ≡ log_of s)
feed-there s i e =
    let p = position-Some is_feed s i 0 (sym e) in
    let r = first s i p.0 p.1 p.2 in
    let z : i + 1 ≡ suc i = omega arith in
    (r.0, r.1, take_all (length s - (i + 1)) (drop (i + 1) s) (omega (arith, length-drop (i + 1) s)) ∙ ap (λ k. drop k s) z ∙ r.2)

-- ── Pieces put together ──

feed-append : (a b : List ℕ) → feed_in (a ++ b) ≡ feed_in a || feed_in b
feed-append [] b = refl
feed-append (x ∷ a) b = cases (eqb x 10) (λ (t : Bool). t || feed_in (a ++ b) ≡ (t || feed_in a) || feed_in b) (λ e. refl) (λ e. feed-append a b)

pattern-append : (a b : List ℕ) → pattern_of (a ++ b) ≡ pattern_of a ++ pattern_part (feed_in a) b
pattern-append [] b = refl
pattern-append (x ∷ a) b =
    cases (eqb x 10) (λ (t : Bool). cond t [] (x ∷ pattern_of (a ++ b)) ≡ cond t [] (x ∷ pattern_of a) ++ pattern_part (t || feed_in a) b) (λ e. refl)
    (λ e. ap (λ (l : List ℕ). x ∷ l) (pattern-append a b))

log-append : (a b : List ℕ) → log_of (a ++ b) ≡ log_of a ++ log_part (feed_in a) b
log-append [] b = refl
log-append (x ∷ a) b =
    cases (eqb x 10) (λ (t : Bool). cond t (a ++ b) (log_of (a ++ b)) ≡ cond t a (log_of a) ++ log_part (t || feed_in a) b) (λ e. refl) (λ e. log-append a b)

-- ── Buffers ──

-- nothing is stored past the end
pub sets-past : (a l : List ℕ) (i : ℕ) → length l ≤ i → sets l i a ≡ l
sets-past [] l i h = refl
sets-past (x ∷ a) l i h = ap (λ (m : List ℕ). sets m (suc i) a) (set_out l i x h) ∙ sets-past a l (suc i) (omega arith)

-- nor is what does not fit
sets_cut : (a l : List ℕ) (i m : ℕ) → min (length a) (length l - i) ≤ m → sets l i (take m a) ≡ sets l i a
sets_cut [] l i m h = ap (sets l i) (take-nil m)
sets_cut (x ∷ a) l i zero h = sym (sets-past (x ∷ a) l i (omega arith))
sets_cut (x ∷ a) l i (suc m) h = sets_cut a (set l i x) (suc i) m (omega (arith, length-set l i x))

pub sets_fit : (a l : List ℕ) (i n m : ℕ) → n ≡ min i (length l) → m ≡ min (length a) (length l - n) → put_mid n m l (take m a) ≡ sets l i a
sets_fit a l i n m p q = pick (le-or-lt (length l) i)
  where
    pick : (length l ≤ i) ⊎ (i < length l) → put_mid n m l (take m a) ≡ sets l i a
    pick (inl h) = let z : m ≡ 0 = omega arith in rw z (take-append-drop n l ∙ sym (sets-past a l i h))
    pick (inr h) =
        let z : n ≡ i = omega arith in
        let w : length (take m a) ≡ m = length-take-le m a (omega arith) in
        rw z (put_sets l (take m a) i m (sym w) (omega arith) ∙ sets_cut a l i m (omega arith))

-- a buffer that holds the bytes so far holds those added too
holds_more : (added held buffer : List ℕ) (used : ℕ) → used ≡ min (length held) (length buffer) → take used buffer ≡ take (length buffer) held
    → take (min (used + length added) (length buffer)) (sets buffer used added) ≡ take (length buffer) (held ++ added)
holds_more [] held buffer used e f =
    let z : min (used + 0) (length buffer) ≡ used = omega arith in
    ap (λ (k : ℕ). take k buffer) z ∙ (f ∙ ap (take (length buffer)) (sym (append-nil held)))
holds_more (x ∷ added) held buffer used e f = pick (le-or-lt (length buffer) used) (holds_more added (held ++ (x ∷ [])) (set buffer used x) (suc used))
  where
    pick : (length buffer ≤ used) ⊎ (used < length buffer)
        → (suc used ≡ min (length (held ++ (x ∷ []))) (length (set buffer used x)) → take (suc used) (set buffer used x) ≡ take (length (set buffer used x)) (held ++ (x ∷ []))
        → take (min (suc used + length added) (length (set buffer used x))) (sets (set buffer used x) (suc used) added) ≡ take (length (set buffer used x)) ((held ++ (x ∷ [])) ++ added))
        → take (min (used + suc (length added)) (length buffer)) (sets (set buffer used x) (suc used) added) ≡ take (length buffer) (held ++ (x ∷ added))
    pick (inl h) more =
        let z : min (used + suc (length added)) (length buffer) ≡ used = omega arith in
        ap₂ (λ (k : ℕ) (l : List ℕ). take k l) z (sets-past (x ∷ added) buffer used h) ∙ (f ∙ sym (take-append-le (length buffer) held (x ∷ added) (omega arith)))
    pick (inr h) more =
        let z : used + suc (length added) ≡ suc used + length added = omega arith in
        let w : length (set buffer used x) ≡ length buffer = length-set buffer used x in
        let g : take used buffer ≡ held = f ∙ take_all (length buffer) held (omega arith) in
        let k : suc used ≡ min (length (held ++ (x ∷ []))) (length (set buffer used x)) = omega (arith, w, length-append held (x ∷ [])) in
        let j : take (suc used) (set buffer used x) ≡ take (length (set buffer used x)) (held ++ (x ∷ [])) =
        take-suc-set buffer used x h
        ∙ (ap (λ (l : List ℕ). l ++ (x ∷ [])) g ∙ sym (take_all (length (set buffer used x)) (held ++ (x ∷ [])) (omega (arith, w, length-append held (x ∷ []))))) in
        ap₂ (λ (m n : ℕ). take (min m n) (sets (set buffer used x) (suc used) added)) z (sym w)
        ∙ (more k j ∙ ap₂ (λ (n : ℕ) (l : List ℕ). take n l) w (append_assoc held (x ∷ []) added))

pub holds_kept : (held buffer : List ℕ) (used : ℕ) → Holds held used buffer → (added : List ℕ) (r : ℕ) (buffer' : List ℕ) → Kept buffer used added r buffer' → Holds (held ++ added) r buffer'
holds_kept held buffer used h added r buffer' k =
    let w : length buffer' ≡ length buffer = ap length k.bytes ∙ length-sets buffer used added in
    record {
      count = omega (arith, k.count, h.count, w, length-append held added);
      bytes = ap₂ (λ (n : ℕ) (l : List ℕ). take n l) k.count k.bytes
          ∙ (holds_more added held buffer used h.count h.bytes ∙ ap (λ (n : ℕ). take n (held ++ added)) (sym w));
    }

-- at the start nothing is read
pub keeps-start : (p l : List ℕ) → Keeps [] (record { ended = false; pattern = 0; log = 0 }) p l
keeps-start p l = record { ended = refl; pattern = nothing p; log = nothing l }
  where
    nothing : (b : List ℕ) → Holds [] 0 b
    nothing b = record { count = omega arith; bytes = sym (take-nil (length b)) }

-- and each piece is added
pub keeps-more : (input piece : List ℕ) (t r : Intake) (p l p' l' : List ℕ) → Keeps input t p l → TakenIn piece t p l r p' l' → Keeps (input ++ piece) r p' l'
keeps-more input piece t r p l p' l' h k =
    let d = h.ended in
    record {
      ended = k.ended ∙ (ap (λ (b : Bool). b || feed_in piece) d ∙ sym (feed-append input piece));
      pattern = subst (λ (s : List ℕ). Holds s r.pattern p') (ap (λ (b : Bool). pattern_of input ++ pattern_part b piece) d ∙ sym (pattern-append input piece))
          (holds_kept (pattern_of input) p t.pattern h.pattern (pattern_part t.ended piece) r.pattern p' k.pattern);
      log = subst (λ (s : List ℕ). Holds s r.log l') (ap (λ (b : Bool). log_of input ++ log_part b piece) d ∙ sym (log-append input piece))
          (holds_kept (log_of input) l t.log h.log (log_part t.ended piece) r.log l' k.log);
    }
