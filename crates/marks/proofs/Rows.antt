-- Where a row lies, its words and its lines; and the other rows of words that are changed in one. Assumes nothing.
use Prim.Native.Nat.{ℕ, suc, ◌+◌, ◌*◌, ◌^◌, ◌≤◌, ◌<◌}
use mathlib.Core.Path.{◌≡◌, sym, ap, ap₂, ◌∙◌}
use mathlib.Core.Logic.{◌⊎◌, inl, inr, ⊎_elim}
use mathlib.Core.Bool.{Bool, true, false, cond}
use mathlib.Core.List.{List, [], ◌∷◌, ◌++◌, append-nil}
use native.Mathlib.Omega.{arith}
use lib.ListN.{length, get_or, take, drop, length-take, length-drop}
use lib.Seq.{get_or-take, get_or-drop, take-suc, ext_get_or}
use lib.Dec.{leb, ltb}
use borrow.Author.Tests.{leb-true, ltb-true, le-leb, lt-ltb}
use Rattle.basics.proofs.Basics.{cases, and-true, true-and}
use Rattle.marks.specs.Row.{bits, flags, lies, row, RowIs}
use Rattle.marks.proofs.Flags.{length-flags, flags-append}

-- ── Where a row lies ──

pub lies-true : (len at width : ℕ) → lies len at width ≡ true → (at + width ≤ len) × (64 * width < 2 ^ 64)
lies-true len at width h =
    let k = and-true (leb (at + width) len) (ltb (64 * width) (2 ^ 64)) h in
    (leb-true (at + width) len k.0, ltb-true (64 * width) (2 ^ 64) k.1)

pub true-lies : (len at width : ℕ) → at + width ≤ len → 64 * width < 2 ^ 64 → lies len at width ≡ true
true-lies len at width h k = true-and (leb (at + width) len) (ltb (64 * width) (2 ^ 64)) (le-leb (at + width) len h) (lt-ltb (64 * width) (2 ^ 64) k)

-- what is known of a row that has passed it
pub record Within (words : List ℕ) (at width : ℕ) : Type 0 where
  pub inside : lies (length words) at width ≡ true
  pub ends : at + width ≤ length words
  pub few : 64 * width < 2 ^ 64

pub let-in : (words : List ℕ) (at width : ℕ) → lies (length words) at width ≡ true → Within words at width
let-in words at width h = let k = lies-true (length words) at width h in record { inside = h; ends = k.0; few = k.1 }

-- what a test told, by what the code did with it
pub said : {r b t : Bool} → r ≡ b → r ≡ t → b ≡ t
said e h = sym e ∙ h

-- ── Its words and lines ──

-- a row that lies inside the words
pub row_words : (words : List ℕ) (at width : ℕ) → lies (length words) at width ≡ true → row words at width ≡ flags (take width (drop at words))
unfolding row
row_words words at width h = ap (λ b. cond b (flags (take width (drop at words))) []) h

-- one that does not has no line
pub row-none : (words : List ℕ) (at width : ℕ) → lies (length words) at width ≡ false → row words at width ≡ []
unfolding row
row-none words at width h = ap (λ b. cond b (flags (take width (drop at words))) []) h

-- its words are so many
pub words-of-row : (words : List ℕ) (at width : ℕ) → at + width ≤ length words → length (take width (drop at words)) ≡ width
words-of-row words at width h = omega (arith, length-take width (drop at words), length-drop at words)

-- and stand from place at on
pub word-of-row : (words : List ℕ) (at width k : ℕ) → k < width → get_or (take width (drop at words)) k 0 ≡ get_or words (at + k) 0
word-of-row words at width k l = get_or-take width (drop at words) k 0 l ∙ get_or-drop at words k 0

-- one whose words are these
pub row-flags : (words : List ℕ) (at width : ℕ) (ws : List ℕ) → RowIs words at width ws → row words at width ≡ flags ws
row-flags words at width ws h = row_words words at width h.inside ∙ ap flags (sym h.are)

pub row-wide : (words : List ℕ) (at width : ℕ) (ws : List ℕ) → RowIs words at width ws → (length ws ≡ width) × (64 * width < 2 ^ 64)
row-wide words at width ws h =
    let k = lies-true (length words) at width h.inside in
    (ap length h.are ∙ words-of-row words at width k.0, k.1)

-- a row has 64 lines a word
pub row-length : (words : List ℕ) (at width : ℕ) → lies (length words) at width ≡ true → length (row words at width) ≡ 64 * width
row-length words at width h =
    ap length (row_words words at width h) ∙ length-flags (take width (drop at words))
    ∙ ap (λ (x : ℕ). 64 * x) (words-of-row words at width (lies-true (length words) at width h).0)

-- and no row has more
pub row-most : (words : List ℕ) (at width : ℕ) → length (row words at width) ≤ 64 * width
row-most words at width = cases (lies (length words) at width) (λ b. length (row words at width) ≤ 64 * width)
    (λ h. omega (arith, row-length words at width h)) (λ h. omega (arith, ap length (row-none words at width h)))

-- a row of one word more
pub row_more : (words : List ℕ) (at k : ℕ) → lies (length words) at (suc k) ≡ true → row words at (suc k) ≡ row words at k ++ bits 64 (get_or words (at + k) 0)
unfolding flags
row_more words at k h =
    let i = lies-true (length words) at (suc k) h in
    let n : k < length (drop at words) = omega (arith, length-drop at words) in
    row_words words at (suc k) h ∙ ap flags (take-suc (drop at words) k 0 n) ∙ flags-append (take k (drop at words)) (get_or (drop at words) k 0 ∷ [])
    ∙ ap₂ (λ (l m : List Bool). l ++ m) (sym (row_words words at k (true-lies (length words) at k (omega arith) (omega arith))))
    (append-nil (bits 64 (get_or (drop at words) k 0)) ∙ ap (bits 64) (get_or-drop at words k 0))

-- a row of one word
pub row_word : (words : List ℕ) (i : ℕ) → i < length words → row words i 1 ≡ bits 64 (get_or words i 0)
unfolding flags
row_word words i h =
    let z : i + 0 ≡ i = omega arith in
    row_more words i 0 (true-lies (length words) i 1 (omega arith) (omega arith))
    ∙ ap₂ (λ (l : List Bool) (x : ℕ). l ++ bits 64 (get_or words x 0)) (row_words words i 0 (true-lies (length words) i 0 (omega arith) (omega arith))) z

-- ── Words that are as they were but in one row ──

-- a row that shares no word with it is as it was
pub other_row : (words words' : List ℕ) (at width : ℕ) → length words' ≡ length words
    → ((i : ℕ) → (i < at) ⊎ (at + width ≤ i) → get_or words' i 0 ≡ get_or words i 0)
    → (at' width' : ℕ) → (at' + width' ≤ at) ⊎ (at + width ≤ at') → row words' at' width' ≡ row words at' width'
unfolding row
other_row words words' at width n same at' width' h =
    ap₂ (λ (x : ℕ) (l : List ℕ). cond (lies x at' width') (flags l) []) n
    (ext_get_or 0 (take width' (drop at' words')) (take width' (drop at' words))
    (omega (arith, length-take width' (drop at' words'), length-take width' (drop at' words), length-drop at' words', length-drop at' words))
    (λ k l.
    let m : k < width' = omega (arith, length-take width' (drop at' words')) in
    let o : (at' + k < at) ⊎ (at + width ≤ at' + k) = ⊎_elim (λ (q : at' + width' ≤ at). inl (omega arith)) (λ (q : at + width ≤ at'). inr (omega arith)) h in
    word-of-row words' at' width' k m ∙ same (at' + k) o ∙ sym (word-of-row words at' width' k m)))
