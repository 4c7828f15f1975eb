-- The automaton reads every pattern whole, and a stop depends only on the bytes up to it.
-- Assumes nothing.
use Prim.Native.Nat.{ℕ, zero, suc, ◌+◌, ◌-◌, ◌*◌, ◌/◌, ◌%◌, ◌≤◌, ◌<◌}
use mathlib.Core.Path.{◌≡◌, refl, sym, ap, ◌∙◌}
use mathlib.Core.Bool.{Bool, true, not, cond, ◌&&◌}
use mathlib.Core.Logic.{◌⊎◌, inl, inr}
use mathlib.Core.List.{List, [], ◌∷◌, ◌++◌, append-nil, append_assoc}
use lib.Dec.{leb, ltb, eqb}
use lib.ListN.{length, get_or, take}
use borrow.Author.Tests.{le-leb, lt-ltb, le-ltb, ne_eqb, eq-eqb}
use native.Mathlib.Omega.{arith}
use Rattle.std.specs.Prelude.{Option, Some, None}
use Rattle.basics.specs.Decimal.{digits_of, decimal}
use Rattle.pattern.specs.Kinds.{Symbol, kind_of, numbers, kind_by, field_count, low, high, arity, symbol, rank, InRange, AllInRange, Ranged}
use Rattle.pattern.specs.Pattern.{listed, spell_symbol}
use Rattle.pattern.specs.declared.State.{State}
use Rattle.pattern.specs.declared.State.TheVariants.{Letters, Field, Digits}
use Rattle.pattern.specs.declared.Step.{Step}
use Rattle.pattern.specs.declared.Step.TheVariants.{Within, Closed}
use Rattle.digits.specs.Chart.{digit}
use Rattle.pattern.specs.Automaton.{slot, coded, said, first_field, second_field, third_field, number, shut, word_end, number_end, step, Scan, Stop, Whole, later, after, last, finish, go, scan}
use Rattle.basics.proofs.Basics.{true-and, le-or-lt}
use Rattle.basics.proofs.Decimals.{digits-small, digits-large}
use Rattle.pattern.proofs.Numbers.{Starts, starts-live}
use Rattle.pattern.proofs.KindLaws.{few-fields, word_of, laters, Sound, of}
use Rattle.pattern.proofs.Fields.{ranged-length, ranged-at}
use Rattle.pattern.proofs.Scanning.{afters, joined, Counts, AllRanged}

-- a step inside a symbol is read on from
within-forward : (s : State) (b : ℕ) (s' : State) (w : List ℕ) (hs : List Symbol) → step s b ≡ Some (Within s') → scan w s' ≡ Whole hs → scan (b ∷ w) s ≡ Whole hs
unfolding scan
within-forward s b s' w hs e r = ap (go (scan w)) e ∙ ap later r

-- so is a step that ends one
closed-forward : (s : State) (b k a c d : ℕ) (s' : State) (w : List ℕ) (hs : List Symbol) → step s b ≡ Some (Closed (coded k a c d) s') → scan w s' ≡ Whole hs → scan (b ∷ w) s ≡ Whole (symbol k a c d ∷ hs)
unfolding scan
closed-forward s b k a c d s' w hs e r = ap (go (scan w)) e ∙ ap (after (symbol k a c d)) r

-- ── Digits ──

-- a digit is one
digit-of : (d : ℕ) → d < 10 → digit (48 + d) ≡ true
digit-of d h = true-and (leb 48 (48 + d)) (leb (48 + d) 57) (le-leb 48 (48 + d) (omega arith)) (le-leb (48 + d) 57 (omega arith))

-- digits that start a number are gone on with
number-forward : (k j a c v n x : ℕ) → x ≡ v → Starts (low k j) (high k j) v → number (slot k j a c n) x ≡ Some (Within (Digits (slot k j a c n) v))
number-forward k j a c v n x e s = ap (λ (y : ℕ). number (slot k j a c n) y) e ∙ ap (λ (t : Bool). cond t (Some (Within (Digits (slot k j a c n) v))) None) (starts-live (low k j) (high k j) v s)

-- the first digit of a number is read
first-digit : (k j a c n d : ℕ) → d < 10 → Starts (low k j) (high k j) d → step (Field (slot k j a c n)) (48 + d) ≡ Some (Within (Digits (slot k j a c n) d))
unfolding step
first-digit k j a c n d h s = ap (λ (t : Bool). cond t (number (slot k j a c n) (48 + d - 48)) None) (digit-of d h) ∙ number-forward k j a c d n (48 + d - 48) (omega arith) s

-- so is a further one
next-digit : (k j a c v n d x : ℕ) → 1 ≤ v → d < 10 → x ≡ 10 * v + d → Starts (low k j) (high k j) x → step (Digits (slot k j a c n) v) (48 + d) ≡ Some (Within (Digits (slot k j a c n) x))
unfolding step
next-digit k j a c v n d x p h e s =
    ap (λ (t : Bool). cond t (number_end (slot k j a c n) v) (cond (digit (48 + d) && not (eqb v 0)) (number (slot k j a c n) (10 * v + (48 + d - 48))) None)) (ne_eqb (48 + d) 44 (λ q. omega arith))
    ∙ (ap (λ (t : Bool). cond t (number (slot k j a c n) (10 * v + (48 + d - 48))) None) (true-and (digit (48 + d)) (not (eqb v 0)) (digit-of d h) (ap not (ne_eqb v 0 (λ q. omega arith))))
    ∙ number-forward k j a c x n (10 * v + (48 + d - 48)) (omega arith) s)

-- so are all
digits-forward : (f x k j a c n : ℕ) (w : List ℕ) (hs : List Symbol) → x ≤ f → Starts (low k j) (high k j) x → scan w (Digits (slot k j a c n) x) ≡ Whole hs → scan (digits_of f x ++ w) (Field (slot k j a c n)) ≡ Whole hs
digits-forward f x k j a c n w hs = by f x w
  where
    single : (f x : ℕ) (w : List ℕ) → x < 10 → Starts (low k j) (high k j) x → scan w (Digits (slot k j a c n) x) ≡ Whole hs → scan (digits_of f x ++ w) (Field (slot k j a c n)) ≡ Whole hs
    single f x w h s r = rw (digits-small f x h) (within-forward (Field (slot k j a c n)) (48 + x) (Digits (slot k j a c n) x) w hs (first-digit k j a c n x h s) r)

    several : (f x : ℕ) (w : List ℕ) → 10 ≤ x → (Starts (low k j) (high k j) (x / 10) → scan ((48 + x % 10) ∷ w) (Digits (slot k j a c n) (x / 10)) ≡ Whole hs → scan (digits_of f (x / 10) ++ ((48 + x % 10) ∷ w)) (Field (slot k j a c n)) ≡ Whole hs)
        → Starts (low k j) (high k j) x → scan w (Digits (slot k j a c n) x) ≡ Whole hs → scan (digits_of (suc f) x ++ w) (Field (slot k j a c n)) ≡ Whole hs
    several f x w h ih s r =
        rw (digits-large f x h, append_assoc) (ih (record { below = omega (arith, s.below); either = inr (omega arith, omega (arith, s.below)) })
        (within-forward (Digits (slot k j a c n) (x / 10)) (48 + x % 10) (Digits (slot k j a c n) x) w hs (next-digit k j a c (x / 10) n (x % 10) x (omega arith) (omega arith) (omega arith) s) r))

    by : (f x : ℕ) (w : List ℕ) → x ≤ f → Starts (low k j) (high k j) x → scan w (Digits (slot k j a c n) x) ≡ Whole hs → scan (digits_of f x ++ w) (Field (slot k j a c n)) ≡ Whole hs
    by zero x w p = single zero x w (omega arith)
    by (suc f) x w p = pick (le-or-lt 10 x) (by f (x / 10) ((48 + x % 10) ∷ w) (omega arith))
      where
        pick : (10 ≤ x) ⊎ (x < 10) → (Starts (low k j) (high k j) (x / 10) → scan ((48 + x % 10) ∷ w) (Digits (slot k j a c n) (x / 10)) ≡ Whole hs → scan (digits_of f (x / 10) ++ ((48 + x % 10) ∷ w)) (Field (slot k j a c n)) ≡ Whole hs)
            → Starts (low k j) (high k j) x → scan w (Digits (slot k j a c n) x) ≡ Whole hs → scan (digits_of (suc f) x ++ w) (Field (slot k j a c n)) ≡ Whole hs
        pick (inl h) ih = several f x w h ih
        pick (inr h) ih = single (suc f) x w h

-- a number of the range is read
decimal-forward : (k j a c n x : ℕ) (w : List ℕ) (hs : List Symbol) → InRange (low k j) (high k j) x → scan w (Digits (slot k j a c n) x) ≡ Whole hs → scan (decimal x ++ w) (Field (slot k j a c n)) ≡ Whole hs
unfolding decimal
decimal-forward k j a c n x w hs r e = digits-forward x x k j a c n w hs (omega arith) (record { below = r.1; either = inl r.0 }) e

-- ── Commas ──

-- a comma before a further number is read
comma-next : (k j a c v n : ℕ) → low k j ≤ v → j + 1 < field_count k → step (Digits (slot k j a c n) v) 44 ≡ Some (Within (Field (slot k (j + 1) (first_field j a v) (second_field j c v) n)))
unfolding step
comma-next k j a c v n r l =
    ap (λ (t : Bool). cond t (cond (ltb (j + 1) (field_count k)) (Some (Within (Field (slot k (j + 1) (first_field j a v) (second_field j c v) n)))) (shut (coded k (first_field j a v) (second_field j c v) (third_field j v)) n)) None) (le-leb (low k j) v r)
    ∙ ap (λ (t : Bool). cond t (Some (Within (Field (slot k (j + 1) (first_field j a v) (second_field j c v) n)))) (shut (coded k (first_field j a v) (second_field j c v) (third_field j v)) n)) (lt-ltb (j + 1) (field_count k) l)

-- a symbol is shut where trees are to come
shut-closed : (k a c d n : ℕ) → (n + arity k a ≡ 1 → ⊥) → shut (coded k a c d) n ≡ Some (Closed (coded k a c d) (Letters 0 0 (n + arity k a - 1)))
shut-closed k a c d n h = ap (λ (t : Bool). cond t None (Some (Closed (coded k a c d) (Letters 0 0 (n + arity k a - 1))))) (ne_eqb (n + arity k a) 1 h)

-- a comma after the last number is read
comma-end : (k j a c v n : ℕ) → low k j ≤ v → field_count k ≤ j + 1 → (n + arity k (first_field j a v) ≡ 1 → ⊥) → step (Digits (slot k j a c n) v) 44 ≡ Some (Closed (coded k (first_field j a v) (second_field j c v) (third_field j v)) (Letters 0 0 (n + arity k (first_field j a v) - 1)))
unfolding step
comma-end k j a c v n r l h =
    ap (λ (t : Bool). cond t (cond (ltb (j + 1) (field_count k)) (Some (Within (Field (slot k (j + 1) (first_field j a v) (second_field j c v) n)))) (shut (coded k (first_field j a v) (second_field j c v) (third_field j v)) n)) None) (le-leb (low k j) v r)
    ∙ (ap (λ (t : Bool). cond t (Some (Within (Field (slot k (j + 1) (first_field j a v) (second_field j c v) n)))) (shut (coded k (first_field j a v) (second_field j c v) (third_field j v)) n)) (le-ltb (j + 1) (field_count k) l)
    ∙ shut-closed k (first_field j a v) (second_field j c v) (third_field j v) n h)

-- the last number may end the text
finish-whole : (k j a c v n : ℕ) → low k j ≤ v → field_count k ≤ j + 1 → n + arity k (first_field j a v) ≡ 1 → finish (Digits (slot k j a c n) v) ≡ Whole (symbol k (first_field j a v) (second_field j c v) (third_field j v) ∷ [])
unfolding finish
finish-whole k j a c v n r l h =
    ap (λ (t : Bool). cond t (cond (ltb (j + 1) (field_count k)) (Stop 0) (last (coded k (first_field j a v) (second_field j c v) (third_field j v)) n)) (Stop 0)) (le-leb (low k j) v r)
    ∙ (ap (λ (t : Bool). cond t (Stop 0) (last (coded k (first_field j a v) (second_field j c v) (third_field j v)) n)) (le-ltb (j + 1) (field_count k) l)
    ∙ ap (λ (t : Bool). cond t (Whole (symbol k (first_field j a v) (second_field j c v) (third_field j v) ∷ [])) (Stop 0)) (eq-eqb (n + arity k (first_field j a v)) 1 h))

-- ── Whole symbols ──

-- the symbols are read whole from their spelling
abbrev pub ScannedBack : List Symbol → Type 0
ScannedBack hs = (m : ℕ) → 1 ≤ m → Counts m hs → scan (joined hs) (Letters 0 0 m) ≡ Whole hs

-- what follows the last number is read
tail-forward : (k j a c v n : ℕ) (hs : List Symbol) → low k j ≤ v → field_count k ≤ j + 1 → 1 ≤ n → Counts (n + arity k (first_field j a v) - 1) hs → ScannedBack hs
    → scan (afters hs) (Digits (slot k j a c n) v) ≡ Whole (symbol k (first_field j a v) (second_field j c v) (third_field j v) ∷ hs)
unfolding scan
tail-forward k j a c v n [] r l p m ih = finish-whole k j a c v n r l (omega arith)
tail-forward k j a c v n (g ∷ hs) r l p m ih =
    closed-forward (Digits (slot k j a c n) v) 44 k (first_field j a v) (second_field j c v) (third_field j v) (Letters 0 0 (n + arity k (first_field j a v) - 1)) (joined (g ∷ hs)) (g ∷ hs)
    (comma-end k j a c v n r l (λ e. omega (arith, m.0))) (ih (n + arity k (first_field j a v) - 1) m.0 m)

-- a number and the comma behind it are read
field-forward : (k j a c n x : ℕ) (w : List ℕ) (hs : List Symbol) → InRange (low k j) (high k j) x → j + 1 < field_count k → scan w (Field (slot k (j + 1) (first_field j a x) (second_field j c x) n)) ≡ Whole hs → scan (decimal x ++ (44 ∷ w)) (Field (slot k j a c n)) ≡ Whole hs
field-forward k j a c n x w hs r l e =
    decimal-forward k j a c n x (44 ∷ w) hs r (within-forward (Digits (slot k j a c n) x) 44 (Field (slot k (j + 1) (first_field j a x) (second_field j c x) n)) w hs (comma-next k j a c x n r.0 l) e)

-- whole texts stay whole
laters-whole : (m : ℕ) (x : Scan) (hs : List Symbol) → x ≡ Whole hs → laters m x ≡ Whole hs
laters-whole zero x hs e = e
laters-whole (suc m) x hs e = ap later (laters-whole m x hs e)

module _ (k n : ℕ) (hs : List Symbol) (s : Sound k) (p : 1 ≤ n) (ih : ScannedBack hs) where
  -- a number that ends a symbol is read
  last-forward : (j a c x : ℕ) → InRange (low k j) (high k j) x → field_count k ≡ j + 1 → Counts (n + arity k (first_field j a x) - 1) hs
      → scan (decimal x ++ afters hs) (Field (slot k j a c n)) ≡ Whole (symbol k (first_field j a x) (second_field j c x) (third_field j x) ∷ hs)
  last-forward j a c x r l m = decimal-forward k j a c n x (afters hs) (symbol k (first_field j a x) (second_field j c x) (third_field j x) ∷ hs) r (tail-forward k j a c x n hs r.0 (omega arith) p m ih)

  -- so is a word before numbers
  word-forward : (w : List ℕ) (gs : List Symbol) → (field_count k ≡ 0 → ⊥) → scan w (Field (slot k 0 0 0 n)) ≡ Whole gs → scan (word_of k ++ (44 ∷ w)) (Letters 0 0 n) ≡ Whole gs
  word-forward w gs f e =
      s.walk n w ∙ laters-whole (length (word_of k)) (go (scan w) (word_end k n)) gs
      (ap (λ (t : Bool). go (scan w) (cond t (shut (coded k 0 0 0) n) (Some (Within (Field (slot k 0 0 0 n)))))) (ne_eqb (field_count k) 0 f) ∙ ap later e)

  -- and one without
  bare-forward : field_count k ≡ 0 → Counts (n + arity k 0 - 1) hs → scan (word_of k ++ afters hs) (Letters 0 0 n) ≡ Whole (symbol k 0 0 0 ∷ hs)
  bare-forward f m = by hs m ih
    where
      by : (hs : List Symbol) → Counts (n + arity k 0 - 1) hs → ScannedBack hs → scan (word_of k ++ afters hs) (Letters 0 0 n) ≡ Whole (symbol k 0 0 0 ∷ hs)
      by [] m ih = absurd (omega (arith, s.some))
      by (g ∷ hs) m ih =
          s.walk n (joined (g ∷ hs)) ∙ laters-whole (length (word_of k)) (go (scan (joined (g ∷ hs))) (word_end k n)) (symbol k 0 0 0 ∷ g ∷ hs)
          (ap (λ (t : Bool). go (scan (joined (g ∷ hs))) (cond t (shut (coded k 0 0 0) n) (Some (Within (Field (slot k 0 0 0 n)))))) (eq-eqb (field_count k) 0 f)
          ∙ (ap (go (scan (joined (g ∷ hs)))) (shut-closed k 0 0 0 n (λ e. omega (arith, m.0))) ∙ ap (after (symbol k 0 0 0)) (ih (n + arity k 0 - 1) m.0 m)))

  -- every kind is read, with its numbers
  kind-forward : (ns : List ℕ) → AllInRange (kind_by k).ranges ns → Counts (n + arity k (get_or ns 0 0) - 1) hs → scan ((word_of k ++ listed ns) ++ afters hs) (Letters 0 0 n) ≡ Whole (symbol k (get_or ns 0 0) (get_or ns 1 0) (get_or ns 2 0) ∷ hs)
  kind-forward [] r m = ap (λ (w : List ℕ). scan (w ++ afters hs) (Letters 0 0 n)) (append-nil (word_of k)) ∙ bare-forward (sym (ranged-length (kind_by k).ranges [] r)) m
  kind-forward (x ∷ []) r m =
      let l : field_count k ≡ 1 = sym (ranged-length (kind_by k).ranges (x ∷ []) r) in
      let i = ranged-at (kind_by k).ranges (x ∷ []) r in
      ap (λ (w : List ℕ). scan w (Letters 0 0 n)) (simp (append_assoc, append-nil)) ∙ word-forward (decimal x ++ afters hs) (symbol k x 0 0 ∷ hs) (λ e. omega arith) (last-forward 0 0 0 x (i 0 (omega arith)) l m)
  kind-forward (x ∷ y ∷ []) r m =
      let l : field_count k ≡ 2 = sym (ranged-length (kind_by k).ranges (x ∷ y ∷ []) r) in
      let i = ranged-at (kind_by k).ranges (x ∷ y ∷ []) r in
      ap (λ (w : List ℕ). scan w (Letters 0 0 n)) (simp (append_assoc, append-nil)) ∙ word-forward (decimal x ++ (44 ∷ (decimal y ++ afters hs))) (symbol k x y 0 ∷ hs) (λ e. omega arith)
      (field-forward k 0 0 0 n x (decimal y ++ afters hs) (symbol k x y 0 ∷ hs) (i 0 (omega arith)) (omega arith) (last-forward 1 x 0 y (i 1 (omega arith)) l m))
  kind-forward (x ∷ y ∷ z ∷ []) r m =
      let l : field_count k ≡ 3 = sym (ranged-length (kind_by k).ranges (x ∷ y ∷ z ∷ []) r) in
      let i = ranged-at (kind_by k).ranges (x ∷ y ∷ z ∷ []) r in
      ap (λ (w : List ℕ). scan w (Letters 0 0 n)) (simp (append_assoc, append-nil)) ∙ word-forward (decimal x ++ (44 ∷ (decimal y ++ (44 ∷ (decimal z ++ afters hs))))) (symbol k x y z ∷ hs) (λ e. omega arith)
      (field-forward k 0 0 0 n x (decimal y ++ (44 ∷ (decimal z ++ afters hs))) (symbol k x y z ∷ hs) (i 0 (omega arith)) (omega arith)
      (field-forward k 1 x 0 n y (decimal z ++ afters hs) (symbol k x y z ∷ hs) (i 1 (omega arith)) (omega arith) (last-forward 2 x y z (i 2 (omega arith)) l m)))
  kind-forward (x ∷ y ∷ z ∷ u ∷ ns) r m = absurd (omega (arith, few-fields k, ranged-length (kind_by k).ranges (x ∷ y ∷ z ∷ u ∷ ns) r))

-- every symbol is read
symbol-forward : (h : Symbol) (n : ℕ) (hs : List Symbol) → Ranged h → 1 ≤ n → Counts (n + rank h - 1) hs → ScannedBack hs → scan (spell_symbol h ++ afters hs) (Letters 0 0 n) ≡ Whole (h ∷ hs)
unfolding spell_symbol
symbol-forward h n hs r p m ih = let o = of h in kind-forward (kind_of h) n hs o.sound p ih (numbers h) r m ∙ ap (λ (g : Symbol). Whole (g ∷ hs)) o.again

-- the automaton reads the spelling of symbols whole
pub scan-joined : (hs : List Symbol) → AllRanged hs → ScannedBack hs
scan-joined [] r n p c = absurd (omega arith)
scan-joined (h ∷ hs) r n p c = symbol-forward h n hs r.0 p c.1 (scan-joined hs r.1)

-- ── A stop depends only on the bytes up to it ──

-- a stop before q is a stop there too
abbrev pub Agrees : Scan → ℕ → Scan → Type 0
Agrees (Stop p) q r = p < q → r ≡ Stop p
Agrees (Whole hs) q r = Unit {0}

-- a byte inside a symbol keeps it
later_agrees : (x y : Scan) (q : ℕ) → Agrees x q y → Agrees (later x) (suc q) (later y)
later_agrees (Stop p) y q f = λ h. ap later (f (omega arith))
later_agrees (Whole hs) y q f = tt

-- so does one that ends a symbol
after-agrees : (g : Symbol) (x y : Scan) (q : ℕ) → Agrees x q y → Agrees (after g x) (suc q) (after g y)
after-agrees g (Stop p) y q f = λ h. ap (after g) (f (omega arith))
after-agrees g (Whole hs) y q f = tt

-- so does a step
go-agrees : (r r' : State → Scan) (q : ℕ) → ((s : State) → Agrees (r s) q (r' s)) → (t : Option Step) → Agrees (go r t) (suc q) (go r' t)
go-agrees r r' q f None = λ h. refl
go-agrees r r' q f (Some (Within s)) = later_agrees (r s) (r' s) q (f s)
go-agrees r r' q f (Some (Closed h s)) = after-agrees (said h) (r s) (r' s) q (f s)

-- no stop is before 0
none-agrees : (x y : Scan) → Agrees x 0 y
none-agrees (Stop p) y = λ h. absurd (omega arith)
none-agrees (Whole hs) y = tt

-- a text with the same first q bytes stops at the same place before q
pub scan-agrees : (w z : List ℕ) (q : ℕ) → q ≤ length w → (s : State) → Agrees (scan w s) q (scan (take q w ++ z) s)
unfolding scan
scan-agrees w z zero l s = none-agrees (scan w s) (scan z s)
scan-agrees [] z (suc q) l s = absurd (omega arith)
scan-agrees (b ∷ w) z (suc q) l s = go-agrees (scan w) (scan (take q w ++ z)) q (scan-agrees w z q (omega arith)) (step s b)
