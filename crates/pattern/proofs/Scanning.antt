-- What a state of the automaton stands for, that each step keeps it, and that a state always goes on to a pattern.
-- Assumes nothing.
use Prim.Native.Nat.{ℕ, zero, suc, ◌+◌, ◌-◌, ◌*◌, ◌≤◌, ◌<◌}
use mathlib.Core.Path.{◌≡◌, refl, sym, ap, ◌∙◌}
use mathlib.Core.Bool.{Bool, not, cond, ◌&&◌}
use mathlib.Core.List.{List, [], ◌∷◌, ◌++◌, append_assoc}
use lib.Dec.{leb, ltb, eqb}
use lib.ListN.{length}
use borrow.Author.Tests.{eq-eqb, ne_eqb, eqb-true, eqb-false, leb-true, ltb-true, ltb-false, not-true}
use native.Mathlib.Omega.{arith}
use Rattle.std.specs.Prelude.{Option, Some, None}
use Rattle.basics.specs.Decimal.{decimal}
use Rattle.pattern.specs.Kinds.{kinds, kind_in, kind_by, row_of, Symbol, Ev, rank, Ranged, InRange, symbol, field_count, low, high, arity}
use Rattle.pattern.specs.Pattern.{spell_symbol}
use Rattle.pattern.specs.declared.State.{State}
use Rattle.pattern.specs.declared.State.TheVariants.{Letters, Field, Digits}
use Rattle.pattern.specs.declared.Step.{Step}
use Rattle.pattern.specs.declared.Step.TheVariants.{Within, Closed}
use Rattle.digits.specs.Chart.{digit}
use Rattle.pattern.specs.Automaton.{slot, coded, said, first_field, second_field, third_field, next, live, number, shut, word_end, number_end, letter, step}
use Rattle.pattern.specs.Rows.{entry}
use Rattle.pattern.specs.inner.Scanner.{Written, since}
use Rattle.basics.proofs.Basics.{cases, and-true}
use Rattle.digits.proofs.ChartLaws.{digit-true}
use Rattle.pattern.proofs.Numbers.{first-digit, digit-more, Starts, live-starts, starts-completed}
use Rattle.pattern.proofs.KindLaws.{range-sound, word_of, Sound, fair}
use Rattle.pattern.proofs.Words.{path, onward, path-onward, letter-grown, word-ended}
use Rattle.pattern.proofs.Fields.{rank-arity, Named, Made, bare, bare-spelt, lead, spelt-last, lead-next, Earlier, made-last, earlier-next, goes, word-goes}

-- ── Lists of symbols ──

-- each spelling after a comma
abbrev pub afters : List Symbol → List ℕ
afters [] = []
afters (h ∷ hs) = 44 ∷ (spell_symbol h ++ afters hs)

-- the symbols' spellings, parted by commas
abbrev pub joined : List Symbol → List ℕ
joined [] = []
joined (h ∷ hs) = spell_symbol h ++ afters hs

-- the symbols of n trees: trees are to come before each symbol, and none after the last
abbrev pub Counts : ℕ → List Symbol → Type 0
Counts n [] = n ≡ 0
Counts n (h ∷ hs) = (1 ≤ n) × Counts (n + rank h - 1) hs

-- each symbol's numbers are in range
abbrev pub AllRanged : List Symbol → Type 0
AllRanged [] = Unit {0}
AllRanged (h ∷ hs) = Ranged h × AllRanged hs

-- ── States ──

-- the trees still to come
abbrev pub need : State → ℕ
need (Letters r m n) = n
need (Field f) = f.need
need (Digits f v) = f.need

-- what has been read of the present symbol
abbrev pub pending : State → List ℕ
pending (Letters r m n) = path r m
pending (Field f) = lead f.kind f.field f.first f.second
pending (Digits f v) = lead f.kind f.field f.first f.second ++ decimal v

-- a field of a kind of symbols, with the numbers before it in range
pub record InField (k j a c : ℕ) : Type 0 where
  pub sound : Sound k
  pub field : j < field_count k
  pub earlier : Earlier k j a c

-- what holds of a state
abbrev pub Held : State → Type 0
Held (Letters r m n) = (r < length kinds) × (m ≤ length (kind_in r).word) × (1 ≤ n)
Held (Field f) = InField f.kind f.field f.first f.second × (1 ≤ f.need)
Held (Digits f v) = InField f.kind f.field f.first f.second × (1 ≤ f.need) × Starts (low f.kind f.field) (high f.kind f.field) v

-- ── A step ──

-- a byte inside a symbol
pub record Went (s : State) (b : ℕ) (s' : State) : Type 0 where
  pub held : Held s'
  pub pends : pending s' ≡ pending s ++ (b ∷ [])
  pub needs : need s' ≡ need s
  pub written : (t : List ℕ) → Written s t → Written s' (since b t)

-- a byte that ends the symbol h
pub record Shut (s : State) (b : ℕ) (h : Symbol) (s' : State) : Type 0 where
  pub held : Held s'
  pub comma : b ≡ 44
  pub pends : pending s' ≡ []
  pub written : Written s' []
  pub needs : need s' ≡ need s + rank h - 1
  pub spelt : pending s ≡ spell_symbol h
  pub ranged : Ranged h

-- what a step does
abbrev pub After : State → ℕ → Option Step → Type 0
After s b None = Unit {0}
After s b (Some (Within s')) = Went s b s'
After s b (Some (Closed h s')) = Shut s b (said h) s' × (entry (said h) 0 ≡ h)

-- a symbol's numbers are its node's
pub named_node : {k a b c : ℕ} → Named k a b c → entry (said (coded k a b c)) 0 ≡ coded k a b c
named_node m = λ i. record { kind = m.kind i; size = 0; first = m.one i; second = m.two i; third = m.three i }

-- past a comma nothing is written yet, and a digit is one more
pub since-comma : (b : ℕ) (t : List ℕ) → b ≡ 44 → since b t ≡ []
since-comma b t e = ap (λ (c : Bool). cond c [] (t ++ (b ∷ []))) (eq-eqb b 44 e)

pub since-other : (b : ℕ) (t : List ℕ) → (b ≡ 44 → ⊥) → since b t ≡ t ++ (b ∷ [])
since-other b t n = ap (λ (c : Bool). cond c [] (t ++ (b ∷ []))) (ne_eqb b 44 n)

since-digit : (b : ℕ) (t : List ℕ) → 48 ≤ b → since b t ≡ t ++ (b ∷ [])
since-digit b t h = since-other b t (λ e. omega arith)

-- a comma after a whole symbol
shut-after : (s : State) (b k a c d n : ℕ) → b ≡ 44 → Sound k → 1 ≤ n → n ≡ need s → pending s ≡ spell_symbol (symbol k a c d) → Made k a c d → After s b (shut (coded k a c d) n)
unfolding path
shut-after s b k a c d n e h p q sp m =
    cases (eqb (n + arity k a) 1) (λ t. After s b (cond t None (Some (Closed (coded k a c d) (Letters 0 0 (n + arity k a - 1)))))) (λ t. tt)
    (λ t. let ne : n + arity k a ≡ 1 → ⊥ = eqb-false (n + arity k a) 1 t in
    (record { held = (omega arith, omega arith, omega arith); comma = e; pends = refl; written = tt; needs = omega (arith, rank-arity k h a c d m.named); spelt = sp; ranged = m.ranged }, named_node m.named))

-- a comma after a word
word_after : (r m n b k : ℕ) → Sound k → path r m ≡ word_of k → 1 ≤ n → b ≡ 44 → After (Letters r m n) b (word_end k n)
unfolding lead
word_after r m n b k s w h e =
    cases (eqb (field_count k) 0) (λ d. After (Letters r m n) b (cond d (shut (coded k 0 0 0) n) (Some (Within (Field (slot k 0 0 0 n))))))
    (λ d. let z = eqb-true (field_count k) 0 d in shut-after (Letters r m n) b k 0 0 0 n e s h refl (w ∙ bare-spelt k s z) (bare k s z))
    (λ d. let f : field_count k ≡ 0 → ⊥ = eqb-false (field_count k) 0 d in
    record {
      held = (record { sound = s; field = omega arith; earlier = λ i l. absurd (omega arith) }, h);
      pends = ap (λ (x : List ℕ). x ++ (44 ∷ [])) (sym w) ∙ ap (λ (x : ℕ). path r m ++ (x ∷ [])) (sym e);
      needs = refl;
      written = λ t _. since-comma b t e;
    })

-- a letter, or the comma
letter-after : (r m n b : ℕ) → Held (Letters r m n) → After (Letters r m n) b (letter (next r m b) m b n)
letter-after r m n b h =
    cases (ltb (next r m b) (length kinds)) (λ c. After (Letters r m n) b (cond c (cond (eqb b 44) (word_end (kind_in (next r m b)).number n) (Some (Within (Letters (next r m b) (m + 1) n)))) None))
    (λ c. let l = ltb-true (next r m b) (length kinds) c in
    cases (eqb b 44) (λ d. After (Letters r m n) b (cond d (word_end (kind_in (next r m b)).number n) (Some (Within (Letters (next r m b) (m + 1) n)))))
    (λ d. let e = eqb-true b 44 d in
    word_after r m n b (kind_in (next r m b)).number (fair (next r m b) l).sound (word-ended r m b h.1 l e) h.2 e)
    (λ d. let g = letter-grown r m b h.1 l (eqb-false b 44 d) in record { held = (l, g.short, h.2); pends = g.grown; needs = refl; written = λ _ _. tt }))
    (λ c. tt)

-- the first digit of a number
field-after : (k j a c n b : ℕ) → Held (Field (slot k j a c n)) → After (Field (slot k j a c n)) b (cond (digit b) (number (slot k j a c n) (b - 48)) None)
field-after k j a c n b h =
    cases (digit b) (λ t. After (Field (slot k j a c n)) b (cond t (number (slot k j a c n) (b - 48)) None))
    (λ t. let d = digit-true b t in
    cases (live (low k j) (high k j) (b - 48)) (λ l. After (Field (slot k j a c n)) b (cond l (Some (Within (Digits (slot k j a c n) (b - 48)))) None))
    (λ l. record {
      held = (h.0, h.1, live-starts (low k j) (high k j) (b - 48) l);
      pends = ap (λ (x : List ℕ). lead k j a c ++ x) (first-digit b d.0 d.1);
      needs = refl;
      written = λ t w. since-digit b t d.0 ∙ ap (λ (x : List ℕ). x ++ (b ∷ [])) w ∙ sym (first-digit b d.0 d.1);
    }) (λ l. tt)) (λ t. tt)

-- a further digit
more-after : (k j a c v n b : ℕ) → Held (Digits (slot k j a c n) v) → After (Digits (slot k j a c n) v) b (cond (digit b && not (eqb v 0)) (number (slot k j a c n) (10 * v + (b - 48))) None)
more-after k j a c v n b h =
    cases (digit b && not (eqb v 0)) (λ t. After (Digits (slot k j a c n) v) b (cond t (number (slot k j a c n) (10 * v + (b - 48))) None))
    (λ t. let q = and-true (digit b) (not (eqb v 0)) t in
    let d = digit-true b q.0 in
    let nz : v ≡ 0 → ⊥ = eqb-false v 0 (not-true (eqb v 0) q.1) in
    cases (live (low k j) (high k j) (10 * v + (b - 48))) (λ l. After (Digits (slot k j a c n) v) b (cond l (Some (Within (Digits (slot k j a c n) (10 * v + (b - 48))))) None))
    (λ l. record {
      held = (h.0, h.1, live-starts (low k j) (high k j) (10 * v + (b - 48)) l);
      pends = ap (λ (x : List ℕ). lead k j a c ++ x) (digit-more v b (omega arith) d.0 d.1) ∙ sym (append_assoc (lead k j a c) (decimal v) (b ∷ []));
      needs = refl;
      written = λ t w. since-digit b t d.0 ∙ ap (λ (x : List ℕ). x ++ (b ∷ [])) w ∙ sym (digit-more v b (omega arith) d.0 d.1);
    }) (λ l. tt)) (λ t. tt)

-- a comma after a number
end_after : (k j a c v n b : ℕ) → Held (Digits (slot k j a c n) v) → b ≡ 44 → After (Digits (slot k j a c n) v) b (number_end (slot k j a c n) v)
end_after k j a c v n b h e =
    cases (leb (low k j) v) (λ t. After (Digits (slot k j a c n) v) b (cond t (cond (ltb (j + 1) (field_count k)) (Some (Within (Field (slot k (j + 1) (first_field j a v) (second_field j c v) n)))) (shut (coded k (first_field j a v) (second_field j c v) (third_field j v)) n)) None))
    (λ t. let f = h.0 in
    let r : InRange (low k j) (high k j) v = (leb-true (low k j) v t, h.2.below) in
    cases (ltb (j + 1) (field_count k)) (λ d. After (Digits (slot k j a c n) v) b (cond d (Some (Within (Field (slot k (j + 1) (first_field j a v) (second_field j c v) n)))) (shut (coded k (first_field j a v) (second_field j c v) (third_field j v)) n)))
    (λ d. let l = ltb-true (j + 1) (field_count k) d in
    record {
      held = (record { sound = f.sound; field = l; earlier = earlier-next k f.sound a c v j l f.earlier r }, h.1);
      pends = lead-next k f.sound a c v j l ∙ ap (λ (x : ℕ). (lead k j a c ++ decimal v) ++ (x ∷ [])) (sym e);
      needs = refl;
      written = λ t _. since-comma b t e;
    })
    (λ d. let l : field_count k ≡ j + 1 = omega (arith, ltb-false (j + 1) (field_count k) d, f.field) in
    shut-after (Digits (slot k j a c n) v) b k (first_field j a v) (second_field j c v) (third_field j v) n e f.sound h.1 refl (spelt-last k f.sound a c v j l) (made-last k f.sound a c v j l f.earlier r)))
    (λ t. tt)

-- every byte, in every state
pub step_after : (s : State) (b : ℕ) → Held s → After s b (step s b)
unfolding step
step_after (Letters r m n) b h = letter-after r m n b h
step_after (Field f) b h = field-after f.kind f.field f.first f.second f.need b h
step_after (Digits f v) b h =
    cases (eqb b 44) (λ t. After (Digits f v) b (cond t (number_end f v) (cond (digit b && not (eqb v 0)) (number f (10 * v + (b - 48))) None)))
    (λ t. end_after f.kind f.field f.first f.second v f.need b h (eqb-true b 44 t)) (λ t. more-after f.kind f.field f.first f.second v f.need b h)

-- ── Every state goes on to a pattern ──

-- a leaf for each tree still to come
abbrev pub leaves : ℕ → List Symbol
leaves zero = []
leaves (suc n) = Ev 1 0 ∷ leaves n

-- they are as many trees
leaves-count : (n : ℕ) → Counts n (leaves n)
unfolding kind_by kind_in row_of
leaves-count zero = refl
leaves-count (suc n) = (omega arith, rw (let e : suc n + 0 - 1 ≡ n = omega arith in e) (leaves-count n))

-- and in range
leaves-ranged : (n : ℕ) → AllRanged (leaves n)
unfolding kind_by kind_in row_of
leaves-ranged zero = tt
leaves-ranged (suc n) = (((omega arith, omega arith), ((omega arith, omega arith), tt)), leaves-ranged n)

-- the text x, read from s on, goes on to whole symbols
pub record Completes (s : State) (x : List ℕ) : Type 0 where
  pub rest : List ℕ
  pub symbols : List Symbol
  pub spelt : pending s ++ (x ++ rest) ≡ joined symbols
  pub counts : Counts (need s) symbols
  pub ranged : AllRanged symbols

-- a state goes on by the rest of its symbol, and leaves
with-leaves : (s : State) (z : List ℕ) (h : Symbol) → 1 ≤ need s → Ranged h → pending s ++ z ≡ spell_symbol h → Completes s []
with-leaves s z h p r e = record {
  rest = z ++ afters (leaves (need s + rank h - 1));
  symbols = h ∷ leaves (need s + rank h - 1);
  spelt = sym (append_assoc (pending s) z (afters (leaves (need s + rank h - 1)))) ∙ ap (λ (x : List ℕ). x ++ afters (leaves (need s + rank h - 1))) e;
  counts = (p, leaves-count (need s + rank h - 1));
  ranged = (r, leaves-ranged (need s + rank h - 1));
}

-- every state goes on to a pattern
pub completes : (s : State) → Held s → Completes s []
completes (Letters r m n) h =
    let w = word-goes (kind_in r).number (fair r h.0).sound in
    with-leaves (Letters r m n) (onward r m ++ w.rest) w.whole h.2 w.ranged
    (sym (append_assoc (path r m) (onward r m) w.rest) ∙ (ap (λ (x : List ℕ). x ++ w.rest) (path-onward r m h.0) ∙ w.spelt))
completes (Field p) h =
    let f = h.0 in
    let k = p.kind in
    let j = p.field in
    let g = goes k f.sound (field_count k - (j + 1)) p.first p.second (low k j) j (omega (arith, f.field)) f.earlier (omega arith, (range-sound k j).1) in
    with-leaves (Field p) (decimal (low k j) ++ g.rest) g.whole h.1 g.ranged g.spelt
completes (Digits p v) h =
    let f = h.0 in
    let k = p.kind in
    let j = p.field in
    let x = starts-completed (low k j) (high k j) v (range-sound k j).0 h.2 in
    let g = goes k f.sound (field_count k - (j + 1)) p.first p.second x.number j (omega (arith, f.field)) f.earlier x.ranged in
    with-leaves (Digits p v) (x.rest ++ g.rest) g.whole h.1 g.ranged
    (append_assoc (lead k j p.first p.second) (decimal v) (x.rest ++ g.rest) ∙ (ap (λ (y : List ℕ). lead k j p.first p.second ++ y) (sym (append_assoc (decimal v) x.rest g.rest) ∙ ap (λ (y : List ℕ). y ++ g.rest) x.spelt) ∙ g.spelt))
