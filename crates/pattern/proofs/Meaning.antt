-- What a scan says of a text: read on from a state, the symbols it makes, or up to where it goes on to a pattern; by induction on the text.
-- Assumes nothing.
use Prim.Native.Nat.{ℕ, ◌+◌, ◌≤◌}
use mathlib.Core.Path.{◌≡◌, sym, ap, ap₂, ◌∙◌}
use mathlib.Core.Bool.{cond}
use mathlib.Core.List.{List, [], ◌∷◌, ◌++◌, append-nil, append_assoc}
use lib.Dec.{leb, ltb, eqb}
use lib.ListN.{length, take}
use borrow.Author.Tests.{eqb-true, leb-true, ltb-false}
use native.Mathlib.Omega.{arith}
use Rattle.std.specs.Prelude.{Option, Some, None}
use Rattle.basics.specs.Decimal.{decimal}
use Rattle.pattern.specs.Kinds.{Symbol, symbol, field_count, low, arity}
use Rattle.pattern.specs.Pattern.{spell_symbol}
use Rattle.pattern.specs.declared.State.{State}
use Rattle.pattern.specs.declared.State.TheVariants.{Letters, Field, Digits}
use Rattle.pattern.specs.declared.Step.{Step}
use Rattle.pattern.specs.declared.Step.TheVariants.{Within, Closed}
use Rattle.pattern.specs.Automaton.{slot, coded, said, first_field, second_field, third_field, step, Scan, Stop, Whole, later, after, last, finish, go, scan}
use Rattle.basics.proofs.Basics.{cases}
use Rattle.pattern.proofs.Fields.{rank-arity, lead, spelt-last, made-last}
use Rattle.pattern.proofs.Scanning.{afters, joined, Counts, AllRanged, need, pending, InField, Held, Went, Shut, After, step_after, Completes, completes}

-- ── What a scan says ──

-- the text, read from s on, is these symbols
pub record Reads (s : State) (w : List ℕ) (hs : List Symbol) : Type 0 where
  pub spelt : pending s ++ w ≡ joined hs
  pub counts : Counts (need s) hs
  pub ranged : AllRanged hs

-- the text goes on to a pattern up to place p
pub record Stops (s : State) (w : List ℕ) (p : ℕ) : Type 0 where
  pub within : p ≤ length w
  pub completes : Completes s (take p w)

-- what a scan says of the text
abbrev pub Means : State → List ℕ → Scan → Type 0
Means s w (Stop p) = Stops s w p
Means s w (Whole hs) = Reads s w hs

-- every text stops no earlier than at its start
stop-here : (s : State) (w : List ℕ) → Held s → Stops s w 0
stop-here s w h = record { within = omega arith; completes = completes s h }

-- a byte inside a symbol
later-means : (s : State) (b : ℕ) (s' : State) (w : List ℕ) → Went s b s' → (r : Scan) → Means s' w r → Means s (b ∷ w) (later r)
later-means s b s' w g (Stop p) m = record {
  within = omega (arith, m.within);
  completes = record {
    rest = m.completes.rest;
    symbols = m.completes.symbols;
    spelt = sym (append_assoc (pending s) (b ∷ []) (take p w ++ m.completes.rest)) ∙ (ap (λ (x : List ℕ). x ++ (take p w ++ m.completes.rest)) (sym g.pends) ∙ m.completes.spelt);
    counts = rw (← g.needs) m.completes.counts;
    ranged = m.completes.ranged;
  };
}
later-means s b s' w g (Whole hs) m = record {
  spelt = sym (append_assoc (pending s) (b ∷ []) w) ∙ (ap (λ (x : List ℕ). x ++ w) (sym g.pends) ∙ m.spelt);
  counts = rw (← g.needs) m.counts;
  ranged = m.ranged;
}

-- after a whole symbol and its comma, the text that follows starts with a symbol
joined-after : (x : List ℕ) (hs : List Symbol) (n : ℕ) → 1 ≤ n → Counts n hs → x ≡ joined hs → 44 ∷ x ≡ afters hs
joined-after x [] n p c e = absurd (omega arith)
joined-after x (h ∷ hs) n p c e = ap (λ (y : List ℕ). 44 ∷ y) e

-- a byte that ends one
after-means : (s : State) (b : ℕ) (h : Symbol) (s' : State) (w : List ℕ) → 1 ≤ need s → Shut s b h s' → 1 ≤ need s' → (r : Scan) → Means s' w r → Means s (b ∷ w) (after h r)
after-means s b h s' w n g n' (Stop p) m = record {
  within = omega (arith, m.within);
  completes = record {
    rest = m.completes.rest;
    symbols = h ∷ m.completes.symbols;
    spelt = ap₂ (λ (x : List ℕ) (y : ℕ). x ++ (y ∷ (take p w ++ m.completes.rest))) g.spelt g.comma
        ∙ ap (λ (x : List ℕ). spell_symbol h ++ x) (joined-after (take p w ++ m.completes.rest) m.completes.symbols (need s') n' m.completes.counts (ap (λ (x : List ℕ). x ++ (take p w ++ m.completes.rest)) (sym g.pends) ∙ m.completes.spelt));
    counts = (n, rw (← g.needs) m.completes.counts);
    ranged = (g.ranged, m.completes.ranged);
  };
}
after-means s b h s' w n g n' (Whole hs) m = record {
  spelt = ap₂ (λ (x : List ℕ) (y : ℕ). x ++ (y ∷ w)) g.spelt g.comma
      ∙ ap (λ (x : List ℕ). spell_symbol h ++ x) (joined-after w hs (need s') n' m.counts (ap (λ (x : List ℕ). x ++ w) (sym g.pends) ∙ m.spelt));
  counts = (n, rw (← g.needs) m.counts);
  ranged = (g.ranged, m.ranged);
}

-- a tree is to come
pub held-need : (s : State) → Held s → 1 ≤ need s
held-need (Letters r m n) h = h.2
held-need (Field f) h = h.1
held-need (Digits f v) h = h.1

-- a step
go-means : (s : State) (b : ℕ) (w : List ℕ) → Held s → ((s' : State) → Held s' → Means s' w (scan w s')) → (t : Option Step) → After s b t → Means s (b ∷ w) (go (scan w) t)
go-means s b w h f None a = stop-here s (b ∷ w) h
go-means s b w h f (Some (Within s')) a = later-means s b s' w a (scan w s') (f s' a.held)
go-means s b w h f (Some (Closed g s')) a = after-means s b (said g) s' w (held-need s h) a.0 (held-need s' a.0.held) (scan w s') (f s' a.0.held)

-- a symbol at the end of the text
last-means : (k j a c v n : ℕ) → Held (Digits (slot k j a c n) v) → low k j ≤ v → field_count k ≡ j + 1 → Means (Digits (slot k j a c n) v) [] (last (coded k (first_field j a v) (second_field j c v) (third_field j v)) n)
last-means k j a c v n h r l =
    cases (eqb (n + arity k (first_field j a v)) 1) (λ t. Means (Digits (slot k j a c n) v) [] (cond t (Whole (symbol k (first_field j a v) (second_field j c v) (third_field j v) ∷ [])) (Stop 0)))
    (λ t. let m = made-last k f.sound a c v j l f.earlier (r, h.2.below) in
    record {
      spelt = append-nil (lead k j a c ++ decimal v) ∙ (spelt-last k f.sound a c v j l ∙ sym (append-nil (spell_symbol (symbol k (first_field j a v) (second_field j c v) (third_field j v)))));
      counts = (h.1, omega (arith, rank-arity k f.sound (first_field j a v) (second_field j c v) (third_field j v) m.named, eqb-true (n + arity k (first_field j a v)) 1 t));
      ranged = (m.ranged, tt);
    }) (λ t. stop-here (Digits (slot k j a c n) v) [] h)
  where
    f : InField k j a c
    f = h.0

-- the end of the text after a number
number-means : (k j a c v n : ℕ) → Held (Digits (slot k j a c n) v) → Means (Digits (slot k j a c n) v) [] (finish (Digits (slot k j a c n) v))
unfolding finish
number-means k j a c v n h =
    cases (leb (low k j) v) (λ t. Means (Digits (slot k j a c n) v) [] (cond t (cond (ltb (j + 1) (field_count k)) (Stop 0) (last (coded k (first_field j a v) (second_field j c v) (third_field j v)) n)) (Stop 0)))
    (λ t. cases (ltb (j + 1) (field_count k)) (λ d. Means (Digits (slot k j a c n) v) [] (cond d (Stop 0) (last (coded k (first_field j a v) (second_field j c v) (third_field j v)) n)))
    (λ d. stop-here (Digits (slot k j a c n) v) [] h)
    (λ d. last-means k j a c v n h (leb-true (low k j) v t) (omega (arith, ltb-false (j + 1) (field_count k) d, h.0.field))))
    (λ t. stop-here (Digits (slot k j a c n) v) [] h)

-- the end of the text
finish-means : (s : State) → Held s → Means s [] (finish s)
unfolding finish
finish-means (Letters r m n) h = stop-here (Letters r m n) [] h
finish-means (Field f) h = stop-here (Field f) [] h
finish-means (Digits f v) h = number-means f.kind f.field f.first f.second v f.need h

-- a scan says what holds of the text
pub scan-means : (w : List ℕ) (s : State) → Held s → Means s w (scan w s)
unfolding scan
scan-means [] s h = finish-means s h
scan-means (b ∷ w) s h = go-means s b w h (scan-means w) (step s b) (step_after s b h)
