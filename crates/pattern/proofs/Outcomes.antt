-- The outcome that is computed and what the answers say agree: the outcome says what holds of the text, and what is said of a text gives its outcome.
-- Assumes nothing.
use Prim.Native.Nat.{ℕ, ◌≤◌, ◌<◌}
use mathlib.Core.Path.{◌≡◌, refl, sym, ap, ap₂, subst, ◌∙◌}
use mathlib.Core.Bool.{Bool, cond}
use Rattle.std.specs.Prelude.{Result, Ok, Err}
use mathlib.Core.List.{List}
use lib.Dec.{ltb, eqb}
use lib.ListN.{length}
use borrow.Author.Tests.{lt-ltb, le-ltb, ltb-true, ltb-false}
use native.Mathlib.Omega.{arith}
use Rattle.pattern.specs.Pattern.{Pattern, Patterns, Spells, Longest, nodes, depth, preorder}
use Rattle.pattern.specs.declared.State.TheVariants.{Letters}
use Rattle.pattern.specs.declared.Table.{Table}
use Rattle.pattern.specs.declared.Refusal.{Refusal}
use Rattle.pattern.specs.declared.Refusal.TheVariants.{Long, Misspelt, Crowded, Deep}
use Rattle.pattern.specs.Automaton.{Scan, Stop, Whole, scan}
use Rattle.pattern.specs.Answer.{table, Says, number_of, place_of}
use Rattle.pattern.specs.Reading.{build, Outcome, Accepts, Refuses, of_tree, of_trees, of_scan, outcome_of, Gives, ReadGives}
use Rattle.basics.proofs.Basics.{cases}
use Rattle.pattern.proofs.Trees.{ReadAs, reading, scan-spell, build-back}
use Rattle.pattern.proofs.Answering.{longest-unique}

-- the text spells the pattern, within the bounds
pub record Acceptable (s : List ℕ) (p : Pattern) : Type 0 where
  pub short : length s ≤ 1024
  pub spells : Spells p s
  pub few : nodes p ≤ 32
  pub shallow : depth p ≤ 8

-- the text is refused with this number and place
pub record Refused (s : List ℕ) (n q : ℕ) : Type 0 where
  pub refusal : Refusal
  pub says : Says s (Err refusal)
  pub number : number_of refusal ≡ n
  pub place : place_of refusal ≡ q
  pub some : 2 ≤ n

-- what an outcome says of the text
abbrev pub Told : List ℕ → Outcome → Type 0
Told s (Accepts p) = Acceptable s p
Told s (Refuses n q) = Refused s n q

-- a tree's outcome
tree-told : (s : List ℕ) (p : Pattern) → length s ≤ 1024 → Spells p s → Told s (of_tree p)
tree-told s p l a =
    cases (ltb 32 (nodes p)) (λ b. Told s (cond b (Refuses 4 0) (cond (ltb 8 (depth p)) (Refuses 5 0) (Accepts p))))
    (λ h. record { refusal = Crowded; says = record { short = l; pattern = p; spells = a; many = ltb-true 32 (nodes p) h }; number = refl; place = refl; some = omega arith })
    (λ h. cases (ltb 8 (depth p)) (λ b. Told s (cond b (Refuses 5 0) (Accepts p)))
    (λ k. record { refusal = Deep; says = record { short = l; pattern = p; spells = a; few = ltb-false 32 (nodes p) h; deep = ltb-true 8 (depth p) k }; number = refl; place = refl; some = omega arith })
    (λ k. record { short = l; spells = a; few = ltb-false 32 (nodes p) h; shallow = ltb-false 8 (depth p) k }))

-- a scan's outcome
scan-told : (s : List ℕ) (x : Scan) → length s ≤ 1024 → ReadAs s x → Told s (of_scan x)
scan-told s (Stop p) l m = record { refusal = Misspelt p; says = record { short = l; none = m.none; place = m.place }; number = refl; place = refl; some = omega arith }
scan-told s (Whole hs) l m =
    subst (λ (ps : Patterns). Told s (of_trees ps)) (sym (ap build (sym m.ordered) ∙ build-back m.tree m.spells.formed)) (tree-told s m.tree l m.spells)

-- the outcome of a text says what holds of it
pub told : (s : List ℕ) → Told s (outcome_of s)
unfolding outcome_of
told s =
    cases (ltb 1024 (length s)) (λ b. Told s (cond b (Refuses 2 0) (of_scan (scan s (Letters 0 0 1)))))
    (λ h. record { refusal = Long; says = record { long = ltb-true 1024 (length s) h }; number = refl; place = refl; some = omega arith })
    (λ h. scan-told s (scan s (Letters 0 0 1)) (ltb-false 1024 (length s) h) (reading s))

-- ── Accepted, refused ──

-- accepted is only the spelling of a pattern within the bounds
pub accepts-spells : (s : List ℕ) (p : Pattern) → outcome_of s ≡ Accepts p → Acceptable s p
accepts-spells s p e = subst (Told s) e (told s)

-- an outcome that refuses says why
pub refuses-says : (s : List ℕ) (n q : ℕ) → outcome_of s ≡ Refuses n q → Refused s n q
refuses-says s n q e = subst (Told s) e (told s)

-- refusal 2, whenever it applies
pub refuses-long : (s : List ℕ) → 1024 < length s → outcome_of s ≡ Refuses 2 0
unfolding outcome_of
refuses-long s h = ap (λ (b : Bool). cond b (Refuses 2 0) (of_scan (scan s (Letters 0 0 1)))) (lt-ltb 1024 (length s) h)

-- else the scan decides
short-outcome : (s : List ℕ) (x : Scan) → length s ≤ 1024 → scan s (Letters 0 0 1) ≡ x → outcome_of s ≡ of_scan x
unfolding outcome_of
short-outcome s x l e = ap (λ (b : Bool). cond b (Refuses 2 0) (of_scan (scan s (Letters 0 0 1)))) (le-ltb 1024 (length s) l) ∙ ap of_scan e

-- refusal 3, where 2 does not apply
pub refuses-misspelt : (s : List ℕ) (n : ℕ) → length s ≤ 1024 → ((p : Pattern) → Spells p s → ⊥) → Longest s n → outcome_of s ≡ Refuses 3 n
refuses-misspelt s n l f g = pick (scan s (Letters 0 0 1)) refl (reading s)
  where
    pick : (x : Scan) → scan s (Letters 0 0 1) ≡ x → ReadAs s x → outcome_of s ≡ Refuses 3 n
    pick (Stop p) e m = short-outcome s (Stop p) l e ∙ ap (Refuses 3) (longest-unique s p n m.place g)
    pick (Whole hs) e m = absurd (f m.tree m.spells)

-- else the pattern that the text spells
module _ (s : List ℕ) (p : Pattern) (l : length s ≤ 1024) (a : Spells p s) where
  tree-outcome : outcome_of s ≡ of_tree p
  tree-outcome = short-outcome s (Whole (preorder p)) l (ap (λ (w : List ℕ). scan w (Letters 0 0 1)) (sym a.spelt) ∙ scan-spell p a.formed) ∙ ap of_trees (build-back p a.formed)

  -- refusal 4
  pub refuses-crowded : 32 < nodes p → outcome_of s ≡ Refuses 4 0
  refuses-crowded h = tree-outcome ∙ simp (lt-ltb 32 (nodes p) h)

  -- refusal 5, where 4 does not apply
  pub refuses-deep : nodes p ≤ 32 → 8 < depth p → outcome_of s ≡ Refuses 5 0
  refuses-deep h d = tree-outcome ∙ simp (le-ltb 32 (nodes p) h, lt-ltb 8 (depth p) d)

  -- and no refusal, where none does
  pub spells-accepts : nodes p ≤ 32 → depth p ≤ 8 → outcome_of s ≡ Accepts p
  spells-accepts h d = tree-outcome ∙ simp (le-ltb 32 (nodes p) h, le-ltb 8 (depth p) d)

-- ── The reading ──

-- what is said of a text fixes the answer
pub says-reading : (s : List ℕ) (r : Result Table Refusal) → Says s r → ReadGives s r
says-reading s (Ok t) a = record { gives = subst (λ o. Gives o (Ok t)) (sym (spells-accepts s a.pattern a.short a.spells a.few a.shallow)) a.tabled; says = a }
says-reading s (Err Long) a = record { gives = subst (λ o. Gives o (Err Long)) (sym (refuses-long s a.long)) (refl, refl); says = a }
says-reading s (Err (Misspelt n)) a = record { gives = subst (λ o. Gives o (Err (Misspelt n))) (sym (refuses-misspelt s n a.short a.none a.place)) (refl, refl); says = a }
says-reading s (Err Crowded) a = record { gives = subst (λ o. Gives o (Err Crowded)) (sym (refuses-crowded s a.pattern a.short a.spells a.many)) (refl, refl); says = a }
says-reading s (Err Deep) a = record { gives = subst (λ o. Gives o (Err Deep)) (sym (refuses-deep s a.pattern a.short a.spells a.few a.deep)) (refl, refl); says = a }

-- number and place together name a refusal
pub verdict-unique : (v w : Refusal) → number_of v ≡ number_of w → place_of v ≡ place_of w → v ≡ w
verdict-unique v w e f = sym (back v) ∙ (ap₂ named e f ∙ back w)
  where
    named : ℕ → ℕ → Refusal
    named n q = cond (eqb n 2) Long (cond (eqb n 3) (Misspelt q) (cond (eqb n 4) Crowded Deep))

    back : (v : Refusal) → named (number_of v) (place_of v) ≡ v
    back Long = refl
    back (Misspelt q) = refl
    back Crowded = refl
    back Deep = refl

-- so an outcome gives one answer only
gives-unique : (o : Outcome) (r t : Result Table Refusal) → Gives o r → Gives o t → r ≡ t
gives-unique (Accepts p) (Ok t) (Ok u) a b = ap Ok (a ∙ sym b)
gives-unique (Accepts p) (Ok t) (Err w) a b = absurd b
gives-unique (Accepts p) (Err v) r a b = absurd a
gives-unique (Refuses n q) (Ok t) r a b = absurd a
gives-unique (Refuses n q) (Err v) (Ok u) a b = absurd b
gives-unique (Refuses n q) (Err v) (Err w) a b = ap Err (verdict-unique v w (a.0 ∙ sym b.0) (a.1 ∙ sym b.1))

-- so a text has one reading only
pub reading-unique : (s : List ℕ) (r t : Result Table Refusal) → ReadGives s r → ReadGives s t → r ≡ t
reading-unique s r t a b = gives-unique (outcome_of s) r t a.gives b.gives

-- and what is said of a text fixes the answer
pub says-unique : (s : List ℕ) (r t : Result Table Refusal) → Says s r → Says s t → r ≡ t
says-unique s r t a b = reading-unique s r t (says-reading s r a) (says-reading s t b)

-- ── What a caller reads off an answer ──

-- the table of an accepted pattern
pub read-accepts : (s : List ℕ) (t : Table) → ReadGives s (Ok t) → (p : Pattern) × (outcome_of s ≡ Accepts p) × (t ≡ table p)
read-accepts s t a = pick (outcome_of s) refl a.gives
  where
    pick : (o : Outcome) → outcome_of s ≡ o → Gives o (Ok t) → (p : Pattern) × (outcome_of s ≡ Accepts p) × (t ≡ table p)
    pick (Accepts p) e g = (p, e, g)
    pick (Refuses n q) e g = absurd g

-- the outcome of a refusal
pub read-refuses : (s : List ℕ) (v : Refusal) → ReadGives s (Err v) → outcome_of s ≡ Refuses (number_of v) (place_of v)
read-refuses s v a = pick (outcome_of s) refl a.gives
  where
    pick : (o : Outcome) → outcome_of s ≡ o → Gives o (Err v) → outcome_of s ≡ Refuses (number_of v) (place_of v)
    pick (Accepts p) e g = absurd g
    pick (Refuses n q) e g = e ∙ ap₂ Refuses (sym g.0) (sym g.1)
