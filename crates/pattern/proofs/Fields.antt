-- The fields of a symbol by its kind's number: spelling, ranges, and that each goes on to a symbol; by the field's place, 0, 1 or 2.
-- Assumes nothing.
use Prim.Native.Nat.{ℕ, zero, suc, ◌+◌, ◌≤◌, ◌<◌}
use mathlib.Core.Path.{◌≡◌, refl, sym, ap, ap₂, ◌∙◌}
use mathlib.Core.Bool.{cond}
use mathlib.Core.List.{List, [], ◌∷◌, ◌++◌, append-nil, append_assoc}
use lib.Dec.{eqb}
use lib.ListN.{length, get_or, take}
use borrow.Author.Tests.{eqb-false}
use native.Mathlib.Omega.{arith}
use Rattle.basics.specs.Decimal.{decimal}
use Rattle.pattern.specs.Kinds.{Symbol, kind_of, numbers, first_of, second_of, third_of, Range, kind_by, field_count, range_at, low, high, arity, symbol, rank, InRange, AllInRange, Ranged}
use Rattle.pattern.specs.Pattern.{listed, spell_symbol}
use Rattle.pattern.specs.Automaton.{first_field, second_field, third_field}
use Rattle.basics.proofs.Basics.{cases}
use Rattle.pattern.proofs.KindLaws.{few-fields, range-sound, word_of, Sound}

-- a law of places below one, two and three
one : (P : ℕ → Type 0) → P 0 → (j : ℕ) → j < 1 → P j
one P p zero h = p
one P p (suc j) h = absurd (omega arith)

two : (P : ℕ → Type 0) → P 0 → P 1 → (j : ℕ) → j < 2 → P j
two P p q zero h = p
two P p q (suc j) h = one (λ i. P (suc i)) q j (omega arith)

pub three : (P : ℕ → Type 0) → P 0 → P 1 → P 2 → (j : ℕ) → j < 3 → P j
three P p q r zero h = p
three P p q r (suc j) h = two (λ i. P (suc i)) q r j (omega arith)

-- ── Numbers in their ranges, place by place ──

-- as many numbers as ranges
pub ranged-length : (rs : List Range) (ns : List ℕ) → AllInRange rs ns → length ns ≡ length rs
ranged-length [] [] a = refl
ranged-length [] (n ∷ ns) a = absurd a
ranged-length (r ∷ rs) [] a = absurd a
ranged-length (r ∷ rs) (n ∷ ns) a = ap suc (ranged-length rs ns a.1)

-- each in its own
pub ranged-at : (rs : List Range) (ns : List ℕ) → AllInRange rs ns → (i : ℕ) → i < length rs → InRange (range_at rs i).least (range_at rs i).most (get_or ns i 0)
ranged-at [] ns a i h = absurd (omega arith)
ranged-at (r ∷ rs) [] a i h = absurd a
ranged-at (r ∷ rs) (n ∷ ns) a zero h = a.0
ranged-at (r ∷ rs) (n ∷ ns) a (suc i) h = ranged-at rs ns a.1 i (omega arith)

-- and only then
at-ranged : (rs : List Range) (ns : List ℕ) → length ns ≡ length rs → ((i : ℕ) → i < length rs → InRange (range_at rs i).least (range_at rs i).most (get_or ns i 0)) → AllInRange rs ns
at-ranged [] [] e f = tt
at-ranged [] (n ∷ ns) e f = absurd (omega arith)
at-ranged (r ∷ rs) [] e f = absurd (omega arith)
at-ranged (r ∷ rs) (n ∷ ns) e f = (f 0 (omega arith), at-ranged rs ns (omega arith) (λ i h. f (suc i) (omega arith)))

-- ── A symbol by its kind and numbers ──

-- the numbers of a symbol are those that it was made of
pub record Named (k a b c : ℕ) : Type 0 where
  pub kind : kind_of (symbol k a b c) ≡ k
  pub one : first_of (symbol k a b c) ≡ a
  pub two : second_of (symbol k a b c) ≡ b
  pub three : third_of (symbol k a b c) ≡ c

-- a whole symbol, by its kind and numbers
pub record Made (k a b c : ℕ) : Type 0 where
  pub ranged : Ranged (symbol k a b c)
  pub named : Named k a b c

-- what stands between the word and a field: the numbers before it, each with a comma behind
abbrev pub earlier : ℕ → ℕ → ℕ → List ℕ
earlier zero a b = []
earlier (suc zero) a b = decimal a ++ (44 ∷ [])
earlier (suc (suc j)) a b = decimal a ++ (44 ∷ (decimal b ++ (44 ∷ [])))

-- the symbol up to a field
unfoldable pub lead : ℕ → ℕ → ℕ → ℕ → List ℕ
lead k j a b = word_of k ++ (44 ∷ earlier j a b)

-- the numbers before a field are in their ranges
abbrev pub Earlier : ℕ → ℕ → ℕ → ℕ → Type 0
Earlier k j a b = (i : ℕ) → i < j → InRange (low k i) (high k i) (get_or (a ∷ b ∷ []) i 0)

-- so a symbol's first number is small
pub first_small : (k j a b v : ℕ) → Earlier k j a b → v ≤ 65535 → first_field j a v ≤ 65535
first_small k j a b v e h = cases (eqb j 0) (λ t. cond t v a ≤ 65535) (λ q. h) (λ q. let n = eqb-false j 0 q in omega (arith, e 0 (omega arith), range-sound k 0))

-- a symbol that starts with the field
pub record Goes (k j a b v : ℕ) : Type 0 where
  pub rest : List ℕ
  pub whole : Symbol
  pub ranged : Ranged whole
  pub spelt : lead k j a b ++ (decimal v ++ rest) ≡ spell_symbol whole

-- a symbol that starts with the word
pub record WordGoes (k : ℕ) : Type 0 where
  pub rest : List ℕ
  pub whole : Symbol
  pub ranged : Ranged whole
  pub spelt : word_of k ++ rest ≡ spell_symbol whole

module _ (k : ℕ) (s : Sound k) where
  spelt : (a b c n : ℕ) → field_count k ≡ n → word_of k ++ listed (take n (a ∷ b ∷ c ∷ [])) ≡ spell_symbol (symbol k a b c)
  unfolding spell_symbol
  spelt a b c n e = sym (ap₂ (λ (x : ℕ) (l : List ℕ). word_of x ++ listed l) (s.named a b c) (s.numbered a b c ∙ ap (λ (m : ℕ). take m (a ∷ b ∷ c ∷ [])) e))

  ranged : (a b c n : ℕ) → field_count k ≡ n → AllInRange (kind_by k).ranges (take n (a ∷ b ∷ c ∷ [])) → Ranged (symbol k a b c)
  ranged a b c n e r = rw (s.named a b c, s.numbered a b c, e) r

  -- a number of operands is its symbol's
  pub rank-arity : (a b c : ℕ) → Named k a b c → rank (symbol k a b c) ≡ arity k a
  rank-arity a b c m = ap₂ arity m.kind m.one

  named-of : (a b c n : ℕ) → field_count k ≡ n → get_or (take n (a ∷ b ∷ c ∷ [])) 0 0 ≡ a → get_or (take n (a ∷ b ∷ c ∷ [])) 1 0 ≡ b → get_or (take n (a ∷ b ∷ c ∷ [])) 2 0 ≡ c → Named k a b c
  named-of a b c n e p q r =
      let l : numbers (symbol k a b c) ≡ take n (a ∷ b ∷ c ∷ []) = s.numbered a b c ∙ ap (λ (m : ℕ). take m (a ∷ b ∷ c ∷ [])) e in
      record { kind = s.named a b c; one = ap (λ (l : List ℕ). get_or l 0 0) l ∙ p; two = ap (λ (l : List ℕ). get_or l 1 0) l ∙ q; three = ap (λ (l : List ℕ). get_or l 2 0) l ∙ r }

  -- a symbol with no numbers
  pub bare-spelt : field_count k ≡ 0 → word_of k ≡ spell_symbol (symbol k 0 0 0)
  bare-spelt e = sym (append-nil (word_of k)) ∙ spelt 0 0 0 0 e

  pub bare : field_count k ≡ 0 → Made k 0 0 0
  bare e = record { ranged = ranged 0 0 0 0 e (at-ranged (kind_by k).ranges [] (sym e) (λ i h. absurd (omega arith))); named = named-of 0 0 0 0 e refl refl refl }

  module _ (a b v j : ℕ) where
    -- its numbers after the last field
    abbrev after_last : ℕ → List ℕ
    after_last j = first_field j a v ∷ second_field j b v ∷ third_field j v ∷ []

    pub spelt-last : field_count k ≡ j + 1 → lead k j a b ++ decimal v ≡ spell_symbol (symbol k (first_field j a v) (second_field j b v) (third_field j v))
    unfolding lead
    spelt-last e =
        three (λ j. lead k j a b ++ decimal v ≡ word_of k ++ listed (take (j + 1) (after_last j))) (simp (append_assoc, append-nil)) (simp (append_assoc, append-nil)) (simp (append_assoc, append-nil)) j (omega (arith, few-fields k))
        ∙ spelt (first_field j a v) (second_field j b v) (third_field j v) (j + 1) e

    pub lead-next : j + 1 < field_count k → lead k (j + 1) (first_field j a v) (second_field j b v) ≡ (lead k j a b ++ decimal v) ++ (44 ∷ [])
    unfolding lead
    lead-next h = two (λ j. lead k (j + 1) (first_field j a v) (second_field j b v) ≡ (lead k j a b ++ decimal v) ++ (44 ∷ [])) (simp append_assoc) (simp append_assoc) j (omega (arith, few-fields k))

    pub made-last : field_count k ≡ j + 1 → Earlier k j a b → InRange (low k j) (high k j) v → Made k (first_field j a v) (second_field j b v) (third_field j v)
    made-last e f r =
        let h : j < 3 = omega (arith, few-fields k) in
        record {
          ranged = ranged (first_field j a v) (second_field j b v) (third_field j v) (j + 1) e
              (three (λ j. field_count k ≡ j + 1 → Earlier k j a b → InRange (low k j) (high k j) v → AllInRange (kind_by k).ranges (take (j + 1) (after_last j)))
              (λ e f r. at-ranged (kind_by k).ranges (v ∷ []) (sym e) (λ i h. one (In (v ∷ [])) r i (omega arith)))
              (λ e f r. at-ranged (kind_by k).ranges (a ∷ v ∷ []) (sym e) (λ i h. two (In (a ∷ v ∷ [])) (f 0 (omega arith)) r i (omega arith)))
              (λ e f r. at-ranged (kind_by k).ranges (a ∷ b ∷ v ∷ []) (sym e) (λ i h. three (In (a ∷ b ∷ v ∷ [])) (f 0 (omega arith)) (f 1 (omega arith)) r i (omega arith))) j h e f r);
          named = named-of (first_field j a v) (second_field j b v) (third_field j v) (j + 1) e
              (three (λ j. get_or (take (j + 1) (after_last j)) 0 0 ≡ first_field j a v) refl refl refl j h)
              (three (λ j. get_or (take (j + 1) (after_last j)) 1 0 ≡ second_field j b v) refl refl refl j h)
              (three (λ j. get_or (take (j + 1) (after_last j)) 2 0 ≡ third_field j v) refl refl refl j h);
        }
      where
        In : List ℕ → ℕ → Type 0
        In ns i = InRange (low k i) (high k i) (get_or ns i 0)

    -- a number in range may stand before the next field
    pub earlier-next : j + 1 < field_count k → Earlier k j a b → InRange (low k j) (high k j) v → Earlier k (j + 1) (first_field j a v) (second_field j b v)
    earlier-next h =
        two (λ j. Earlier k j a b → InRange (low k j) (high k j) v → Earlier k (j + 1) (first_field j a v) (second_field j b v))
        (λ e r. one (λ i. InRange (low k i) (high k i) (get_or (v ∷ 0 ∷ []) i 0)) r) (λ e r. two (λ i. InRange (low k i) (high k i) (get_or (a ∷ v ∷ []) i 0)) (e 0 (omega arith)) r)
        j (omega (arith, few-fields k))

  -- a field in its range goes on to a symbol: by the least numbers of the m fields behind it
  pub goes : (m a b v j : ℕ) → field_count k ≡ j + 1 + m → Earlier k j a b → InRange (low k j) (high k j) v → Goes k j a b v
  goes zero a b v j e f r =
      let z : field_count k ≡ j + 1 = omega arith in
      record { rest = []; whole = symbol k (first_field j a v) (second_field j b v) (third_field j v); ranged = (made-last a b v j z f r).ranged; spelt = ap (λ (x : List ℕ). lead k j a b ++ x) (append-nil (decimal v)) ∙ spelt-last a b v j z }
  goes (suc m) a b v j e f r =
      let h : j + 1 < field_count k = omega arith in
      let x : ℕ = low k (j + 1) in
      let g = goes m (first_field j a v) (second_field j b v) x (j + 1) (omega arith) (earlier-next a b v j h f r) (omega arith, (range-sound k (j + 1)).1) in
      record {
        rest = 44 ∷ (decimal x ++ g.rest);
        whole = g.whole;
        ranged = g.ranged;
        spelt = simp append_assoc at (ap (λ (y : List ℕ). y ++ (decimal x ++ g.rest)) (sym (lead-next a b v j h)) ∙ g.spelt);
      }

  -- so does a word
  pub word-goes : WordGoes k
  unfolding lead
  word-goes = pick (field_count k) refl
    where
      pick : (n : ℕ) → field_count k ≡ n → WordGoes k
      pick zero e = record { rest = []; whole = symbol k 0 0 0; ranged = (bare e).ranged; spelt = append-nil (word_of k) ∙ bare-spelt e }
      pick (suc n) e =
          let g = goes n 0 0 (low k 0) 0 (omega arith) (λ i h. absurd (omega arith)) (omega arith, (range-sound k 0).1) in
          record { rest = 44 ∷ (decimal (low k 0) ++ g.rest); whole = g.whole; ranged = g.ranged; spelt = simp append_assoc at g.spelt }
