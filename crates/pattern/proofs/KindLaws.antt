-- The list of kinds: what a search in it finds, what is tested of each row by computing, and that a symbol and its kind's row say the same.
-- Assumes nothing.
use Prim.Native.Nat.{ℕ, zero, suc, ◌+◌, ◌≤◌, ◌<◌}
use mathlib.Core.Path.{◌≡◌, refl, sym, ap, subst, ◌∙◌}
use mathlib.Core.Bool.{Bool, true, false, not, cond, ◌&&◌}
use mathlib.Core.List.{List, [], ◌∷◌, ◌++◌}
use lib.Dec.{leb, ltb}
use lib.ListN.{length, get_or, take, drop}
use lib.Seq.{drop-cons}
use borrow.Author.Tests.{leb-true, ltb-true, not-true}
use native.Mathlib.Numerals.{add-one}
use native.Mathlib.Omega.{arith}
use Rattle.pattern.specs.Kinds.{Symbol, Ev, Fr, Or, And, Row, Then, Less, Max, Inside, Outside, Holding, kind_of, numbers, first_of, second_of, third_of, Range, Operands, Fixed, Counted, Kind, from, kinds, no_kind, find, kind_in, row_of, kind_by, field_count, range_at, low, high, operand_count, arity, symbol, rank, AllInRange, Ranged}
use Rattle.pattern.specs.declared.State.TheVariants.{Letters}
use Rattle.pattern.specs.Automaton.{next, step, word_end, Scan, later, go, scan}
use Rattle.basics.proofs.Basics.{cases, and-true}
use Rattle.basics.proofs.Decimals.{Plain}
use Rattle.digits.specs.Chart.{digit}

-- ── A search ──

-- the kind that it finds passes the test
pub find-found : (f : Kind → Bool) (xs : List Kind) → find f xs < length xs → f (get_or xs (find f xs) no_kind) ≡ true
find-found f [] = λ h. absurd (omega arith)
find-found f (x ∷ xs) =
    cases (f x) (λ b. cond b 0 (suc (find f xs)) < suc (length xs) → f (get_or (x ∷ xs) (cond b 0 (suc (find f xs))) no_kind) ≡ true) (λ e h. e) (λ e h. find-found f xs (omega arith))

-- the search of all kinds, resumed from row j on
abbrev pub Sought : (Kind → Bool) → ℕ → Type 0
Sought f j = (j ≤ length kinds) × (find f kinds ≡ j + find f (drop j kinds))

module _ (f : Kind → Bool) where
  at : (j : ℕ) → Sought f j → j < length kinds → find f kinds ≡ j + cond (f (kind_in j)) 0 (suc (find f (drop (suc j) kinds)))
  unfolding kind_in
  at j s h = s.1 ∙ ap (λ (l : List Kind). j + find f l) (drop-cons kinds j no_kind h)

  -- it ends at a row that passes
  pub search-here : (j : ℕ) → Sought f j → j < length kinds → f (kind_in j) ≡ true → j ≡ find f kinds
  search-here j s h e = sym (at j s h ∙ (ap (λ (b : Bool). j + cond b 0 (suc (find f (drop (suc j) kinds)))) e ∙ omega arith))

  -- and goes on at another
  pub search-on : (j : ℕ) → Sought f j → j < length kinds → f (kind_in j) ≡ false → Sought f (j + 1)
  search-on j s h e = (omega arith, at j s h ∙ (ap (λ (b : Bool). j + cond b 0 (suc (find f (drop (suc j) kinds)))) e ∙ (go (find f (drop (suc j) kinds)) ∙ ap (λ (m : ℕ). (j + 1) + find f (drop m kinds)) (sym (add-one j)))))
    where
      go : (n : ℕ) → j + suc n ≡ (j + 1) + n
      go n = omega arith

  -- or past the last
  pub search-end : (j : ℕ) → Sought f j → length kinds ≤ j → length kinds ≡ find f kinds
  search-end j s h = let e : j ≡ length kinds = omega arith in sym (s.1 ∙ ap (λ (m : ℕ). m + find f (drop m kinds)) e)

-- ── Tested in each row ──

-- a test of each
abbrev every : {A : Type 0} → (A → Bool) → List A → Bool
every f [] = true
every f (x ∷ xs) = f x && every f xs

-- and so of any, past the last too if what stands for it passes
every-at : {A : Type 0} (f : A → Bool) (d : A) (xs : List A) → every f xs ≡ true → f d ≡ true → (i : ℕ) → f (get_or xs i d) ≡ true
every-at f d [] h e i = e
every-at f d (x ∷ xs) h e zero = (and-true (f x) (every f xs) h).0
every-at f d (x ∷ xs) h e (suc i) = every-at f d xs (and-true (f x) (every f xs) h).1 e i

-- a range starts at 10 at most, has a number, and ends at 65,535 at most
abbrev sound-range : Range → Bool
sound-range r = leb r.least 10 && (leb r.least r.most && leb r.most 65535)

-- as facts
in_bounds : (r : Range) → sound-range r ≡ true → (r.least ≤ 10) × (r.least ≤ r.most) × (r.most ≤ 65535)
in_bounds r e =
    let p = and-true (leb r.least 10) (leb r.least r.most && leb r.most 65535) e in
    let q = and-true (leb r.least r.most) (leb r.most 65535) p.1 in
    (leb-true r.least 10 p.0, leb-true r.least r.most q.0, leb-true r.most 65535 q.1)

-- a symbol has 31 operands at most
abbrev few-operands : Operands → List Range → Bool
few-operands (Fixed n) rs = leb n 31
few-operands Counted rs = leb (range_at rs 0).most 31

-- each test is passed in each row, and where there is none
tested : (f : Kind → Bool) → every f kinds ≡ true → f no_kind ≡ true → (r : ℕ) → f (kind_in r) ≡ true
unfolding kind_in
tested f h e r = every-at f no_kind kinds h e r

-- every letter comes after the comma
letters : (r : ℕ) → Plain (kind_in r).word
letters r = go (kind_in r).word (tested (λ x. every (λ b. ltb 44 b) x.word) refl refl r)
  where
    go : (w : List ℕ) → every (λ b. ltb 44 b) w ≡ true → Plain w
    go [] h = tt
    go (b ∷ w) h = let t = and-true (ltb 44 b) (every (λ b. ltb 44 b) w) h in (ltb-true 44 b t.0, go w t.1)

-- numbers up to 65,535
abbrev pub Small : List ℕ → Type 0
Small [] = Unit {0}
Small (n ∷ ns) = (n ≤ 65535) × Small ns

module _ (k : ℕ) where
  -- a word has no comma, and starts with no digit
  pub word-plain : Plain (kind_by k).word
  unfolding kind_by
  word-plain = letters (row_of k)

  pub word_first : digit (get_or ((kind_by k).word ++ (44 ∷ [])) 0 0) ≡ false
  unfolding kind_by
  word_first = not-true (digit (get_or ((kind_in (row_of k)).word ++ (44 ∷ [])) 0 0)) (tested (λ x. not (digit (get_or (x.word ++ (44 ∷ [])) 0 0))) refl refl (row_of k))

  -- numbers in range are small
  pub ranged-small : (ns : List ℕ) → AllInRange (kind_by k).ranges ns → Small ns
  unfolding kind_by
  ranged-small ns r = go (kind_in (row_of k)).ranges ns (tested (λ x. every sound-range x.ranges) refl refl (row_of k)) r
    where
      go : (rs : List Range) (ns : List ℕ) → every sound-range rs ≡ true → AllInRange rs ns → Small ns
      go [] [] h r = tt
      go [] (n ∷ ns) h r = absurd r
      go (x ∷ rs) [] h r = tt
      go (x ∷ rs) (n ∷ ns) h r =
          let t = and-true (sound-range x) (every sound-range rs) h in
          (omega (arith, r.0, in_bounds x t.0), go rs ns t.1 r.1)

  -- three numbers at most
  pub few-fields : field_count k ≤ 3
  unfolding kind_by
  few-fields = leb-true (length (kind_in (row_of k)).ranges) 3 (tested (λ x. leb (length x.ranges) 3) refl refl (row_of k))

  pub range-sound : (j : ℕ) → (low k j ≤ 10) × (low k j ≤ high k j) × (high k j ≤ 65535)
  unfolding kind_by
  range-sound j =
      in_bounds (range_at (kind_by k).ranges j) (every-at sound-range (from 0 0) (kind_by k).ranges (tested (λ x. every sound-range x.ranges) refl refl (row_of k)) refl j)

  few-by : few-operands (kind_by k).operands (kind_by k).ranges ≡ true
  unfolding kind_by
  few-by = tested (λ x. few-operands x.operands x.ranges) refl refl (row_of k)

  -- the number of operands is small where the first number is
  pub arity-below : (a : ℕ) → arity k a ≤ a + 31
  arity-below a = go (kind_by k).operands few-by
    where
      go : (o : Operands) → few-operands o (kind_by k).ranges ≡ true → operand_count o a ≤ a + 31
      go (Fixed n) h = omega (arith, leb-true n 31 h)
      go Counted h = omega arith

-- 31 operands at most
pub rank-small : (h : Symbol) → Ranged h → rank h ≤ 31
rank-small h r = go (kind_by (kind_of h)).operands (kind_by (kind_of h)).ranges (numbers h) (few-by (kind_of h)) r
  where
    go : (o : Operands) (rs : List Range) (ns : List ℕ) → few-operands o rs ≡ true → AllInRange rs ns → operand_count o (get_or ns 0 0) ≤ 31
    go (Fixed n) rs ns h a = leb-true n 31 h
    go Counted [] [] h a = omega arith
    go Counted [] (n ∷ ns) h a = absurd a
    go Counted (r ∷ rs) [] h a = absurd a
    go Counted (r ∷ rs) (n ∷ ns) h a = omega (arith, leb-true r.most 31 h, a.0)

-- a word has four letters at most
pub word-short : (r : ℕ) → length (kind_in r).word ≤ 4
word-short r = leb-true (length (kind_in r).word) 4 (tested (λ x. leb (length x.word) 4) refl refl r)

-- no letter of a word is a comma
pub letter-plain : (r i : ℕ) → i < length (kind_in r).word → get_or (kind_in r).word i 44 ≡ 44 → ⊥
letter-plain r = go (kind_in r).word (letters r)
  where
    go : (w : List ℕ) → Plain w → (i : ℕ) → i < length w → get_or w i 44 ≡ 44 → ⊥
    go [] p i h e = absurd (omega arith)
    go (x ∷ w) p zero h e = omega (arith, p.0)
    go (x ∷ w) p (suc i) h e = go w p.1 i (omega arith) e

-- ── A row and its symbols ──

-- the word of a kind's number
abbrev pub word_of : ℕ → List ℕ
word_of k = (kind_by k).word

-- bytes before, inside a symbol
abbrev pub laters : ℕ → Scan → Scan
laters zero x = x
laters (suc m) x = later (laters m x)

-- the symbol that a kind makes has its kind and the numbers that it was made of; a kind without numbers has operands;
-- and the automaton reads the kind's word and the comma after it
pub record Sound (k : ℕ) : Type 0 where
  pub named : (a b c : ℕ) → kind_of (symbol k a b c) ≡ k
  pub numbered : (a b c : ℕ) → numbers (symbol k a b c) ≡ take (field_count k) (a ∷ b ∷ c ∷ [])
  pub some : 1 ≤ field_count k + arity k 0
  pub walk : (n : ℕ) (w : List ℕ) → scan (word_of k ++ (44 ∷ w)) (Letters 0 0 n) ≡ laters (length (word_of k)) (go (scan w) (word_end k n))

-- what holds of a row: its number leads back to it, and is sound
pub record Fair (x : Kind) : Type 0 where
  pub back : kind_by x.number ≡ x
  pub sound : Sound x.number

-- P holds of each
data Each (P : Kind → Type 0) : List Kind → Type 0 where
  none : Each P []
  ◌also◌ : {x : Kind} {xs : List Kind} → P x → Each P xs → Each P (x ∷ xs)

infixr 5 ◌also◌
-- and so of any
each_at : {P : Kind → Type 0} {xs : List Kind} → Each P xs → (r : ℕ) → r < length xs → P (get_or xs r no_kind)
each_at none r h = absurd (omega arith)
each_at (p also ps) zero h = p
each_at (p also ps) (suc r) h = each_at ps r (omega arith)

-- the row of a sound number
by : (k : ℕ) → (kind_by k).number ≡ k → Sound k → Fair (kind_by k)
by k e s = record { back = ap kind_by e; sound = subst Sound (sym e) s }

-- each row is fair, by computing
fair-kinds : Each Fair kinds
unfolding kind_by kind_in row_of next step scan
fair-kinds =
    by 16 refl (record { named = λ a b c. refl; numbered = λ a b c. refl; some = omega arith; walk = λ n w. refl })
    also by 17 refl (record { named = λ a b c. refl; numbered = λ a b c. refl; some = omega arith; walk = λ n w. refl })
    also by 1 refl (record { named = λ a b c. refl; numbered = λ a b c. refl; some = omega arith; walk = λ n w. refl })
    also by 2 refl (record { named = λ a b c. refl; numbered = λ a b c. refl; some = omega arith; walk = λ n w. refl })
    also by 3 refl (record { named = λ a b c. refl; numbered = λ a b c. refl; some = omega arith; walk = λ n w. refl })
    also by 4 refl (record { named = λ a b c. refl; numbered = λ a b c. refl; some = omega arith; walk = λ n w. refl })
    also by 5 refl (record { named = λ a b c. refl; numbered = λ a b c. refl; some = omega arith; walk = λ n w. refl })
    also by 6 refl (record { named = λ a b c. refl; numbered = λ a b c. refl; some = omega arith; walk = λ n w. refl })
    also by 7 refl (record { named = λ a b c. refl; numbered = λ a b c. refl; some = omega arith; walk = λ n w. refl })
    also by 8 refl (record { named = λ a b c. refl; numbered = λ a b c. refl; some = omega arith; walk = λ n w. refl })
    also by 9 refl (record { named = λ a b c. refl; numbered = λ a b c. refl; some = omega arith; walk = λ n w. refl })
    also none

-- and so any
pub fair : (r : ℕ) → r < length kinds → Fair (kind_in r)
unfolding kind_in
fair r h = each_at fair-kinds r h

-- a symbol's kind is sound, and its numbers make it again
pub record Of (h : Symbol) : Type 0 where
  pub sound : Sound (kind_of h)
  pub again : symbol (kind_of h) (first_of h) (second_of h) (third_of h) ≡ h

-- symbol by symbol
pub of : (h : Symbol) → Of h
unfolding kind_in kind_by row_of
of (Ev a b) = record { sound = (fair (row_of 16) (omega arith)).sound; again = refl }
of (Fr a b) = record { sound = (fair (row_of 17) (omega arith)).sound; again = refl }
of (Or a) = record { sound = (fair (row_of 1) (omega arith)).sound; again = refl }
of (And a) = record { sound = (fair (row_of 2) (omega arith)).sound; again = refl }
of (Row a) = record { sound = (fair (row_of 3) (omega arith)).sound; again = refl }
of (Then a) = record { sound = (fair (row_of 4) (omega arith)).sound; again = refl }
of Less = record { sound = (fair (row_of 5) (omega arith)).sound; again = refl }
of (Max a) = record { sound = (fair (row_of 6) (omega arith)).sound; again = refl }
of Inside = record { sound = (fair (row_of 7) (omega arith)).sound; again = refl }
of Outside = record { sound = (fair (row_of 8) (omega arith)).sound; again = refl }
of Holding = record { sound = (fair (row_of 9) (omega arith)).sound; again = refl }
