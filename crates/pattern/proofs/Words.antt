-- The letters of words: what has been read of a row's word, and how it goes on.
-- Assumes nothing.
use Prim.Native.Nat.{ℕ, zero, suc, ◌+◌, ◌≤◌, ◌<◌}
use mathlib.Core.Path.{◌≡◌, refl, sym, ap, ap₂, ◌∙◌}
use mathlib.Core.Bool.{Bool, true, false}
use mathlib.Core.Logic.{◌⊎◌, inl, inr}
use mathlib.Core.List.{List, [], ◌∷◌, ◌++◌}
use lib.Dec.{eqb}
use lib.ListN.{length, take, drop, take-append-drop}
use lib.Seq.{take-suc, take_all}
use borrow.Author.Tests.{eqb-true, eq-eqb}
use native.Mathlib.Numerals.{add-one}
use borrow.Author.Count.{below_more}
use native.Mathlib.Omega.{arith}
use Rattle.pattern.specs.Kinds.{Kind, kinds, kind_in, kind_by}
use Rattle.pattern.specs.Automaton.{letter_at, alike, continues, next}
use Rattle.std.specs.Prelude.{IsTrue, ◌↔◌}
use Rattle.basics.proofs.Basics.{and-true, true-and, le-or-lt, get_d_past}
use Rattle.pattern.proofs.KindLaws.{find-found, letter-plain, word_of, fair}

-- the first m letters of a row's word
unfoldable pub path : ℕ → ℕ → List ℕ
path r m = take m (kind_in r).word

-- the letters that may follow
abbrev pub onward : ℕ → ℕ → List ℕ
onward r m = drop m (kind_in r).word

-- together they are the word
pub path-onward : (r m : ℕ) → r < length kinds → path r m ++ onward r m ≡ word_of (kind_in r).number
unfolding path
path-onward r m h = take-append-drop m (kind_in r).word ∙ ap (λ (x : Kind). x.word) (sym (fair r h).back)

-- one letter more of two words
one_more : (r m : ℕ) (w : List ℕ) → m < length (kind_in r).word → take m (kind_in r).word ≡ take m w → letter_at (kind_in r).word m ≡ letter_at w m → (length w ≤ m) ⊎ (m < length w)
    → (suc m ≤ length w) × (take (suc m) (kind_in r).word ≡ take (suc m) w)
one_more r m w h t e (inl l) = absurd (letter-plain r m h (e ∙ get_d_past w m 44 l))
one_more r m w h t e (inr l) = (omega arith, take-suc (kind_in r).word m 44 h ∙ (ap₂ (λ (x : List ℕ) (y : ℕ). x ++ (y ∷ [])) t e ∙ sym (take-suc w m 44 l)))

-- words that agree in m letters of one
alike-take : (r m : ℕ) (w : List ℕ) → m ≤ length (kind_in r).word → alike m (kind_in r).word w ≡ true → (m ≤ length w) × (take m (kind_in r).word ≡ take m w)
alike-take r zero w h e = (omega arith, refl)
alike-take r (suc m) w h e =
    let p = and-true (alike m (kind_in r).word w) (eqb (letter_at (kind_in r).word m) (letter_at w m)) e in
    one_more r m w (omega arith) (alike-take r m w (omega arith) p.0).1 (eqb-true (letter_at (kind_in r).word m) (letter_at w m) p.1) (le-or-lt (length w) m)

-- and such words agree in each of them
alike-letters : (m : ℕ) (v w : List ℕ) → alike m v w ≡ true → (i : ℕ) → i < m → letter_at v i ≡ letter_at w i
alike-letters zero v w e = λ i h. absurd (omega arith)
alike-letters (suc m) v w e =
    let p = and-true (alike m v w) (eqb (letter_at v m) (letter_at w m)) e in
    λ i h. below_more (λ i. letter_at v i ≡ letter_at w i) m (alike-letters m v w p.0) (eqb-true (letter_at v m) (letter_at w m) p.1) i (omega arith)

letters-alike : (m : ℕ) (v w : List ℕ) → ((i : ℕ) → i < m → letter_at v i ≡ letter_at w i) → alike m v w ≡ true
letters-alike zero v w f = refl
letters-alike (suc m) v w f = true-and (alike m v w) (eqb (letter_at v m) (letter_at w m)) (letters-alike m v w (λ i h. f i (omega arith))) (eq-eqb (letter_at v m) (letter_at w m) (f m (omega arith)))

-- so a test of each letter is a test of the words
pub alike-is : (b : Bool) (m : ℕ) (v w : List ℕ) → (IsTrue b ↔ ((i : ℕ) → i < m → letter_at v i ≡ letter_at w i)) → b ≡ alike m v w
alike-is b m v w h = same b (alike m v w) (λ e. letters-alike m v w (h.0 e)) (λ e. h.1 (alike-letters m v w e))
  where
    same : (b c : Bool) → (b ≡ true → c ≡ true) → (c ≡ true → b ≡ true) → b ≡ c
    same true c f g = sym (f refl)
    same false true f g = g refl
    same false false f g = refl

-- the row that a byte leads to
record Led (r m b j : ℕ) : Type 0 where
  short : m ≤ length (kind_in j).word
  same : take m (kind_in r).word ≡ take m (kind_in j).word
  then : letter_at (kind_in j).word m ≡ b

-- its word has the letters read, and then the byte
led : (r m b : ℕ) → m ≤ length (kind_in r).word → next r m b < length kinds → Led r m b (next r m b)
unfolding next kind_in
led r m b h l =
    let j : ℕ = next r m b in
    let p = and-true (alike m (kind_in r).word (kind_in j).word) (eqb (letter_at (kind_in j).word m) b) (find-found (continues (kind_in r).word m b) kinds l) in
    let t = alike-take r m (kind_in j).word h p.0 in
    record { short = t.0; same = t.1; then = eqb-true (letter_at (kind_in j).word m) b p.1 }

-- a letter more has been read
pub record Grown (r m b j : ℕ) : Type 0 where
  pub short : m + 1 ≤ length (kind_in j).word
  pub grown : path j (m + 1) ≡ path r m ++ (b ∷ [])

-- after a letter
pub letter-grown : (r m b : ℕ) → m ≤ length (kind_in r).word → next r m b < length kinds → (b ≡ 44 → ⊥) → Grown r m b (next r m b)
unfolding path
letter-grown r m b h l n = go (next r m b) (led r m b h l)
  where
    go : (j : ℕ) → Led r m b j → Grown r m b j
    go j d = pick (le-or-lt (length (kind_in j).word) m)
      where
        pick : (length (kind_in j).word ≤ m) ⊎ (m < length (kind_in j).word) → Grown r m b j
        pick (inl k) = absurd (n (sym d.then ∙ get_d_past (kind_in j).word m 44 k))
        pick (inr k) = record {
          short = omega arith;
          grown = ap (λ (x : ℕ). take x (kind_in j).word) (add-one m) ∙ (take-suc (kind_in j).word m 44 k ∙ ap₂ (λ (x : List ℕ) (y : ℕ). x ++ (y ∷ [])) (sym d.same) d.then);
        }

-- a comma comes after a whole word
pub word-ended : (r m b : ℕ) → m ≤ length (kind_in r).word → next r m b < length kinds → b ≡ 44 → path r m ≡ word_of (kind_in (next r m b)).number
unfolding path
word-ended r m b h l q = go (next r m b) (led r m b h l) (fair (next r m b) l).back
  where
    go : (j : ℕ) → Led r m b j → kind_by (kind_in j).number ≡ kind_in j → take m (kind_in r).word ≡ word_of (kind_in j).number
    go j d e = pick (le-or-lt (length (kind_in j).word) m)
      where
        pick : (length (kind_in j).word ≤ m) ⊎ (m < length (kind_in j).word) → take m (kind_in r).word ≡ word_of (kind_in j).number
        pick (inl k) = d.same ∙ (take_all m (kind_in j).word k ∙ ap (λ (x : Kind). x.word) (sym e))
        pick (inr k) = absurd (letter-plain j m k (d.then ∙ q))
