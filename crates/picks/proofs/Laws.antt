-- Laws of picks: they are answers, no two share a line, each is the shortest of those left, and fewer come only where none is left. Assumes nothing.
use Prim.Native.Nat.{ℕ, zero, suc, ◌+◌, ◌-◌, ◌≤◌, ◌<◌, max}
use mathlib.Core.Path.{◌≡◌, refl, sym, ap, ap₂, ◌∙◌}
use mathlib.Core.Logic.{◌⊎◌, inl, inr}
use mathlib.Core.Bool.{Bool, true, false, cond, ◌&&◌, ◌||◌}
use mathlib.Core.List.{List, [], ◌∷◌}
use lib.Dec.{ltb, eqb}
use lib.ListN.{length, take, drop, length-take, length-drop}
use borrow.Author.Tests.{ltb-true, ltb-false, eqb-true, eq-eqb}
use native.Mathlib.Nat.{zero-add, suc-add}
use native.Mathlib.Omega.{arith}
use Rattle.basics.proofs.Basics.{cases, and-true, or-true, or-false}
use Rattle.stretches.specs.declared.Stretch.{Stretch}
use Rattle.stretches.specs.Stretch.{st, In, keep, length_of}
use Rattle.stretches.specs.Front.{head_of, nth}
use Rattle.stretches.proofs.Lists.{in-keep, keep-keep}
use Rattle.stretches.proofs.Tuples.{in-cast}
use Rattle.picks.specs.Picks.{ahead, shortest, apart, picks_of}
use Rattle.picks.specs.inner.Remaining.{clear, remaining, shortest_of}

-- ── Sharing a line ──

-- line p is one of x
abbrev pub Has : Stretch → ℕ → Type 0
Has x p = (x.start ≤ p) × (p ≤ x.end)

-- stretches that are apart share no line
pub apart-shares-none : (x y : Stretch) → apart x y ≡ true → (p : ℕ) → Has x p → Has y p → ⊥
apart-shares-none x y h p a b = go (or-true (ltb x.end y.start) (ltb y.end x.start) h)
  where
    go : (ltb x.end y.start ≡ true) ⊎ (ltb y.end x.start ≡ true) → ⊥
    go (inl k) = omega (arith, ltb-true x.end y.start k, a, b)
    go (inr k) = omega (arith, ltb-true y.end x.start k, a, b)

-- those that are not share the line where the later one starts
pub shares-line : (x y : Stretch) → x.start ≤ x.end → y.start ≤ y.end → apart x y ≡ false → Has x (max x.start y.start) × Has y (max x.start y.start)
shares-line x y a b h =
    let k = or-false (ltb x.end y.start) (ltb y.end x.start) h in
    let i : y.start ≤ x.end = ltb-false x.end y.start k.0 in
    let j : x.start ≤ y.end = ltb-false y.end x.start k.1 in
    ((omega arith, omega arith), (omega arith, omega arith))

-- ── The shortest of a list ──

-- a below b or, where they are equal, c below d
abbrev below : ℕ → ℕ → ℕ → ℕ → Bool
below a b c d = ltb a b || (eqb a b && ltb c d)

-- a at most b and, where they are equal, c at most d
abbrev UpTo : ℕ → ℕ → ℕ → ℕ → Type 0
UpTo a b c d = (a ≤ b) × (a ≡ b → c ≤ d)

-- what the test says where it holds, and where it fails
module _ (a b c d : ℕ) where
  below_true : below a b c d ≡ true → UpTo a b c d
  below_true h = go (or-true (ltb a b) (eqb a b && ltb c d) h)
    where
      go : (ltb a b ≡ true) ⊎ (eqb a b && ltb c d ≡ true) → UpTo a b c d
      go (inl k) = let i = ltb-true a b k in (omega arith, λ e. omega arith)
      go (inr k) = let p = and-true (eqb a b) (ltb c d) k in let i = eqb-true a b p.0 in let j = ltb-true c d p.1 in (omega arith, λ e. omega arith)

  below_false : below a b c d ≡ false → UpTo b a d c
  below_false h = let p = or-false (ltb a b) (eqb a b && ltb c d) h in (ltb-false a b p.0, λ e. let i = eq-eqb a b (sym e) in ltb-false c d cc)

-- x is no longer than y and, of equal lengths, starts no earlier
abbrev pub Leads : Stretch → Stretch → Type 0
Leads x y = (length_of x ≤ length_of y) × (length_of x ≡ length_of y → y.start ≤ x.start)

-- x leads y, and y leads z, which is [s..e]
leads-trans : (x y z : Stretch) (s e : ℕ) → (s ≡ z.start) × (e ≡ z.end) → Leads x y → Leads y z → Leads x (st s e)
leads-trans x y z s e h p q = (omega arith, λ k. omega (arith, p.1 (omega arith), q.1 (omega arith)))

-- the one ahead of two leads both
ahead-both : (x y : Stretch) → Leads (cond (ahead y x) y x) x × Leads (cond (ahead y x) y x) y
ahead-both x y = cases (ahead y x) (λ b. Leads (cond b y x) x × Leads (cond b y x) y)
    (λ k. (below_true (length_of y) (length_of x) x.start y.start k, (omega arith, λ e. omega arith)))
    (λ k. ((omega arith, λ e. omega arith), below_false (length_of y) (length_of x) x.start y.start k))

-- the shortest is one of the list
pub shortest-in : (x : Stretch) (l : List Stretch) → In (shortest x l).start (shortest x l).end (x ∷ l)
shortest-in x [] = inl (refl, refl)
shortest-in x (y ∷ l) = cases (ahead y x) (λ b. In (shortest (cond b y x) l).start (shortest (cond b y x) l).end (x ∷ y ∷ l))
    (λ k. inr (shortest-in y l)) (λ k. past (shortest-in x l))
  where
    past : {s e : ℕ} → In s e (x ∷ l) → In s e (x ∷ y ∷ l)
    past (inl h) = inl h
    past (inr m) = inr (inr m)

-- it is no longer than any of the list and, of equal lengths, starts no earlier
pub shortest-least : (x : Stretch) (l : List Stretch) (s e : ℕ) → In s e (x ∷ l) → Leads (shortest x l) (st s e)
shortest-least x [] s e (inl h) = (omega arith, λ k. omega arith)
shortest-least x [] s e (inr m) = absurd m
shortest-least x (y ∷ l) s e (inl h) = let z = cond (ahead y x) y x in leads-trans (shortest z l) z x s e h (shortest-least z l _ _ (inl (refl, refl))) (ahead-both x y).0
shortest-least x (y ∷ l) s e (inr (inl h)) = let z = cond (ahead y x) y x in leads-trans (shortest z l) z y s e h (shortest-least z l _ _ (inl (refl, refl))) (ahead-both x y).1
shortest-least x (y ∷ l) s e (inr (inr m)) = shortest-least (cond (ahead y x) y x) l s e (inr m)

-- ── Picks ──

-- before the first pick all remain
remaining-all : (l : List Stretch) → remaining [] l ≡ l
remaining-all [] = refl
remaining-all (x ∷ l) = ap (λ (m : List Stretch). x ∷ m) (remaining-all l)

-- of none, none are picked
picks-none : (k : ℕ) → picks_of k [] ≡ []
unfolding picks_of
picks-none zero = refl
picks-none (suc k) = refl

-- picks are answers
pub picks-answers : (k : ℕ) (l : List Stretch) (s e : ℕ) → In s e (picks_of k l) → In s e l
unfolding picks_of
picks-answers zero l s e m = absurd m
picks-answers (suc k) [] s e m = m
picks-answers (suc k) (x ∷ l) s e (inl h) = in-cast (x ∷ l) _ _ s e h.0 h.1 (shortest-in x l)
picks-answers (suc k) (x ∷ l) s e (inr m) = (in-keep (apart (shortest x l)) (x ∷ l) s e (picks-answers k (keep (apart (shortest x l)) (x ∷ l)) s e m)).0

-- each of the list is apart from every later one
abbrev pub Apart : List Stretch → Type 0
Apart [] = Unit {0}
Apart (x ∷ xs) = ((s e : ℕ) → In s e xs → apart x (st s e) ≡ true) × Apart xs

-- no two picks share a line
pub picks-apart : (k : ℕ) (l : List Stretch) → Apart (picks_of k l)
unfolding picks_of
picks-apart zero l = tt
picks-apart (suc k) [] = tt
picks-apart (suc k) (x ∷ l) =
    let r : List Stretch = keep (apart (shortest x l)) (x ∷ l) in
    (λ s e m. (in-keep (apart (shortest x l)) (x ∷ l) s e (picks-answers k r s e m)).1, picks-apart k r)

-- after the first n picks it goes on with what remains
picks-go-on : (n k : ℕ) (l : List Stretch) → drop n (picks_of (n + k) l) ≡ picks_of k (remaining (picks_of n l) l)
unfolding picks_of
picks-go-on zero k l = ap₂ picks_of (zero-add k) (sym (remaining-all l))
picks-go-on (suc n) k [] = ap (λ (j : ℕ). drop (suc n) (picks_of j [])) (suc-add n k) ∙ sym (picks-none k)
picks-go-on (suc n) k (x ∷ l) =
    let p : Stretch = shortest x l in
    let r : List Stretch = keep (apart p) (x ∷ l) in
    ap (λ (j : ℕ). drop (suc n) (picks_of j (x ∷ l))) (suc-add n k) ∙ (picks-go-on n k r ∙ ap (picks_of k) (keep-keep (apart p) (clear (picks_of n r)) (x ∷ l)))

-- the first pick is the shortest
first-pick : (k : ℕ) (l : List Stretch) → head_of (picks_of (suc k) l) ≡ shortest_of l
unfolding picks_of
first-pick k [] = refl
first-pick k (x ∷ l) = refl

-- pick number n, the first being 0, is the shortest of what remains after those before it
pub pick-number : (n k : ℕ) (l : List Stretch) → n < k → nth (picks_of k l) n ≡ shortest_of (remaining (picks_of n l) l)
pick-number n k l h =
    let z : k ≡ n + suc (k - suc n) = omega arith in
    ap (λ (j : ℕ). nth (picks_of j l) n) z ∙ (ap head_of (picks-go-on n (suc (k - suc n)) l) ∙ first-pick (k - suc n) (remaining (picks_of n l) l))

-- the first n picks do not depend on how many are asked for
pub picks-take : (n k : ℕ) (l : List Stretch) → n ≤ k → take n (picks_of k l) ≡ picks_of n l
unfolding picks_of
picks-take zero k l h = refl
picks-take (suc n) zero l h = absurd (omega arith)
picks-take (suc n) (suc k) [] h = refl
picks-take (suc n) (suc k) (x ∷ l) h = ap (λ (m : List Stretch). shortest x l ∷ m) (picks-take n k (keep (apart (shortest x l)) (x ∷ l)) (omega arith))

-- at most k are picked
pub picks-most : (k : ℕ) (l : List Stretch) → length (picks_of k l) ≤ k
picks-most k l = omega (arith, length-take k (picks_of k l), ap length (picks-take k k l (omega arith)))

-- ── Fewer than k ──

-- past the first m, pick m + 1 is the first of what remains
one_more : (m : ℕ) (l : List Stretch) → length (picks_of (suc m) l) - m ≡ length (picks_of 1 (remaining (picks_of m l) l))
one_more m l =
    let z : suc m ≡ m + 1 = omega arith in
    ap (λ (j : ℕ). length (picks_of j l) - m) z ∙ (sym (length-drop m (picks_of (m + 1) l)) ∙ ap length (picks-go-on m 1 l))

-- where none remains after m picks, fewer than m + 1 come
pub picks-few : (m : ℕ) (l : List Stretch) → remaining (picks_of m l) l ≡ [] → length (picks_of (suc m) l) < suc m
picks-few m l e = omega (arith, one_more m l, ap length (ap (picks_of 1) e ∙ picks-none 1))

-- and only there
pub few-none : (m : ℕ) (l : List Stretch) → length (picks_of (suc m) l) < suc m → remaining (picks_of m l) l ≡ []
unfolding picks_of
few-none m l h = go (remaining (picks_of m l) l) (one_more m l)
  where
    go : (r : List Stretch) → length (picks_of (suc m) l) - m ≡ length (picks_of 1 r) → r ≡ []
    go [] e = refl
    go (x ∷ r) e = absurd (omega arith)
