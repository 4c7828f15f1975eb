-- The span of the tops: it is a candidate of and, starts with the top, and no candidate of what is left ends before it.
-- Assumes nothing.
use Prim.Native.Nat.{ℕ, suc, ◌≤◌, ◌<◌, min, max}
use mathlib.Core.Path.{◌≡◌, refl, sym, ap, subst}
use mathlib.Core.Logic.{◌⊎◌, inl, inr}
use mathlib.Core.Bool.{cond}
use mathlib.Core.List.{List, [], ◌∷◌, map}
use native.Mathlib.Omega.{arith}
use Rattle.stretches.specs.Stretch.{Stretch, st, In, Rising, AllRising, low, high, linked, anyhow}
use Rattle.stretches.specs.Front.{Front, None, Some}
use Rattle.stretches.specs.Taking.{Order, starts_first, leads, top, join, span}
use Rattle.basics.proofs.Basics.{cases, le-or-lt}
use Rattle.stretches.proofs.Tuples.{InAny, Picks, Span, in-append, append_right}
use Rattle.stretches.proofs.Answers.{rising-mono-end}
use Rattle.stretches.proofs.Fronts.{From, To, low-from, from_low, linked-anyhow}
use Rattle.stretches.proofs.Orders.{starts-ordering, starts-true}
use Rattle.stretches.proofs.TakingQueue.{Part, part, done, left, whole, front, Parted, parted-rising, top_in, top_least}

-- ── The span of the tops ──

-- the span ends no earlier than the top
pub span-ends : (o : Order) (fs : List Front) (x y : Stretch) → span fs ≡ Some x → top o fs ≡ Some y → y.end ≤ x.end
span-ends o [] x y h k = let z : ◌≡◌ {A = ℕ} 0 1 = cc in absurd (omega arith)
span-ends o (None ∷ []) x y h k = let z : ◌≡◌ {A = ℕ} 0 1 = cc in absurd (omega arith)
span-ends o (Some v ∷ []) x y h k = let e : y ≡ x = cc in omega (arith, ap (λ (z : Stretch). z.end) e)
span-ends o (None ∷ (g ∷ fs)) x y h k = let z : ◌≡◌ {A = ℕ} 0 1 = cc in absurd (omega arith)
span-ends o (Some v ∷ (g ∷ fs)) x y h k = go (span (g ∷ fs)) (top o (g ∷ fs)) (span-ends o (g ∷ fs)) h k
  where
    go : (f t : Front) → ((x y : Stretch) → f ≡ Some x → t ≡ Some y → y.end ≤ x.end) → join (Some v) f ≡ Some x → cond (leads o (Some v) t) (Some v) t ≡ Some y → y.end ≤ x.end
    go None t i h k = let z : ◌≡◌ {A = ℕ} 0 1 = cc in absurd (omega arith)
    go (Some a) None i h k =
        let e : st (min v.start a.start) (max v.end a.end) ≡ x = cc in
        let e' : v ≡ y = cc in
        omega (arith, ap (λ (z : Stretch). z.end) e, ap (λ (z : Stretch). z.end) e')
    go (Some a) (Some b) i h k =
        let e : st (min v.start a.start) (max v.end a.end) ≡ x = cc in
        cases (o v b) (λ c. cond c (Some v) (Some b) ≡ Some y → y.end ≤ x.end)
        (λ _ k. let e' : v ≡ y = cc in omega (arith, ap (λ (z : Stretch). z.end) e, ap (λ (z : Stretch). z.end) e'))
        (λ _ k. let e' : b ≡ y = cc in omega (arith, ap (λ (z : Stretch). z.end) e, ap (λ (z : Stretch). z.end) e', i a b refl refl)) k

-- it is the span of a tuple of what is left, and nothing left starts before it
pub record Spans (zs : List Part) (x : Stretch) : Type 0 where
  first : Stretch
  rest : List Stretch
  picks : Picks (first ∷ rest) (map left zs)
  starts : x.start ≡ low first rest
  ends : x.end ≡ high first rest
  pub under : (s e : ℕ) → InAny s e (map left zs) → x.start ≤ s

head-least : (y : Stretch) (q : List Stretch) → Rising (y ∷ q) → (s e : ℕ) → In s e (y ∷ q) → (y.start ≤ s) × (y.end ≤ e)
head-least y q r s e (inl h) = (omega arith, omega arith)
head-least y q r s e (inr m) = let k = r.0 s e m in (omega arith, omega arith)

span-spans : (zs : List Part) → AllRising (map left zs) → (x : Stretch) → span (map front zs) ≡ Some x → Spans zs x
span-spans [] r x h = let z : ◌≡◌ {A = ℕ} 0 1 = cc in absurd (omega arith)
span-spans (part d [] ∷ []) r x h = let z : ◌≡◌ {A = ℕ} 0 1 = cc in absurd (omega arith)
span-spans (part d [] ∷ (w ∷ zs)) r x h = let z : ◌≡◌ {A = ℕ} 0 1 = cc in absurd (omega arith)
span-spans (part d (y ∷ q) ∷ []) r x h = let e : y ≡ x = cc in subst (Spans (part d (y ∷ q) ∷ [])) e (record { first = y; rest = []; picks = (inl (refl, refl), tt); starts = refl; ends = refl; under = under })
  where
    under : (s e : ℕ) → InAny s e ((y ∷ q) ∷ []) → y.start ≤ s
    under s e (inl m) = (head-least y q r.0 s e m).0
    under s e (inr m) = absurd m
span-spans (part d (y ∷ q) ∷ (w ∷ zs)) r x h = go (span (map front (w ∷ zs))) (span-spans (w ∷ zs) r.1) h
  where
    go : (g : Front) → ((x : Stretch) → g ≡ Some x → Spans (w ∷ zs) x) → join (Some y) g ≡ Some x → Spans (part d (y ∷ q) ∷ (w ∷ zs)) x
    go None f h = let z : ◌≡◌ {A = ℕ} 0 1 = cc in absurd (omega arith)
    go (Some v) f h =
        let k = f v refl in
        let e : st (min y.start v.start) (max y.end v.end) ≡ x = cc in
        subst (Spans (part d (y ∷ q) ∷ (w ∷ zs))) e (record {
          first = y;
          rest = k.first ∷ k.rest;
          picks = (inl (refl, refl), k.picks);
          starts = ap (min y.start) k.starts;
          ends = ap (max y.end) k.ends;
          under = under k;
        })
      where
        under : Spans (w ∷ zs) v → (s e : ℕ) → InAny s e ((y ∷ q) ∷ map left (w ∷ zs)) → min y.start v.start ≤ s
        under k s e (inl m) = omega (arith, (head-least y q r.0 s e m).0)
        under k s e (inr m) = omega (arith, k.under s e m)

-- where a tuple of what is left is, the tops have a span, and it ends no later
span-under : (zs : List Part) → AllRising (map left zs) → (a : Stretch) (u : List Stretch) → Picks (a ∷ u) (map left zs) → (x : Stretch) × (span (map front zs) ≡ Some x) × (x.end ≤ high a u)
span-under [] r a u p = absurd p
span-under (part d [] ∷ zs) r a u p = absurd p.0
span-under (part d (y ∷ q) ∷ []) r a [] p = (y, refl, (head-least y q r.0 a.start a.end p.0).1)
span-under (part d (y ∷ q) ∷ []) r a (b ∷ u) p = absurd p.1
span-under (part d (y ∷ q) ∷ (w ∷ zs)) r a [] p = absurd p.1
span-under (part d (y ∷ q) ∷ (w ∷ zs)) r a (b ∷ u) p =
    let k = span-under (w ∷ zs) r.1 b u p.1 in
    let i = (head-least y q r.0 a.start a.end p.0).1 in
    (st (min y.start k.0.start) (max y.end k.0.end), ap (join (Some y)) k.1, omega (arith, k.2))

-- ── Tuples of the lists, and of what is left ──

picks-left : (p : ℕ) (zs : List Part) (u : List Stretch) → ((s e : ℕ) → InAny s e (map done zs) → s < p) → From p u → Picks u (map whole zs) → Picks u (map left zs)
picks-left p [] [] f g h = tt
picks-left p [] (a ∷ u) f g h = h
picks-left p (part d q ∷ zs) [] f g h = h
picks-left p (part d q ∷ zs) (a ∷ u) f g h = (go (in-append d q a.start a.end h.0), picks-left p zs u (λ s e m. f s e (inr m)) g.1 h.1)
  where
    go : In a.start a.end d ⊎ In a.start a.end q → In a.start a.end q
    go (inl m) = absurd (omega (arith, f a.start a.end (inl m), g.0))
    go (inr m) = m

picks-whole : (zs : List Part) (u : List Stretch) → Picks u (map left zs) → Picks u (map whole zs)
picks-whole [] [] h = tt
picks-whole [] (a ∷ u) h = h
picks-whole (part d q ∷ zs) [] h = h
picks-whole (part d q ∷ zs) (a ∷ u) h = (append_right d q a.start a.end h.0, picks-whole zs u h.1)

picks-from : (m : ℕ) (zs : List Part) (u : List Stretch) → ((s e : ℕ) → InAny s e (map left zs) → m ≤ s) → Picks u (map left zs) → From m u
picks-from m zs [] f h = tt
picks-from m [] (a ∷ u) f h = absurd h
picks-from m (part d q ∷ zs) (a ∷ u) f h = (f a.start a.end (inl h.0), picks-from m zs u (λ s e n. f s e (inr n)) h.1)

-- a tuple that starts after an item of one list ends after it
pub picks-past : (ls : List (List Stretch)) → AllRising ls → (s e n : ℕ) → InAny s e ls → (u : List Stretch) → Picks u ls → From (suc s) u → To n u → e < n
picks-past [] r s e n m u h f g = absurd m
picks-past (l ∷ ls) r s e n m [] h f g = absurd h
picks-past (l ∷ ls) r s e n (inl m) (a ∷ u) h f g = go (le-or-lt a.end e)
  where
    go : (a.end ≤ e) ⊎ (e < a.end) → e < n
    go (inl k) = absurd (omega (arith, rising-mono-end l r.0 a.start a.end s e h.0 m k, f.0))
    go (inr k) = omega (arith, g.0)
picks-past (l ∷ ls) r s e n (inr m) (a ∷ u) h f g = picks-past ls r.1 s e n m u h.1 f.1 g.1

module _ (ls : List (List Stretch)) (r : AllRising ls) (ks : List ℕ) (zs : List Part) (p : Parted ls ks zs) where
  -- the span of the tops is a candidate, and starts with the top
  pub span-is : (x : Stretch) → span (map front zs) ≡ Some x → Spans zs x
  span-is x h = span-spans zs (parted-rising ls ks zs p r) x h

  pub span-cand : (x : Stretch) → span (map front zs) ≡ Some x → Span (linked anyhow) ls x.start x.end
  span-cand x h = let k = span-is x h in record {
    first = k.first;
    rest = k.rest;
    picks = subst (Picks (k.first ∷ k.rest)) p.wholes (picks-whole zs (k.first ∷ k.rest) k.picks);
    okay = linked-anyhow (k.first ∷ k.rest);
    starts = k.starts;
    ends = k.ends;
  }

  pub span-from : (m : ℕ) (x : Stretch) → span (map front zs) ≡ Some x → ((s e : ℕ) → InAny s e (map left zs) → m ≤ s) → m ≤ x.start
  span-from m x h f = let k = span-is x h in omega (arith, k.starts, from_low m k.first k.rest (picks-from m zs (k.first ∷ k.rest) f k.picks))

  pub top_start : (x y : Stretch) → span (map front zs) ≡ Some x → top starts_first (map front zs) ≡ Some y → y.start ≡ x.start
  top_start x y h k =
      omega (
        arith,
        (span-is x h).under y.start y.end (top_in starts_first zs y k),
        span-from y.start x h (λ s e m. (starts-true y (st s e) (top_least starts_first starts-ordering zs (parted-rising ls ks zs p r) y k s e m)).0),
      )

  -- each candidate from t on has a span of the tops that ends no later
  cand-span : (t : ℕ) → ((s e : ℕ) → InAny s e (map done zs) → s < t) → (s e : ℕ) → Span (linked anyhow) ls s e → t ≤ s → (x : Stretch) × (span (map front zs) ≡ Some x) × (x.end ≤ e)
  cand-span t f s e c q =
      let k = span-under zs (parted-rising ls ks zs p r) c.first c.rest
      (picks-left t zs (c.first ∷ c.rest) f (low-from t c.first c.rest (omega (arith, c.starts))) (subst (Picks (c.first ∷ c.rest)) (sym p.wholes) c.picks)) in
      (k.0, k.1, omega (arith, k.2, c.ends))

  pub cand-none : (t : ℕ) → ((s e : ℕ) → InAny s e (map done zs) → s < t) → span (map front zs) ≡ None → (s e : ℕ) → Span (linked anyhow) ls s e → s < t
  cand-none t f h s e c = go (le-or-lt t s)
    where
      go : (t ≤ s) ⊎ (s < t) → s < t
      go (inl q) = let k = cand-span t f s e c q in let z : ◌≡◌ {A = ℕ} 0 1 = cc k.1 in absurd (omega arith)
      go (inr q) = q

  pub cand-least : (t : ℕ) → ((s e : ℕ) → InAny s e (map done zs) → s < t) → (x : Stretch) → span (map front zs) ≡ Some x → (s e : ℕ) → Span (linked anyhow) ls s e → t ≤ s → x.end ≤ e
  cand-least t f x h s e c q = let k = cand-span t f s e c q in let w : k.0 ≡ x = cc k.1 in omega (arith, k.2, ap (λ (v : Stretch). v.end) w)
