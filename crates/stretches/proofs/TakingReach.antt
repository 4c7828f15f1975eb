-- and's items taken reach the first one inside the answer: of each list what is passed starts by the answer's start and what is left no earlier, so that first one is the front or the last passed.
-- Assumes nothing.
use Prim.Native.Nat.{ℕ, suc, ◌≤◌, ◌<◌}
use mathlib.Core.Path.{◌≡◌, refl, sym, ap, ap₂, subst, ◌∙◌}
use mathlib.Core.Logic.{◌⊎◌, inl, inr}
use mathlib.Core.Bool.{true, false, cond}
use mathlib.Core.List.{List, [], ◌∷◌, ◌++◌, map}
use lib.ListN.{length}
use native.Mathlib.Omega.{arith}
use Rattle.stretches.specs.Stretch.{Stretch, In, Above, Rising, AllRising, AllSound, inside, together, And, answers}
use Rattle.stretches.specs.Front.{Some, nth}
use Rattle.stretches.specs.Taking.{taking}
use Rattle.stretches.specs.Laziness.{inside_at, TakenTo, Reaches, EachReaches, to_first, each_to_first}
use Rattle.basics.proofs.Basics.{cases, le-or-lt}
use Rattle.stretches.proofs.Lists.{inside-true, true-inside}
use Rattle.stretches.proofs.Tuples.{InAny, Picks, in-together, together-in}
use Rattle.stretches.proofs.Answers.{answer-cand}
use Rattle.stretches.proofs.Fronts.{From, To, low-from, high-to}
use Rattle.stretches.proofs.TakingQueue.{Part, part, done, left, whole, count, Parted}
use Rattle.stretches.proofs.Taking.{nth_in, and-taken, and-handed}
use Rattle.stretches.proofs.TakingAnd.{HandedBy}

-- ── The first inside ──

-- what starts earlier is not inside
not-inside : (x c : Stretch) → x.start < c.start → inside x c ≡ false
not-inside x c h = cases (inside x c) (λ b. b ≡ false) (λ k. let v = true-inside x c k in absurd (omega arith)) (λ k. refl)

-- ── One list ──

module _ (c : Stretch) where
  -- the list's first item is inside
  first-at : (x : Stretch) (l : List Stretch) → inside x c ≡ true → inside_at c (x ∷ l) ≡ 0
  first-at x l h = ap (λ b. cond b 0 (suc (inside_at c l))) h

  at_first : (x : Stretch) (l : List Stretch) (k : ℕ) → inside x c ≡ true → TakenTo c x (to_first c (x ∷ l)) k → Reaches c (x ∷ l) k
  at_first x l k h t = record { first = x; there = ap (nth (x ∷ l)) (first-at x l h); within = h; taken = t }

  -- it starts too early
  later-at : (x : Stretch) (l : List Stretch) → x.start < c.start → inside_at c (x ∷ l) ≡ suc (inside_at c l)
  later-at x l h = ap (λ b. cond b 0 (suc (inside_at c l))) (not-inside x c h)

  at-later : (x : Stretch) (l : List Stretch) (k : ℕ) → x.start < c.start → Reaches c l k → Reaches c (x ∷ l) (suc k)
  at-later x l k h r = record { first = r.first; there = ap (nth (x ∷ l)) (later-at x l h) ∙ r.there; within = r.within; taken = go (later-at x l h) r.taken }
    where
      go : inside_at c (x ∷ l) ≡ suc (inside_at c l) → TakenTo c r.first (to_first c l) k → TakenTo c r.first (to_first c (x ∷ l)) (suc k)
      go n (inl e) = inl (omega arith)
      go n (inr e) = inr (omega arith, e.1)

  -- what is said of a list with d passed and q left: the items taken reach the first one inside c, with none beyond it exactly where nothing passed starts with c
  record ListReach (d q : List Stretch) : Type 0 where
    reaches : Reaches c (d ++ q) (suc (length d))
    exact : ((s e : ℕ) → In s e d → s < c.start) → suc (length d) ≡ to_first c (d ++ q)
    beyond : (e : ℕ) → In c.start e d → suc (length d) ≡ to_first c (d ++ q) → ⊥

  -- [s'..e'] is an item inside c, what is passed starts by c's start, and what is left no earlier
  list-reach : (d q : List Stretch) → Rising (d ++ q) → ((s e : ℕ) → In s e d → s ≤ c.start) → ((s e : ℕ) → In s e q → c.start ≤ s)
      → (s' e' : ℕ) → In s' e' (d ++ q) → c.start ≤ s' → e' ≤ c.end → ListReach d q
  list-reach [] [] r f g s' e' m a b = absurd m
  list-reach [] (y ∷ q) r f g s' e' m a b =
      let n = first-at y q h in
      record { reaches = at_first y q 1 h (inl (omega (arith, n))); exact = λ _. omega (arith, n); beyond = λ e i. absurd i }
    where
      low : c.start ≤ y.start
      low = g y.start y.end (inl (refl, refl))

      least : In s' e' (y ∷ q) → (y.start ≤ s') × (y.end ≤ e')
      least (inl h) = (omega arith, omega arith)
      least (inr k) = let v = r.0 s' e' k in (omega arith, omega arith)

      h : inside y c ≡ true
      h = inside-true y c low (omega (arith, (least m).1))
  list-reach (x ∷ d) q r f g s' e' m a b = go (le-or-lt c.start x.start) (λ k n. list-reach d q r.1 (λ s e i. f s e (inr i)) g s' e' n a b)
    where
      least : In s' e' (x ∷ (d ++ q)) → x.end ≤ e'
      least (inl h) = omega arith
      least (inr k) = let v = r.0 s' e' k in omega arith

      -- in the rest, where x starts before c
      rest : (s e : ℕ) (l : List Stretch) → x.start < c.start → c.start ≤ s → In s e (x ∷ l) → In s e l
      rest s e l k h (inl i) = absurd (omega arith)
      rest s e l k h (inr i) = i

      -- the passed item starts with c: nothing more is passed
      last : (d : List Stretch) → Above x (d ++ q) → ((s e : ℕ) → In s e d → s ≤ c.start) → c.start ≤ x.start → length d ≡ 0
      last [] w f k = refl
      last (z ∷ d) w f k = absurd (omega (arith, (w z.start z.end (inl (refl, refl))).0, f z.start z.end (inl (refl, refl))))

      go : (c.start ≤ x.start) ⊎ (x.start < c.start) → (x.start < c.start → In s' e' (d ++ q) → ListReach d q) → ListReach (x ∷ d) q
      go (inl k) more =
          let n : length d ≡ 0 = last d r.0 (λ s e i. f s e (inr i)) k in
          let i : x.start ≤ c.start = f x.start x.end (inl (refl, refl)) in
          let h : inside x c ≡ true = inside-true x c k (omega (arith, least m)) in
          let z = first-at x (d ++ q) h in
          record {
            reaches = at_first x (d ++ q) (suc (suc (length d))) h (inr (omega (arith, z), omega arith));
            exact = λ w. absurd (omega (arith, w x.start x.end (inl (refl, refl))));
            beyond = λ e _ w. omega (arith, w, z);
          }
      go (inr k) more =
          let t = more k (rest s' e' (d ++ q) k a m) in
          let n = later-at x (d ++ q) k in
          record {
            reaches = at-later x (d ++ q) (suc (length d)) k t.reaches;
            exact = λ w. omega (arith, n, t.exact (λ s e i. w s e (inr i)));
            beyond = λ e i w. t.beyond e (rest c.start e d k (omega arith) i) (omega (arith, n, w));
          }

  -- ── All lists ──

  record ListsReach (zs : List Part) : Type 0 where
    reaches : EachReaches c (map whole zs) (map count zs)
    exact : ((s e : ℕ) → InAny s e (map done zs) → s < c.start) → map count zs ≡ each_to_first c (map whole zs)
    beyond : (e : ℕ) → InAny c.start e (map done zs) → map count zs ≡ each_to_first c (map whole zs) → ⊥

  lists-reach : (zs : List Part) → AllRising (map whole zs) → ((s e : ℕ) → InAny s e (map done zs) → s ≤ c.start) → ((s e : ℕ) → InAny s e (map left zs) → c.start ≤ s)
      → (u : List Stretch) → Picks u (map whole zs) → From c.start u → To c.end u → ListsReach zs
  lists-reach [] r f g u p a b = record { reaches = tt; exact = λ _. refl; beyond = λ e m. absurd m }
  lists-reach (part d q ∷ zs) r f g [] p a b = absurd p
  lists-reach (part d q ∷ zs) r f g (y ∷ u) p a b =
      let h = list-reach d q r.0 (λ s e m. f s e (inl m)) (λ s e m. g s e (inl m)) y.start y.end p.0 a.0 b.0 in
      let t = lists-reach zs r.1 (λ s e m. f s e (inr m)) (λ s e m. g s e (inr m)) u p.1 a.1 b.1 in
      record {
        reaches = (h.reaches, t.reaches);
        exact = λ w. ap₂ ◌∷◌ (h.exact (λ s e m. w s e (inl m))) (t.exact (λ s e m. w s e (inr m)));
        beyond = beyond h t;
      }
    where
      beyond : ListReach d q → ListsReach zs → (e : ℕ) → InAny c.start e (d ∷ map done zs) → suc (length d) ∷ map count zs ≡ to_first c (d ++ q) ∷ each_to_first c (map whole zs) → ⊥
      beyond h t e (inl m) w = let n : suc (length d) ≡ to_first c (d ++ q) = cc in h.beyond e m n
      beyond h t e (inr m) w = let n : map count zs ≡ each_to_first c (map whole zs) = cc in t.beyond e m n

-- ── Answer number p of and ──

module _ (ls : List (List Stretch)) (r : AllRising ls) (d : AllSound ls) (p : ℕ) (c : Stretch) (h : nth (answers And ls) p ≡ Some c) where
  -- the lists parted when it is handed out
  record Reached : Type 0 where
    parts : List Part
    parted : Parted ls (taking And ls p).counts parts
    read : ListsReach c parts
    how : HandedBy ls (Some c) parts

  at-answer : Reached
  at-answer =
      let a = and-handed ls r d p c (and-taken ls r d p ∙ h) in
      let x = answer-cand And ls c.start c.end (nth_in (answers And ls) p c h) in
      record {
        parts = a.0;
        parted = a.1;
        read = lists-reach c a.0 (subst AllRising (sym a.1.wholes) r) (λ s e m. omega (arith, a.2.held.passed s e m)) a.2.held.from
            (x.first ∷ x.rest) (subst (Picks (x.first ∷ x.rest)) (sym a.1.wholes) x.picks)
            (low-from c.start x.first x.rest (omega (arith, x.starts))) (high-to c.end x.first x.rest (omega (arith, x.ends)));
        how = a.2.how;
      }

  -- from each list the taken items reach the first one inside the answer, with at most one beyond it, and that only where this first one starts at the answer's start
  pub and-reaches : EachReaches c ls (taking And ls p).counts
  and-reaches = let a = at-answer in subst (EachReaches c ls) a.parted.counts (subst (λ ms. EachReaches c ms (map count a.parts)) a.parted.wholes a.read.reaches)

  -- where some list has the answer itself as an item, there is none beyond
  pub exact-there : In c.start c.end (together ls) → (taking And ls p).counts ≡ each_to_first c ls
  exact-there m = let a = at-answer in sym a.parted.counts ∙ a.read.exact (early a.parts a.how) ∙ ap (each_to_first c) a.parted.wholes
    where
      early : (zs : List Part) → HandedBy ls (Some c) zs → (s e : ℕ) → InAny s e (map done zs) → s < c.start
      early zs (inl k) = k.1
      early zs (inr k) = absurd (k.0 (in-together ls c.start c.end m))

  -- and only there: where none has it, some list is read one beyond
  pub exact-only : (taking And ls p).counts ≡ each_to_first c ls → In c.start c.end (together ls)
  exact-only w = let a = at-answer in go a.parts a.how (λ e m. a.read.beyond e m (a.parted.counts ∙ w ∙ ap (each_to_first c) (sym a.parted.wholes)))
    where
      go : (zs : List Part) → HandedBy ls (Some c) zs → ((e : ℕ) → InAny c.start e (map done zs) → ⊥) → In c.start c.end (together ls)
      go zs (inl k) f = together-in ls c.start c.end k.0
      go zs (inr k) f = absurd (f k.1.0 k.1.1)
