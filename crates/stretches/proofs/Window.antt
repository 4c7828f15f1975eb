-- The lines from r on, n of them: what is answered inside them depends on what the operands have inside them, and on nothing else.
-- Assumes nothing.
use Prim.Native.Nat.{ℕ, suc, ◌+◌, ◌-◌, ◌≤◌, ◌<◌}
use mathlib.Core.Path.{◌≡◌, refl, sym, ap, subst₂, ◌∙◌}
use mathlib.Core.Logic.{inl, inr, ◌↔◌}
use mathlib.Core.Bool.{Bool, true, false, not}
use mathlib.Core.List.{List, [], ◌∷◌, map}
use lib.Dec.{leb}
use borrow.Author.Tests.{ltb-true, eqb-true, lt-ltb, eq-eqb}
use native.Mathlib.Omega.{arith}
use Rattle.stretches.specs.Stretch.{Stretch, st, In, Sound, AllRising, AllSound, low, high, linked, anyhow, adjoins, follows, Beside, Op, Or, And, Row, Then, Keep, Less, Max, Holding, contains_none, answers}
use Rattle.stretches.specs.Run.{down}
use Rattle.stretches.proofs.Lists.{NoneIn, none_in, none-in-test}
use Rattle.basics.proofs.Basics.{cases, and-true, true-and}
use Rattle.stretches.proofs.Tuples.{InAny, Picks, Span, in-cast}
use Rattle.stretches.proofs.Answers.{Kept, Cand, Least, answer-cand, answer-least, least-answer, cand-sound}
use Rattle.stretches.proofs.Fronts.{From, To, low-from, high-to}

-- l' has, counted from line r, what l has inside the n lines from r on
abbrev pub Window : ℕ → ℕ → List Stretch → List Stretch → Type 0
Window r n l l' = (s e : ℕ) → e < n → In (r + s) (r + e) l ↔ In s e l'

abbrev pub Windows : ℕ → ℕ → List (List Stretch) → List (List Stretch) → Type 0
Windows r n [] [] = Unit {0}
Windows r n [] (l' ∷ ls') = ⊥
Windows r n (l ∷ ls) [] = ⊥
Windows r n (l ∷ ls) (l' ∷ ls') = Window r n l l' × Windows r n ls ls'

-- ── Tuples, moved up and down ──

abbrev up : ℕ → Stretch → Stretch
up r x = st (r + x.start) (r + x.end)

low_up : (r : ℕ) (a : Stretch) (t : List Stretch) → low (up r a) (map (up r) t) ≡ r + low a t
low_up r a [] = refl
low_up r a (b ∷ t) = omega (arith, low_up r b t)

high-up : (r : ℕ) (a : Stretch) (t : List Stretch) → high (up r a) (map (up r) t) ≡ r + high a t
high-up r a [] = refl
high-up r a (b ∷ t) = omega (arith, high-up r b t)

-- all starts and ends at r or later
abbrev Past : ℕ → List Stretch → Type 0
Past r [] = Unit {0}
Past r (a ∷ t) = (r ≤ a.start) × (r ≤ a.end) × Past r t

low-down : (r : ℕ) (a : Stretch) (t : List Stretch) → Past r (a ∷ t) → r + low (down r a) (map (down r) t) ≡ low a t
low-down r a [] p = omega arith
low-down r a (b ∷ t) p = omega (arith, p.0, low-down r b t p.2)

high_down : (r : ℕ) (a : Stretch) (t : List Stretch) → Past r (a ∷ t) → r + high (down r a) (map (down r) t) ≡ high a t
high_down r a [] p = omega arith
high_down r a (b ∷ t) p = omega (arith, p.1, high_down r b t p.2)

-- a test on neighbours that does not care where the count begins
pub record Steady (f : Stretch → Stretch → Bool) : Type 0 where
  pub rises : (r : ℕ) (a b : Stretch) → f a b ≡ true → f (up r a) (up r b) ≡ true
  pub falls : (r : ℕ) (a b : Stretch) → r ≤ a.end → r ≤ b.start → f a b ≡ true → f (down r a) (down r b) ≡ true

steady-anyhow : Steady anyhow
steady-anyhow = record { rises = λ r a b h. refl; falls = λ r a b p q h. refl }

steady-adjoins : Steady adjoins
steady-adjoins = record {
  rises = λ r a b h. eq-eqb (r + b.start) (suc (r + a.end)) (omega (arith, eqb-true b.start (suc a.end) h));
  falls = λ r a b p q h. eq-eqb (b.start - r) (suc (a.end - r)) (omega (arith, eqb-true b.start (suc a.end) h));
}

steady-follows : Steady follows
steady-follows = record {
  rises = λ r a b h. lt-ltb (r + a.end) (r + b.start) (omega (arith, ltb-true a.end b.start h));
  falls = λ r a b p q h. lt-ltb (a.end - r) (b.start - r) (omega (arith, ltb-true a.end b.start h));
}

linked_up : (f : Stretch → Stretch → Bool) → Steady f → (r : ℕ) (t : List Stretch) → linked f t ≡ true → linked f (map (up r) t) ≡ true
linked_up f y r [] h = refl
linked_up f y r (a ∷ []) h = refl
linked_up f y r (a ∷ (b ∷ t)) h =
    let k = and-true (f a b) (linked f (b ∷ t)) h in
    true-and (f (up r a) (up r b)) (linked f (map (up r) (b ∷ t))) (y.rises r a b k.0) (linked_up f y r (b ∷ t) k.1)

linked-down : (f : Stretch → Stretch → Bool) → Steady f → (r : ℕ) (t : List Stretch) → Past r t → linked f t ≡ true → linked f (map (down r) t) ≡ true
linked-down f y r [] p h = refl
linked-down f y r (a ∷ []) p h = refl
linked-down f y r (a ∷ (b ∷ t)) p h =
    let k = and-true (f a b) (linked f (b ∷ t)) h in
    true-and (f (down r a) (down r b)) (linked f (map (down r) (b ∷ t))) (y.falls r a b p.1 p.2.0 k.0) (linked-down f y r (b ∷ t) p.2 k.1)

-- a stretch of l inside the window is one of l'
into : (r n : ℕ) (l l' : List Stretch) → Window r n l l' → (s e : ℕ) → r ≤ s → r ≤ e → e < r + n → In s e l → In (s - r) (e - r) l'
into r n l l' w s e p q h m = (w (s - r) (e - r) (omega arith)).0 (in-cast l s e (r + (s - r)) (r + (e - r)) (omega arith) (omega arith) m)

picks-past : (ls : List (List Stretch)) → AllSound ls → (r : ℕ) (t : List Stretch) → Picks t ls → From r t → Past r t
picks-past [] d r [] p f = tt
picks-past [] d r (a ∷ t) p f = absurd p
picks-past (l ∷ ls) d r [] p f = tt
picks-past (l ∷ ls) d r (a ∷ t) p f = (f.0, omega (arith, d.0 a.start a.end p.0, f.0), picks-past ls d.1 r t p.1 f.1)

picks-down : (r n : ℕ) (ls ls' : List (List Stretch)) → Windows r n ls ls' → (e : ℕ) → e < n → (t : List Stretch) → Picks t ls → Past r t → To (r + e) t → Picks (map (down r) t) ls'
picks-down r n [] [] w e h [] p q g = tt
picks-down r n [] [] w e h (a ∷ t) p q g = absurd p
picks-down r n [] (l' ∷ ls') w e h t p q g = absurd w
picks-down r n (l ∷ ls) [] w e h t p q g = absurd w
picks-down r n (l ∷ ls) (l' ∷ ls') w e h [] p q g = absurd p
picks-down r n (l ∷ ls) (l' ∷ ls') w e h (a ∷ t) p q g =
    (into r n l l' w.0 a.start a.end q.0 q.1 (omega (arith, g.0)) p.0, picks-down r n ls ls' w.1 e h t p.1 q.2 g.1)

picks_up : (r n : ℕ) (ls ls' : List (List Stretch)) → Windows r n ls ls' → (e : ℕ) → e < n → (t : List Stretch) → Picks t ls' → To e t → Picks (map (up r) t) ls
picks_up r n [] [] w e h [] p g = tt
picks_up r n [] [] w e h (a ∷ t) p g = absurd p
picks_up r n [] (l' ∷ ls') w e h t p g = absurd w
picks_up r n (l ∷ ls) [] w e h t p g = absurd w
picks_up r n (l ∷ ls) (l' ∷ ls') w e h [] p g = absurd p
picks_up r n (l ∷ ls) (l' ∷ ls') w e h (a ∷ t) p g =
    ((w.0 a.start a.end (omega (arith, g.0))).1 p.0, picks_up r n ls ls' w.1 e h t p.1 g.1)

-- ── Candidates inside the window ──

-- two tests alike inside the window
abbrev pub Tests : ℕ → ℕ → (List (List Stretch) → Stretch → Bool) → (List (List Stretch) → Stretch → Bool) → Type 0
Tests r n f f' = (ls ls' : List (List Stretch)) → AllSound ls → Windows r n ls ls' → (s e : ℕ) → e < n → f ls (st (r + s) (r + e)) ≡ f' ls' (st s e)

-- the same operator over the lines and over the run; a filter's test tests alike inside the window
pub data Alike (r n : ℕ) : Op → Op → Type 0 where
  or-alike : Alike r n Or Or
  and_alike : Alike r n And And
  row-alike : Alike r n Row Row
  then-alike : Alike r n Then Then
  keep-alike : {f f' : List (List Stretch) → Stretch → Bool} → {b : Beside} → Tests r n f f' → Alike r n (Keep f b) (Keep f' b)

module _ (r n : ℕ) where
  any-down : (ls ls' : List (List Stretch)) → Windows r n ls ls' → (s e : ℕ) → e < n → InAny (r + s) (r + e) ls → InAny s e ls'
  any-down [] [] w s e h c = c
  any-down [] (l' ∷ ls') w s e h c = absurd c
  any-down (l ∷ ls) [] w s e h c = absurd w
  any-down (l ∷ ls) (l' ∷ ls') w s e h (inl m) = inl ((w.0 s e h).0 m)
  any-down (l ∷ ls) (l' ∷ ls') w s e h (inr m) = inr (any-down ls ls' w.1 s e h m)

  any-up : (ls ls' : List (List Stretch)) → Windows r n ls ls' → (s e : ℕ) → e < n → InAny s e ls' → InAny (r + s) (r + e) ls
  any-up [] [] w s e h c = c
  any-up [] (l' ∷ ls') w s e h c = absurd w
  any-up (l ∷ ls) [] w s e h c = absurd c
  any-up (l ∷ ls) (l' ∷ ls') w s e h (inl m) = inl ((w.0 s e h).1 m)
  any-up (l ∷ ls) (l' ∷ ls') w s e h (inr m) = inr (any-up ls ls' w.1 s e h m)

  span-down : (f : Stretch → Stretch → Bool) → Steady f → (ls ls' : List (List Stretch)) → AllSound ls → Windows r n ls ls' → (s e : ℕ) → e < n
      → Span (linked f) ls (r + s) (r + e) → Span (linked f) ls' s e
  span-down f y ls ls' d w s e h x =
      let p : Past r (x.first ∷ x.rest) = picks-past ls d r (x.first ∷ x.rest) x.picks (low-from r x.first x.rest (omega (arith, x.starts))) in
      record {
        first = down r x.first;
        rest = map (down r) x.rest;
        picks = picks-down r n ls ls' w e h (x.first ∷ x.rest) x.picks p (high-to (r + e) x.first x.rest (omega (arith, x.ends)));
        okay = linked-down f y r (x.first ∷ x.rest) p x.okay;
        starts = omega (arith, x.starts, low-down r x.first x.rest p);
        ends = omega (arith, x.ends, high_down r x.first x.rest p);
      }

  span-up : (f : Stretch → Stretch → Bool) → Steady f → (ls ls' : List (List Stretch)) → Windows r n ls ls' → (s e : ℕ) → e < n
      → Span (linked f) ls' s e → Span (linked f) ls (r + s) (r + e)
  span-up f y ls ls' w s e h x = record {
    first = up r x.first;
    rest = map (up r) x.rest;
    picks = picks_up r n ls ls' w e h (x.first ∷ x.rest) x.picks (high-to e x.first x.rest (omega (arith, x.ends)));
    okay = linked_up f y r (x.first ∷ x.rest) x.okay;
    starts = omega (arith, x.starts, low_up r x.first x.rest);
    ends = omega (arith, x.ends, high-up r x.first x.rest);
  }

  none-down : (b b' : List Stretch) → Window r n b b' → (s e : ℕ) → e < n → NoneIn b (r + s) (r + e) → NoneIn b' s e
  none-down b b' w s e h f s' e' m p q = f (r + s') (r + e') ((w s' e' (omega arith)).1 m) (omega arith) (omega arith)

  none-up : (b b' : List Stretch) → Sound b → Window r n b b' → (s e : ℕ) → e < n → NoneIn b' s e → NoneIn b (r + s) (r + e)
  none-up b b' d w s e h f s' e' m p q =
      let k = d s' e' m in
      f (s' - r) (e' - r) (into r n b b' w s' e' (omega arith) (omega arith) (omega arith) m) (omega arith) (omega arith)

  -- less and has go by what B has inside a stretch
  none_alike : Tests r n contains_none contains_none
  none_alike [] [] d w s e h = refl
  none_alike [] (b' ∷ ls') d w s e h = absurd w
  none_alike (b ∷ ls) [] d w s e h = absurd w
  none_alike (b ∷ ls) (b' ∷ ls') d w s e h =
      cases (contains_none (b' ∷ ls') (st s e)) (λ c. contains_none (b ∷ ls) (st (r + s) (r + e)) ≡ c)
      (λ k. none-in-test b (st (r + s) (r + e)) (none-up b b' d.0 w.0 s e h (none_in b' (st s e) k)))
      (λ k. cases (contains_none (b ∷ ls) (st (r + s) (r + e))) (λ c. c ≡ false)
      (λ j. let z : ◌≡◌ {A = ℕ} 0 1 = cc (none-in-test b' (st s e) (none-down b b' w.0 s e h (none_in b (st (r + s) (r + e)) j))) in absurd (omega arith)) (λ j. refl))

  kept-down : (f f' : List (List Stretch) → Stretch → Bool) (ls ls' : List (List Stretch)) → Tests r n f f'
      → AllSound ls → Windows r n ls ls' → (s e : ℕ) → e < n → Kept f ls (r + s) (r + e) → Kept f' ls' s e
  kept-down f f' [] ls' t d w s e h c = absurd c
  kept-down f f' (a ∷ ls) [] t d w s e h c = absurd w
  kept-down f f' (a ∷ ls) (a' ∷ ls') t d w s e h c = ((w.0 s e h).0 c.0, sym (t ls ls' d.1 w.1 s e h) ∙ c.1)

  kept-up : (f f' : List (List Stretch) → Stretch → Bool) (ls ls' : List (List Stretch)) → Tests r n f f'
      → AllSound ls → Windows r n ls ls' → (s e : ℕ) → e < n → Kept f' ls' s e → Kept f ls (r + s) (r + e)
  kept-up f f' ls [] t d w s e h c = absurd c
  kept-up f f' [] (a' ∷ ls') t d w s e h c = absurd w
  kept-up f f' (a ∷ ls) (a' ∷ ls') t d w s e h c = ((w.0 s e h).1 c.0, t ls ls' d.1 w.1 s e h ∙ c.1)

  pub less-alike : Alike r n Less Less
  less-alike = keep-alike none_alike

  pub has-alike : Alike r n Holding Holding
  has-alike = keep-alike (λ ls ls' d w s e h. ap not (none_alike ls ls' d w s e h))

  -- a measure that measures alike inside the window
  pub max-alike : (m m' : Stretch → ℕ) (k : ℕ) → ((s e : ℕ) → e < n → m (st (r + s) (r + e)) ≡ m' (st s e)) → Alike r n (Max m k) (Max m' k)
  max-alike m m' k g = keep-alike (λ ls ls' d w s e h. ap (λ (x : ℕ). leb x k) (g s e h))

  pub cand-down : {o o' : Op} → Alike r n o o' → (ls ls' : List (List Stretch)) → AllSound ls → Windows r n ls ls' → (s e : ℕ) → e < n → Cand o ls (r + s) (r + e) → Cand o' ls' s e
  cand-down or-alike ls ls' d w s e h c = any-down ls ls' w s e h c
  cand-down and_alike ls ls' d w s e h c = span-down anyhow steady-anyhow ls ls' d w s e h c
  cand-down row-alike ls ls' d w s e h c = span-down adjoins steady-adjoins ls ls' d w s e h c
  cand-down then-alike ls ls' d w s e h c = span-down follows steady-follows ls ls' d w s e h c
  cand-down (keep-alike {f} {f'} g) ls ls' d w s e h c = kept-down f f' ls ls' g d w s e h c

  pub cand-up : {o o' : Op} → Alike r n o o' → (ls ls' : List (List Stretch)) → AllSound ls → Windows r n ls ls' → (s e : ℕ) → e < n → Cand o' ls' s e → Cand o ls (r + s) (r + e)
  cand-up or-alike ls ls' d w s e h c = any-up ls ls' w s e h c
  cand-up and_alike ls ls' d w s e h c = span-up anyhow steady-anyhow ls ls' w s e h c
  cand-up row-alike ls ls' d w s e h c = span-up adjoins steady-adjoins ls ls' w s e h c
  cand-up then-alike ls ls' d w s e h c = span-up follows steady-follows ls ls' w s e h c
  cand-up (keep-alike {f} {f'} g) ls ls' d w s e h c = kept-up f f' ls ls' g d w s e h c

  least-down : (o o' : Op) → Alike r n o o' → (ls ls' : List (List Stretch)) → AllSound ls → Windows r n ls ls' → (s e : ℕ) → e < n → Least o ls (r + s) (r + e) → Least o' ls' s e
  least-down o o' y ls ls' d w s e h f s' e' c p q =
      let k = f (r + s') (r + e') (cand-up y ls ls' d w s' e' (omega arith) c) (omega arith) (omega arith) in
      (omega arith, omega arith)

  least-up : (o o' : Op) → Alike r n o o' → (ls ls' : List (List Stretch)) → AllSound ls → Windows r n ls ls' → (s e : ℕ) → e < n → Least o' ls' s e → Least o ls (r + s) (r + e)
  least-up o o' y ls ls' d w s e h f s' e' c p q =
      let z : s' ≤ e' = cand-sound o ls d s' e' c in
      let i : s' ≡ r + (s' - r) = omega arith in
      let j : e' ≡ r + (e' - r) = omega arith in
      let k = f (s' - r) (e' - r) (cand-down y ls ls' d w (s' - r) (e' - r) (omega arith) (subst₂ (Cand o ls) i j c)) (omega arith) (omega arith) in
      (omega arith, omega arith)

  -- the law: windows of the operands give a window of the answers
  pub local : (o o' : Op) → Alike r n o o' → (ls ls' : List (List Stretch)) → AllRising ls → AllSound ls → AllRising ls' → AllSound ls' → Windows r n ls ls' → Window r n (answers o ls) (answers o' ls')
  local o o' y ls ls' a d a' d' w s e h = (
    λ m. least-answer o' ls' s e (cand-down y ls ls' d w s e h (answer-cand o ls (r + s) (r + e) m)) (least-down o o' y ls ls' d w s e h (answer-least o ls a d (r + s) (r + e) m)),
    λ m. least-answer o ls (r + s) (r + e) (cand-up y ls ls' d w s e h (answer-cand o' ls' s e m)) (least-up o o' y ls ls' d w s e h (answer-least o' ls' a' d' s e m)),
  )
