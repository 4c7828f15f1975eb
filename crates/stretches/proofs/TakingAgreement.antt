-- The items taken decide: Algorithms 2 and 3 look at nothing but the items that they count, so what they do over one set of lists they do over every other that agrees on these.
-- Assumes nothing.
use Prim.Native.Nat.{ℕ, zero, suc, ◌-◌, ◌≤◌, ◌<◌}
use mathlib.Core.Path.{◌≡◌, refl, sym, ap, ap₂, subst, ◌∙◌}
use mathlib.Core.Logic.{◌⊎◌, inl, inr}
use mathlib.Core.Bool.{true, false}
use mathlib.Core.List.{List, [], ◌∷◌}
use native.Mathlib.Omega.{arith}
use Rattle.stretches.specs.Stretch.{Keep, Then, Row, Stretch, AllRising, AllSound, Op, Or, And, answers}
use Rattle.stretches.specs.Front.{Front, None, Some, nth}
use Rattle.stretches.specs.Taking.{AnswerCounts, fronts, Order, ends_first, starts_first, top, top_index, span, contains, one_more, advance, is_top, begun, HasTaking, taking}
use Rattle.stretches.specs.Loops.{SkipGives, skip-over, skip-on, ShrinkGives, shrink-top, shrink-over, shrink-on, NextGives, or-next, and_none, and-next, TakingGives, taking-first, taking-later}
use Rattle.stretches.specs.Laziness.{Agree}
use Rattle.basics.proofs.Basics.{le-or-lt}
use Rattle.stretches.proofs.TakingLoops.{taking-gives}
use Rattle.stretches.proofs.TakingOnly.{gives-only}
use Rattle.stretches.proofs.Taking.{taking-answers}

-- ── The same items, the same fronts ──

-- of each list an item is taken
abbrev Begun : List ℕ → Type 0
Begun [] = Unit {0}
Begun (k ∷ ks) = (1 ≤ k) × Begun ks

more-begun : (i : ℕ) (ks : List ℕ) → Begun ks → Begun (one_more i ks)
more-begun i [] b = b
more-begun zero (k ∷ ks) b = (omega arith, b.1)
more-begun (suc i) (k ∷ ks) b = (b.0, more-begun i ks b.1)

first-begun : (ls : List (List Stretch)) → Begun (begun ls).counts
first-begun [] = tt
first-begun (l ∷ ls) = (omega arith, first-begun ls)

fronts-agree : (ks : List ℕ) (ls ms : List (List Stretch)) → Begun ks → Agree ks ls ms → fronts ls ks ≡ fronts ms ks
fronts-agree [] [] [] b a = refl
fronts-agree [] [] (m ∷ ms) b a = absurd a
fronts-agree [] (l ∷ ls) ms b a = absurd a
fronts-agree (k ∷ ks) [] ms b a = absurd a
fronts-agree (k ∷ ks) (l ∷ ls) [] b a = absurd a
fronts-agree (k ∷ ks) (l ∷ ls) (m ∷ ms) b a = ap₂ ◌∷◌ (a.0 (k - 1) (omega (arith, b.0))) (fronts-agree ks ls ms b.1 a.1)

-- as many lists in both
agree-begun : (ks : List ℕ) (ls ms : List (List Stretch)) → Agree ks ls ms → begun ls ≡ begun ms
agree-begun ks ls ms a = ap (λ (js : List ℕ). record { answer = None; counts = js }) (go ks ls ms a)
  where
    go : (ks : List ℕ) (ls ms : List (List Stretch)) → Agree ks ls ms → (begun ls).counts ≡ (begun ms).counts
    go [] [] [] a = refl
    go [] [] (m ∷ ms) a = absurd a
    go [] (l ∷ ls) ms a = absurd a
    go (k ∷ ks) [] ms a = absurd a
    go (k ∷ ks) (l ∷ ls) [] a = absurd a
    go (k ∷ ks) (l ∷ ls) (m ∷ ms) a = ap (λ (js : List ℕ). 1 ∷ js) (go ks ls ms a.1)

-- agreement goes back to one item fewer
agree_less : (i : ℕ) (ks : List ℕ) (ls ms : List (List Stretch)) → Agree (one_more i ks) ls ms → Agree ks ls ms
agree_less i [] ls ms a = a
agree_less zero (k ∷ ks) [] ms a = a
agree_less zero (k ∷ ks) (l ∷ ls) [] a = a
agree_less zero (k ∷ ks) (l ∷ ls) (m ∷ ms) a = (λ j h. a.0 j (omega arith), a.1)
agree_less (suc i) (k ∷ ks) [] ms a = a
agree_less (suc i) (k ∷ ks) (l ∷ ls) [] a = a
agree_less (suc i) (k ∷ ks) (l ∷ ls) (m ∷ ms) a = (a.0, agree_less i ks ls ms a.1)

-- ── Items are only taken ──

module _ (ls : List (List Stretch)) where
  skips-begun : {o : Order} {view : List Front → Front} {c : Front} {ks js : List ℕ} {n : ℕ} → SkipGives o view ls c ks n js → Begun ks → Begun js
  skips-begun (skip-over k) b = b
  skips-begun {o} {ks = ks} (skip-on k s) b = skips-begun s (more-begun (top_index o (fronts ls ks)) ks b)

  shrinks-begun : {c : Stretch} {ks : List ℕ} {n : ℕ} {r : AnswerCounts} → ShrinkGives ls c ks n r → Begun ks → Begun r.counts
  shrinks-begun (shrink-top k) b = b
  shrinks-begun {ks = ks} (shrink-over k w) b = more-begun (top_index starts_first (fronts ls ks)) ks b
  shrinks-begun {ks = ks} (shrink-on k e j s) b = shrinks-begun s (more-begun (top_index starts_first (fronts ls ks)) ks b)

  next-begun : {n : ℕ} {s r : AnswerCounts} (o : Op) → NextGives ls s o n r → Begun s.counts → Begun r.counts
  next-begun Or (or-next k) b = skips-begun k b
  next-begun And (and_none k e) b = skips-begun k b
  next-begun And (and-next k e i) b = shrinks-begun i (skips-begun k b)
  next-begun Row g b = elim g [ ]
  next-begun Then g b = elim g [ ]
  next-begun (Keep _ _) g b = elim g [ ]

  gives-begun : (o : Op) {p n : ℕ} {r : AnswerCounts} → TakingGives ls o p n r → Begun r.counts
  gives-begun o (taking-first k) = next-begun o k (first-begun ls)
  gives-begun o (taking-later g k) = next-begun o k (gives-begun o g)

-- ── The same over both sets, from the counts ks on; then they agree on ks too ──

module _ (ls ms : List (List Stretch)) where
  record Both (T : Type 0) (ks : List ℕ) : Type 0 where
    also : T
    back : Agree ks ls ms

  -- an advance, where they agree on what it leaves
  record BothAdvance (o : Order) (ks : List ℕ) : Type 0 where
    back : Agree ks ls ms
    now : fronts ls ks ≡ fronts ms ks
    same : advance o ls ks ≡ advance o ms ks
    next : fronts ls (advance o ls ks) ≡ fronts ms (advance o ms ks)

  advance-agrees : (o : Order) (ks : List ℕ) → Begun ks → Agree (advance o ls ks) ls ms → BothAdvance o ks
  advance-agrees o ks b a =
      let i = top_index o (fronts ls ks) in
      let d = agree_less i ks ls ms a in
      let e = fronts-agree ks ls ms b d in
      let z : advance o ls ks ≡ advance o ms ks = ap (λ fs. one_more (top_index o fs) ks) e in
      record { back = d; now = e; same = z; next = fronts-agree (advance o ls ks) ls ms (more-begun i ks b) a ∙ ap (fronts ms) z }

  skips-agree : {o : Order} {view : List Front → Front} {c : Front} {ks js : List ℕ} {n : ℕ} → SkipGives o view ls c ks n js → Begun ks → Agree js ls ms → Both (SkipGives o view ms c ks n js) ks
  skips-agree {view = view} {c = c} {ks = ks} (skip-over k) b a = record { also = skip-over (subst (λ fs. contains (view fs) c ≡ false) (fronts-agree ks ls ms b a) k); back = a }
  skips-agree {o} {view} {c} {ks} {js} (skip-on {n = n} k s) b a =
      let h = skips-agree s (more-begun (top_index o (fronts ls ks)) ks b) a in
      let u = advance-agrees o ks b h.back in
      record { also = skip-on (subst (λ fs. contains (view fs) c ≡ true) u.now k) (subst (λ ks. SkipGives o view ms c ks n js) u.same h.also); back = u.back }

  shrinks-agree : {c : Stretch} {ks : List ℕ} {n : ℕ} {r : AnswerCounts} → ShrinkGives ls c ks n r → Begun ks → Agree r.counts ls ms → Both (ShrinkGives ms c ks n r) ks
  shrinks-agree {c} {ks} (shrink-top k) b a = record { also = shrink-top (subst (λ fs. is_top (top starts_first fs) c ≡ true) (fronts-agree ks ls ms b a) k); back = a }
  shrinks-agree {c} {ks} (shrink-over k w) b a =
      let u = advance-agrees starts_first ks b a in
      record {
        also = subst (λ (js : List ℕ). ShrinkGives ms c ks 1 (record { answer = Some c; counts = js })) (sym u.same)
            (shrink-over (subst (λ fs. is_top (top starts_first fs) c ≡ false) u.now k) (subst (λ fs. contains (Some c) (span fs) ≡ false) u.next w));
        back = u.back;
      }
  shrinks-agree {c} {ks} {r = r} (shrink-on {x = x} {n = n} k e j s) b a =
      let h = shrinks-agree s (more-begun (top_index starts_first (fronts ls ks)) ks b) a in
      let u = advance-agrees starts_first ks b h.back in
      record {
        also = shrink-on (subst (λ fs. is_top (top starts_first fs) c ≡ false) u.now k) (subst (λ fs. span fs ≡ Some x) u.next e) j (subst (λ ks. ShrinkGives ms x ks n r) u.same h.also);
        back = u.back;
      }

  next-agrees : {n : ℕ} {s r : AnswerCounts} (o : Op) → NextGives ls s o n r → Begun s.counts → Agree r.counts ls ms → Both (NextGives ms s o n r) s.counts
  next-agrees {n} {s} Or (or-next {js = js} k) b a =
      let h = skips-agree k b a in
      let e = fronts-agree js ls ms (skips-begun ls k b) a in
      record { also = subst (λ fs. NextGives ms s Or n (record { answer = top ends_first fs; counts = js })) (sym e) (or-next h.also); back = h.back }
  next-agrees And (and_none {js = js} k e) b a =
      let h = skips-agree k b a in
      record { also = and_none h.also (ap span (sym (fronts-agree js ls ms (skips-begun ls k b) a)) ∙ e); back = h.back }
  next-agrees And (and-next {js = js} k e i) b a =
      let c = skips-begun ls k b in
      let v = shrinks-agree i c a in
      let h = skips-agree k b v.back in
      record { also = and-next h.also (ap span (sym (fronts-agree js ls ms c v.back)) ∙ e) v.also; back = h.back }
  next-agrees Row g b a = elim g [ ]
  next-agrees Then g b a = elim g [ ]
  next-agrees (Keep _ _) g b a = elim g [ ]

  gives-agree : (o : Op) {p n : ℕ} {r : AnswerCounts} → TakingGives ls o p n r → Agree r.counts ls ms → TakingGives ms o p n r
  gives-agree o {n = n} {r = r} (taking-first k) a =
      let h = next-agrees o k (first-begun ls) a in
      taking-first (subst (λ s. NextGives ms s o n r) (agree-begun r.counts ls ms a) h.also)
  gives-agree o (taking-later g k) a = let h = next-agrees o k (gives-begun ls o g) a in taking-later (gives-agree o g h.back) h.also

  module _ (o : Op) (t : HasTaking o) where
    -- agreement goes back to the answer before
    agree-before : (p : ℕ) → Agree (taking o ls (suc p)).counts ls ms → Agree (taking o ls p).counts ls ms
    agree-before p = go (taking-gives ls o t (suc p)).1
      where
        go : {n : ℕ} {r : AnswerCounts} → TakingGives ls o (suc p) n r → Agree r.counts ls ms → Agree (taking o ls p).counts ls ms
        go (taking-later g k) a = subst (λ (s : AnswerCounts). Agree s.counts ls ms) (gives-only ls o t g).0 (next-agrees o k (gives-begun ls o g) a).back

    -- two sets of lists that agree on the items taken up to answer p, end marks counted, have the same answers 0 to p and the same counts
    pub taken-agree : (p : ℕ) → Agree (taking o ls p).counts ls ms → (q : ℕ) → q ≤ p → taking o ls q ≡ taking o ms q
    taken-agree zero a zero h = (gives-only ms o t (gives-agree o (taking-gives ls o t zero).1 a)).0
    taken-agree zero a (suc q) h = absurd (omega arith)
    taken-agree (suc p) a q h = go (le-or-lt q p) (taken-agree p (agree-before p a) q)
      where
        go : (q ≤ p) ⊎ (p < q) → (q ≤ p → taking o ls q ≡ taking o ms q) → taking o ls q ≡ taking o ms q
        go (inl k) f = f k
        go (inr k) f =
            let e : suc p ≡ q = omega arith in
            subst (λ n. taking o ls n ≡ taking o ms n) e (gives-only ms o t (gives-agree o (taking-gives ls o t (suc p)).1 a)).0

    -- and these are the operator's answers
    pub answers_agree : AllRising ls → AllSound ls → AllRising ms → AllSound ms → (p : ℕ) → Agree (taking o ls p).counts ls ms → (q : ℕ) → q ≤ p → nth (answers o ls) q ≡ nth (answers o ms) q
    answers_agree r d r' d' p a q h = sym (taking-answers ls r d o t q) ∙ ap (λ (s : AnswerCounts). s.answer) (taken-agree p a q h) ∙ taking-answers ms r' d' o t q
