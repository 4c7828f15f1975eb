-- What a look at an operator's operands finds, against the operators' candidates and answers. Assumes nothing.
use mathlib.Core.Path.{◌≡◌, refl, sym, ap, subst, ◌∙◌}
use mathlib.Core.Bool.{Bool, true, false, not, cond, ◌&&◌}
use mathlib.Core.List.{List, [], ◌∷◌}
use Prim.Native.Nat.{ℕ, suc, ◌+◌, ◌≤◌, ◌<◌, min, max}
use native.Mathlib.Omega.{arith}
use lib.Dec.{leb, ltb, eqb}
use borrow.Author.Tests.{leb-true, leb-false, ltb-false, lt-ltb, le-ltb, eqb-true, eqb-false}
use Rattle.stretches.specs.declared.Stretch.{Stretch}
use Rattle.stretches.specs.Stretch.{st, In, AllRising, AllSound, Fine, low, high, keep, contains_none, lies_in_none, Op, And, Row, Then, answers}
use Rattle.stretches.specs.Front.{None, Some, first_from, first_to}
use Rattle.stretches.specs.Front as fronts
use Rattle.stretches.specs.Table.{holder_kind}
use Rattle.basics.proofs.Basics.{cases}
use Rattle.stretches.proofs.Answers.{high-first}
use Rattle.stretches.proofs.Fronts.{FirstIs, front-good, FrontsAt}
use Rattle.stretches.proofs.Fine.{AllFine, first_fine, rest-fine}
use Rattle.stretches.proofs.Steps.{keep-none, keep_taken, keep_left}
use Rattle.stretches.proofs.Ordered.{ChainAt, RowAt, row-taken, row-left, first-self}
use Rattle.stretches.specs.inner.Below.{only_if}
use Rattle.stretches.proofs.Held.{absent, holds-none-found, inside-none-found}
use Rattle.stretches.proofs.Tight.{Gone, Tight, gone-front, and-tight, and-gone, then-tight, then-gone, row-gone}
use Rattle.seek.specs.First.{gone, front}
use Rattle.seek.specs.inner.Fronts.{past_of, bad_f, kept, go_f}
use Rattle.seek.specs.inner.Looks.{span_from, chain_from, misses}

none-at : (x : Stretch) → None ≡ Some x → ⊥
none-at x e = let z : ◌≡◌ {A = ℕ} 0 1 = cc in omega arith

-- ── Fronts below 65,536 ──

-- with a front, on; without, none
go-front : (P : Stretch → Type 0) (l : List Stretch) → Fine 65536 l → (t : ℕ) (k : Stretch → Stretch) → (first_from l t ≡ None → P gone)
    → ((x : Stretch) → first_from l t ≡ Some x → x.start < 65536 → P (k (st x.start x.end))) → P (go_f (front (first_from l t)) k)
unfolding go_f
go-front P l f t k none some = go (first_from l t) refl
  where
    go : (g : fronts.Front) → first_from l t ≡ g → P (go_f (front g) k)
    go None e = none e
    go (Some x) e =
        let m = (front-good l f.rising t x e).0 in
        let lt : x.start < 65536 = omega (arith, f.sound x.start x.end m, f.below x.start x.end m) in
        subst (λ c. P (cond c (k (st x.start x.end)) gone)) (sym (lt-ltb x.start 65536 lt)) (some x e lt)

pub past_is : (n : ℕ) → n ≤ 65536 → past_of n ≡ suc n
unfolding past_of
past_is n le = cases (ltb n 65536) (λ b. cond b (n + 1) 65537 ≡ suc n) (λ k. omega arith) (λ k. omega (arith, ltb-false n 65536 k))

-- ── Looks that are tight: and, then ──

pub data TightLook (o : Op) (ls : List (List Stretch)) (t : ℕ) : Stretch → Type 0 where
  t-none : Gone o ls t → TightLook o ls t gone
  t_some : {r : Stretch} → Tight o ls t r.start r.end → TightLook o ls t r

-- ── and: a span ──

low_of : ℕ → List Stretch → ℕ
low_of m [] = m
low_of m (a ∷ u) = low_of (min m a.start) u

high_of : ℕ → List Stretch → ℕ
high_of m [] = m
high_of m (a ∷ u) = high_of (max m a.end) u

low-of : (m : ℕ) (a : Stretch) (u : List Stretch) → low_of m (a ∷ u) ≡ min m (low a u)
unfolding low_of
low-of m a [] = refl
low-of m a (b ∷ u) = low-of (min m a.start) b u ∙ omega arith

high-of : (m : ℕ) (a : Stretch) (u : List Stretch) → high_of m (a ∷ u) ≡ max m (high a u)
unfolding high_of
high-of m a [] = refl
high-of m a (b ∷ u) = high-of (max m a.end) b u ∙ omega arith

low-least : (a : Stretch) (u : List Stretch) → low a u ≤ a.start
low-least a [] = omega arith
low-least a (b ∷ u) = omega arith

data SpanIs (t : ℕ) (ls : List (List Stretch)) (h : Stretch) : Stretch → Type 0 where
  span_none : ((u : List Stretch) → FrontsAt t ls u → ⊥) → SpanIs t ls h gone
  span-some : {r : Stretch} (u : List Stretch) → FrontsAt t ls u → r.start ≡ low_of h.start u → r.end ≡ high_of h.end u → SpanIs t ls h r

-- no fronts of all lists where the first list has none, or the others have not
no-fronts : (l : List Stretch) (ls : List (List Stretch)) (t : ℕ) → first_from l t ≡ None → (u : List Stretch) → FrontsAt t (l ∷ ls) u → ⊥
no-fronts l ls t e [] f = f
no-fronts l ls t e (a ∷ u) f = none-at a (sym e ∙ f.0)

less-fronts : (l : List Stretch) (ls : List (List Stretch)) (t : ℕ) → ((u : List Stretch) → FrontsAt t ls u → ⊥) → (u : List Stretch) → FrontsAt t (l ∷ ls) u → ⊥
less-fronts l ls t n [] f = f
less-fronts l ls t n (a ∷ u) f = n u f.1

span-fold : (t : ℕ) (ls : List (List Stretch)) → AllFine 65536 ls → (h : Stretch) → SpanIs t ls h (span_from t h ls)
unfolding span_from low_of high_of
span-fold t [] f h = span-some [] tt refl refl
span-fold t (l ∷ ls) f h = go-front (SpanIs t (l ∷ ls) h) l (first_fine f) t (λ x. span_from t (st (min h.start x.start) (max h.end x.end)) ls)
    (λ e. span_none (no-fronts l ls t e)) (λ x e lt. on x e (span-fold t ls (rest-fine f) (st (min h.start x.start) (max h.end x.end))))
  where
    on : (x : Stretch) → first_from l t ≡ Some x → {q : Stretch} → SpanIs t ls (st (min h.start x.start) (max h.end x.end)) q → SpanIs t (l ∷ ls) h q
    on x e (span_none n) = span_none (less-fronts l ls t n)
    on x e (span-some u g i j) = span-some (x ∷ u) (e, g) i j

pub and-look : (l : List Stretch) (ls : List (List Stretch)) → AllFine 65536 (l ∷ ls) → (t : ℕ) → TightLook And (l ∷ ls) t (span_from t (st 65536 0) (l ∷ ls))
and-look l ls f t = on (span-fold t (l ∷ ls) f (st 65536 0))
  where
    on : {q : Stretch} → SpanIs t (l ∷ ls) (st 65536 0) q → TightLook And (l ∷ ls) t q
    on (span_none n) = t-none (and-gone (l ∷ ls) f.rising t n)
    on (span-some [] g i j) = absurd g
    on (span-some {r = q} (x ∷ u) g i j) =
        let m = (front-good l f.rising.0 t x g.0).0 in
        let lt : x.start < 65536 = omega (arith, f.sound.0 x.start x.end m, f.below.0 x.start x.end m) in
        let a : low x u ≡ q.start = omega (arith, i, low-of 65536 x u, low-least x u) in
        let b : high x u ≡ q.end = omega (arith, j, high-of 0 x u) in
        t_some (subst (λ (n : ℕ). Tight And (l ∷ ls) t n q.end) a (subst (λ (n : ℕ). Tight And (l ∷ ls) t (low x u) n) b (and-tight (l ∷ ls) f.rising t x u g)))

-- ── then and row: a chain ──

last_of : ℕ → List Stretch → ℕ
last_of m [] = m
last_of m (a ∷ u) = last_of a.end u

-- [s..e] was passed; a chain goes on from the line after e
data ChainIs (tight : Bool) (ls : List (List Stretch)) (s e : ℕ) : Stretch → Type 0 where
  chain-none : ((u : List Stretch) → ChainAt (suc e) ls u → ⊥) → ChainIs tight ls s e gone
  chain-some : {r : Stretch} (u : List Stretch) → ChainAt (suc e) ls u → (tight ≡ true → RowAt (suc e) ls u) → r ≡ st s (last_of e u) → last_of e u < 65536 → ChainIs tight ls s e r
  chain-broken : {r : Stretch} → tight ≡ true → ((u : List Stretch) → RowAt (suc e) ls u → ⊥) → r ≡ bad_f s → ChainIs tight ls s e r

-- no chain where the first list has no front, or there is none from its end on
no-chain : (l : List Stretch) (ls : List (List Stretch)) (m : ℕ) → first_from l m ≡ None → (u : List Stretch) → ChainAt m (l ∷ ls) u → ⊥
no-chain l ls m e [] f = f
no-chain l ls m e (a ∷ u) f = none-at a (sym e ∙ f.0)

module _ (l : List Stretch) (ls : List (List Stretch)) (m : ℕ) (x : Stretch) (e : first_from l m ≡ Some x) where
  head-is : (a : Stretch) → first_from l m ≡ Some a → a ≡ x
  head-is a f = cc

  less-chain : ((u : List Stretch) → ChainAt (suc x.end) ls u → ⊥) → (u : List Stretch) → ChainAt m (l ∷ ls) u → ⊥
  less-chain n [] f = f
  less-chain n (a ∷ u) f = n u (subst (λ (y : Stretch). ChainAt (suc y.end) ls u) (head-is a f.0) f.1)

  less-row : ((u : List Stretch) → x.start ≡ m → RowAt (suc x.end) ls u → ⊥) → (u : List Stretch) → RowAt m (l ∷ ls) u → ⊥
  less-row n [] f = f
  less-row n (a ∷ u) f =
      let z = head-is a f.0 in
      n u (ap (λ (y : Stretch). y.start) (sym z) ∙ f.1) (subst (λ (y : Stretch). RowAt (suc y.end) ls u) z f.2)

chain-fold : (tight : Bool) (ls : List (List Stretch)) → AllFine 65536 ls → (s e : ℕ) → e < 65536 → ChainIs tight ls s e (chain_from tight s e ls)
unfolding chain_from last_of
chain-fold tight [] f s e lt = chain-some [] tt (λ z. tt) refl lt
chain-fold tight (l ∷ ls) f s e lt = subst (λ (m : ℕ). ChainIs tight (l ∷ ls) s e (go_f (front (first_from l m)) (λ x. cond (tight && not (eqb x.start m)) (bad_f s) (chain_from tight s x.end ls))))
    (sym (past_is e (omega arith)))
    (go-front (ChainIs tight (l ∷ ls) s e) l (first_fine f) (suc e) (λ x. cond (tight && not (eqb x.start (suc e))) (bad_f s) (chain_from tight s x.end ls))
    (λ n. chain-none (no-chain l ls (suc e) n))
    (λ x h k. on x h tight refl (eqb x.start (suc e)) refl
    (chain-fold tight ls (rest-fine f) s x.end (f.below.0 x.start x.end (front-good l f.rising.0 (suc e) x h).0))))
  where
    more : (x : Stretch) → first_from l (suc e) ≡ Some x → (tight ≡ true → x.start ≡ suc e) → {q : Stretch} → ChainIs tight ls s x.end q → ChainIs tight (l ∷ ls) s e q
    more x h a (chain-none n) = chain-none (less-chain l ls (suc e) x h n)
    more x h a (chain-some u g w i j) = chain-some (x ∷ u) (h, g) (λ z. (h, a z, w z)) i j
    more x h a (chain-broken z n i) = chain-broken z (less-row l ls (suc e) x h (λ u y w. n u w)) i

    on : (x : Stretch) → first_from l (suc e) ≡ Some x → (b : Bool) → tight ≡ b → (c : Bool) → eqb x.start (suc e) ≡ c → {q : Stretch} → ChainIs tight ls s x.end q
        → ChainIs tight (l ∷ ls) s e (cond (b && not c) (bad_f s) q)
    on x h false z c y g = more x h (λ w. let k : ◌≡◌ {A = ℕ} 0 1 = cc in absurd (omega arith)) g
    on x h true z true y g = more x h (λ w. eqb-true x.start (suc e) y) g
    on x h true z false y g = chain-broken z (less-row l ls (suc e) x h (λ u a w. eqb-false x.start (suc e) y a)) refl

chain-last : (ls : List (List Stretch)) → AllRising ls → AllSound ls → (m : ℕ) (a : Stretch) (u : List Stretch) → ChainAt m ls (a ∷ u) → high a u ≡ last_of a.end u
unfolding last_of
chain-last ls r d m a [] f = refl
chain-last (l ∷ (k ∷ ls)) r d m a (b ∷ u) f =
    let g = front-good k r.1.0 (suc a.end) b f.1.0 in
    omega (arith, chain-last (k ∷ ls) r.1 d.1 (suc a.end) b u f.1, high-first b u, g.1, d.1.0 b.start b.end g.0)
chain-last (l ∷ []) r d m a (b ∷ u) f = absurd f.1
chain-last [] r d m a (b ∷ u) f = absurd f

-- ── Looks that are good or passed over: row, filters ──

pub data SkipLook (l : List Stretch) (t : ℕ) : Stretch → Type 0 where
  k-none : first_from l t ≡ None → SkipLook l t gone
  k-good : {r : Stretch} → r.start < 65536 → r.end < 65536 → first_from l t ≡ Some (st r.start r.end) → SkipLook l t r
  k-bad : {r : Stretch} → r.start < 65536 → r.end ≡ 65536 → t ≤ r.start → first_from l t ≡ first_from l (suc r.start) → SkipLook l t r

module _ (l : List Stretch) (ls : List (List Stretch)) (f : AllFine 65536 (l ∷ ls)) (t : ℕ) where
  -- a chain from the first list's front on
  chain-look : (tight : Bool) (P : Stretch → Type 0) → (((u : List Stretch) → ChainAt t (l ∷ ls) u → ⊥) → P gone)
      → ((x : Stretch) → first_from l t ≡ Some x → x.start < 65536 → (q : Stretch) → ChainIs tight ls x.start x.end q → P q)
      → P (go_f (front (first_from l t)) (λ x. chain_from tight x.start x.end ls))
  chain-look tight P none on = go-front P l (first_fine f) t (λ x. chain_from tight x.start x.end ls) (λ e. none (no-chain l ls t e))
      (λ x e lt. on x e lt _ (chain-fold tight ls (rest-fine f) x.start x.end (f.below.0 x.start x.end (front-good l f.rising.0 t x e).0)))

  pub then-look : TightLook Then (l ∷ ls) t (go_f (front (first_from l t)) (λ x. chain_from false x.start x.end ls))
  then-look = chain-look false (TightLook Then (l ∷ ls) t) (λ n. t-none (then-gone (l ∷ ls) f.rising f.sound t n)) (λ x e lt q c. on x e c)
    where
      on : (x : Stretch) → first_from l t ≡ Some x → {q : Stretch} → ChainIs false ls x.start x.end q → TightLook Then (l ∷ ls) t q
      on x e (chain-none n) = t-none (then-gone (l ∷ ls) f.rising f.sound t (less-chain l ls t x e n))
      on x e (chain-some u g w i j) =
          subst (TightLook Then (l ∷ ls) t) (sym i)
          (t_some (subst (λ (n : ℕ). Tight Then (l ∷ ls) t x.start n) (chain-last (l ∷ ls) f.rising f.sound t x u (e, g)) (then-tight (l ∷ ls) f.rising f.sound t x u (e, g))))
      on x e (chain-broken z n i) = let k : ◌≡◌ {A = ℕ} 0 1 = cc in absurd (omega arith)

  pub row-look : SkipLook (answers Row (l ∷ ls)) t (go_f (front (first_from l t)) (λ x. chain_from true x.start x.end ls))
  row-look = chain-look true (SkipLook (answers Row (l ∷ ls)) t) (λ n. k-none (gone n)) (λ x e lt q c. on x e lt (front-good l f.rising.0 t x e) c)
    where
      gone : ((u : List Stretch) → ChainAt t (l ∷ ls) u → ⊥) → first_from (answers Row (l ∷ ls)) t ≡ None
      gone n = gone-front Row (l ∷ ls) f.rising f.sound t (row-gone (l ∷ ls) f.rising f.sound t n)

      on : (x : Stretch) → first_from l t ≡ Some x → x.start < 65536 → FirstIs l t (Some x) → {q : Stretch} → ChainIs true ls x.start x.end q → SkipLook (answers Row (l ∷ ls)) t q
      on x e lt z (chain-none n) = k-none (gone (less-chain l ls t x e n))
      on x e lt z (chain-some u g w i j) =
          subst (SkipLook (answers Row (l ∷ ls)) t) (sym i)
          (k-good lt j (row-taken l ls f.rising f.sound t x u e (first-self l f.rising.0 x z.0, refl, w refl)
          ∙ ap (λ (n : ℕ). Some (st x.start n)) (chain-last (l ∷ ls) f.rising f.sound t x u (e, g))))
      on x e lt z (chain-broken y n i) =
          subst (SkipLook (answers Row (l ∷ ls)) t) (sym i) (k-bad lt refl z.1 (row-left l ls f.rising f.sound t x e (λ w h. n w h.2)))

-- a test on the stretches of l, and how the machine tells that it passes
pub keep-look : (test : Stretch → Bool) (mark : Stretch → Bool) (l : List Stretch) → Fine 65536 l
    → ((x : Stretch) → In x.start x.end l → mark (st x.start x.end) ≡ test x) → (t : ℕ) → SkipLook (keep test l) t (go_f (front (first_from l t)) (λ x. kept x (mark x)))
keep-look test mark l f m t =
    go-front (SkipLook (keep test l) t) l f t (λ x. kept x (mark x)) (λ e. k-none (keep-none test l f.rising t e))
    (λ x e lt.
    let g = front-good l f.rising t x e in
    subst (λ b. SkipLook (keep test l) t (kept (st x.start x.end) b)) (sym (m x g.0)) (by x e lt g (test x) refl))
  where
    by : (x : Stretch) → first_from l t ≡ Some x → x.start < 65536 → FirstIs l t (Some x) → (c : Bool) → test x ≡ c → SkipLook (keep test l) t (kept (st x.start x.end) c)
    by x e lt g true y = k-good lt (f.below x.start x.end g.0) (keep_taken test l f.rising t x e y)
    by x e lt g false y = k-bad lt refl g.1 (keep_left test l f.rising t x e y)

-- ── The tests of the filters ──

lt_not_le : (a b : ℕ) → ltb a b ≡ not (leb b a)
lt_not_le a b = cases (leb b a) (λ c. ltb a b ≡ not c) (λ k. le-ltb a b (leb-true b a k)) (λ k. lt-ltb a b (leb-false b a k))

absent-if : (y : Stretch) (b : Bool) → not b ≡ absent (cond b (Some y) None)
absent-if y true = refl
absent-if y false = refl

-- none of B lies inside the front
pub inner-missed : (k : ℕ) → holder_kind k ≡ false → (ls : List (List Stretch)) → AllRising ls → (x : Stretch) → x.end < 65536 → misses k ls (st x.start x.end) ≡ contains_none ls x
inner-missed k h [] r x lt = refl
inner-missed k h (b ∷ bs) r x lt =
    ap (λ (c : Bool). cond c (ltb x.start (front (first_to b x.end)).start) (ltb x.end (front (first_from b x.start)).end)) h ∙ go (first_from b x.start) ∙ sym (holds-none-found b r.0 x)
  where
    go : (g : fronts.Front) → ltb x.end (front g).end ≡ absent (only_if (λ y. leb y.end x.end) g)
    go None = lt-ltb x.end 65536 lt
    go (Some y) = lt_not_le x.end y.end ∙ absent-if y (leb y.end x.end)

-- none of B holds it
pub holder-missed : (k : ℕ) → holder_kind k ≡ true → (ls : List (List Stretch)) → AllRising ls → (x : Stretch) → x.start < 65536 → misses k ls (st x.start x.end) ≡ lies_in_none ls x
holder-missed k h [] r x lt = refl
holder-missed k h (b ∷ bs) r x lt =
    ap (λ (c : Bool). cond c (ltb x.start (front (first_to b x.end)).start) (ltb x.end (front (first_from b x.start)).end)) h ∙ go (first_to b x.end) ∙ sym (inside-none-found b r.0 x 0)
  where
    go : (g : fronts.Front) → ltb x.start (front g).start ≡ absent (only_if (λ y. leb y.start x.start) g)
    go None = lt-ltb x.start 65536 lt
    go (Some y) = lt_not_le x.start y.start ∙ absent-if y (leb y.start x.start)
