-- The best of several fronts, as the machine folds it, is the front of what `or` answers.
-- Assumes nothing.
use mathlib.Core.Path.{◌≡◌, refl, sym, ap, ◌∙◌}
use mathlib.Core.Bool.{Bool, true, false, cond}
use mathlib.Core.List.{List, [], ◌∷◌}
use Prim.Native.Nat.{ℕ, ◌<◌}
use native.Mathlib.Omega.{arith}
use lib.Dec.{ltb}
use borrow.Author.Tests.{ltb-true, ltb-false, lt-ltb, le-ltb}
use Rattle.stretches.specs.declared.Stretch.{Stretch}
use Rattle.stretches.specs.Stretch.{st, Rising, AllRising, Or, answers}
use Rattle.stretches.specs.Front.{None, Some, first_from}
use Rattle.stretches.specs.Taking.{ends_first}
use Rattle.stretches.specs.Front as fronts
use Rattle.stretches.proofs.Lists.{st-path}
use Rattle.basics.proofs.Basics.{cases}
use Rattle.stretches.proofs.Fronts.{better, best_front, FirstIs, first_good, or-front}
use Rattle.stretches.proofs.InRun.{Below, AllBelow}
use Rattle.stretches.proofs.Orders.{ends-true, ends-false}
use Rattle.seek.specs.First.{gone, front}
use Rattle.seek.specs.inner.Fronts.{better_of}

-- a front that ends below 65,536
abbrev Small : fronts.Front → Type 0
Small None = Unit {0}
Small (Some x) = x.end < 65536

-- the machine's choice is the operators'
better-is : (g h : fronts.Front) → Small g → Small h → better_of (front g) (front h) ≡ front (better g h)
unfolding better_of
better-is None None a b = refl
better-is None (Some y) a b = simp (lt-ltb y.end 65536 b)
better-is (Some x) None a b = simp (le-ltb 65536 x.end (omega arith), lt-ltb x.end 65536 a)
better-is (Some x) (Some y) a b = go (ltb y.end x.end) refl (ltb x.end y.end) refl (ltb x.start y.start) refl (ends_first x y) refl
  where
    go : (a : Bool) → ltb y.end x.end ≡ a → (b : Bool) → ltb x.end y.end ≡ b → (c : Bool) → ltb x.start y.start ≡ c → (w : Bool) → ends_first x y ≡ w
        → cond a (st y.start y.end) (cond b (st x.start x.end) (cond c (st y.start y.end) (st x.start x.end))) ≡ front (cond w (Some x) (Some y))
    go true p b q c i true j = absurd (omega (arith, ltb-true y.end x.end p, (ends-true x y j).0))
    go true p b q c i false j = refl
    go false p true q c i true j = refl
    go false p true q c i false j = absurd (omega (arith, ltb-true x.end y.end q, (ends-false x y j).0))
    go false p false q true i true j =
        absurd (omega (arith, ltb-true x.start y.start i, (ends-true x y j).1 (omega (arith, ltb-false y.end x.end p, ltb-false x.end y.end q))))
    go false p false q true i false j = refl
    go false p false q false i true j = refl
    go false p false q false i false j =
        let e : x.end ≡ y.end = omega (arith, ltb-false y.end x.end p, ltb-false x.end y.end q) in
        ap (λ (z : Stretch). st z.start z.end) (st-path x y (omega (arith, ltb-false x.start y.start i, (ends-false x y j).1 e)) e)

better-small : (g h : fronts.Front) → Small g → Small h → Small (better g h)
better-small None h a b = b
better-small (Some x) None a b = a
better-small (Some x) (Some y) a b = cases (ends_first x y) (λ c. Small (cond c (Some x) (Some y))) (λ k. a) (λ k. b)

front-small : (l : List Stretch) → Rising l → Below 65536 l → (t : ℕ) → Small (first_from l t)
front-small l r b t = go (first_from l t) (first_good l r t)
  where
    go : (g : fronts.Front) → FirstIs l t g → Small g
    go None f = tt
    go (Some x) f = b x.start x.end f.0

better-assoc : (f g h : fronts.Front) → better (better f g) h ≡ better f (better g h)
better-assoc None g h = refl
better-assoc (Some x) None h = refl
better-assoc (Some x) (Some y) None = cases (ends_first x y) (λ b. better (cond b (Some x) (Some y)) None ≡ cond b (Some x) (Some y)) (λ k. refl) (λ k. refl)
better-assoc (Some x) (Some y) (Some z) = go (ends_first x y) refl (ends_first y z) refl (ends_first x z) refl
  where
    ends : x.start ≡ z.start → x.end ≡ z.end → Some x ≡ Some z
    ends p q = ap Some (st-path x z p q)

    go : (a : Bool) → ends_first x y ≡ a → (b : Bool) → ends_first y z ≡ b → (c : Bool) → ends_first x z ≡ c
        → better (cond a (Some x) (Some y)) (Some z) ≡ better (Some x) (cond b (Some y) (Some z))
    go true p true q true i = ap (λ c. cond c (Some x) (Some z)) i ∙ sym (ap (λ c. cond c (Some x) (Some y)) p)
    go true p true q false i =
        let u = ends-true x y p in
        let v = ends-true y z q in
        let w = ends-false x z i in
        let e : x.end ≡ z.end = omega (arith, u.0, v.0, w.0) in
        let s : x.start ≡ z.start = omega (arith, w.1 e, u.1 (omega (arith, u.0, v.0)), v.1 (omega (arith, u.0, v.0))) in
        ap (λ c. cond c (Some x) (Some z)) i ∙ (sym (ends s e) ∙ sym (ap (λ c. cond c (Some x) (Some y)) p))
    go true p false q c i = refl
    go false p true q c i = ap (λ c. cond c (Some y) (Some z)) q ∙ sym (ap (λ c. cond c (Some x) (Some y)) p)
    go false p false q true i =
        let u = ends-false x y p in
        let v = ends-false y z q in
        let w = ends-true x z i in
        let e : x.end ≡ z.end = omega (arith, u.0, v.0, w.0) in
        let s : x.start ≡ z.start = omega (arith, w.1 e, u.1 (omega (arith, u.0, v.0)), v.1 (omega (arith, u.0, v.0))) in
        ap (λ c. cond c (Some y) (Some z)) q ∙ (sym (ends s e) ∙ sym (ap (λ c. cond c (Some x) (Some z)) i))
    go false p false q false i = ap (λ c. cond c (Some y) (Some z)) q ∙ sym (ap (λ c. cond c (Some x) (Some z)) i)

-- the best of acc and the lists' fronts from t on
unfoldable pub best_from : ℕ → Stretch → List (List Stretch) → Stretch
best_from t acc [] = acc
best_from t acc (l ∷ ls) = best_from t (better_of acc (front (first_from l t))) ls

best-is : (t : ℕ) (ls : List (List Stretch)) → AllRising ls → AllBelow 65536 ls → (g : fronts.Front) → Small g → best_from t (front g) ls ≡ front (better g (best_front ls t))
unfolding best_from
best-is t [] r b None s = refl
best-is t [] r b (Some x) s = refl
best-is t (l ∷ ls) r b g s =
    let w = front-small l r.0 b.0 t in
    ap (λ (f : Stretch). best_from t f ls) (better-is g (first_from l t) s w)
    ∙ (best-is t ls r.1 b.1 (better g (first_from l t)) (better-small g (first_from l t) s w) ∙ ap front (better-assoc g (first_from l t) (best_front ls t)))

pub or-look : (ls : List (List Stretch)) → AllRising ls → AllBelow 65536 ls → (t : ℕ) → best_from t gone ls ≡ front (first_from (answers Or ls) t)
or-look ls r b t = best-is t ls r b None tt ∙ ap front (sym (or-front ls r t))
