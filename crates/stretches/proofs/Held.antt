-- The first of a rising list that holds a stretch, or lies inside it, as a search finds it, and the filters' tests by it. Assumes nothing.
use Prim.Native.Nat.{ℕ, ◌≤◌, ◌<◌}
use mathlib.Core.Path.{◌≡◌, refl, sym, ap, ◌∙◌}
use mathlib.Core.Logic.{inl, inr}
use mathlib.Core.Bool.{Bool, true, false, not, cond, ◌&&◌}
use mathlib.Core.List.{List, [], ◌∷◌}
use lib.Dec.{leb}
use borrow.Author.Tests.{le-leb, lt-leb, leb-true, leb-false}
use native.Mathlib.Omega.{arith}
use Rattle.basics.proofs.Basics.{cases, and-false}
use Rattle.stretches.specs.Stretch.{Stretch, st, In, Rising, inside, keep, none_that, holds_none, inside_none}
use Rattle.stretches.specs.Front.{Front, None, Some, first_from, first_to, head_of, first_that}
use Rattle.stretches.specs.Shown.{Proved}
use Rattle.stretches.specs.inner.Below.{only_if, found_one}
use Rattle.stretches.proofs.Ordered.{first-self}

-- ── The first that passes two tests, of which the second fails of all behind one of which it fails ──

pub keep-nothing : (f : Stretch → Bool) (l : List Stretch) → ((s e : ℕ) → In s e l → f (st s e) ≡ false) → keep f l ≡ []
keep-nothing f [] h = refl
keep-nothing f (x ∷ l) h = ap (λ (b : Bool). cond b (x ∷ keep f l) (keep f l)) (h x.start x.end (inl (refl, refl))) ∙ keep-nothing f l (λ s e m. h s e (inr m))

and-turned : (a b : Bool) → (a && b) ≡ (b && a)
and-turned true true = refl
and-turned true false = refl
and-turned false true = refl
and-turned false false = refl

module _ (f p q : Stretch → Bool) (both : (y : Stretch) → f y ≡ (p y && q y)) (fails : (y z : Stretch) → y.start < z.start → y.end < z.end → q y ≡ false → q z ≡ false) where
  first-both : (l : List Stretch) → Rising l → first_that f l ≡ only_if q (first_that p l)
  first-both [] r = refl
  first-both (y ∷ l) r =
      ap (λ (b : Bool). head_of (cond b (y ∷ keep f l) (keep f l))) (both y)
      ∙ cases (p y) (λ b. head_of (cond (b && q y) (y ∷ keep f l) (keep f l)) ≡ only_if q (head_of (cond b (y ∷ keep p l) (keep p l))))
      (λ k. cases (q y) (λ b. head_of (cond b (y ∷ keep f l) (keep f l)) ≡ cond b (Some y) None) (λ j. refl)
      (λ j. ap head_of (keep-nothing f l (λ s e m. let a = r.0 s e m in both (st s e) ∙ and-false (p (st s e)) (q (st s e)) (fails y (st s e) a.0 a.1 j)))))
      (λ k. first-both l r.1)

-- the first from a line on, and to one, pass a test of their start or end
from-that : (l : List Stretch) (t : ℕ) → first_that (λ y. leb t y.start) l ≡ first_from l t
from-that [] t = refl
from-that (y ∷ l) t =
    cases (leb t y.start) (λ b. head_of (cond b (y ∷ keep (λ z. leb t z.start) l) (keep (λ z. leb t z.start) l)) ≡ cond b (Some y) (first_from l t)) (λ k. refl) (λ k. from-that l t)

to-that : (l : List Stretch) (e : ℕ) → first_that (λ y. leb e y.end) l ≡ first_to l e
to-that [] e = refl
to-that (y ∷ l) e =
    cases (leb e y.end) (λ b. head_of (cond b (y ∷ keep (λ z. leb e z.end) l) (keep (λ z. leb e z.end) l)) ≡ cond b (Some y) (first_to l e)) (λ k. refl) (λ k. to-that l e)

module _ (l : List Stretch) (r : Rising l) (x : Stretch) where
  -- the first inside x is the front from x's start on, if it does not end behind x
  pub inner_first : first_that (λ y. inside y x) l ≡ found_one false x x.start l
  inner_first =
      first-both (λ y. inside y x) (λ y. leb x.start y.start) (λ y. leb y.end x.end) (λ y. refl)
      (λ y z a b k. lt-leb z.end x.end (omega (arith, leb-false y.end x.end k))) l r
      ∙ ap (only_if (λ y. leb y.end x.end)) (from-that l x.start)

  -- the first that holds x is the first to x's end, if it does not start behind x
  pub holder-first : (t : ℕ) → first_that (inside x) l ≡ found_one true x t l
  holder-first t =
      first-both (inside x) (λ y. leb x.end y.end) (λ y. leb y.start x.start) (λ y. and-turned (leb y.start x.start) (leb x.end y.end))
      (λ y z a b k. lt-leb z.start x.start (omega (arith, leb-false y.start x.start k))) l r
      ∙ ap (only_if (λ y. leb y.start x.start)) (to-that l x.end)

-- ── The tests ──

abbrev pub absent : Front → Bool
absent None = true
absent (Some y) = false

none-absent : (f : Stretch → Bool) (l : List Stretch) → none_that f l ≡ absent (first_that f l)
none-absent f [] = refl
none-absent f (y ∷ l) = cases (f y) (λ b. (not b && none_that f l) ≡ absent (head_of (cond b (y ∷ keep f l) (keep f l)))) (λ k. refl) (λ k. none-absent f l)

-- none of the list lies inside x, and x inside none, where nothing is found
pub holds-none-found : (l : List Stretch) → Rising l → (x : Stretch) → holds_none l x ≡ absent (found_one false x x.start l)
holds-none-found l r x = none-absent (λ y. inside y x) l ∙ ap absent (inner_first l r x)

pub inside-none-found : (l : List Stretch) → Rising l → (x : Stretch) (t : ℕ) → inside_none l x ≡ absent (found_one true x t l)
inside-none-found l r x t = none-absent (inside x) l ∙ ap absent (holder-first l r x t)

-- where not none passes, the first that does is there
pub some-proved : (f : Stretch → Bool) (l : List Stretch) → not (none_that f l) ≡ true → Proved f (first_that f l)
some-proved f [] = λ h. let z : ◌≡◌ {A = ℕ} 0 1 = cc in omega arith
some-proved f (y ∷ l) =
    cases (f y) (λ b. not (not b && none_that f l) ≡ true → Proved f (head_of (cond b (y ∷ keep f l) (keep f l)))) (λ k h. k) (λ k h. some-proved f l h)

-- ── The first to a line ──

pub to_in : (l : List Stretch) (e : ℕ) (y : Stretch) → first_to l e ≡ Some y → In y.start y.end l × (e ≤ y.end)
to_in [] e y = λ p. let z : ◌≡◌ {A = ℕ} 0 1 = cc in absurd (omega arith)
to_in (x ∷ l) e y = cases (leb e x.end) (λ b. cond b (Some x) (first_to l e) ≡ Some y → In y.start y.end (x ∷ l) × (e ≤ y.end))
    (λ k p. let z : x ≡ y = cc in (inl (ap (λ (w : Stretch). w.start) (sym z), ap (λ (w : Stretch). w.end) (sym z)), omega (arith, leb-true e x.end k, ap (λ (w : Stretch). w.end) z)))
    (λ k p. let h = to_in l e y p in (inr h.0, h.1))

-- where all before line t end before e, and the front from t on does not, that is it
pub to-from : (l : List Stretch) (e t : ℕ) → ((s f : ℕ) → In s f l → s < t → f < e) → (y : Stretch) → first_from l t ≡ Some y → e ≤ y.end → first_to l e ≡ Some y
to-from [] e t h y = λ p q. p
to-from (x ∷ l) e t h y = cases (leb t x.start) (λ b. leb t x.start ≡ b → cond b (Some x) (first_from l t) ≡ Some y → e ≤ y.end → cond (leb e x.end) (Some x) (first_to l e) ≡ Some y)
    (λ k j p q. let z : x ≡ y = cc in ap (λ (b : Bool). cond b (Some x) (first_to l e)) (le-leb e x.end (omega (arith, ap (λ (w : Stretch). w.end) z))) ∙ p)
    (λ k j p q. ap (λ (b : Bool). cond b (Some x) (first_to l e)) (lt-leb e x.end (h x.start x.end (inl (refl, refl)) (leb-false t x.start j))) ∙ to-from l e t (λ s f m. h s f (inr m)) y p q)
    refl

-- where all end before e, there is none
pub to_none : (l : List Stretch) (e : ℕ) → ((s f : ℕ) → In s f l → f < e) → first_to l e ≡ None
to_none [] e h = refl
to_none (x ∷ l) e h = ap (λ (b : Bool). cond b (Some x) (first_to l e)) (lt-leb e x.end (h x.start x.end (inl (refl, refl)))) ∙ to_none l e (λ s f m. h s f (inr m))

-- of its own list a stretch is found from its start on
pub self-found : (l : List Stretch) → Rising l → (x : Stretch) → In x.start x.end l → found_one false x x.start l ≡ Some x
self-found l r x m = ap (only_if (λ y. leb y.end x.end)) (first-self l r x m) ∙ ap (λ (b : Bool). cond b (Some x) None) (le-leb x.end x.end (omega arith))
