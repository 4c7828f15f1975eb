-- The looks on the way to a front: what those so far have shown, and one law for each return and turn. Assumes nothing.
use mathlib.Core.Path.{◌≡◌, refl, sym, ap, subst, ◌∙◌}
use mathlib.Core.Logic.{◌⊎◌, ⊎_elim}
use mathlib.Core.Bool.{cond}
use mathlib.Core.List.{List}
use Prim.Native.Nat.{ℕ, suc, ◌+◌, ◌≤◌, ◌<◌}
use native.Mathlib.Omega.{arith}
use lib.Dec.{ltb}
use borrow.Author.Tests.{ltb-false, lt-ltb, le-ltb}
use Rattle.stretches.specs.declared.Node.{Node}
use Rattle.stretches.specs.declared.Stretch.{Stretch}
use Rattle.stretches.specs.Front.{first_from}
use Rattle.stretches.specs.Table.{kind_at}
use Rattle.basics.proofs.Basics.{cases, le-or-lt}
use Rattle.stretches.proofs.Answers.{Cand}
use Rattle.stretches.proofs.Tight.{Gone, Tight, gone-front, tight-front, tight-next}
use Rattle.seek.specs.declared.state.State.{State}
use Rattle.seek.specs.Source.{Source, list_over, Good}
use Rattle.seek.specs.First.{gone, front, first, Ready}
use Rattle.seek.specs.inner.Fronts.{better_of}
use Rattle.seek.specs.inner.Looks.{Sought, Looked, Narrows, Skips}
use Rattle.seek.proofs.Shapes.{operator, apart}
use Rattle.seek.proofs.Looks.{TightLook, t-none, t_some, SkipLook, k-none, k-good, k-bad}
use Rattle.seek.proofs.Nodes.{past, Narrowing, small-cand, narrowing, skipping}

-- ── The better of two fronts ──

-- what ends no later, and starts later where it ends at the same line
better-later : (f b : Stretch) → b.end ≤ f.end → (b.end ≡ f.end → f.start < b.start) → better_of f b ≡ b
unfolding better_of
better-later f b le later = cases (ltb b.end f.end) (λ c. cond c b (cond (ltb f.end b.end) f (cond (ltb f.start b.start) b f)) ≡ b) (λ k. refl)
    (λ k. simp (le-ltb f.end b.end le, lt-ltb f.start b.start (later (omega (arith, ltb-false b.end f.end k)))))

-- a look that is no good is not better than none
better-none : (b : Stretch) → b.start < 65536 → b.end ≡ 65536 → better_of gone b ≡ gone
unfolding better_of
better-none b lt e = simp (le-ltb b.end 65536 (omega arith), le-ltb 65536 b.end (omega arith), le-ltb 65536 b.start (omega arith))

-- ── and, then: narrowed to the last look that still ends where the first does ──

-- the last look before line m, if there was one
pub data Narrowed {src : Source} {rows : List Node} {v : ℕ} (w : Narrowing src rows v) (t : ℕ) : Stretch → ℕ → Type 0 where
  n-start : Narrowed w t gone t
  n-at : {f : Stretch} → Tight w.op w.ls t f.start f.end → Narrowed w t f (f.start + 1)

tight-some : {src : Source} {rows : List Node} {v : ℕ} (w : Narrowing src rows v) (t : ℕ) {r : Stretch} → TightLook w.op w.ls t r → r.start < 65536 → Tight w.op w.ls t r.start r.end
tight-some w t (t-none g) e = absurd (omega arith)
tight-some w t (t_some h) e = h

module _ {src : Source} {rows : List Node} {v : ℕ} (w : Narrowing src rows v) (t : ℕ) where
  tight-gone : {r : Stretch} → TightLook w.op w.ls t r → 65536 ≤ r.start → Gone w.op w.ls t
  tight-gone (t-none g) n = g
  tight-gone (t_some {r} h) n = absurd (omega (arith, (small-cand w.op w.ls w.fines r.start r.end h.cand).0))

  -- no candidate ends before a look
  tight-least : {r : Stretch} → TightLook w.op w.ls t r → (s e : ℕ) → Cand w.op w.ls s e → t ≤ s → r.end ≤ e
  tight-least (t-none g) s e c h = absurd (omega (arith, g s e c))
  tight-least (t_some i) s e c h = i.least s e c h

  -- where no candidate from m on ends by it, it is the front
  narrowed-done : {f : Stretch} {m : ℕ} → Narrowed w t f m → ((s e : ℕ) → Cand w.op w.ls s e → m ≤ s → f.end < e) → f ≡ front (first src rows v t)
  narrowed-done n-start late = sym (ap (λ (l : List Stretch). front (first_from l t)) w.is ∙ ap front (gone-front w.op w.ls w.fines.rising w.fines.sound t (λ s e c.
      ⊎_elim (λ (h : t ≤ s). absurd (omega (arith, late s e c h, (small-cand w.op w.ls w.fines s e c).1))) (λ (h : s < t). h) (le-or-lt t s))))
  narrowed-done (n-at {f} h) late = sym (ap (λ (l : List Stretch). front (first_from l t)) w.is
      ∙ ap front (tight-front w.op w.ls w.fines.rising w.fines.sound t f.start f.end h (λ s e c q. late s e c (omega arith))))

  narrowed-turn : {f b : Stretch} {m : ℕ} → Narrowed w t f m → TightLook w.op w.ls m b → b.start < 65536 → b.end ≤ f.end → Narrowed w t (better_of f b) (b.start + 1)
  narrowed-turn {b = b} n-start h lt le =
      let i = tight-some w t h lt in
      subst (λ (g : Stretch). Narrowed w t g (b.start + 1)) (sym (better-later gone b le (λ e. absurd (omega (arith, (small-cand w.op w.ls w.fines b.start b.end i.cand).1))))) (n-at i)
  narrowed-turn {b = b} (n-at {f} g) h lt le =
      let i = tight-some w (f.start + 1) h lt in
      let j = tight-next w.op w.ls t f.start f.end b.start b.end g i le in
      let same : f.end ≡ b.end = omega (arith, g.least b.start b.end i.cand j.from) in
      subst (λ (g : Stretch). Narrowed w t g (b.start + 1)) (sym (better-later f b le (λ e. omega (arith, i.from))))
      (n-at (subst (λ (e : ℕ). Tight w.op w.ls t b.start e) same j))

-- ── row and the filters: skipped to the first look that is good ──

record Onward (src : Source) (rows : List Node) (v t : ℕ) (a : Stretch) : Type 0 where
  from : t ≤ a.start
  ends : a.end ≡ 65536
  is : front (first src rows v t) ≡ front (first src rows v (a.start + 1))

module _ (src : Source) (rows : List Node) (v t : ℕ) where
  skip-none : {a : Stretch} → SkipLook (list_over src rows v) t a → 65536 ≤ a.start → gone ≡ front (first src rows v t)
  skip-none (k-none e) n = ap front (sym e)
  skip-none (k-good lt _ _) n = absurd (omega arith)
  skip-none (k-bad lt _ _ _) n = absurd (omega arith)

  skip-small : {a : Stretch} → SkipLook (list_over src rows v) t a → a.end ≤ 65536
  skip-small (k-none e) = omega arith
  skip-small (k-good _ lt _) = omega arith
  skip-small (k-bad _ e _ _) = omega arith

  skip-keep : {a : Stretch} → SkipLook (list_over src rows v) t a → a.end < 65536 → a ≡ front (first src rows v t)
  skip-keep (k-none e) lt = absurd (omega arith)
  skip-keep (k-good _ _ e) lt = ap front (sym e)
  skip-keep (k-bad _ e _ _) lt = absurd (omega arith)

  skip-next : {a : Stretch} → SkipLook (list_over src rows v) t a → a.start < 65536 → 65536 ≤ a.end → Onward src rows v t a
  skip-next (k-none e) lt n = absurd (omega arith)
  skip-next (k-good _ l _) lt n = absurd (omega arith)
  skip-next (k-bad {r} _ z lo e) lt n =
      let y : suc r.start ≡ r.start + 1 = omega arith in
      record { from = lo; ends = z; is = ap front (e ∙ ap (first_from (list_over src rows v)) y) }

-- ── Look by look ──

-- best is the best look from t up to `from`
pub record AdvanceInv (src : Source) (rows : List Node) (s₀ : State) (v t : ℕ) (s : State) (best : Stretch) (from : ℕ) : Type 0 where
  pub at : Good src rows → Ready src rows s₀
      → Ready src rows s × ((w : Narrowing src rows v) → Narrowed w t best from) × (Skips (kind_at rows v) → (best ≡ gone) × (front (first src rows v from) ≡ front (first src rows v t)))

pub advance-start : {src : Source} {rows : List Node} {s : State} {v t : ℕ} {best : Stretch} → best ≡ gone → AdvanceInv src rows s v t s best t
advance-start {t = t} e = record { at = λ good rdy. (rdy, λ w. subst (λ (f : Stretch). Narrowed w t f t) (sym e) n-start, λ k. (e, refl)) }

-- what is found, by the kind
found-by : {src : Source} {rows : List Node} {s s' : State} {v t : ℕ} {r : Stretch} → v < 32 → 1 < kind_at rows v → kind_at rows v < 10
    → (Good src rows → Ready src rows s → Ready src rows s' × (Narrows (kind_at rows v) → Narrowing src rows v → r ≡ front (first src rows v t)) × (Skips (kind_at rows v) → r ≡ front (first src rows v t)))
    → Sought src rows s v t r s'
found-by {src} {rows} {v = v} lv some few h = record {
  found = λ good rdy. let g = h good rdy in record { is = ⊎_elim (λ k. g.1 k (narrowing src rows good v lv k)) g.2 (operator (kind_at rows v) some few); ready = g.0 };
}

module _ {src : Source} {rows : List Node} {s : State} {v t : ℕ} {s₁ : State} {best : Stretch} {from : ℕ} (lv : v < 32) (some : 1 < kind_at rows v) (inv : AdvanceInv src rows s v t s₁ best from) where
  pub advance-out : 65536 ≤ from → kind_at rows v < 10 → Sought src rows s v t best s₁
  advance-out ge few = found-by lv some few (λ good rdy.
      let i = inv.at good rdy in (
        i.0,
        λ k w. narrowed-done w t (i.1 w) (λ a e c le. absurd (omega (arith, (small-cand w.op w.ls w.fines a e c).0))),
        λ k. (i.2 k).0 ∙ past src rows good v lv from ge ∙ (i.2 k).1,
      ))

  module _ {s' : State} {a : Stretch} (p : Looked src rows s₁ v from a s') where
    -- the look, by the kind
    advance-at : Good src rows → Ready src rows s
        → Ready src rows s' × ((w : Narrowing src rows v) → Narrowed w t best from × TightLook w.op w.ls from a)
        × (Skips (kind_at rows v) → SkipLook (list_over src rows v) from a × (best ≡ gone) × (front (first src rows v from) ≡ front (first src rows v t)))
    advance-at good rdy =
        let i = inv.at good rdy in
        let g = p.seen good i.0 in (
          g.ready,
          λ w. (i.1 w, subst (TightLook w.op w.ls from) (sym g.is) (w.tight from)),
          λ k. (subst (SkipLook (list_over src rows v) from) (sym g.is) (skipping src rows good v lv k from), (i.2 k).0, (i.2 k).1),
        )

    advance-gone : 65536 ≤ a.start → kind_at rows v < 10 → Sought src rows s v t best s'
    advance-gone n few = found-by lv some few (λ good rdy.
        let i = advance-at good rdy in (
          i.0,
          λ k w. narrowed-done w t (i.1 w).0 (λ x e c le. absurd (omega (arith, tight-gone w from (i.1 w).1 n x e c))),
          λ k. (i.2 k).1 ∙ skip-none src rows v from (i.2 k).0 n ∙ (i.2 k).2,
        ))

    advance-past : best.end < a.end → kind_at rows v < 10 → Sought src rows s v t best s'
    advance-past gt few = found-by lv some few (λ good rdy.
        let i = advance-at good rdy in (
          i.0,
          λ k w. narrowed-done w t (i.1 w).0 (λ x e c le. omega (arith, tight-least w from (i.1 w).1 x e c le)),
          λ k. let z : best.end ≡ 65536 = ap (λ (f : Stretch). f.end) (i.2 k).1 in absurd (omega (arith, skip-small src rows v from (i.2 k).0)),
        ))

    pub advance-last : (65536 ≤ a.start) ⊎ ((a.start < 65536) × (best.end < a.end)) → kind_at rows v < 10 → Sought src rows s v t best s'
    advance-last = ⊎_elim advance-gone (λ h. advance-past h.1)

    pub advance-good : (Narrows (kind_at rows v) → ⊥) → a.end < 65536 → kind_at rows v < 10 → Sought src rows s v t a s'
    advance-good ne lt few = found-by lv some few (λ good rdy.
        let i = advance-at good rdy in (i.0, λ k w. absurd (ne k), λ k. skip-keep src rows v from (i.2 k).0 lt ∙ (i.2 k).2))

    module _ (one : a.start < 65536) (no-good : Narrows (kind_at rows v) ⊎ (65536 ≤ a.end)) where
      advance-onward : Skips (kind_at rows v) → SkipLook (list_over src rows v) from a → Onward src rows v from a
      advance-onward k h = skip-next src rows v from h one (⊎_elim (λ n. absurd (apart (kind_at rows v) n k)) (λ (z : 65536 ≤ a.end). z) no-good)

      -- which cannot be
      pub advance-back : {r : Stretch} → a.start < from → kind_at rows v < 10 → Sought src rows s v t r s'
      advance-back lt few = found-by lv some few (λ good rdy.
          let i = advance-at good rdy in
          (i.0, λ k w. absurd (omega (arith, (tight-some w from (i.1 w).1 one).from)), λ k. absurd (omega (arith, (advance-onward k (i.2 k).0).from))))

      pub advance-turn : {f : Stretch} → a.end ≤ best.end → f ≡ better_of best a → AdvanceInv src rows s v t s' f (a.start + 1)
      advance-turn {f} le e = record {
        at = λ good rdy.
            let i = advance-at good rdy in (
              i.0,
              λ w. subst (λ (f : Stretch). Narrowed w t f (a.start + 1)) (sym e) (narrowed-turn w t (i.1 w).0 (i.1 w).1 one le),
              λ k.
                  let o = advance-onward k (i.2 k).0 in
                  (e ∙ ap (λ (g : Stretch). better_of g a) (i.2 k).1 ∙ better-none a one o.ends, sym o.is ∙ (i.2 k).2),
            );
      }
