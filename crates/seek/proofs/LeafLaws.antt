-- Leaves: how a leaf goes over a lent list from a hint that is checked, and what it finds; and what it finds in a row of marks.
-- Assumes nothing.
use mathlib.Core.Path.{◌≡◌, refl, sym, ap, ap₂, subst, ◌∙◌}
use mathlib.Core.Logic.{◌⊎◌, ◌≢◌, inl, inr, ⊎_elim}
use mathlib.Core.Bool.{cond}
use mathlib.Core.List.{List, [], ◌∷◌}
use Prim.Native.Nat.{ℕ, zero, suc, ◌+◌, ◌-◌, ◌*◌, ◌/◌, ◌%◌, ◌≤◌, ◌<◌}
use native.Mathlib.Omega.{arith}
use lib.ListN.{length, get_or, set, length-set}
use lib.Seq.{get_or-set_same, get_or-set_other}
use lib.Dec.{leb}
use borrow.Author.Tests.{le-leb, lt-leb}
use Rattle.basics.proofs.Basics.{cases, eq-or-ne}
use Rattle.stretches.specs.declared.Stretch.{Stretch}
use Rattle.stretches.specs.Stretch.{st, In, Rising, Fine, marks}
use Rattle.stretches.specs.Lent.{part}
use Rattle.stretches.specs.Front.{None, Some, first_from}
use Rattle.stretches.specs.Front as fronts
use Rattle.stretches.proofs.Fronts.{front-good}
use Rattle.stretches.proofs.Marks.{in-marks, rising-marks}
use Rattle.stretches.proofs.Lent.{part-cons, part-nil}
use Rattle.marks.specs.Row.{row}
use Rattle.row_search.specs.Line.{line_of}
use Rattle.seek.specs.declared.state.Kept.{Kept}
use Rattle.seek.specs.declared.state.State.{State}
use Rattle.seek.specs.Source.{lent}
use Rattle.seek.specs.First.{gone, front, no_kept, kept_at}
use Rattle.seek.specs.inner.Leaves.{Resumed, Ran, SameKept, Hinted, ListFound, RowFound}

-- ── A list from a place on ──

-- one that starts before t is passed
part-pass : (items : List ℕ) (i h t : ℕ) → i + 1 < h → h ≤ length items → get_or items i 0 < t → first_from (part items i h) t ≡ first_from (part items (i + 2) h) t
part-pass items i h t lt le b =
    ap (λ (l : List Stretch). first_from l t) (part-cons items i h lt le) ∙ ap (λ c. cond c (Some (st (get_or items i 0) (get_or items (i + 1) 0))) (first_from (part items (i + 2) h) t)) (lt-leb t (get_or items i 0) b)

part_at : (items : List ℕ) (i h t : ℕ) → i + 1 < h → h ≤ length items → t ≤ get_or items i 0 → first_from (part items i h) t ≡ Some (st (get_or items i 0) (get_or items (i + 1) 0))
part_at items i h t lt le b =
    ap (λ (l : List Stretch). first_from l t) (part-cons items i h lt le) ∙ ap (λ c. cond c (Some (st (get_or items i 0) (get_or items (i + 1) 0))) (first_from (part items (i + 2) h) t)) (le-leb t (get_or items i 0) b)

-- one that starts before t is passed on the run
pub ran-turn : (items : List ℕ) (p hi t i : ℕ) → first_from (part items p hi) t ≡ first_from (part items i hi) t → i + 1 < hi → hi ≤ length items → get_or items i 0 < t
    → first_from (part items p hi) t ≡ first_from (part items (i + 2) hi) t
ran-turn items p hi t i e lt le b = e ∙ part-pass items i hi t lt le b

-- in a rising list the stretches before one that starts before t do too
module _ (items : List ℕ) (hi t : ℕ) (le : hi ≤ length items) where
  back : (k lo : ℕ) → Rising (part items lo hi) → lo + 2 * (suc k) ≤ hi → get_or items (lo + 2 * k) 0 < t
      → (first_from (part items lo hi) t ≡ first_from (part items (lo + 2 * (suc k)) hi) t) × (get_or items lo 0 ≤ get_or items (lo + 2 * k) 0)
  back zero lo r fits b =
      let z : lo + 2 * 0 ≡ lo = omega arith in
      let y : lo + 2 ≡ lo + 2 * 1 = omega arith in
      let w : get_or items lo 0 ≡ get_or items (lo + 2 * 0) 0 = ap (λ (i : ℕ). get_or items i 0) (sym z) in
      (part-pass items lo hi t (omega arith) le (omega arith) ∙ ap (λ (i : ℕ). first_from (part items i hi) t) y, omega arith)
  back (suc k) lo r fits b =
      let y : lo + 2 + 2 * k ≡ lo + 2 * suc k = omega arith in
      let y' : lo + 2 + 2 * (suc k) ≡ lo + 2 * suc (suc k) = omega arith in
      let c = part-cons items lo hi (omega arith) le in
      let r' : Rising (st (get_or items lo 0) (get_or items (lo + 1) 0) ∷ part items (lo + 2) hi) = subst Rising c r in
      let ih = back k (lo + 2) r'.1 (omega arith) (subst (λ (i : ℕ). get_or items i 0 < t) (sym y) b) in
      let g : get_or items (lo + 2 + 2 * k) 0 ≡ get_or items (lo + 2 * suc k) 0 = ap (λ (i : ℕ). get_or items i 0) y in
      let c' = part-cons items (lo + 2) hi (omega arith) le in
      let up = r'.0 (get_or items (lo + 2) 0) (get_or items (lo + 2 + 1) 0) (subst (In (get_or items (lo + 2) 0) (get_or items (lo + 2 + 1) 0)) (sym c') (inl (refl, refl))) in
      (part-pass items lo hi t (omega arith) le (omega (arith, up.0, ih.1)) ∙ (ih.0 ∙ ap (λ (i : ℕ). first_from (part items i hi) t) y'), omega (arith, up.0, ih.1))

  pub resumed-same : (lo r : ℕ) → Rising (part items lo hi) → Resumed items lo hi t r → first_from (part items lo hi) t ≡ first_from (part items r hi) t
  resumed-same lo r up h = go h.step h.is h.past
    where
      go : (k : ℕ) → r ≡ lo + 2 * k → (k ≡ 0) ⊎ (get_or items (r - 2) 0 < t) → first_from (part items lo hi) t ≡ first_from (part items r hi) t
      go zero e p = let z : lo ≡ r = omega arith in ap (λ (i : ℕ). first_from (part items i hi) t) z
      go (suc k) e (inl p) = absurd (omega arith)
      go (suc k) e (inr p) =
          let z : r - 2 ≡ lo + 2 * k = omega arith in
          (back k lo up (omega (arith, h.fits)) (subst (λ (i : ℕ). get_or items i 0 < t) z p)).0 ∙ ap (λ (i : ℕ). first_from (part items i hi) t) (sym e)

pub resume-none : {items : List ℕ} {lo hi t : ℕ} → lo ≤ hi → Resumed items lo hi t lo
resume-none le = record { step = 0; is = omega arith; fits = le; past = inl refl }

pub resume-at : {items : List ℕ} {lo hi t c : ℕ} → lo ≤ c → c ≤ hi → (c - lo) % 2 ≡ 0 → get_or items (c - 2) 0 < t → Resumed items lo hi t c
resume-at {items} {lo} {hi} {t} {c} a b e p = record { step = (c - lo) / 2; is = omega arith; fits = b; past = inr p }

-- ── What a leaf finds ──

pub hinted-same : {s : State} → Hinted s s
hinted-same = record { wide = refl; same = λ v. record { past = refl; end = refl; asked = refl }; passed = refl }

hint-same : (l : List Kept) (v h : ℕ) → v < length l → (u : ℕ)
    → SameKept (get_or l u no_kept) (get_or (set l v (record { past = (get_or l v no_kept).past; end = (get_or l v no_kept).end; asked = (get_or l v no_kept).asked; hint = h })) u no_kept)
hint-same l v h lt u = ⊎_elim
    (λ (z : u ≡ v). subst (λ (w : ℕ). SameKept (get_or l w no_kept) (get_or (set l v (record { past = (get_or l v no_kept).past; end = (get_or l v no_kept).end; asked = (get_or l v no_kept).asked; hint = h })) w no_kept)) (sym z)
    (rw get_or-set_same (record { past = refl; end = refl; asked = refl })))
    (λ (o : (u < v) ⊎ (v < u)).
    let ne : u ≢ v = λ z. ⊎_elim (λ (h : u < v). omega arith) (λ (h : v < u). omega arith) o in
    rw get_or-set_other (record { past = refl; end = refl; asked = refl }))
    (eq-or-ne u v)

pub hinted-set : (s : State) (v h : ℕ) → v < length s.kept → Hinted s (record { kept = set s.kept v (record { past = (kept_at s v).past; end = (kept_at s v).end; asked = (kept_at s v).asked; hint = h }); passed = s.passed })
hinted-set s v h lt = record { wide = simp length-set; same = hint-same s.kept v h lt; passed = refl }

-- a list that lies inside the items, and one that does not
lent-inside : (items : List ℕ) (lo hi : ℕ) → hi ≤ length items → lent items lo hi ≡ part items lo hi
lent-inside items lo hi le = ap (λ b. cond b (part items lo hi) []) (le-leb hi (length items) le)

lent-outside : (items : List ℕ) (lo hi : ℕ) → length items < hi → lent items lo hi ≡ []
lent-outside items lo hi lt = ap (λ b. cond b (part items lo hi) []) (lt-leb hi (length items) lt)

-- a list with no place
pub list-empty : {items : List ℕ} {lo hi t : ℕ} {s : State} {r : Stretch} → r ≡ gone → hi < lo → ListFound items lo hi t s r s
list-empty {items} {lo} {hi} {t} e lt = record { is = λ up. e ∙ ap (λ (l : List Stretch). front (first_from l t)) (sym none); hinted = hinted-same }
  where
    none : lent items lo hi ≡ []
    none = cases (leb hi (length items)) (λ b. cond b (part items lo hi) [] ≡ []) (λ k. part-nil items lo hi (omega arith)) (λ k. refl)

pub list-outside : {items : List ℕ} {lo hi t : ℕ} {s : State} {r : Stretch} → r ≡ gone → length items < hi → ListFound items lo hi t s r s
list-outside {items} {lo} {hi} {t} e bad = record { is = λ up. e ∙ ap (λ (l : List Stretch). front (first_from l t)) (sym (lent-outside items lo hi bad)); hinted = hinted-same }

module _ {items : List ℕ} {t lo hi p q : ℕ} (le : hi ≤ length items) (w : Resumed items lo hi t p) (g : Ran items p hi t q) where
  -- from place q on stands what is found
  run-found : Rising (lent items lo hi) → first_from (lent items lo hi) t ≡ first_from (part items q hi) t
  run-found up =
      let z = lent-inside items lo hi le in
      ap (λ (l : List Stretch). first_from l t) z ∙ resumed-same items hi t le lo p (subst Rising z up) w ∙ g.same

  pub list-none : {s s' : State} {r : Stretch} → Hinted s s' → r ≡ gone → hi ≤ q + 1 → ListFound items lo hi t s r s'
  list-none hint e past = record { is = λ up. e ∙ ap front (sym (run-found up ∙ ap (λ (l : List Stretch). first_from l t) (part-nil items q hi past))); hinted = hint }

  pub list_at_lem : {s s' : State} {r : Stretch} → Hinted s s' → r ≡ st (get_or items q 0) (get_or items (q + 1) 0) → q + 1 < hi → ListFound items lo hi t s r s'
  list_at_lem hint e lt = record { is = λ up. e ∙ ap front (sym (run-found up ∙ part_at items q hi t lt le (g.here lt))); hinted = hint }

-- ── A row of marks ──

module _ (words : List ℕ) (at width t : ℕ) where
  pub row-missed : {r : Stretch} → None ≡ line_of (first_from (marks 0 (row words at width)) t) → r ≡ gone → RowFound words at width t r
  row-missed {r} is e = record { is = λ fine. go (first_from (marks 0 (row words at width)) t) is }
    where
      go : (g : fronts.Front) → None ≡ line_of g → r ≡ front g
      go None k = e
      go (Some x) k = cc

  -- the line that was found
  row-hit : (line : ℕ) → Some line ≡ line_of (first_from (marks 0 (row words at width)) t) → Fine 65536 (marks 0 (row words at width))
      → (st line line ≡ front (first_from (marks 0 (row words at width)) t)) × (line < 65536)
  row-hit line is fine = go (first_from (marks 0 (row words at width)) t) refl is
    where
      go : (g : fronts.Front) → first_from (marks 0 (row words at width)) t ≡ g → Some line ≡ line_of g → (st line line ≡ front g) × (line < 65536)
      go None z k = cc
      go (Some x) z k =
          let l : line ≡ x.start = cc in
          let m = front-good (marks 0 (row words at width)) (rising-marks 0 (row words at width)) t x z in
          let o = (in-marks 0 (row words at width) x.start x.end m.0).one in
          let i : line ≡ x.end = omega arith in
          (ap₂ st l i, omega (arith, fine.below x.start x.end m.0))

  pub row-there : (line : ℕ) {r : Stretch} → Some line ≡ line_of (first_from (marks 0 (row words at width)) t) → (line < 65536 → r ≡ st line line) → RowFound words at width t r
  row-there line is e = record { is = λ fine. let h = row-hit line is fine in e h.1 ∙ h.0 }
