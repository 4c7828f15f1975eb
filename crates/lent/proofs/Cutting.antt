-- The cut of lent lists: what a right cut says of the places, and where a list and its stretches stand.
-- Assumes nothing.
use Prim.Native.Nat.{ℕ, zero, suc, ◌+◌, ◌-◌, ◌*◌, ◌/◌, ◌%◌, ◌≤◌, ◌<◌}
use mathlib.Core.Path.{◌≡◌, refl, sym, ap, ap₂, ◌∙◌}
use mathlib.Core.Bool.{false, not, ◌||◌}
use mathlib.Core.List.{List, [], ◌∷◌}
use native.Mathlib.Omega.{arith}
use lib.ListN.{length, get_or, take, drop, length-drop}
use lib.Seq.{drop-nil, length-take-le}
use lib.Dec.{ltb, eqb}
use borrow.Author.Tests.{eqb-true, ltb-false, not-false}
use Rattle.basics.proofs.Basics.{or-false}
use Rattle.stretches.specs.Stretch.{st}
use Rattle.stretches.specs.Front.{None, Some, head_of, nth}
use Rattle.stretches.specs.Taking.{total}
use Rattle.stretches.specs.Lent.{pairs, lists_from, lists_of}
use Rattle.stretches.specs.inner.Starts.{start_of}
use Rattle.meaning.specs.Refusals.{miscut_from, miscut}

-- a right cut: each end place even, not below the one before, and inside the run
pub right_end : (i : ℕ) (ends : List ℕ) (len : ℕ) → miscut_from i ends len ≡ false → i ≤ len
right_end i [] len e = omega (arith, eqb-true i len (not-false (eqb i len) e))
right_end i (x ∷ ends) len e =
    let p = or-false (not (eqb (x % 2) 0)) (ltb x i || miscut_from x ends len) e in
    let q = or-false (ltb x i) (miscut_from x ends len) p.1 in
    omega (arith, ltb-false x i q.0, right_end x ends len q.1)

pub record RightAt (at e : ℕ) (later : List ℕ) (len : ℕ) : Type 0 where
  pub even : e % 2 ≡ 0
  pub up : at ≤ e
  pub inside : e ≤ len
  pub rest : miscut_from e later len ≡ false

pub right-first : (at e : ℕ) (rest : List ℕ) (len : ℕ) → miscut_from at (e ∷ rest) len ≡ false → RightAt at e rest len
right-first at e rest len h =
    let p = or-false (not (eqb (e % 2) 0)) (ltb e at || miscut_from e rest len) h in
    let q = or-false (ltb e at) (miscut_from e rest len) p.1 in
    record { even = eqb-true (e % 2) 0 (not-false (eqb (e % 2) 0) p.0); up = ltb-false e at q.0; inside = right_end e rest len q.1; rest = q.1 }

-- every end place of a right cut lies inside the items
inside-from : (at : ℕ) (ends : List ℕ) (len : ℕ) → miscut_from at ends len ≡ false → (i : ℕ) → get_or ends i 0 ≤ len
inside-from at [] len h i = omega arith
inside-from at (e ∷ ends) len h zero = (right-first at e ends len h).inside
inside-from at (e ∷ ends) len h (suc i) = inside-from e ends len (right-first at e ends len h).rest i

pub ends-inside : (items ends : List ℕ) → miscut items ends ≡ false → (i : ℕ) → get_or ends i 0 ≤ length items
ends-inside items ends h i = inside-from 0 ends (length items) h i

-- a list ends where it starts or behind
start-below : (at : ℕ) (ends : List ℕ) (len : ℕ) → miscut_from at ends len ≡ false → (i : ℕ) → i < length ends → get_or (at ∷ ends) i 0 ≤ get_or ends i 0
start-below at [] len h i lt = absurd (omega arith)
start-below at (e ∷ ends) len h zero lt = (right-first at e ends len h).up
start-below at (e ∷ ends) len h (suc i) lt = start-below e ends len (right-first at e ends len h).rest i (omega arith)

pub start-up : (items ends : List ℕ) → miscut items ends ≡ false → (i : ℕ) → i < length ends → start_of ends i ≤ get_or ends i 0
start-up items ends h zero lt = omega arith
start-up items ends h (suc i) lt = start-below 0 ends (length items) h (suc i) lt

-- ── The stretches of a list ──

pairs-length : (l : List ℕ) → length l % 2 ≡ 0 → 2 * length (pairs l) ≡ length l
pairs-length [] e = refl
pairs-length (s ∷ []) e = absurd (omega arith)
pairs-length (s ∷ (e ∷ r)) h = omega (arith, pairs-length r (omega arith))

total-from : (at : ℕ) (items ends : List ℕ) → at % 2 ≡ 0 → miscut_from at ends (length items) ≡ false → 2 * total (lists_from at items ends) + at ≡ length items
total-from at items [] v h = omega (arith, eqb-true at (length items) (not-false (eqb at (length items)) h))
total-from at items (e ∷ ends) v h =
    let r = right-first at e ends (length items) h in
    let n : length (take (e - at) (drop at items)) ≡ e - at = length-take-le (e - at) (drop at items) (omega (arith, length-drop at items, r.inside)) in
    let p = pairs-length (take (e - at) (drop at items)) (omega (arith, n, r.even, r.up)) in
    omega (arith, total-from e items ends r.even r.rest, n, p, r.up)

-- half the number of items
pub half : (items ends : List ℕ) → miscut items ends ≡ false → length items / 2 ≡ total (lists_of items ends)
half items ends h = omega (arith, total-from 0 items ends refl h)

-- number m stands from place 2m on
pub nth-past : (l : List ℕ) (m : ℕ) → length l ≤ 2 * m + 1 → None ≡ nth (pairs l) m
nth-past [] m h = ap head_of (sym (drop-nil m))
nth-past (s ∷ []) m h = ap head_of (sym (drop-nil m))
nth-past (s ∷ (e ∷ l)) zero h = absurd (omega arith)
nth-past (s ∷ (e ∷ l)) (suc m) h = nth-past l m (omega arith)

pub nth-here : (l : List ℕ) (m : ℕ) → 2 * m + 1 < length l → Some (st (get_or l (2 * m) 0) (get_or l (2 * m + 1) 0)) ≡ nth (pairs l) m
nth-here [] m h = absurd (omega arith)
nth-here (s ∷ []) m h = absurd (omega arith)
nth-here (s ∷ (e ∷ l)) zero h = refl
nth-here (s ∷ (e ∷ l)) (suc m) h =
    let z : 2 * suc m ≡ suc (suc (2 * m)) = omega arith in
    let y : 2 * suc m + 1 ≡ suc (suc (2 * m + 1)) = omega arith in
    ap₂ (λ (j k : ℕ). Some (st (get_or (s ∷ (e ∷ l)) j 0) (get_or (s ∷ (e ∷ l)) k 0))) z y ∙ nth-here l m (omega arith)
