-- Triples written one behind the other: as many as fit. Assumes nothing.
use Prim.Native.Nat.{ℕ, ◌+◌, ◌*◌, ◌/◌, ◌≤◌, ◌<◌}
use mathlib.Core.Path.{◌≡◌, refl, sym, ap, ap₂, subst, ◌∙◌}
use mathlib.Core.List.{List, [], ◌∷◌, ◌++◌, append_assoc, append-nil}
use native.Mathlib.Omega.{arith}
use lib.ListN.{length, set, drop, length-append, length-take, length-drop}
use lib.Seq.{take-append-le, take_all}
use Rattle.stretches.specs.declared.Stretch.{Stretch}
use Rattle.stretches.proofs.Filling.{put_one, put_two}
use Rattle.meaning.specs.Shown.{Shown, shows}
use Rattle.witness.specs.Witness.{flat_shown, triples_in, written_shown, filled_shown}
use Rattle.witness.specs.inner.Showing.{Held, Grown}

flat-length : (l : List Shown) → length (flat_shown l) ≡ 3 * length l
flat-length [] = refl
flat-length (z ∷ l) = omega (arith, flat-length l)

flat_append : (a b : List Shown) → flat_shown (a ++ b) ≡ flat_shown a ++ flat_shown b
flat_append [] b = refl
flat_append (z ∷ a) b = ap (λ (r : List ℕ). z.node ∷ z.stretch.start ∷ z.stretch.end ∷ r) (flat_append a b)

filled-length : (l : List Shown) (cells : List ℕ) → length (filled_shown l cells) ≡ length cells
filled-length l cells =
    omega (arith, length-append (flat_shown (written_shown l cells)) (drop (3 * length (written_shown l cells)) cells), flat-length (written_shown l cells), length-drop (3 * length (written_shown l cells)) cells, length-take (triples_in cells) l)

-- nothing is written yet
pub held_none : (cells : List ℕ) → Held [] cells 0 cells
held_none cells =
    let e : [] ≡ written_shown [] cells = sym (take_all (triples_in cells) [] (omega arith)) in
    (ap length e, ap (λ (w : List Shown). flat_shown w ++ drop (3 * length w) cells) e)

-- no whole triple fits any more
pub grown-full : (d : List Shown) (n : ℕ) (cells : List ℕ) → length cells / 3 ≤ n → Grown d n cells n cells
grown-full d n cells full l cells₀ h =
    let long : length cells ≡ length cells₀ = ap length h.1 ∙ filled-length l cells₀ in
    let some : triples_in cells₀ ≤ length l = omega (arith, h.0, length-take (triples_in cells₀) l) in
    let same : written_shown l cells₀ ≡ written_shown (l ++ d) cells₀ = sym (take-append-le (triples_in cells₀) l d some) in
    (h.0 ∙ ap length same, h.1 ∙ ap (λ (w : List Shown). flat_shown w ++ drop (3 * length w) cells₀) same)

-- one more is written
pub grown-one : (v : ℕ) (x : Stretch) (n : ℕ) (cells : List ℕ) → n < length cells / 3
    → Grown (shows v x ∷ []) n cells (n + 1) (set (set (set cells (3 * n) v) (3 * n + 1) x.start) (3 * n + 2) x.end)
grown-one v x n cells room l cells₀ h =
    let long : length cells ≡ length cells₀ = ap length h.1 ∙ filled-length l cells₀ in
    let few : length l ≡ n = omega (arith, h.0, length-take (triples_in cells₀) l) in
    let all : written_shown l cells₀ ≡ l = take_all (triples_in cells₀) l (omega arith) in
    let count : length (l ++ (shows v x ∷ [])) ≡ n + 1 = omega (arith, length-append l (shows v x ∷ [])) in
    let new : l ++ (shows v x ∷ []) ≡ written_shown (l ++ (shows v x ∷ [])) cells₀ = sym (take_all (triples_in cells₀) (l ++ (shows v x ∷ [])) (omega arith)) in
    let lp : length (flat_shown l) ≡ 3 * n = omega (arith, flat-length l) in
    let was : cells ≡ flat_shown l ++ drop (3 * n) cells₀ = h.1 ∙ ap₂ (λ (w : List Shown) (k : ℕ). flat_shown w ++ drop (3 * k) cells₀) all (ap length all ∙ few) in
    let z : 3 * n + 2 + 1 ≡ 3 * (n + 1) = omega arith in (
      sym count ∙ ap length new,
      ap (λ (c : List ℕ). set (set (set c (3 * n) v) (3 * n + 1) x.start) (3 * n + 2) x.end) was
          ∙ ap (λ (c : List ℕ). set c (3 * n + 2) x.end) (put_two (flat_shown l) cells₀ (3 * n) v x.start lp (omega arith))
          ∙ put_one (flat_shown l ++ (v ∷ x.start ∷ [])) cells₀ (3 * n + 2) x.end (omega (arith, length-append (flat_shown l) (v ∷ x.start ∷ []))) (omega arith)
          ∙ ap₂ (λ (r : List ℕ) (k : ℕ). r ++ drop k cells₀) (append_assoc (flat_shown l) (v ∷ x.start ∷ []) (x.end ∷ []) ∙ sym (flat_append l (shows v x ∷ []))) z
          ∙ ap₂ (λ (w : List Shown) (k : ℕ). flat_shown w ++ drop (3 * k) cells₀) new (sym count ∙ ap length new),
    )

-- nothing more; and one part, and then another
pub grown-none : (n : ℕ) (cells : List ℕ) → Grown [] n cells n cells
grown-none n cells l cells₀ h = subst (λ (w : List Shown). Held w cells₀ n cells) (sym (append-nil l)) h

pub grown-then : (a b : List Shown) {n n' n'' : ℕ} {cells cells' cells'' : List ℕ} → Grown a n cells n' cells' → Grown b n' cells' n'' cells'' → Grown (a ++ b) n cells n'' cells''
grown-then a b {n} {n'} {n''} {cells} {cells'} {cells''} f g l cells₀ h = subst (λ (w : List Shown). Held w cells₀ n'' cells'') (append_assoc l a b) (g (l ++ a) cells₀ (f l cells₀ h))
