-- Laws of filling: what stands in the cells is the written answers, a call from number 0 that says "done" has written the whole list, and cells into which
-- one answer is written after another.
-- Assumes nothing.
use Prim.Native.Nat.{ℕ, zero, suc, ◌+◌, ◌*◌, ◌≤◌, ◌<◌}
use mathlib.Core.Path.{◌≡◌, refl, sym, ap, ap₂, ◌∙◌}
use mathlib.Core.Bool.{false}
use mathlib.Core.List.{List, [], ◌∷◌, ◌++◌, append_assoc}
use lib.ListN.{length, get_or, set, take, drop, length-append, length-take, length-drop}
use lib.Seq.{drop-cons, set_at, take_all, take_at}
use borrow.Author.Tests.{ltb-false, le-ltb}
use native.Mathlib.Omega.{arith}
use Rattle.stretches.specs.Stretch.{Stretch, st}
use Rattle.stretches.specs.Filling.{flat, pairs_in, written, filled, more_after}
use Rattle.stretches.specs.Lent.{pairs}

pub length-flat : (l : List Stretch) → length (flat l) ≡ 2 * length l
length-flat [] = refl
length-flat (x ∷ l) = omega (arith, length-flat l)

pub pairs-flat : (l : List Stretch) → pairs (flat l) ≡ l
pairs-flat [] = refl
pairs-flat (x ∷ l) = ap (λ (r : List Stretch). x ∷ r) (pairs-flat l)

-- cells as stretches
pub pair-at : (cells : List ℕ) (g : ℕ) → 2 * g + 1 < length cells → get_or (pairs cells) g (st 0 0) ≡ st (get_or cells (2 * g) 0) (get_or cells (2 * g + 1) 0)
pair-at [] g h = absurd (omega arith)
pair-at (s ∷ []) g h = absurd (omega arith)
pair-at (s ∷ (e ∷ r)) zero h = refl
pair-at (s ∷ (e ∷ r)) (suc g) h =
    let y : suc (suc (2 * g)) ≡ 2 * suc g = omega arith in
    let z : suc (suc (2 * g + 1)) ≡ 2 * suc g + 1 = omega arith in
    pair-at r g (omega arith) ∙ ap₂ (λ (i j : ℕ). st (get_or (s ∷ (e ∷ r)) i 0) (get_or (s ∷ (e ∷ r)) j 0)) y z

pub pairs-length : (cells : List ℕ) (n : ℕ) → length cells ≡ 2 * n → length (pairs cells) ≡ n
pairs-length [] n h = omega arith
pairs-length (s ∷ []) n h = absurd (omega arith)
pairs-length (s ∷ (e ∷ r)) zero h = absurd (omega arith)
pairs-length (s ∷ (e ∷ r)) (suc n) h = ap suc (pairs-length r n (omega arith))

-- the first cells hold what was written
pub filled-front : (l : List Stretch) (f : ℕ) (cells : List ℕ) → pairs (take (2 * length (written l f cells)) (filled l f cells)) ≡ written l f cells
filled-front l f cells =
    let w : List Stretch = written l f cells in
    ap pairs (take_at (flat w) (drop (2 * length w) cells) (2 * length w) (length-flat w)) ∙ pairs-flat w

-- from number 0, "done": all was written
pub done_all : (l : List Stretch) (cells : List ℕ) → more_after l 0 cells ≡ false → written l 0 cells ≡ l
done_all l cells e =
    let h : length l ≤ 0 + length (written l 0 cells) = ltb-false (0 + length (written l 0 cells)) (length l) e in
    take_all (pairs_in cells) l (omega (arith, length-take (pairs_in cells) l))

-- cells for all: "done"
pub room-done : (l : List Stretch) (cells : List ℕ) → 2 * length l ≤ length cells → more_after l 0 cells ≡ false
room-done l cells h =
    let k : length l ≤ pairs_in cells = omega arith in
    le-ltb (0 + length (written l 0 cells)) (length l) (omega (arith, length-take (pairs_in cells) l))

-- ── One answer after another ──

module _ {A : Type 0} where
  pub drop-step : (n : ℕ) (l : List A) (x : A) (m : List A) → drop n l ≡ x ∷ m → (drop (suc n) l ≡ m) × (take (suc n) l ≡ take n l ++ (x ∷ []))
  drop-step zero [] x m e = let z : ◌≡◌ {A = ℕ} 0 1 = cc in absurd (omega arith)
  drop-step zero (y ∷ l) x m e = (cc, cc)
  drop-step (suc n) [] x m e = let z : ◌≡◌ {A = ℕ} 0 1 = cc in absurd (omega arith)
  drop-step (suc n) (y ∷ l) x m e = let k = drop-step n l x m e in (k.0, ap (λ (s : List A). y ∷ s) k.1)

flat_append : (a b : List Stretch) → flat (a ++ b) ≡ flat a ++ flat b
flat_append [] b = refl
flat_append (x ∷ a) b = ap (λ (r : List ℕ). x.start ∷ x.end ∷ r) (flat_append a b)

-- a cell is written behind what was; and two
pub put_one : (p cells : List ℕ) (i x : ℕ) → length p ≡ i → i < length cells → set (p ++ drop i cells) i x ≡ (p ++ (x ∷ [])) ++ drop (i + 1) cells
put_one p cells i x h k =
    let z : suc i ≡ i + 1 = omega arith in
    ap (λ (l : List ℕ). set (p ++ l) i x) (drop-cons cells i 0 k) ∙ set_at p (get_or cells i 0) (drop (suc i) cells) x i h
    ∙ sym (append_assoc p (x ∷ []) (drop (suc i) cells)) ∙ ap (λ (j : ℕ). (p ++ (x ∷ [])) ++ drop j cells) z

pub put_two : (p cells : List ℕ) (i s e : ℕ) → length p ≡ i → i + 2 ≤ length cells → set (set (p ++ drop i cells) i s) (i + 1) e ≡ (p ++ (s ∷ e ∷ [])) ++ drop (i + 2) cells
put_two p cells i s e h k =
    let z : i + 1 + 1 ≡ i + 2 = omega arith in
    ap (λ (l : List ℕ). set l (i + 1) e) (put_one p cells i s h (omega arith)) ∙ put_one (p ++ (s ∷ [])) cells (i + 1) e (omega (arith, length-append p (s ∷ []))) (omega arith)
    ∙ ap₂ (λ (l : List ℕ) (j : ℕ). l ++ drop j cells) (append_assoc p (s ∷ []) (e ∷ [])) z

-- n of these answers are written
pub record Partly (l : List Stretch) (n : ℕ) (cells₀ cells : List ℕ) : Type 0 where
  pub some : n ≤ length l
  pub wrote : cells ≡ flat (take n l) ++ drop (2 * n) cells₀

module _ (l : List Stretch) (n : ℕ) (cells₀ cells : List ℕ) (p : Partly l n cells₀ cells) where
  pub partly_more : (x : Stretch) (m : List Stretch) → drop n l ≡ x ∷ m → 2 * n + 2 ≤ length cells₀ → Partly l (n + 1) cells₀ (set (set cells (2 * n) x.start) (2 * n + 1) x.end)
  partly_more x m next room =
      let b : suc n ≡ n + 1 = omega arith in
      let c : 2 * n + 2 ≡ 2 * (n + 1) = omega arith in
      let len : length (flat (take n l)) ≡ 2 * n = length-flat (take n l) ∙ ap (λ (k : ℕ). 2 * k) (length-take n l ∙ omega (arith, p.some)) in
      let more : flat (take n l) ++ (x.start ∷ x.end ∷ []) ≡ flat (take (n + 1) l) =
      sym (flat_append (take n l) (x ∷ [])) ∙ (ap flat (sym (drop-step n l x m next).1) ∙ ap (λ (k : ℕ). flat (take k l)) b) in
      record {
        some = omega (arith, p.some, length-drop n l, ap length next);
        wrote = ap (λ (c : List ℕ). set (set c (2 * n) x.start) (2 * n + 1) x.end) p.wrote
            ∙ (put_two (flat (take n l)) cells₀ (2 * n) x.start x.end len room ∙ ap₂ (λ (a : List ℕ) (j : ℕ). a ++ drop j cells₀) more c);
      }

  -- where these are all that is to be written
  pub partly-done : written l 0 cells₀ ≡ take n l → (n ≡ length (written l 0 cells₀)) × (cells ≡ filled l 0 cells₀)
  partly-done w =
      let c : n ≡ length (written l 0 cells₀) = sym (ap length w ∙ (length-take n l ∙ omega (arith, p.some))) in
      (c, p.wrote ∙ ap₂ (λ (a : List Stretch) (k : ℕ). flat a ++ drop (2 * k) cells₀) (sym w) c)

-- all answers are written
pub partly-all : (l : List Stretch) (n : ℕ) (cells : List ℕ) → length l ≤ n → 2 * n ≤ length cells → written l 0 cells ≡ take n l
partly-all l n cells few room = take_all (pairs_in cells) l (omega arith) ∙ sym (take_all n l few)
