-- The order of lent lists: what the reader of a list finds at each stretch, and that lists which are not refused rise, are sound and end below 65,536.
-- A list is read with the least start and end that its next stretch may have, one past those before. Assumes nothing.
use Prim.Native.Nat.{ℕ, suc, ◌≤◌, ◌<◌}
use mathlib.Core.Path.{◌≡◌, refl, sym, ap, ap₂, ◌∙◌}
use mathlib.Core.Logic.{◌⊎◌, inl, inr}
use mathlib.Core.Bool.{Bool, true, false, ◌||◌}
use mathlib.Core.List.{List, [], ◌∷◌}
use native.Mathlib.Omega.{arith}
use lib.ListN.{length, get_or}
use lib.Dec.{ltb, leb, leb-suc-suc}
use borrow.Author.Tests.{lt-ltb, le-ltb, ltb-false}
use Rattle.stretches.specs.declared.Stretch.{Stretch}
use Rattle.stretches.specs.Stretch.{st, In, Sound, Fine}
use Rattle.stretches.specs.Lent.{pairs}
use Rattle.stretches.proofs.InRun.{Below}
use Rattle.basics.proofs.Basics.{or_left, or_right, or-false}
use Rattle.stretches.proofs.Fine.{AllFine, fine-none, all_none, all_more}
use Rattle.meaning.specs.Refusals.{spoiled, disordered_after, disordered_list, disordered}

-- ── One list ──

-- disordered, where a start must be at least a and an end at least b
abbrev pub unrisen : ℕ → ℕ → List Stretch → Bool
unrisen a b [] = false
unrisen a b (y ∷ l) = spoiled y || ((ltb y.start a || ltb y.end b) || unrisen (suc y.start) (suc y.end) l)

leb-ltb : (m n : ℕ) → leb m n ≡ ltb m (suc n)
leb-ltb m n = sym (leb-suc-suc m n)

after-unrisen : (x : Stretch) (l : List Stretch) → disordered_after x l ≡ unrisen (suc x.start) (suc x.end) l
after-unrisen x [] = refl
after-unrisen x (y ∷ l) =
    ap₂ (λ p q. spoiled y || (p || q)) (ap₂ ◌||◌ (leb-ltb y.start x.start) (leb-ltb y.end x.end)) (after-unrisen y l)

pub list-unrisen : (l : List Stretch) → disordered_list l ≡ unrisen 0 0 l
list-unrisen [] = refl
list-unrisen (x ∷ l) =
    ap (λ q. spoiled x || q)
    (after-unrisen x l
    ∙ ap₂ (λ p q. (p || q) || unrisen (suc x.start) (suc x.end) l) (sym (le-ltb x.start 0 (omega arith))) (sym (le-ltb x.end 0 (omega arith))))

-- what is wrong with [s..e], tested in this order
abbrev pub Wrong : ℕ → ℕ → ℕ → ℕ → Type 0
Wrong a b s e = (e < s) ⊎ (((s ≤ e) × (65535 < e)) ⊎ (((s ≤ e) × (e ≤ 65535) × (s < a)) ⊎ ((s ≤ e) × (e ≤ 65535) × (a ≤ s) × (e < b))))

-- found in the first stretch of a list
pub list-wrong : (l : List ℕ) (a b s e : ℕ) → 2 ≤ length l → s ≡ get_or l 0 0 → e ≡ get_or l 1 0 → Wrong a b s e → true ≡ unrisen a b (pairs l)
list-wrong [] a b s e h p q w = absurd (omega arith)
list-wrong (x ∷ []) a b s e h p q w = absurd (omega arith)
list-wrong (x ∷ (y ∷ l)) a b s e h p q w = sym (ap₂ (λ x y. unrisen a b (st x y ∷ pairs l)) (sym p) (sym q) ∙ go w)
  where
    go : Wrong a b s e → unrisen a b (st s e ∷ pairs l) ≡ true
    go (inl h) = or_left _ _ (or_left _ _ (lt-ltb e s h))
    go (inr (inl h)) = or_left _ _ (or_right (ltb e s) _ (or_right (ltb 65535 s) _ (lt-ltb 65535 e h.1)))
    go (inr (inr (inl h))) = or_right (spoiled (st s e)) _ (or_left _ _ (or_left _ _ (lt-ltb s a h.2)))
    go (inr (inr (inr h))) = or_right (spoiled (st s e)) _ (or_left _ _ (or_right (ltb s a) _ (lt-ltb e b h.3)))

-- ── What is not disordered is fine ──

-- the first stretch of a list that is not disordered, and what follows it
record First (a b : ℕ) (y : Stretch) (l : List Stretch) : Type 0 where
  sound : y.start ≤ y.end
  below : y.end < 65536
  starts : a ≤ y.start
  ends : b ≤ y.end
  rest : unrisen (suc y.start) (suc y.end) l ≡ false

first : (a b : ℕ) (y : Stretch) (l : List Stretch) → unrisen a b (y ∷ l) ≡ false → First a b y l
first a b y l h =
    let o = or-false (spoiled y) ((ltb y.start a || ltb y.end b) || unrisen (suc y.start) (suc y.end) l) h in
    let p = or-false (ltb y.end y.start) (ltb 65535 y.start || ltb 65535 y.end) o.0 in
    let q = or-false (ltb 65535 y.start) (ltb 65535 y.end) p.1 in
    let r = or-false (ltb y.start a || ltb y.end b) (unrisen (suc y.start) (suc y.end) l) o.1 in
    let w = or-false (ltb y.start a) (ltb y.end b) r.0 in
    record {
      sound = ltb-false y.end y.start p.0;
      below = omega (arith, ltb-false 65535 y.end q.1);
      starts = ltb-false y.start a w.0;
      ends = ltb-false y.end b w.1;
      rest = r.1;
    }

-- the list is fine, and every member starts at a or later and ends at b or later
record Standing (a b : ℕ) (l : List Stretch) : Type 0 where
  fine : Fine 65536 l
  past : (s e : ℕ) → In s e l → (a ≤ s) × (b ≤ e)

standing : (a b : ℕ) (l : List Stretch) → unrisen a b l ≡ false → Standing a b l
standing a b [] h = record { fine = fine-none 65536; past = λ s e m. absurd m }
standing a b (y ∷ l) h = go (first a b y l h) (standing (suc y.start) (suc y.end) l (first a b y l h).rest)
  where
    go : First a b y l → Standing (suc y.start) (suc y.end) l → Standing a b (y ∷ l)
    go f k = record {
      fine = record {
        rising = ((λ s e m. (omega (arith, (k.past s e m).0), omega (arith, (k.past s e m).1))), k.fine.rising);
        sound = sound;
        below = below;
      };
      past = past;
    }
      where
        sound : Sound (y ∷ l)
        sound s e (inl m) = omega (arith, f.sound)
        sound s e (inr m) = k.fine.sound s e m

        below : Below 65536 (y ∷ l)
        below s e (inl m) = omega (arith, f.below)
        below s e (inr m) = k.fine.below s e m

        past : (s e : ℕ) → In s e (y ∷ l) → (a ≤ s) × (b ≤ e)
        past s e (inl m) = (omega (arith, f.starts), omega (arith, f.ends))
        past s e (inr m) = let g = k.past s e m in (omega (arith, f.starts, g.0), omega (arith, f.ends, g.1))

pub fine-list : (l : List Stretch) → disordered_list l ≡ false → Fine 65536 l
fine-list l h = (standing 0 0 l (sym (list-unrisen l) ∙ h)).fine

pub fine-lists : (ls : List (List Stretch)) → disordered ls ≡ false → AllFine 65536 ls
fine-lists [] h = all_none 65536
fine-lists (l ∷ ls) h = let p = or-false (disordered_list l) (disordered ls) h in all_more (fine-list l p.0) (fine-lists ls p.1)
