-- The top and the span of the queue from a list on, as the code folds them from the last list back to the first; and what an advance does to the counts.
-- The items are opened at one list; an advance stores at the top's list. Assumes nothing.
use Prim.Native.Nat.{ℕ, zero, suc, ◌+◌, ◌-◌, ◌≤◌, ◌<◌}
use mathlib.Core.Path.{◌≡◌, refl, sym, ap, ap₂, subst, ◌∙◌}
use mathlib.Core.Bool.{Bool, true, false, cond}
use mathlib.Core.List.{List, [], ◌∷◌}
use native.Mathlib.Omega.{arith}
use lib.ListN.{length, get_or, set, drop, drop_of_length-le}
use lib.Seq.{drop-nil}
use Rattle.std.specs.Prelude.{Option, IfSome}
use Rattle.stretches.specs.declared.Stretch.{Stretch}
use Rattle.stretches.specs.Front.{Front, None, Some, nth}
use Rattle.stretches.specs.Taking.{Order, fronts, leads, top, top_index, join, span, one_more, advance}
use Rattle.stretches.proofs.Incomparable.{fine-few}
use Rattle.stretches.proofs.Fine.{AllFine, first_fine, rest-fine}
use Rattle.meaning.specs.Refusals.{disordered}
use Rattle.lent.proofs.Ordering.{fine-lists}
use Rattle.taking.specs.inner.Queue.{better_of, Topped}

-- ── The queue, opened at a list ──

pub fronts-length : (ls : List (List Stretch)) (ks : List ℕ) → length ks ≡ length ls → length (fronts ls ks) ≡ length ls
fronts-length [] ks e = refl
fronts-length (l ∷ ls) [] e = absurd (omega arith)
fronts-length (l ∷ ls) (k ∷ ks) e = ap suc (fronts-length ls ks (omega arith))

fronts-open : (i : ℕ) (ls : List (List Stretch)) (ks : List ℕ) → length ks ≡ length ls → i < length ls
    → drop i (fronts ls ks) ≡ nth (get_or ls i []) (get_or ks i 0 - 1) ∷ drop (suc i) (fronts ls ks)
fronts-open i [] ks e h = absurd (omega arith)
fronts-open i (l ∷ ls) [] e h = absurd (omega arith)
fronts-open zero (l ∷ ls) (k ∷ ks) e h = refl
fronts-open (suc i) (l ∷ ls) (k ∷ ks) e h = fronts-open i ls ks (omega arith) (omega arith)

-- where one item is missing, the span is
span-first : (r : List Front) → span (None ∷ r) ≡ None
span-first [] = refl
span-first (g ∷ r) = refl

join-missing : (f g : Front) → g ≡ None → join f g ≡ None
join-missing None g e = refl
join-missing (Some x) g e = ap (join (Some x)) e

span-later : (q : List Front) (j : ℕ) → j < length q → span (drop j q) ≡ None → span q ≡ None
span-later [] j h e = absurd (omega arith)
span-later (f ∷ q) zero h e = e
span-later (f ∷ []) (suc j) h e = absurd (omega arith)
span-later (f ∷ (g ∷ q)) (suc j) h e = join-missing f (span (g ∷ q)) (span-later (g ∷ q) j (omega arith) e)

module _ (ls : List (List Stretch)) (ks : List ℕ) (room : length ks ≡ length ls) where
  -- the item of list i that was taken last
  abbrev item : ℕ → Front
  item i = nth (get_or ls i []) (get_or ks i 0 - 1)

  back : (i : ℕ) → 0 < i → i ≤ length ls → drop (i - 1) (fronts ls ks) ≡ item (i - 1) ∷ drop i (fronts ls ks)
  back i lo hi =
      let z : suc (i - 1) ≡ i = omega arith in
      fronts-open (i - 1) ls ks room (omega arith) ∙ ap (λ (j : ℕ). item (i - 1) ∷ drop j (fronts ls ks)) z

  over : drop (length ls) (fronts ls ks) ≡ []
  over = drop_of_length-le (fronts ls ks) {i = length ls} (omega (arith, fronts-length ls ks room))

  -- ── The span ──

  pub span-empty : length ls ≡ 0 → None ≡ span (fronts ls ks)
  span-empty e = sym (ap span (ap (λ (j : ℕ). drop j (fronts ls ks)) (sym e) ∙ over))

  pub span-end : (m : ℕ) → m + 1 ≡ length ls → item m ≡ span (drop m (fronts ls ks))
  span-end m e =
      let z : suc m ≡ length ls = omega arith in
      sym (ap span (fronts-open m ls ks room (omega arith) ∙ ap (λ r. item m ∷ r) (ap (λ (j : ℕ). drop j (fronts ls ks)) z ∙ over)))

  pub span-missing : (j : ℕ) → j < length ls → None ≡ item j → None ≡ span (fronts ls ks)
  span-missing j h e =
      let o = fronts-open j ls ks room h in
      sym (span-later (fronts ls ks) j (omega (arith, fronts-length ls ks room)) (ap span (o ∙ ap (λ f. f ∷ drop (suc j) (fronts ls ks)) (sym e)) ∙ span-first (drop (suc j) (fronts ls ks))))

  pub span-back : (i : ℕ) (x s s' : Front) → 0 < i → i < length ls → x ≡ item (i - 1) → s' ≡ join x s → s ≡ span (drop i (fronts ls ks)) → s' ≡ span (drop (i - 1) (fronts ls ks))
  span-back i x s s' lo hi h e w =
      let o = fronts-open i ls ks room hi in
      e ∙ (ap₂ join h (w ∙ ap span o) ∙ sym (ap span (back i lo (omega arith) ∙ ap (λ r. item (i - 1) ∷ r) o)))

-- ── The top ──

top-turn : (o : Order) (q : List Front) (i : ℕ) (f : Front) (t : Option (Stretch × ℕ)) → drop i q ≡ f ∷ drop (suc i) q → Topped o q (suc i) t → Topped o q i (better_of o f i t)
top-turn o q i None None e w = ap (top o) e ∙ w
top-turn o q i None (Some s) e w = (ap (top o) e ∙ w.0, omega (arith, ap (top_index o) e, w.1))
top-turn o q i (Some x) None e w =
    let g = λ (g : Front). cond (leads o (Some x) g) 0 (suc (top_index o (drop (suc i) q))) in
    (ap (top o) e ∙ ap (λ g. cond (leads o (Some x) g) (Some x) g) w, omega (arith, ap (top_index o) e ∙ ap g w))
top-turn o q i (Some x) (Some s) e w =
    go (o x s.0) (ap (top o) e ∙ ap (λ g. cond (leads o (Some x) g) (Some x) g) w.0)
    (ap (top_index o) e ∙ ap (λ (g : Front). cond (leads o (Some x) g) 0 (suc (top_index o (drop (suc i) q)))) w.0)
  where
    go : (v : Bool) → top o (drop i q) ≡ cond v (Some x) (Some s.0) → top_index o (drop i q) ≡ cond v 0 (suc (top_index o (drop (suc i) q))) → Topped o q i (cond v (Some (x, i)) (Some s))
    go true p k = (p, omega (arith, k))
    go false p k = (p, omega (arith, k, w.1))

module _ (o : Order) (ls : List (List Stretch)) (ks : List ℕ) (room : length ks ≡ length ls) where
  pub top-end : (n : ℕ) → n ≡ length ls → Topped o (fronts ls ks) n None
  top-end n e = ap (top o) (ap (λ (j : ℕ). drop j (fronts ls ks)) e ∙ over ls ks room)

  pub top_back : (i : ℕ) (x : Front) (t t' : Option (Stretch × ℕ)) → 0 < i → i ≤ length ls → x ≡ item ls ks room (i - 1) → t' ≡ better_of o x (i - 1) t
      → Topped o (fronts ls ks) i t → Topped o (fronts ls ks) (i - 1) t'
  top_back i x t t' lo hi h e w =
      let z : i ≡ suc (i - 1) = omega arith in
      subst (Topped o (fronts ls ks) (i - 1)) (sym (e ∙ ap (λ f. better_of o f (i - 1) t) h))
      (top-turn o (fronts ls ks) (i - 1) (item ls ks room (i - 1)) t (fronts-open (i - 1) ls ks room (omega arith)) (subst (λ (j : ℕ). Topped o (fronts ls ks) j t) z w))

-- ── An advance ──

-- where there is a top, it is the item of its list; where there is none, its list is past the last
top-at : (o : Order) (q : List Front) (y : Stretch) → top o q ≡ Some y → (top_index o q < length q) × (get_or q (top_index o q) None ≡ Some y)
top-at o [] y e = let z : ◌≡◌ {A = ℕ} 0 1 = cc in absurd (omega arith)
top-at o (f ∷ fs) y e = go (leads o f (top o fs)) e (top-at o fs y)
  where
    go : (v : Bool) → cond v f (top o fs) ≡ Some y → (top o fs ≡ Some y → (top_index o fs < length fs) × (get_or fs (top_index o fs) None ≡ Some y))
        → (cond v 0 (suc (top_index o fs)) < suc (length fs)) × (get_or (f ∷ fs) (cond v 0 (suc (top_index o fs))) None ≡ Some y)
    go true p k = (omega arith, p)
    go false p k = (omega (arith, (k p).0), (k p).1)

top-none : (o : Order) (q : List Front) → top o q ≡ None → top_index o q ≡ length q
top-none o [] e = refl
top-none o (f ∷ fs) e = go (leads o f (top o fs)) refl e (top-none o fs)
  where
    go : (v : Bool) → leads o f (top o fs) ≡ v → cond v f (top o fs) ≡ None → (top o fs ≡ None → top_index o fs ≡ length fs) → cond v 0 (suc (top_index o fs)) ≡ suc (length fs)
    go true l p k = let z = ap (λ g. leads o g (top o fs)) (sym p) ∙ l in let y : ◌≡◌ {A = ℕ} 0 1 = cc in absurd (omega arith)
    go false l p k = ap suc (k p)

-- one more at i is a store there; past the last it changes nothing
more-set : (i : ℕ) (ks : List ℕ) → i < length ks → one_more i ks ≡ set ks i (get_or ks i 0 + 1)
more-set i [] h = absurd (omega arith)
more-set zero (k ∷ ks) h = let z : suc k ≡ k + 1 = omega arith in ap (λ j. j ∷ ks) z
more-set (suc i) (k ∷ ks) h = ap (λ l. k ∷ l) (more-set i ks (omega arith))

more-past : (i : ℕ) (ks : List ℕ) → length ks ≤ i → one_more i ks ≡ ks
more-past i [] h = refl
more-past zero (k ∷ ks) h = absurd (omega arith)
more-past (suc i) (k ∷ ks) h = ap (λ l. k ∷ l) (more-past i ks (omega arith))

nth-short : (l : List Stretch) (m : ℕ) (y : Stretch) → nth l m ≡ Some y → m < length l
nth-short [] zero y e = let z : ◌≡◌ {A = ℕ} 0 1 = cc in absurd (omega arith)
nth-short [] (suc m) y e = let z : ◌≡◌ {A = ℕ} 0 1 = cc in absurd (omega arith)
nth-short (x ∷ l) zero y e = omega arith
nth-short (x ∷ l) (suc m) y e = omega (arith, nth-short l m y e)

-- no lent list has more than 65,536 stretches
short-lists : (ls : List (List Stretch)) → AllFine 65536 ls → (i : ℕ) → length (get_or ls i []) ≤ 65536
short-lists [] f i = omega arith
short-lists (l ∷ ls) f zero = fine-few 65536 l (first_fine f)
short-lists (l ∷ ls) f (suc i) = short-lists ls (rest-fine f) i

get_or-drop-front : (q : List Front) (i : ℕ) (f : Front) (r : List Front) → drop i q ≡ f ∷ r → get_or q i None ≡ f
get_or-drop-front [] i f r e = let w : [] ≡ f ∷ r = sym (drop-nil i) ∙ e in let z : ◌≡◌ {A = ℕ} 0 1 = cc in absurd (omega arith)
get_or-drop-front (g ∷ q) zero f r e = cc
get_or-drop-front (g ∷ q) (suc i) f r e = get_or-drop-front q i f r e

module _ (o : Order) (ls : List (List Stretch)) (ks : List ℕ) (room : length ks ≡ length ls) where
  -- the top's list, and that its count is far from full
  pub top-open : (t : Option (Stretch × ℕ)) → Topped o (fronts ls ks) 0 t → disordered ls ≡ false → IfSome t (λ t. (t.1 < length ks) × (get_or ks t.1 0 ≤ 65536))
  top-open None w d = tt
  top-open (Some t) w d =
      let k = top-at o (fronts ls ks) t.0 w.0 in
      let n = fronts-length ls ks room in
      let i : t.1 ≡ top_index o (fronts ls ks) = omega (arith, w.1) in
      let h : t.1 < length ls = omega (arith, k.0) in
      let g = get_or-drop-front (fronts ls ks) t.1 (item ls ks room t.1) (drop (suc t.1) (fronts ls ks)) (fronts-open t.1 ls ks room h) in
      let m = nth-short (get_or ls t.1 []) (get_or ks t.1 0 - 1) t.0 (sym g ∙ (ap (λ j. get_or (fronts ls ks) j None) i ∙ k.1)) in
      (omega arith, omega (arith, m, short-lists ls (fine-lists ls d) t.1))

  pub moved : (t : Stretch × ℕ) → Topped o (fronts ls ks) 0 (Some t) → t.1 < length ks → set ks t.1 (get_or ks t.1 0 + 1) ≡ advance o ls ks
  moved t w h =
      let i : t.1 ≡ top_index o (fronts ls ks) = omega (arith, w.1) in
      sym (more-set t.1 ks h) ∙ ap (λ j. one_more j ks) i

  pub moved_none : Topped o (fronts ls ks) 0 None → ks ≡ advance o ls ks
  moved_none w = sym (more-past (top_index o (fronts ls ks)) ks (omega (arith, top-none o (fronts ls ks) w, fronts-length ls ks room)))
