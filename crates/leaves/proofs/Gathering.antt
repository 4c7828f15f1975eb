-- The laws of gathering leaves: a table's leaves are all found among those gathered from it, and these are no more than its nodes. Assumes nothing.
use Prim.Native.Nat.{ℕ, zero, suc, ◌+◌, ◌≤◌, ◌<◌}
use mathlib.Core.Path.{◌≡◌, refl, sym, ap, subst, ◌∙◌}
use mathlib.Core.Bool.{true, false, not, cond, ◌&&◌, ◌||◌}
use mathlib.Core.Logic.{◌⊎◌, inl, inr}
use mathlib.Core.List.{List, [], ◌∷◌, ◌++◌}
use native.Mathlib.Omega.{arith}
use lib.ListN.{length, get_or, length-append}
use lib.Dec.{leb, ltb, eqb}
use borrow.Author.Tests.{ltb-true, ltb-false, lt-leb, eqb-true, eq-eqb, ne_eqb}
use Rattle.std.proofs.lemmas.List.Folds.{position_or_len_push}
use Rattle.std.proofs.lemmas.List.Sums.{passes_at_first, prefix_len-le-length}
use Rattle.basics.proofs.Basics.{cases, and-true, le-or-lt}
use Rattle.stretches.specs.declared.Node.{Node}
use Rattle.stretches.specs.Table.{node_at, kind_at, leaf_kind}
use Rattle.leaves.specs.declared.Leaf.{Leaf}
use Rattle.leaves.specs.Leaves.{leaf_of, same_leaf, number_in, added, with_node, gathered_to, leaves_of}

-- a leaf is among these
abbrev pub Has : List Leaf → Leaf → Type 0
Has ls x = number_in ls x < length ls

-- the same leaves are equal
pub same-is : (x y : Leaf) → same_leaf x y ≡ true → x ≡ y
same-is x y h =
    let a = and-true (eqb x.kind y.kind) (eqb x.first y.first && eqb x.second y.second) h in
    let b = and-true (eqb x.first y.first) (eqb x.second y.second) a.1 in
    λ i. record { kind = eqb-true x.kind y.kind a.0 i; first = eqb-true x.first y.first b.0 i; second = eqb-true x.second y.second b.1 i }

-- a leaf is the same as itself
same-self : (x : Leaf) → same_leaf x x ≡ true
same-self x = simp (eq-eqb x.kind x.kind refl, eq-eqb x.first x.first refl, eq-eqb x.second x.second refl)

-- what is found is the leaf
pub leaf-is : (ls : List Leaf) (x d : Leaf) → Has ls x → get_or ls (number_in ls x) d ≡ x
leaf-is ls x d h = same-is (get_or ls (number_in ls x) d) x (passes_at_first (λ y. same_leaf y x) ls d h)

-- ── One leaf more ──

module _ (ls : List Leaf) (x : Leaf) where
  -- the place of a leaf with one more behind
  push : (y : Leaf) → number_in (ls ++ (x ∷ [])) y ≡ cond (eqb (number_in ls y) (length ls)) (length ls + cond (same_leaf x y) 0 1) (number_in ls y)
  push y = position_or_len_push (λ z. same_leaf z y) ls x

  more : length (ls ++ (x ∷ [])) ≡ length ls + 1
  more = length-append ls (x ∷ [])

  -- one that was among them is
  pub adds-keep : (y : Leaf) → Has ls y → Has (added ls x) y
  adds-keep y h = cases (ltb (number_in ls x) (length ls) || leb 64 (length ls)) (λ t. Has (cond t ls (ls ++ (x ∷ []))) y) (λ _. h)
      (λ _. omega (arith, more, push y ∙ ap (λ t. cond t (length ls + cond (same_leaf x y) 0 1) (number_in ls y)) (ne_eqb (number_in ls y) (length ls) (λ e. omega arith))))

  -- and so is the new one, where there is room
  pub adds-new : length ls < 64 → Has (added ls x) x
  adds-new room = cases (ltb (number_in ls x) (length ls)) (λ t. Has (cond (t || leb 64 (length ls)) ls (ls ++ (x ∷ []))) x) (λ t. ltb-true (number_in ls x) (length ls) t)
      (λ t. subst (λ u. Has (cond u ls (ls ++ (x ∷ []))) x) (sym (lt-leb 64 (length ls) room))
      (let n = ltb-false (number_in ls x) (length ls) t in
      let e : number_in ls x ≡ length ls = omega (arith, prefix_len-le-length (λ y. not (same_leaf y x)) ls) in
      omega (arith, more, push x ∙ ap (λ t. cond t (length ls + cond (same_leaf x x) 0 1) (number_in ls x)) (eq-eqb (number_in ls x) (length ls) e) ∙ ap (λ t. length ls + cond t 0 1) (same-self x))))

  pub adds-few : length (added ls x) ≤ length ls + 1
  adds-few = cases (ltb (number_in ls x) (length ls) || leb 64 (length ls)) (λ t. length (cond t ls (ls ++ (x ∷ []))) ≤ length ls + 1) (λ _. omega arith) (λ _. omega (arith, more))

-- ── The leaves of a table ──

-- those of the first m nodes are among these, which are no more
record Knows (rows : List Node) (m : ℕ) (ls : List Leaf) : Type 0 where
  few : length ls ≤ m
  known : (v : ℕ) → v < m → leaf_kind (kind_at rows v) ≡ true → Has ls (leaf_of (node_at rows v))

split : (P : ℕ → Type 0) (m v : ℕ) → v < suc m → P m → (v < m → P v) → P v
split P m v h p f = by (le-or-lt m v)
  where
    by : (m ≤ v) ⊎ (v < m) → P v
    by (inl l) = let z : m ≡ v = omega arith in subst P z p
    by (inr l) = f l

knows : (rows : List Node) (m : ℕ) → m ≤ 32 → Knows rows m (gathered_to rows [] m)
unfolding gathered_to
knows rows zero h = record { few = omega arith; known = λ v l. absurd (omega arith) }
knows rows (suc m) h = go (gathered_to rows [] m) (knows rows m (omega arith))
  where
    go : (ls : List Leaf) → Knows rows m ls → Knows rows (suc m) (with_node ls (node_at rows m))
    go ls w = cases (leaf_kind (kind_at rows m)) (λ t. Knows rows (suc m) (cond t (added ls (leaf_of (node_at rows m))) ls))
        (λ _. record {
          few = omega (arith, w.few, adds-few ls (leaf_of (node_at rows m)));
          known = λ v l k. split (λ v. Has (added ls (leaf_of (node_at rows m))) (leaf_of (node_at rows v))) m v l (adds-new ls (leaf_of (node_at rows m)) (omega (arith, w.few))) (λ q. adds-keep ls (leaf_of (node_at rows m)) (leaf_of (node_at rows v)) (w.known v q k));
        })
        (λ e. record { few = omega (arith, w.few); known = λ v l. split (λ v. leaf_kind (kind_at rows v) ≡ true → Has ls (leaf_of (node_at rows v))) m v l (λ k. let z : false ≡ true = sym e ∙ k in cc) (w.known v) })

module _ (rows : List Node) where
  pub leaf-few : length (leaves_of rows) ≤ 32
  leaf-few = (knows rows 32 (omega arith)).few

  -- each of its leaves is found
  pub leaf-found : (v : ℕ) → v < 32 → leaf_kind (kind_at rows v) ≡ true → Has (leaves_of rows) (leaf_of (node_at rows v))
  leaf-found v h k = (knows rows 32 (omega arith)).known v h k
