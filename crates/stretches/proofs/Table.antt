-- The lists of a table's nodes: a node's list from its operands' lists, operand after operand; lists that are fine; and tables whose lists are the same.
-- Each law goes from the last node to the first. Assumes nothing.
use Prim.Native.Nat.{ℕ, zero, suc, ◌+◌, ◌-◌, ◌≤◌, ◌<◌}
use mathlib.Core.Path.{◌≡◌, refl, sym, ap, ap₂, subst, ◌∙◌}
use mathlib.Core.Logic.{◌⊎◌, inl, inr}
use mathlib.Core.Bool.{Bool, true, false, cond, ◌&&◌}
use mathlib.Core.List.{List, [], ◌∷◌, map}
use native.Mathlib.Omega.{arith}
use lib.ListN.{length, get_or}
use lib.Dec.{leb, ltb, eqb}
use borrow.Author.Tests.{leb-true, ltb-true, le-leb, lt-ltb, le-ltb, eq-eqb, ne_eqb, eqb-false}
use Rattle.basics.proofs.Basics.{cases, eq-or-ne}
use Rattle.stretches.specs.Stretch.{Stretch, Fine}
use Rattle.stretches.specs.Operators.{operator_of, apply}
use Rattle.stretches.specs.declared.Node.{Node}
use Rattle.stretches.specs.Table.{kind_at, size_at, first_at, next_of, stop_of, operands, numbers, operands_up, Given, node_list, last_lists, list_at}
use Rattle.stretches.specs.inner.Operands.{operands_from, operands_of}
use Rattle.stretches.proofs.Fine.{AllFine, all_none, all_more, first_fine, rest-fine, fine-apply}

-- ── The places behind a node ──

pub next_past : (rows : List Node) (c : ℕ) → c < 32 → (c < next_of rows c) × (next_of rows c ≤ 32)
unfolding next_of
next_past rows c h =
    let behind = cond (leb (size_at rows c) (32 - c)) (c + size_at rows c) 32 in
    subst (λ b. (c < cond b (cond (eqb (size_at rows c) 0) (c + 1) behind) 32) × (cond b (cond (eqb (size_at rows c) 0) (c + 1) behind) 32 ≤ 32)) (sym (lt-ltb c 32 h))
    (cases (eqb (size_at rows c) 0) (λ b. (c < cond b (c + 1) behind) × (cond b (c + 1) behind ≤ 32))
    (λ e. (omega arith, omega arith))
    (λ e. let n = eqb-false (size_at rows c) 0 e in
    cases (leb (size_at rows c) (32 - c)) (λ b. (c < cond b (c + size_at rows c) 32) × (cond b (c + size_at rows c) 32 ≤ 32))
    (λ k. let l = leb-true (size_at rows c) (32 - c) k in (omega (arith, n), omega arith)) (λ k. (omega arith, omega arith))))

pub stop-most : (rows : List Node) (v : ℕ) → stop_of rows v ≤ 32
unfolding stop_of
stop-most rows v =
    cases (ltb v 32) (λ b. cond b (cond (leb (size_at rows v) (32 - v)) (v + size_at rows v) 32) 32 ≤ 32)
    (λ h. let i = ltb-true v 32 h in
    cases (leb (size_at rows v) (32 - v)) (λ b. cond b (v + size_at rows v) 32 ≤ 32) (λ k. let l = leb-true (size_at rows v) (32 - v) k in omega arith) (λ k. omega arith))
    (λ h. omega arith)

-- a subtree that ends inside the table
pub next-is : (rows : List Node) (c n : ℕ) → size_at rows c ≡ n → 0 < n → c + n ≤ 32 → next_of rows c ≡ c + n
unfolding next_of
next-is rows c n e z h =
    let i : ltb c 32 ≡ true = lt-ltb c 32 (omega arith) in
    let j = ne_eqb (size_at rows c) 0 (λ y. omega arith) in
    let k : leb (size_at rows c) (32 - c) ≡ true = le-leb (size_at rows c) (32 - c) (omega arith) in
    ap (λ b. cond b (cond (eqb (size_at rows c) 0) (c + 1) (cond (leb (size_at rows c) (32 - c)) (c + size_at rows c) 32)) 32) i
    ∙ ap₂ (λ a b. cond a (c + 1) (cond b (c + size_at rows c) 32)) j k ∙ omega arith

pub stop_is : (rows : List Node) (v n : ℕ) → size_at rows v ≡ n → 0 < n → v + n ≤ 32 → stop_of rows v ≡ v + n
unfolding stop_of
stop_is rows v n e z h =
    let i : ltb v 32 ≡ true = lt-ltb v 32 (omega arith) in
    let k : leb (size_at rows v) (32 - v) ≡ true = le-leb (size_at rows v) (32 - v) (omega arith) in
    ap₂ (λ a b. cond a (cond b (v + size_at rows v) 32) 32) i k ∙ omega arith

-- they go by the sizes alone
next-same : (rows rows' : List Node) (c : ℕ) → size_at rows' c ≡ size_at rows c → next_of rows' c ≡ next_of rows c
unfolding next_of
next-same rows rows' c e = ap (λ (n : ℕ). cond (ltb c 32) (cond (eqb n 0) (c + 1) (cond (leb n (32 - c)) (c + n) 32)) 32) e

stop-same : (rows rows' : List Node) (v : ℕ) → size_at rows' v ≡ size_at rows v → stop_of rows' v ≡ stop_of rows v
unfolding stop_of
stop-same rows rows' v e = ap (λ (n : ℕ). cond (ltb v 32) (cond (leb n (32 - v)) (v + n) 32) 32) e

-- ── Operands among the nodes from u on ──

module _ {A : Type 0} (rows : List Node) (stop c u : ℕ) (l : A) (ls : List A) where
  -- a node that is not looked for
  passed-by : (u ≡ c → ⊥) → operands rows stop c u (l ∷ ls) ≡ operands rows stop c (suc u) ls
  unfolding operands
  passed-by n = ap (λ b. cond (b && ltb c stop) (l ∷ operands rows stop (next_of rows c) (suc u) ls) (operands rows stop c (suc u) ls)) (ne_eqb u c n)

  -- the operand looked for
  picked : u ≡ c → c < stop → operands rows stop c u (l ∷ ls) ≡ l ∷ operands rows stop (next_of rows c) (suc u) ls
  unfolding operands
  picked e h = ap₂ (λ a b. cond (a && b) (l ∷ operands rows stop (next_of rows c) (suc u) ls) (operands rows stop c (suc u) ls)) (eq-eqb u c e) (lt-ltb c stop h)

-- past the last operand
none_left : {A : Type 0} (rows : List Node) (stop c u : ℕ) (ls : List A) → stop ≤ c → operands rows stop c u ls ≡ []
unfolding operands
none_left rows stop c u [] h = refl
none_left rows stop c u (l ∷ ls) h = cases (eqb u c) (λ b. cond (b && ltb c stop) (l ∷ operands rows stop (next_of rows c) (suc u) ls) (operands rows stop c (suc u) ls) ≡ [])
    (λ k. ap (λ b. cond b (l ∷ operands rows stop (next_of rows c) (suc u) ls) (operands rows stop c (suc u) ls)) (le-ltb c stop h) ∙ none_left rows stop c (suc u) ls h)
    (λ k. none_left rows stop c (suc u) ls h)

-- a choice of operands, and a function of each
operands-map : {A B : Type 0} (f : A → B) (rows : List Node) (stop c u : ℕ) (xs : List A) → operands rows stop c u (map f xs) ≡ map f (operands rows stop c u xs)
unfolding operands
operands-map f rows stop c u [] = refl
operands-map {B = B} f rows stop c u (x ∷ xs) = go (eqb u c && ltb c stop) (operands-map f rows stop (next_of rows c) (suc u) xs) (operands-map f rows stop c (suc u) xs)
  where
    go : (b : Bool) → operands rows stop (next_of rows c) (suc u) (map f xs) ≡ map f (operands rows stop (next_of rows c) (suc u) xs) → operands rows stop c (suc u) (map f xs) ≡ map f (operands rows stop c (suc u) xs)
        → cond b (f x ∷ operands rows stop (next_of rows c) (suc u) (map f xs)) (operands rows stop c (suc u) (map f xs)) ≡ map f (cond b (x ∷ operands rows stop (next_of rows c) (suc u) xs) (operands rows stop c (suc u) xs))
    go true p q = ap (λ (ys : List B). f x ∷ ys) p
    go false p q = q

-- ── The operands' numbers ──

module _ (rows : List Node) (stop : ℕ) where
  -- nodes before the operand looked for are passed by
  pass-by : (c n u : ℕ) → u + n ≡ 32 → u ≤ c → operands rows stop c u (numbers u n) ≡ operands_up rows stop c
  unfolding operands_up numbers operands
  pass-by c zero u e h = let z : 0 ≡ 32 - c = omega arith in ap (λ (k : ℕ). operands rows stop c c (numbers c k)) z
  pass-by c (suc n) u e h = go (λ l. pass-by c n (suc u) (omega arith) l) (eq-or-ne u c)
    where
      go : (u < c → operands rows stop c (suc u) (numbers (suc u) n) ≡ operands_up rows stop c) → (u ≡ c) ⊎ ((u < c) ⊎ (c < u)) → operands rows stop c u (numbers u (suc n)) ≡ operands_up rows stop c
      go on (inl z) = let y : suc n ≡ 32 - c = omega arith in ap₂ (λ (a b : ℕ). operands rows stop c a (numbers a b)) z y
      go on (inr (inl l)) = passed-by rows stop c u u (numbers (suc u) n) (λ z. omega arith) ∙ on l
      go on (inr (inr l)) = absurd (omega arith)

  -- the operand at c, and those behind it
  pub up_more : (c : ℕ) → c < stop → stop ≤ 32 → operands_up rows stop c ≡ c ∷ operands_up rows stop (next_of rows c)
  unfolding operands_up numbers
  up_more c h k =
      let n : ℕ = 32 - suc c in
      let z : 32 - c ≡ suc n = omega arith in
      ap (λ (m : ℕ). operands rows stop c c (numbers c m)) z ∙ picked rows stop c c c (numbers (suc c) n) refl h
      ∙ ap (λ (cs : List ℕ). c ∷ cs) (pass-by (next_of rows c) n (suc c) (omega arith) (next_past rows c (omega arith)).0)

  -- no operand is left
  pub up-end : (c : ℕ) → stop ≤ c → operands_up rows stop c ≡ []
  unfolding operands_up
  up-end c h = none_left rows stop c c (numbers c (32 - c)) h

-- ── Node by node ──

module _ (g : Given) (rows : List Node) where
  lists-drop : (v n : ℕ) → get_or (last_lists g rows (v + n)) v [] ≡ get_or (last_lists g rows n) 0 []
  unfolding last_lists
  lists-drop zero n = let z : 0 + n ≡ n = omega arith in ap (λ (k : ℕ). get_or (last_lists g rows k) 0 []) z
  lists-drop (suc v) n =
      let z : suc v + n ≡ suc (v + n) = omega arith in
      ap (λ (k : ℕ). get_or (last_lists g rows k) (suc v) []) z ∙ lists-drop v n

  list-first : (v n : ℕ) → suc v + n ≡ 32 → node_list g rows v (last_lists g rows n) ≡ list_at g rows v
  unfolding list_at last_lists
  list-first v n h =
      let z : 32 ≡ v + suc n = omega arith in
      let y : 31 - n ≡ v = omega arith in
      sym (ap (λ (k : ℕ). get_or (last_lists g rows k) v []) z ∙ lists-drop v (suc n) ∙ ap (λ (u : ℕ). node_list g rows u (last_lists g rows n)) y)

  -- the lists of the last nodes, by their numbers
  last-numbers : (v n : ℕ) → v + n ≡ 32 → last_lists g rows n ≡ map (list_at g rows) (numbers v n)
  unfolding last_lists numbers
  last-numbers v zero e = refl
  last-numbers v (suc n) e =
      let y : 31 - n ≡ v = omega arith in
      ap₂ (λ (l : List Stretch) (ls : List (List Stretch)). l ∷ ls) (ap (λ (u : ℕ). node_list g rows u (last_lists g rows n)) y ∙ list-first v n (omega arith)) (last-numbers (suc v) n (omega arith))

  -- the operands' lists, by their numbers
  chosen : (stop c n u : ℕ) → u + n ≡ 32 → u ≤ c → operands rows stop c u (last_lists g rows n) ≡ map (list_at g rows) (operands_up rows stop c)
  chosen stop c n u e h = ap (operands rows stop c u) (last-numbers u n e) ∙ operands-map (list_at g rows) rows stop c u (numbers u n) ∙ ap (map (list_at g rows)) (pass-by rows stop c n u e h)

  pub operands-lists : (stop c : ℕ) → c ≤ 32 → operands_from g rows stop c ≡ map (list_at g rows) (operands_up rows stop c)
  unfolding operands_from
  operands-lists stop c h = chosen stop c (32 - c) c (omega arith) (omega arith)

  -- the operand at c, and those behind it
  pub from_more : (stop c : ℕ) → c < stop → stop ≤ 32 → operands_from g rows stop c ≡ list_at g rows c ∷ operands_from g rows stop (next_of rows c)
  from_more stop c h k =
      operands-lists stop c (omega arith) ∙ ap (map (list_at g rows)) (up_more rows stop c h k)
      ∙ ap (λ (ls : List (List Stretch)). list_at g rows c ∷ ls) (sym (operands-lists stop (next_of rows c) (next_past rows c (omega arith)).1))

  -- no operand is left
  pub from_end : (stop c : ℕ) → stop ≤ c → operands_from g rows stop c ≡ []
  unfolding operands_from
  from_end stop c h = none_left rows stop c c (last_lists g rows (32 - c)) h

  node-operands : (v n : ℕ) → suc v + n ≡ 32 → operands rows (stop_of rows v) (v + 1) (v + 1) (last_lists g rows n) ≡ operands_of g rows v
  node-operands v n e = chosen (stop_of rows v) (v + 1) n (v + 1) (omega arith) (omega arith) ∙ sym (operands-lists (stop_of rows v) (v + 1) (omega arith))

  -- a node's list, from its operands' lists
  pub list-node : (v : ℕ) → v < 32 → list_at g rows v ≡ apply (operator_of g.measure (kind_at rows v) (first_at rows v)) (g.own v) (operands_of g rows v)
  list-node v h =
      sym (list-first v (31 - v) (omega arith)) ∙ ap (apply (operator_of g.measure (kind_at rows v) (first_at rows v)) (g.own v)) (node-operands v (31 - v) (omega arith))

  -- ── Fine lists ──

  module _ (n : ℕ) (owns : (v : ℕ) → v < 32 → Fine n (g.own v)) where
    all-picked : (stop c u : ℕ) (ls : List (List Stretch)) → AllFine n ls → AllFine n (operands rows stop c u ls)
    unfolding operands
    all-picked stop c u [] f = f
    all-picked stop c u (l ∷ ls) f =
        cases (eqb u c && ltb c stop) (λ b. AllFine n (cond b (l ∷ operands rows stop (next_of rows c) (suc u) ls) (operands rows stop c (suc u) ls)))
        (λ e. all_more (first_fine f) (all-picked stop (next_of rows c) (suc u) ls (rest-fine f))) (λ e. all-picked stop c (suc u) ls (rest-fine f))

    all-last : (m : ℕ) → m ≤ 32 → AllFine n (last_lists g rows m)
    unfolding last_lists
    all-last zero h = all_none n
    all-last (suc m) h =
        let a = all-last m (omega arith) in
        let v : ℕ = 31 - m in
        all_more (fine-apply n (operator_of g.measure (kind_at rows v) (first_at rows v)) (g.own v) (operands rows (stop_of rows v) (v + 1) (v + 1) (last_lists g rows m)) (owns v (omega arith))
        (all-picked (stop_of rows v) (v + 1) (v + 1) (last_lists g rows m) a)) a

    pub all-operands : (stop c : ℕ) → AllFine n (operands_from g rows stop c)
    unfolding operands_from
    all-operands stop c = all-picked stop c c (last_lists g rows (32 - c)) (all-last (32 - c) (omega arith))

    -- every node's list is fine where the nodes' own lists are
    pub fine-list : (v : ℕ) → v < 32 → Fine n (list_at g rows v)
    fine-list v h =
        subst (Fine n) (sym (list-node v h))
        (fine-apply n (operator_of g.measure (kind_at rows v) (first_at rows v)) (g.own v) (operands_of g rows v) (owns v h) (all-operands (stop_of rows v) (v + 1)))

-- ── Tables with the same lists ──

-- the operands go by the sizes alone
operands_same : {A : Type 0} (rows rows' : List Node) → ((v : ℕ) → v < 32 → size_at rows' v ≡ size_at rows v) → (stop c u : ℕ) (ls : List A) → u + length ls ≡ 32
    → operands rows' stop c u ls ≡ operands rows stop c u ls
unfolding operands
operands_same rows rows' sizes stop c u [] e = refl
operands_same {A} rows rows' sizes stop c u (l ∷ ls) e = go (λ k. operands_same rows rows' sizes stop k (suc u) ls (omega arith)) (eq-or-ne u c)
  where
    apart : (u < c) ⊎ (c < u) → u ≡ c → ⊥
    apart (inl h) z = omega arith
    apart (inr h) z = omega arith

    go : ((k : ℕ) → operands rows' stop k (suc u) ls ≡ operands rows stop k (suc u) ls) → (u ≡ c) ⊎ ((u < c) ⊎ (c < u))
        → operands rows' stop c u (l ∷ ls) ≡ operands rows stop c u (l ∷ ls)
    go same (inl z) =
        let n : next_of rows' c ≡ next_of rows c = next-same rows rows' c (sizes c (omega arith)) in
        ap₂ (λ (a b : List A). cond (eqb u c && ltb c stop) (l ∷ a) b)
        (ap (λ (k : ℕ). operands rows' stop k (suc u) ls) n ∙ same (next_of rows c)) (same c)
    go same (inr k) = passed-by rows' stop c u l ls (apart k) ∙ same c ∙ sym (passed-by rows stop c u l ls (apart k))

length_last : (g : Given) (rows : List Node) (n : ℕ) → length (last_lists g rows n) ≡ n
unfolding last_lists
length_last g rows zero = refl
length_last g rows (suc n) = ap suc (length_last g rows n)

-- two tables of the same sizes, where each node of the one makes of the other's operands the other's list
module _ (g g' : Given) (rows rows' : List Node) (sizes : (v : ℕ) → v < 32 → size_at rows' v ≡ size_at rows v)
    (nodes : (v : ℕ) → v < 32 → apply (operator_of g'.measure (kind_at rows' v) (first_at rows' v)) (g'.own v) (operands_of g rows v) ≡ list_at g rows v) where
  last-same : (n : ℕ) → n ≤ 32 → last_lists g' rows' n ≡ last_lists g rows n
  unfolding last_lists
  last-same zero h = refl
  last-same (suc n) h =
      let v : ℕ = 31 - n in
      let e = last-same n (omega arith) in
      let o : operands rows' (stop_of rows' v) (v + 1) (v + 1) (last_lists g' rows' n) ≡ operands_of g rows v =
      ap₂ (λ (s : ℕ) (ls : List (List Stretch)). operands rows' s (v + 1) (v + 1) ls) (stop-same rows rows' v (sizes v (omega arith))) e
      ∙ operands_same rows rows' sizes (stop_of rows v) (v + 1) (v + 1) (last_lists g rows n) (omega (arith, length_last g rows n))
      ∙ node-operands g rows v n (omega arith) in
      ap₂ (λ (l : List Stretch) (ls : List (List Stretch)). l ∷ ls)
      (ap (apply (operator_of g'.measure (kind_at rows' v) (first_at rows' v)) (g'.own v)) o ∙ nodes v (omega arith) ∙ sym (list-first g rows v n (omega arith))) e

  pub same_lists : (v : ℕ) → list_at g' rows' v ≡ list_at g rows v
  unfolding list_at
  same_lists v = ap (λ (ls : List (List Stretch)). get_or ls v []) (last-same 32 (omega arith))
