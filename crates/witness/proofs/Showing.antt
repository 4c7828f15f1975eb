-- What a node shows, operand by operand: one law for each return and turn of the loop. Assumes nothing.
use Prim.Native.Nat.{ℕ, suc, ◌+◌, ◌≤◌, ◌<◌}
use mathlib.Core.Path.{◌≡◌, sym, ap, ap₂, subst, ◌∙◌}
use mathlib.Core.Bool.{Bool, true, false, not, cond}
use mathlib.Core.List.{List, [], ◌∷◌, ◌++◌, append_assoc, append-nil}
use mathlib.Core.Option.{Option}
use native.Mathlib.Omega.{arith}
use lib.Dec.{leb}
use borrow.Author.Tests.{le-leb, lt-leb}
use lib.ListN.{length}
use Rattle.stretches.specs.declared.Node as stretches
use Rattle.stretches.specs.declared.Stretch.{Stretch}
use Rattle.stretches.specs.Stretch.{In, Op}
use Rattle.stretches.specs.Front.{Front, None, Some}
use Rattle.stretches.specs.Operators.{apply}
use Rattle.stretches.specs.Table.{kind_at, leaf_kind, chain_kind, next_of, stop_of}
use Rattle.stretches.specs.Shown.{nothing}
use Rattle.stretches.specs.inner.Below.{each_kind, by_end_kind, only_if, found_one, found_below}
use Rattle.stretches.specs.inner.Below as below-flags
use Rattle.stretches.proofs.Operators.{leaf-none}
use Rattle.stretches.proofs.Shown.{found_at, found-past, one_in, below-found}
use Rattle.stretches.proofs.Table.{next-is, stop_is, stop-most}
use Rattle.records.specs.declared.Line.{Line}
use Rattle.pattern.specs.Kinds.{kind_of, first_of}
use Rattle.pattern.specs.Pattern.{Pattern, Patterns, Node, Nil, Cons, nodes, nodes_of}
use Rattle.pattern.specs.Rows.{Trees}
use Rattle.meaning.specs.Meaning.{Valuation, operator, measure_in, eval, evals, over_lines, answers_of}
use Rattle.meaning.specs.Shown.{Shown, shows, below, shown_from, shown_all}
use Rattle.meaning.proofs.Shown.{by_kind, all_nothing}
use Rattle.meaning.proofs.Table.{nodes-some, tree-size, tree-list}
use Rattle.meaning.proofs.Tree.{fine-answers_of, fine-evals, fine-leaf}
use Rattle.seek.specs.declared.state.State.{State}
use Rattle.seek.specs.Source.{Source, list_over, Good}
use Rattle.seek.specs.First.{Ready, FirstOf, ReachOf}
use Rattle.seek.proofs.Nodes.{fine}
use Rattle.witness.specs.inner.Showing.{Grown, operand_of, Stands, ShownAt}
use Rattle.witness.proofs.Triples.{grown-none, grown-then}

-- ── What is found of an operand ──

-- a stretch that passes the test, and one that does not
only-kept : (p : Stretch → Bool) (y : Stretch) → p y ≡ true → Some y ≡ only_if p (Some y)
only-kept p y h = sym (ap (λ (b : Bool). cond b (Some y) None) h)

only-lost : (p : Stretch → Bool) (y : Stretch) → p y ≡ false → None ≡ only_if p (Some y)
only-lost p y h = sym (ap (λ (b : Bool). cond b (Some y) None) h)

-- what an operand gives, where it is sought by the answer's end and where from a line on, by the test that follows
module _ (src : Source) (table : List stretches.Node) (s s' : State) (by_end : Bool) (c t : ℕ) (f : Stretch) (good : Good src table) (rdy : Ready src table s) (lc : c < 32) where
  abbrev Gave : Front → Type 0
  Gave r = (r ≡ operand_of src table c t by_end f) × Ready src table s'

  module _ {o : Front} (e : by_end ≡ true) (w : ReachOf src table s c f.end o s') where
    to_is : (r : Front) → r ≡ only_if (λ y. leb y.start f.start) o → Gave r
    unfolding operand_of
    to_is r k =
        let d = w.finds lc good rdy in
        (k ∙ ap (only_if (λ y. leb y.start f.start)) d.is ∙ ap (λ (b : Bool). found_one b f t (list_over src table c)) (sym e), d.ready)

    pub to-none : o ≡ None → Gave None
    to-none k = to_is None (sym (ap (only_if (λ y. leb y.start f.start)) k))

    pub to-kept : {g : Stretch} → o ≡ Some g → g.start ≤ f.start → Gave (Some g)
    to-kept {g} k h = to_is (Some g) (only-kept (λ y. leb y.start f.start) g (le-leb g.start f.start h) ∙ sym (ap (only_if (λ y. leb y.start f.start)) k))

    pub to-lost : {g : Stretch} → o ≡ Some g → f.start < g.start → Gave None
    to-lost {g} k h = to_is None (only-lost (λ y. leb y.start f.start) g (lt-leb g.start f.start h) ∙ sym (ap (only_if (λ y. leb y.start f.start)) k))

  module _ {o : Front} (e : by_end ≡ false) (w : FirstOf src table s c t o s') where
    from_is : (r : Front) → r ≡ only_if (λ y. leb y.end f.end) o → Gave r
    unfolding operand_of
    from_is r k =
        let d = w.finds lc good rdy in
        (k ∙ ap (only_if (λ y. leb y.end f.end)) d.is ∙ ap (λ (b : Bool). found_one b f t (list_over src table c)) (sym e), d.ready)

    pub from-none : o ≡ None → Gave None
    from-none k = from_is None (sym (ap (only_if (λ y. leb y.end f.end)) k))

    pub from-kept : {g : Stretch} → o ≡ Some g → g.end ≤ f.end → Gave (Some g)
    from-kept {g} k h = from_is (Some g) (only-kept (λ y. leb y.end f.end) g (le-leb g.end f.end h) ∙ sym (ap (only_if (λ y. leb y.end f.end)) k))

    pub from-lost : {g : Stretch} → o ≡ Some g → f.end < g.end → Gave None
    from-lost {g} k h = from_is None (only-lost (λ y. leb y.end f.end) g (lt-leb g.end f.end h) ∙ sym (ap (only_if (λ y. leb y.end f.end)) k))

-- what is found ends below line 65,536
pub operand_low : (src : Source) (table : List stretches.Node) (by_end : Bool) (f : Stretch) (c t : ℕ) {g : Stretch} → Good src table → c < 32 → operand_of src table c t by_end f ≡ Some g → g.end < 65536
unfolding operand_of
operand_low src table by_end f c t {g} good lc e =
    let d = fine src table good c lc in
    d.below g.start g.end (one_in by_end f t (list_over src table c) d.rising g e)

-- ── What the operands from node c on show, the first of them sought from line t ──

abbrev shown_left : Valuation → Bool → Bool → Bool → Bool → Stretch → ℕ → ℕ → Patterns → List Shown
shown_left w each chain by_end later x c t ps = shown_all w c ps (found_below (not each) chain by_end later x t (evals w ps))

module _ (w : Valuation) (each chain by_end later : Bool) (x : Stretch) (c t : ℕ) (q : Pattern) (qs : Patterns) where
  -- nothing is found of the first
  left-past : found_one by_end x t (eval w q) ≡ None → shown_left w each chain by_end later x c t (Cons q qs) ≡ shown_left w each chain later later x (c + nodes q) t qs
  left-past e = ap (shown_all w c (Cons q qs)) (found-past (not each) chain by_end later x t (eval w q) (evals w qs) e)

  -- it is shown, alone or with the others
  module _ (y : Stretch) (p : found_one by_end x t (eval w q) ≡ Some y) where
    left_at : (b : Bool) → each ≡ b
        → shown_left w each chain by_end later x c t (Cons q qs) ≡ shown_from w c q y ++ shown_all w (c + nodes q) qs (cond (not b) (nothing (evals w qs)) (found_below (not each) chain later later x (cond chain (suc y.end) t) (evals w qs)))
    left_at b e =
        ap (shown_all w c (Cons q qs)) (found_at (not each) chain by_end later x t (eval w q) (evals w qs) y p
        ∙ ap (λ (a : Bool). Some y ∷ cond (not a) (nothing (evals w qs)) (found_below (not each) chain later later x (cond chain (suc y.end) t) (evals w qs))) e)

    left_alone : each ≡ false → shown_left w each chain by_end later x c t (Cons q qs) ≡ shown_from w c q y
    left_alone e = left_at false e ∙ ap (λ (r : List Shown). shown_from w c q y ++ r) (all_nothing w (c + nodes q) qs (evals w qs)) ∙ append-nil (shown_from w c q y)

    left-more : (t' : ℕ) → each ≡ true → t' ≡ cond chain (y.end + 1) t → shown_left w each chain by_end later x c t (Cons q qs) ≡ shown_from w c q y ++ shown_left w each chain later later x (c + nodes q) t' qs
    left-more t' e et =
        let z : y.end + 1 ≡ suc y.end = omega arith in
        left_at true e ∙ ap (λ (u : ℕ). shown_from w c q y ++ shown_left w each chain later later x (c + nodes q) u qs) (sym (et ∙ ap (λ (u : ℕ). cond chain u t) z))

-- ── Operand by operand ──

-- for a pattern at node v with the answer x: once node v itself is shown, with n triples in the cells, the operands before node c have shown their part, with k in
-- the cells now; those from c on are left, the next being sought from line t
record Left (rows : List stretches.Node) (v : ℕ) (x : Stretch) (n : ℕ) (cells : List ℕ) (each chain by_end later : Bool) (c t k : ℕ) (cells' : List ℕ) (ls : List Line) (p : Pattern) (left : Patterns) : Type 0 where
  done : List Shown
  trees : Trees rows c left
  ends : c + nodes_of left ≡ stop_of rows v
  grown : Grown done n cells k cells'
  whole : shown_from (over_lines ls) v p x ≡ shows v x ∷ (done ++ shown_left (over_lines ls) each chain by_end later x c t left)

record Partway (rows : List stretches.Node) (v : ℕ) (x : Stretch) (n : ℕ) (cells : List ℕ) (each chain by_end later : Bool) (c t k : ℕ) (cells' : List ℕ) (ls : List Line) (p : Pattern) : Type 0 where
  left : Patterns
  is : Left rows v x n cells each chain by_end later c t k cells' ls p left

pub record Midway (src : Source) (table rows : List stretches.Node) (v : ℕ) (f : Stretch) (n : ℕ) (cells : List ℕ) (each chain by_end later : Bool) (c t k : ℕ) (cells' : List ℕ) : Type 0 where
  at : (ls : List Line) (p : Pattern) → Stands src table rows ls v p → In f.start f.end (answers_of p ls) → Partway rows v f n cells each chain by_end later c t k cells' ls p

-- the operand that is given stands where the ones before end
pub midway_at : {src : Source} {table rows : List stretches.Node} {v : ℕ} {f : Stretch} {n : ℕ} {cells : List ℕ} {each chain by_end later : Bool} {a c t k : ℕ} {cells' : List ℕ}
    → c ≡ a → Midway src table rows v f n cells each chain by_end later a t k cells' → Midway src table rows v f n cells each chain by_end later c t k cells'
midway_at {src} {table} {rows} {v} {f} {n} {cells} {each} {chain} {by_end} {later} {t = t} {k = k} {cells' = cells'} e m = subst (λ (b : ℕ). Midway src table rows v f n cells each chain by_end later b t k cells') (sym e) m

-- a leaf
pub node-leaf : {src : Source} {table rows : List stretches.Node} {v : ℕ} {f : Stretch} {n : ℕ} {cells : List ℕ} {k : ℕ} {cells' : List ℕ}
    → Grown (shows v f ∷ []) n cells k cells' → leaf_kind (kind_at rows v) ≡ true → ShownAt src table rows v f n cells k cells'
node-leaf {src} {table} {rows} {v} {f} {n} {cells} {k} {cells'} g leaf = record { grows = go }
  where
    go : (ls : List Line) (p : Pattern) → Stands src table rows ls v p → In f.start f.end (answers_of p ls) → Grown (shown_from (over_lines ls) v p f) n cells k cells'
    go ls (Node h ps) s i =
        let o = leaf-none (measure_in ls) (kind_of h) (first_of h) (ap leaf_kind (sym s.tree.0.kind) ∙ leaf) in
        subst (λ (d : List Shown). Grown (shows v f ∷ d) n cells k cells')
        (sym (ap (λ (q : Option Op). shown_all (over_lines ls) (suc v) ps (below q (evals (over_lines ls) ps) f)) o ∙ all_nothing (over_lines ls) (suc v) ps (evals (over_lines ls) ps))) g

module _ {src : Source} {table rows : List stretches.Node} {v : ℕ} {f : Stretch} {n : ℕ} {cells : List ℕ} {each chain later : Bool} where
  -- before the first operand
  pub node-start : leaf_kind (kind_at rows v) ≡ false → each ≡ each_kind (kind_at rows v) → chain ≡ chain_kind (kind_at rows v) → later ≡ by_end_kind (kind_at rows v) → Midway src table rows v f n cells each chain false later (v + 1) f.start n cells
  node-start leaf ee ec eh = record { at = go }
    where
      go : (ls : List Line) (p : Pattern) → Stands src table rows ls v p → In f.start f.end (answers_of p ls) → Partway rows v f n cells each chain false later (v + 1) f.start n cells ls p
      go ls (Node h ps) s i =
          let w = over_lines ls in
          let kind = s.tree.0.kind in
          let o = by_kind (measure_in ls) h (ap leaf_kind (sym kind) ∙ leaf) in
          let d = fine-evals (length ls) w (fine-leaf ls) ps in
          let j = subst (λ (q : Option Op). In f.start f.end (apply q (w.leaf h) (evals w ps))) o.is i in
          let b : below (operator (measure_in ls) h) (evals w ps) f ≡ found_below (not each) chain false later f f.start (evals w ps) =
          ap (λ (q : Option Op). below q (evals w ps) f) o.is ∙ below-found o.op (evals w ps) d.rising d.sound f j
          ∙ ap₂ (λ (y z : Bool). found_below y z false (below-flags.by_end o.op) f f.start (evals w ps)) (o.one ∙ ap (λ (q : ℕ). not (each_kind q)) (sym kind) ∙ ap not (sym ee)) (o.chain ∙ ap chain_kind (sym kind) ∙ sym ec)
          ∙ ap (λ (y : Bool). found_below (not each) chain false y f f.start (evals w ps)) (o.by_end ∙ ap by_end_kind (sym kind) ∙ sym eh) in
          let z : suc v ≡ v + 1 = omega arith in
          let stop = stop_is rows v (suc (nodes_of ps)) s.tree.0.size (omega arith) s.fits in
          record {
            left = ps;
            is = record {
              done = [];
              trees = s.tree.1;
              ends = omega arith;
              grown = grown-none n cells;
              whole = ap₂ (λ (c : ℕ) (fs : List Front). shows v f ∷ shown_all w c ps fs) z b;
            };
          }

  module _ {by_end : Bool} {c t k : ℕ} {cells' : List ℕ} (m : Midway src table rows v f n cells each chain by_end later c t k cells') where
    -- past the last operand
    pub node_end : {n₀ : ℕ} {cells₀ : List ℕ} → Grown (shows v f ∷ []) n₀ cells₀ n cells → stop_of rows v ≤ c → ShownAt src table rows v f n₀ cells₀ k cells'
    node_end {n₀} {cells₀} own h = record { grows = λ ls p s i. let w = m.at ls p s i in go ls p w.left w.is }
      where
        go : (ls : List Line) (p : Pattern) (left : Patterns) → Left rows v f n cells each chain by_end later c t k cells' ls p left → Grown (shown_from (over_lines ls) v p f) n₀ cells₀ k cells'
        go ls p Nil w = subst (λ (d : List Shown). Grown d n₀ cells₀ k cells') (sym (w.whole ∙ ap (λ (r : List Shown). shows v f ∷ r) (append-nil w.done))) (grown-then (shows v f ∷ []) w.done own w.grown)
        go ls p (Cons q qs) w = absurd (omega (arith, w.ends, nodes-some q))

    -- ── A turn: what is found of operand c from line t on ──

    module _ {r : Front} (more : c < stop_of rows v) (good : Good src table) (sought : r ≡ operand_of src table c t by_end f) where
      -- the operand there
      record Operand (ls : List Line) (p : Pattern) : Type 0 where
        q : Pattern
        rest : Patterns
        is : Left rows v f n cells each chain by_end later c t k cells' ls p (Cons q rest)

      operand : (ls : List Line) (p : Pattern) → Stands src table rows ls v p → In f.start f.end (answers_of p ls) → Operand ls p
      operand ls p stands i = let w = m.at ls p stands i in go w.left w.is
        where
          go : (left : Patterns) → Left rows v f n cells each chain by_end later c t k cells' ls p left → Operand ls p
          go Nil w = absurd (omega (arith, w.ends))
          go (Cons q qs) w = record { q = q; rest = qs; is = w }

      module _ (ls : List Line) (p : Pattern) (stands : Stands src table rows ls v p) (o : Operand ls p) where
        abbrev list : List Stretch
        list = eval (over_lines ls) o.q

        within : Stands src table rows ls c o.q
        within = record { tree = o.is.trees.0; fits = omega (arith, o.is.ends, stop-most rows v); lists = stands.lists }

        lists : list_over src table c ≡ list
        lists = stands.lists c ∙ tree-list rows ls c o.q within.tree within.fits

        there : found_one by_end f t (list_over src table c) ≡ found_one by_end f t list
        there = ap (found_one by_end f t) lists

        -- the operands behind it, when it has shown d
        behind : {c' t' k' : ℕ} {cells'' : List ℕ} (d : List Shown) → c' ≡ next_of rows c → Grown (o.is.done ++ d) n cells k' cells''
            → shown_left (over_lines ls) each chain by_end later f c t (Cons o.q o.rest) ≡ d ++ shown_left (over_lines ls) each chain later later f (c + nodes o.q) t' o.rest
            → Partway rows v f n cells each chain later later c' t' k' cells'' ls p
        behind {c'} {t'} {k'} {cells''} d en gr e =
            subst (λ (u : ℕ). Partway rows v f n cells each chain later later u t' k' cells'' ls p)
            (sym (en ∙ next-is rows c (nodes o.q) (tree-size rows c o.q within.tree) (nodes-some o.q) within.fits))
            (record {
              left = o.rest;
              is = record {
                done = o.is.done ++ d;
                trees = o.is.trees.1;
                ends = omega (arith, o.is.ends);
                grown = gr;
                whole = o.is.whole ∙ ap (λ (r : List Shown). shows v f ∷ r)
                    (ap (λ (r : List Shown). o.is.done ++ r) e ∙ sym (append_assoc o.is.done d (shown_left (over_lines ls) each chain later later f (c + nodes o.q) t' o.rest)));
              };
            })

        module _ {g : Stretch} (one : r ≡ Some g) where
          abbrev part : List Shown
          part = shown_from (over_lines ls) c o.q g

          found : found_one by_end f t list ≡ Some g
          unfolding operand_of
          found = sym there ∙ sym sought ∙ one

          part-grown : {k' : ℕ} {cells'' : List ℕ} → ShownAt src table rows c g k cells' k' cells'' → Grown (o.is.done ++ part) n cells k' cells''
          part-grown sub = grown-then o.is.done part o.is.grown (sub.grows ls o.q within (one_in by_end f t list (fine-answers_of o.q ls).rising g found))

      -- nothing is shown of it
      pub turn-past : {c' : ℕ} → r ≡ None → c' ≡ next_of rows c → Midway src table rows v f n cells each chain later later c' t k cells'
      unfolding operand_of
      turn-past h en = record {
        at = λ ls p stands i.
            let o = operand ls p stands i in
            behind ls p stands o [] en (subst (λ (d : List Shown). Grown d n cells k cells') (sym (append-nil o.is.done)) o.is.grown)
            (left-past (over_lines ls) each chain by_end later f c t o.q o.rest (sym (there ls p stands o) ∙ sym sought ∙ h));
      }

      -- it is shown
      module _ {g : Stretch} (one : r ≡ Some g) {k' : ℕ} {cells'' : List ℕ} (sub : ShownAt src table rows c g k cells' k' cells'') where
        -- alone
        pub turn_last : {n₀ : ℕ} {cells₀ : List ℕ} → Grown (shows v f ∷ []) n₀ cells₀ n cells → each ≡ false → ShownAt src table rows v f n₀ cells₀ k' cells''
        turn_last {n₀} {cells₀} own alone = record {
          grows = λ ls p stands i.
              let o = operand ls p stands i in
              subst (λ (d : List Shown). Grown d n₀ cells₀ k' cells'')
              (sym (o.is.whole ∙ ap (λ (r : List Shown). shows v f ∷ (o.is.done ++ r))
              (left_alone (over_lines ls) each chain by_end later f c t o.q o.rest g (found ls p stands o one) alone)))
              (grown-then (shows v f ∷ []) (o.is.done ++ part ls p stands o one) own (part-grown ls p stands o one sub));
        }

        -- with the operands behind it
        pub turn_more : {c' t' : ℕ} → each ≡ true → c' ≡ next_of rows c → t' ≡ cond chain (g.end + 1) t → Midway src table rows v f n cells each chain later later c' t' k' cells''
        turn_more {c'} {t'} all en e = record {
          at = λ ls p stands i.
              let o = operand ls p stands i in
              behind ls p stands o (part ls p stands o one) en (part-grown ls p stands o one sub)
              (left-more (over_lines ls) each chain by_end later f c t o.q o.rest g (found ls p stands o one) t' all e);
        }
