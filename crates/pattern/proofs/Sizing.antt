-- Sizes and depths from the last node to the first.
-- Assumes nothing.
use Prim.Native.Nat.{ℕ, zero, suc, ◌+◌, ◌-◌, ◌≤◌, ◌<◌, max}
use mathlib.Core.Path.{◌≡◌, refl, sym, ap, ap₂, subst, ◌∙◌}
use mathlib.Core.List.{List, [], ◌∷◌, ◌++◌, map, append-nil, append_assoc, map-append}
use lib.ListN.{length, get_or, take, drop, set, replicate, length-drop, length-set, length-map, get_or-append, drop_of_length-le}
use lib.Seq.{get_or-append-add, take_all}
use native.Mathlib.Omega.{arith}
use Rattle.std.proofs.lemmas.List.{length-take-le}
use Rattle.stretches.specs.declared.Node as row
use Rattle.stretches.specs.Table.{no_node, node_at}
use Rattle.pattern.specs.Kinds.{Symbol, rank, arity}
use Rattle.pattern.specs.Pattern.{Pattern, Node, Patterns, Nil, Cons, count, nodes, nodes_of, depth, deepest, preorder, parts, parts_of}
use Rattle.pattern.specs.Rows.{entry, node_of, rows_of}
use Rattle.pattern.specs.Reading.{firsts, build}
use Rattle.pattern.specs.declared.Table.{Table}
use Rattle.pattern.specs.inner.Nodes.{Encodes, Measured}
use Rattle.pattern.proofs.Scanning.{Counts, AllRanged}
use Rattle.pattern.proofs.Forests.{depths, depths_of, first-depth, size-of, length-depths-of, length-preorder, length-preorders, length-parts-of, Next, next, split-parts, split-depths, deepest-nodes, firsts-short}
use Rattle.pattern.proofs.Loop.{set-append}
use Rattle.pattern.proofs.Trees.{Built, built, build-preorder, formed-counts, ranged-preorder}

-- ── The symbols from a place on ──

-- the symbol at place w
pub record At (hs : List Symbol) (w : ℕ) : Type 0 where
  pub head : Symbol
  pub split : drop w hs ≡ head ∷ drop (suc w) hs
  pub front : take (suc w) hs ≡ take w hs ++ (head ∷ [])

-- there is one
pub at : (hs : List Symbol) (w : ℕ) → w < length hs → At hs w
at [] w h = absurd (omega arith)
at (g ∷ hs) zero h = record { head = g; split = refl; front = refl }
at (g ∷ hs) (suc w) h = let r = at hs w (omega arith) in record { head = r.head; split = r.split; front = ap (λ (l : List Symbol). g ∷ l) r.front }

-- the symbols from v on are those of some trees
pub record Suffix (hs : List Symbol) (v : ℕ) : Type 0 where
  pub trees : ℕ
  pub counts : Counts trees (drop v hs)
  pub ranged : AllRanged (drop v hs)

-- so are those of every place
suffix : (hs : List Symbol) (n v : ℕ) → v ≤ length hs → Counts n hs → AllRanged hs → Suffix hs v
suffix hs n zero h c r = record { trees = n; counts = c; ranged = r }
suffix [] n (suc v) h c r = absurd (omega arith)
suffix (g ∷ hs) n (suc v) h c r = let s = suffix hs (n + rank g - 1) v (omega arith) c.1 r.1 in record { trees = s.trees; counts = s.counts; ranged = s.ranged }

-- zeros from a place on
drop-replicate : (v n : ℕ) → drop {A = ℕ} v (replicate n 0) ≡ replicate (n - v) 0
drop-replicate zero n = let z : n ≡ n - 0 = omega arith in ap (λ (m : ℕ). replicate m 0) z
drop-replicate (suc v) zero = ap (λ (m : ℕ). replicate m 0) (let z : 0 ≡ 0 - suc v = omega arith in z)
drop-replicate (suc v) (suc n) = let z : n - v ≡ suc n - suc v = omega arith in drop-replicate v n ∙ ap (λ (m : ℕ). replicate m 0) z

-- a store at the place where a part begins
drop-set : (l : List ℕ) (w x : ℕ) → w < length l → drop w (set l w x) ≡ x ∷ drop (suc w) l
drop-set [] w x h = absurd (omega arith)
drop-set (y ∷ l) zero x h = refl
drop-set (y ∷ l) (suc w) x h = drop-set l w x (omega arith)

-- an entry of a part
at_drop : (l : List ℕ) (v k : ℕ) → get_or l (v + k) 0 ≡ get_or (drop v l) k 0
at_drop l zero k = ap (λ (m : ℕ). get_or l m 0) (omega arith)
at_drop [] (suc v) k = refl
at_drop (x ∷ l) (suc v) k = ap (λ (m : ℕ). get_or (x ∷ l) m 0) (let z : suc v + k ≡ suc (v + k) = omega arith in z) ∙ at_drop l v k

-- ── The invariants ──

-- the trees from v on
unfoldable pub forest : Pattern → ℕ → Patterns
forest p v = build (drop v (preorder p))

-- the nodes below v, whose sizes are not known yet
abbrev pub heads : Pattern → ℕ → List row.Node
heads p v = map (λ h. entry h 0) (take v (preorder p))

module _ (tb : Table) (e : Encodes tb) where
  -- and from v on as they are to be
  pub record Outer (v : ℕ) (t : Table) (deep : List ℕ) : Type 0 where
    pub low : v ≤ tb.count
    pub count : t.count ≡ tb.count
    pub sized : t.rows ≡ heads e.tree v ++ (map node_of (parts_of (forest e.tree v)) ++ replicate (32 - tb.count) no_node)
    pub deeps : drop v deep ≡ depths_of (forest e.tree v) ++ replicate (32 - tb.count) 0
    pub long-deep : length deep ≡ 32

  pub record Inner (v w c d seen m : ℕ) : Type 0 where
    pub head : Symbol
    pub whole : m ≡ rank head
    pub split : drop w (preorder e.tree) ≡ head ∷ drop v (preorder e.tree)
    pub front : take v (preorder e.tree) ≡ take w (preorder e.tree) ++ (head ∷ [])
    pub enough : rank head ≤ count (forest e.tree v)
    pub all : nodes_of (forest e.tree v) ≡ tb.count - v
    pub at : c ≡ v + nodes_of (firsts seen (forest e.tree v))
    pub deep : d ≡ deepest (firsts seen (forest e.tree v))
    pub low : v ≤ tb.count
    pub before : v ≡ suc w

  long-heads : (v : ℕ) → v ≤ tb.count → length (heads e.tree v) ≡ v
  long-heads v h = length-map (take v (preorder e.tree)) (λ h. entry h 0) ∙ length-take-le v (preorder e.tree) (omega (arith, length-preorder e.tree, e.counted))

  pub outer-begin : Outer tb.count tb (replicate 32 0)
  unfolding forest build
  outer-begin = record {
    low = omega arith;
    count = refl;
    sized = e.rows ∙ (ap₂ (λ (l : List Symbol) (n : ℕ). map (λ h. entry h 0) l ++ replicate (32 - n) no_node) (sym (take_all tb.count (preorder e.tree) long)) (length-preorder e.tree ∙ sym e.counted)
        ∙ ap (λ (l : List Symbol). heads e.tree tb.count ++ (map node_of (parts_of (build l)) ++ replicate (32 - tb.count) no_node)) (sym none));
    deeps = drop-replicate tb.count 32 ∙ ap (λ (l : List Symbol). depths_of (build l) ++ replicate (32 - tb.count) 0) (sym none);
    long-deep = refl;
  }
    where
      long : length (preorder e.tree) ≤ tb.count
      long = omega (arith, length-preorder e.tree, e.counted)

      none : drop tb.count (preorder e.tree) ≡ []
      none = drop_of_length-le (preorder e.tree) {i = tb.count} long

  -- the rows in which the node at w is not known yet
  split-rows : (v w : ℕ) (h : Symbol) (t : Table) (deep : List ℕ) → Outer v t deep → take v (preorder e.tree) ≡ take w (preorder e.tree) ++ (h ∷ [])
      → t.rows ≡ heads e.tree w ++ (entry h 0 ∷ (map node_of (parts_of (forest e.tree v)) ++ replicate (32 - tb.count) no_node))
  split-rows v w h t deep o f =
      let z : List row.Node = map node_of (parts_of (forest e.tree v)) ++ replicate (32 - tb.count) no_node in
      o.sized ∙ (ap (λ (l : List Symbol). map (λ h. entry h 0) l ++ z) f ∙ (ap (λ (l : List row.Node). l ++ z) (map-append (λ h. entry h 0) (take w (preorder e.tree)) (h ∷ [])) ∙ append_assoc (heads e.tree w) (entry h 0 ∷ []) z))

  -- the node at w
  node-here : (v w : ℕ) (h : Symbol) (t : Table) (deep : List ℕ) → Outer v t deep → v ≡ suc w → take v (preorder e.tree) ≡ take w (preorder e.tree) ++ (h ∷ []) → node_at t.rows w ≡ entry h 0
  node-here v w h t deep o p f =
      let z : List row.Node = map node_of (parts_of (forest e.tree v)) ++ replicate (32 - tb.count) no_node in
      let n : w ≡ length (heads e.tree w) + 0 = omega (arith, long-heads w (omega (arith, o.low))) in
      ap (λ (l : List row.Node). node_at l w) (split-rows v w h t deep o f) ∙ (ap (λ (x : ℕ). node_at (heads e.tree w ++ (entry h 0 ∷ z)) x) n ∙ get_or-append-add (heads e.tree w) (entry h 0 ∷ z) 0 no_node)

  pub inner-begin : (v w n m : ℕ) (t : Table) (deep : List ℕ) → Outer v t deep → v ≡ suc w → n ≡ v → m ≡ arity (node_at t.rows w).kind (node_at t.rows w).first → Inner v w n 0 0 m
  unfolding forest build
  inner-begin v w n m t deep o p x q = record {
    head = a.head;
    whole = q ∙ ap (λ (n : row.Node). arity n.kind n.first) (node-here v w a.head t deep o p fr);
    split = sp;
    front = fr;
    enough = omega (arith, b.counted, c.0);
    all = omega (arith, length-preorders (forest e.tree v), ap length b.ordered, len);
    at = omega arith;
    deep = refl;
    low = o.low;
    before = p;
  }
    where
      a : At (preorder e.tree) w
      a = at (preorder e.tree) w (omega (arith, length-preorder e.tree, e.counted, o.low))

      sp : drop w (preorder e.tree) ≡ a.head ∷ drop v (preorder e.tree)
      sp = a.split ∙ ap (λ (x : ℕ). a.head ∷ drop x (preorder e.tree)) (sym p)

      fr : take v (preorder e.tree) ≡ take w (preorder e.tree) ++ (a.head ∷ [])
      fr = ap (λ (x : ℕ). take x (preorder e.tree)) p ∙ a.front

      s : Suffix (preorder e.tree) w
      s = suffix (preorder e.tree) 1 w (omega (arith, length-preorder e.tree, e.counted, o.low)) (formed-counts e.tree e.formed) (ranged-preorder e.tree e.formed)

      c : Counts s.trees (a.head ∷ drop v (preorder e.tree))
      c = subst (Counts s.trees) sp s.counts

      r : AllRanged (a.head ∷ drop v (preorder e.tree))
      r = subst AllRanged sp s.ranged

      b : Built (s.trees + rank a.head - 1) (drop v (preorder e.tree))
      b = built (drop v (preorder e.tree)) (s.trees + rank a.head - 1) c.1 r.1

      len : length (drop v (preorder e.tree)) ≡ tb.count - v
      len = omega (arith, length-drop v (preorder e.tree), length-preorder e.tree, e.counted)

  pub inner-bounds : (v w c d seen m : ℕ) → Inner v w c d seen m → (v ≡ suc w) × (c ≤ tb.count) × (v ≤ c) × (d ≤ c)
  inner-bounds v w c d seen m i = (i.before, omega (arith, i.at, i.all, i.low, firsts-short seen (forest e.tree v)), omega (arith, i.at), omega (arith, i.at, i.deep, deepest-nodes (firsts seen (forest e.tree v))))

  module _ (v w c d seen m : ℕ) (t : Table) (deep : List ℕ) (o : Outer v t deep) (i : Inner v w c d seen m) where
    module _ (p : seen < m) where
      nx : Next seen (forest e.tree v)
      nx = next seen (forest e.tree v) (omega (arith, i.whole, i.enough))

      pub inner_below : c < tb.count
      inner_below = omega (arith, i.at, nx.sum, nx.short, nx.some, i.all, i.low)

      node-at : node_at t.rows c ≡ node_of nx.tree
      node-at =
          let k : ℕ = nodes_of (firsts seen (forest e.tree v)) in
          let n : c ≡ length (heads e.tree v) + k = omega (arith, i.at, long-heads v i.low) in
          let z : List row.Node = map node_of (parts_of (forest e.tree v)) in
          ap (λ (l : List row.Node). node_at l c) o.sized ∙ (ap (λ (x : ℕ). node_at (heads e.tree v ++ (z ++ replicate (32 - tb.count) no_node)) x) n
          ∙ (get_or-append-add (heads e.tree v) (z ++ replicate (32 - tb.count) no_node) k no_node
          ∙ (get_or-append z (replicate (32 - tb.count) no_node) no_node k (omega (arith, length-map (parts_of (forest e.tree v)) node_of, length-parts-of (forest e.tree v), nx.sum, nx.short, nx.some)) ∙ nx.node)))

      size-at : (node_at t.rows c).size ≡ nodes nx.tree
      size-at = ap (λ (n : row.Node). n.size) node-at ∙ size-of nx.tree

      deep-at : get_or deep c 0 ≡ depth nx.tree
      deep-at =
          ap (λ (x : ℕ). get_or deep x 0) i.at ∙ (at_drop deep v (nodes_of (firsts seen (forest e.tree v)))
          ∙ (ap (λ (l : List ℕ). get_or l (nodes_of (firsts seen (forest e.tree v))) 0) o.deeps
          ∙ (get_or-append (depths_of (forest e.tree v)) (replicate (32 - tb.count) 0) 0 (nodes_of (firsts seen (forest e.tree v))) (omega (arith, length-depths-of (forest e.tree v), nx.sum, nx.short, nx.some)) ∙ nx.deep)))

      pub inner-sum : c + (node_at t.rows c).size ≤ tb.count
      inner-sum = omega (arith, i.at, size-at, nx.sum, nx.short, i.all, i.low)

      pub inner-turn : (d' : ℕ) → d' ≡ max d (get_or deep c 0) → Inner v w (c + (node_at t.rows c).size) d' (seen + 1) m
      inner-turn d' q =
          let z : suc seen ≡ seen + 1 = omega arith in
          record {
            head = i.head;
            whole = i.whole;
            split = i.split;
            front = i.front;
            enough = i.enough;
            all = i.all;
            at = omega (arith, i.at, size-at, nx.sum, ap (λ (x : ℕ). nodes_of (firsts x (forest e.tree v))) z);
            deep = omega (arith, q, i.deep, deep-at, nx.deepest, ap (λ (x : ℕ). deepest (firsts x (forest e.tree v))) z);
            low = i.low;
            before = i.before;
          }

    pub outer-turn : m ≤ seen → seen ≤ m → Outer w (record { count = t.count; rows = set t.rows w (record { kind = (node_at t.rows w).kind; size = c - w; first = (node_at t.rows w).first; second = (node_at t.rows w).second; third = (node_at t.rows w).third }) }) (set deep w (d + 1))
    unfolding forest build
    outer-turn y z = record {
      low = omega (arith, i.low, i.before);
      count = o.count;
      sized = ap₂ (λ (l : List row.Node) (n : row.Node). set l w (record { kind = n.kind; size = c - w; first = n.first; second = n.second; third = n.third })) (split-rows v w i.head t deep o i.front) (node-here v w i.head t deep o i.before i.front)
          ∙ (ap (λ (x : ℕ). set (heads e.tree w ++ (entry i.head 0 ∷ rest)) x (entry i.head (c - w))) (sym (long-heads w (omega (arith, i.low, i.before))))
          ∙ (set-append (heads e.tree w) rest (entry i.head 0) (entry i.head (c - w))
          ∙ (ap (λ (x : ℕ). heads e.tree w ++ (entry i.head x ∷ rest)) num
          ∙ (ap (λ (ps : List Pattern). heads e.tree w ++ (node_of (Node i.head (firsts (rank i.head) (forest e.tree v))) ∷ (map node_of ps ++ replicate (32 - tb.count) no_node))) (sym (split-parts (rank i.head) (forest e.tree v)))
          ∙ ap (λ (l : List Symbol). heads e.tree w ++ (map node_of (parts_of (build l)) ++ replicate (32 - tb.count) no_node)) (sym i.split)))));
      deeps = drop-set deep w (d + 1) (omega (arith, o.long-deep, e.small, i.low, i.before))
          ∙ (ap₂ (λ (x : ℕ) (l : List ℕ). x ∷ l) dnum (ap (λ (x : ℕ). drop x deep) (sym i.before) ∙ (o.deeps ∙ ap (λ (l : List ℕ). l ++ replicate (32 - tb.count) 0) (sym (split-depths (rank i.head) (forest e.tree v)))))
          ∙ ap (λ (l : List Symbol). depths_of (build l) ++ replicate (32 - tb.count) 0) (sym i.split));
      long-deep = length-set deep w (d + 1) ∙ o.long-deep;
    }
      where
        rest : List row.Node
        rest = map node_of (parts_of (forest e.tree v)) ++ replicate (32 - tb.count) no_node

        s≡ : seen ≡ rank i.head
        s≡ = omega (arith, i.whole)

        num : c - w ≡ suc (nodes_of (firsts (rank i.head) (forest e.tree v)))
        num = omega (arith, i.at, i.before, ap (λ (x : ℕ). nodes_of (firsts x (forest e.tree v))) s≡)

        dnum : d + 1 ≡ suc (deepest (firsts (rank i.head) (forest e.tree v)))
        dnum = omega (arith, i.deep, ap (λ (x : ℕ). deepest (firsts x (forest e.tree v))) s≡)

  pub outer-end : (t : Table) (deep : List ℕ) → Outer 0 t deep → Measured e.tree t (get_or deep 0 0)
  unfolding forest build rows_of
  outer-end t deep o = record {
    table = λ i. record { count = (o.count ∙ e.counted) i; rows = rows i };
    depth = ap (λ (l : List ℕ). get_or l 0 0) (o.deeps ∙ ap (λ (f : Patterns). depths_of f ++ replicate (32 - tb.count) 0) one) ∙ (ap (λ (l : List ℕ). get_or (l ++ replicate (32 - tb.count) 0) 0 0) (append-nil (depths e.tree)) ∙ first-depth e.tree (replicate (32 - tb.count) 0));
  }
    where
      one : forest e.tree 0 ≡ Cons e.tree Nil
      one = ap build (sym (append-nil (preorder e.tree))) ∙ build-preorder e.tree e.formed []

      rows : t.rows ≡ rows_of e.tree
      rows = o.sized ∙ (ap (λ (f : Patterns). map node_of (parts_of f) ++ replicate (32 - tb.count) no_node) one ∙ ap₂ (λ (ps : List Pattern) (n : ℕ). map node_of ps ++ replicate (32 - n) no_node) (append-nil (parts e.tree)) e.counted)

  pub outer-done : (v : ℕ) (t : Table) (deep : List ℕ) → v ≡ 0 → Outer v t deep → Measured e.tree t (get_or deep 0 0)
  outer-done v t deep z o = outer-end t deep (subst (λ (x : ℕ). Outer x t deep) z o)
