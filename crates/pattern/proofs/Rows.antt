-- A pattern of at most 32 nodes stands in its table: its symbols and sizes, node by node, are the table's entries from its place on.
-- Assumes nothing.
use Prim.Native.Nat.{ℕ, suc, ◌+◌, ◌-◌, ◌≤◌, ◌<◌}
use mathlib.Core.Path.{◌≡◌, ap, ◌∙◌}
use mathlib.Core.List.{List, ◌∷◌, ◌++◌, map, map-append}
use lib.ListN.{length, replicate, length-append, length-map, get_or-append}
use lib.Seq.{get_or-append-add}
use native.Mathlib.Omega.{arith}
use Rattle.stretches.specs.declared.Node as row
use Rattle.stretches.specs.Table.{no_node, node_at}
use Rattle.pattern.specs.Pattern.{Pattern, Node, Patterns, Nil, Cons, nodes, parts, parts_of}
use Rattle.pattern.specs.Rows.{node_of, rows_of, Tree, Trees}
use Rattle.pattern.specs.Answer.{table}
use Rattle.pattern.proofs.Forests.{length-parts}

-- ── A part of a table ──

-- these nodes stand in the table from v on
abbrev Stand : List row.Node → ℕ → List row.Node → Type 0
Stand rows v ns = (i : ℕ) → i < length ns → node_at rows (v + i) ≡ node_at ns i

-- the first of them
head : (rows : List row.Node) (v : ℕ) (n : row.Node) (ns : List row.Node) → Stand rows v (n ∷ ns) → node_at rows v ≡ n
head rows v n ns s = let z : v ≡ v + 0 = omega arith in ap (node_at rows) z ∙ s 0 (omega arith)

-- the others, from the next place on
tail : (rows : List row.Node) (v : ℕ) (n : row.Node) (ns : List row.Node) → Stand rows v (n ∷ ns) → Stand rows (v + 1) ns
tail rows v n ns s = λ i h. let z : v + 1 + i ≡ v + suc i = omega arith in ap (node_at rows) z ∙ s (suc i) (omega arith)

-- a first part
left : (rows : List row.Node) (v : ℕ) (ms ns : List row.Node) → Stand rows v (ms ++ ns) → Stand rows v ms
left rows v ms ns s = λ i h. s i (omega (arith, length-append ms ns)) ∙ get_or-append ms ns no_node i h

-- the part behind it
right : (rows : List row.Node) (v n : ℕ) (ms ns : List row.Node) → length ms ≡ n → Stand rows v (ms ++ ns) → Stand rows (v + n) ns
right rows v n ms ns e s = λ i h.
    let z : v + n + i ≡ v + (length ms + i) = omega arith in
    ap (node_at rows) z ∙ (s (length ms + i) (omega (arith, length-append ms ns)) ∙ get_or-append-add ms ns i no_node)

-- ── Subtrees ──

mutual
  stand-tree : (rows : List row.Node) (v : ℕ) (q : Pattern) → Stand rows v (map node_of (parts q)) → Tree rows v q
  stand-tree rows v (Node h ps) s =
      let e : node_at rows v ≡ node_of (Node h ps) = head rows v (node_of (Node h ps)) (map node_of (parts_of ps)) s in (
        record { kind = ap (λ (n : row.Node). n.kind) e; size = ap (λ (n : row.Node). n.size) e; first = ap (λ (n : row.Node). n.first) e; second = ap (λ (n : row.Node). n.second) e; third = ap (λ (n : row.Node). n.third) e },
        stand-trees rows (v + 1) ps (tail rows v (node_of (Node h ps)) (map node_of (parts_of ps)) s),
      )

  stand-trees : (rows : List row.Node) (c : ℕ) (ps : Patterns) → Stand rows c (map node_of (parts_of ps)) → Trees rows c ps
  stand-trees rows c Nil s = tt
  stand-trees rows c (Cons p ps) s =
      let t : Stand rows c (map node_of (parts p) ++ map node_of (parts_of ps)) = rw (map-append node_of (parts p) (parts_of ps)) at s in (
        stand-tree rows c p (left rows c (map node_of (parts p)) (map node_of (parts_of ps)) t),
        stand-trees rows (c + nodes p) ps (right rows c (nodes p) (map node_of (parts p)) (map node_of (parts_of ps)) (length-map (parts p) node_of ∙ length-parts p) t),
      )

-- ── The whole table ──

-- a pattern of at most 32 nodes stands in its table, from node 0 on
pub table-tree : (p : Pattern) → nodes p ≤ 32 → Tree (table p).rows 0 p
unfolding rows_of
table-tree p _ = stand-tree (rows_of p) 0 p (λ i h. let z : 0 + i ≡ i = omega arith in ap (node_at (rows_of p)) z ∙ get_or-append (map node_of (parts p)) (replicate (32 - nodes p) no_node) no_node i h)
