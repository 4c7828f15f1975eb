-- Lists of trees and the parts and depths of their nodes in preorder: the next tree stands past the nodes of those before it.
-- Assumes nothing.
use Prim.Native.Nat.{ℕ, zero, suc, ◌+◌, ◌≤◌, ◌<◌, max}
use mathlib.Core.Path.{◌≡◌, refl, sym, ap, ap₂, ◌∙◌}
use mathlib.Core.List.{List, [], ◌∷◌, ◌++◌, map, append_assoc, map-append}
use lib.ListN.{length, get_or, length-append, length-map}
use lib.Seq.{get_or-append-add}
use native.Mathlib.Omega.{arith}
use Rattle.pattern.specs.Pattern.{Pattern, Node, Patterns, Nil, Cons, count, nodes, nodes_of, depth, deepest, preorder, preorders, parts, parts_of}
use Rattle.stretches.specs.declared.Node as row
use Rattle.stretches.specs.Table.{no_node, node_at}
use Rattle.pattern.specs.Rows.{node_of}
use Rattle.pattern.specs.Reading.{firsts, others}

-- the depth of each subtree, in preorder
abbrev mutual
  pub depths : Pattern → List ℕ
  depths (Node h ps) = suc (deepest ps) ∷ depths_of ps

  pub depths_of : Patterns → List ℕ
  depths_of Nil = []
  depths_of (Cons p ps) = depths p ++ depths_of ps

-- a depth for each node
mutual
  pub length-depths : (p : Pattern) → length (depths p) ≡ nodes p
  length-depths (Node h ps) = ap suc (length-depths-of ps)

  pub length-depths-of : (ps : Patterns) → length (depths_of ps) ≡ nodes_of ps
  length-depths-of Nil = refl
  length-depths-of (Cons p ps) = omega (arith, length-append (depths p) (depths_of ps), length-depths p, length-depths-of ps)

-- a symbol for each
mutual
  pub length-preorder : (p : Pattern) → length (preorder p) ≡ nodes p
  length-preorder (Node h ps) = ap suc (length-preorders ps)

  pub length-preorders : (ps : Patterns) → length (preorders ps) ≡ nodes_of ps
  length-preorders Nil = refl
  length-preorders (Cons p ps) = omega (arith, length-append (preorder p) (preorders ps), length-preorder p, length-preorders ps)

-- a sub-pattern for each
mutual
  pub length-parts : (p : Pattern) → length (parts p) ≡ nodes p
  length-parts (Node h ps) = ap suc (length-parts-of ps)

  pub length-parts-of : (ps : Patterns) → length (parts_of ps) ≡ nodes_of ps
  length-parts-of Nil = refl
  length-parts-of (Cons p ps) = omega (arith, length-append (parts p) (parts_of ps), length-parts p, length-parts-of ps)

-- ── The next of a forest's trees ──

-- the tree past the first n, where it stands in the lists and what it adds
pub record Next (n : ℕ) (f : Patterns) : Type 0 where
  pub tree : Pattern
  pub node : node_at (map node_of (parts_of f)) (nodes_of (firsts n f)) ≡ node_of tree
  pub deep : get_or (depths_of f) (nodes_of (firsts n f)) 0 ≡ depth tree
  pub sum : nodes_of (firsts (suc n) f) ≡ nodes_of (firsts n f) + nodes tree
  pub deepest : deepest (firsts (suc n) f) ≡ max (deepest (firsts n f)) (depth tree)
  pub short : nodes_of (firsts (suc n) f) ≤ nodes_of f
  pub some : 1 ≤ nodes tree

-- a tree's node has its size
pub size-of : (p : Pattern) → (node_of p).size ≡ nodes p
size-of (Node h ps) = refl

-- it stands first in the nodes of its list
first-node : (p : Pattern) (l : List Pattern) → node_at (map node_of (parts p ++ l)) 0 ≡ node_of p
first-node (Node h ps) l = refl

-- so does its depth
pub first-depth : (p : Pattern) (l : List ℕ) → get_or (depths p ++ l) 0 0 ≡ depth p
first-depth (Node h ps) l = refl

-- a tree has a node
some-nodes : (p : Pattern) → 1 ≤ nodes p
some-nodes (Node h ps) = omega arith

-- there is one
pub next : (n : ℕ) (f : Patterns) → n < count f → Next n f
next n Nil h = absurd (omega arith)
next zero (Cons p ps) h = record {
  tree = p;
  node = first-node p (parts_of ps);
  deep = first-depth p (depths_of ps);
  sum = omega arith;
  deepest = omega arith;
  short = omega arith;
  some = some-nodes p;
}
next (suc n) (Cons p ps) h =
    let r = next n ps (omega arith) in
    record {
      tree = r.tree;
      node = ap₂ (λ (l : List row.Node) (m : ℕ). node_at l (m + nodes_of (firsts n ps))) (map-append node_of (parts p) (parts_of ps)) (sym (length-map (parts p) node_of ∙ length-parts p))
          ∙ (get_or-append-add (map node_of (parts p)) (map node_of (parts_of ps)) (nodes_of (firsts n ps)) no_node ∙ r.node);
      deep = ap (λ (m : ℕ). get_or (depths p ++ depths_of ps) (m + nodes_of (firsts n ps)) 0) (sym (length-depths p)) ∙ (get_or-append-add (depths p) (depths_of ps) (nodes_of (firsts n ps)) 0 ∙ r.deep);
      sum = omega (arith, r.sum);
      deepest = omega (arith, r.deepest);
      short = omega (arith, r.short);
      some = r.some;
    }

-- the parts of the first n trees and of the others
pub split-parts : (n : ℕ) (f : Patterns) → parts_of (firsts n f) ++ parts_of (others n f) ≡ parts_of f
split-parts zero f = refl
split-parts (suc n) Nil = refl
split-parts (suc n) (Cons p ps) = append_assoc (parts p) (parts_of (firsts n ps)) (parts_of (others n ps)) ∙ ap (λ (l : List Pattern). parts p ++ l) (split-parts n ps)

-- and their depths
pub split-depths : (n : ℕ) (f : Patterns) → depths_of (firsts n f) ++ depths_of (others n f) ≡ depths_of f
split-depths zero f = refl
split-depths (suc n) Nil = refl
split-depths (suc n) (Cons p ps) = append_assoc (depths p) (depths_of (firsts n ps)) (depths_of (others n ps)) ∙ ap (λ (l : List ℕ). depths p ++ l) (split-depths n ps)

-- ── Bounds ──

-- a tree is no deeper than it has nodes
mutual
  pub depth-nodes : (p : Pattern) → depth p ≤ nodes p
  depth-nodes (Node h ps) = omega (arith, deepest-nodes ps)

  pub deepest-nodes : (ps : Patterns) → deepest ps ≤ nodes_of ps
  deepest-nodes Nil = omega arith
  deepest-nodes (Cons p ps) = omega (arith, depth-nodes p, deepest-nodes ps)

-- the first n trees have no more nodes than all
pub firsts-short : (n : ℕ) (f : Patterns) → nodes_of (firsts n f) ≤ nodes_of f
firsts-short zero f = omega arith
firsts-short (suc n) Nil = omega arith
firsts-short (suc n) (Cons p ps) = omega (arith, firsts-short n ps)
