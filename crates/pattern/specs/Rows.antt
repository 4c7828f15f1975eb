-- The table of a pattern: its nodes in preorder, then no nodes, 32 in all; and a tree standing in a table.
-- Assumes nothing.
use Rattle.std.specs.Prelude.{ℕ, ◌+◌, ◌-◌, ◌≡◌, refl, List, [], ◌∷◌, ◌++◌, map, replicate}
use Rattle.stretches.specs.declared.Node as row
use Rattle.stretches.specs.Table.{no_node, kind_at, size_at, first_at, second_at, third_at}
use Rattle.pattern.specs.Kinds.{Symbol, Ev, Fr, Less, Max, kind_of, first_of, second_of, third_of}
use Rattle.pattern.specs.Pattern.{Pattern, Patterns, Node, Nil, Cons, nodes, preorder, parts, sizes}

-- ── The table ──

-- the symbol h over a subtree of n nodes
abbrev pub entry : Symbol → ℕ → row.Node
entry h n = record { kind = kind_of h; size = n; first = first_of h; second = second_of h; third = third_of h }

-- a pattern's uppermost node
abbrev pub node_of : Pattern → row.Node
node_of (Node h ps) = entry h (nodes (Node h ps))

-- its nodes in preorder, and then no nodes
unfoldable pub rows_of : Pattern → List row.Node
rows_of p = map node_of (parts p) ++ replicate (32 - nodes p) no_node

-- ── A tree in a table ──

-- node v is the symbol h over a subtree of n nodes
pub record Entry (rows : List row.Node) (v : ℕ) (h : Symbol) (n : ℕ) : Type 0 where
  pub kind : kind_at rows v ≡ kind_of h
  pub size : size_at rows v ≡ n
  pub first : first_at rows v ≡ first_of h
  pub second : second_at rows v ≡ second_of h
  pub third : third_at rows v ≡ third_of h

abbrev mutual
  -- the pattern stands at v: its first operand at v + 1, each next operand past the one before
  pub Tree : List row.Node → ℕ → Pattern → Type 0
  Tree rows v (Node h ps) = Entry rows v h (nodes (Node h ps)) × Trees rows (v + 1) ps

  pub Trees : List row.Node → ℕ → Patterns → Type 0
  Trees rows c Nil = Unit {0}
  Trees rows c (Cons p ps) = Tree rows c p × Trees rows (c + nodes p) ps

-- ── Examples ──

-- less,ev,7,0,max,9,fr,3,12
abbrev sample : Pattern
sample = Node Less (Cons (Node (Ev 7 0) Nil) (Cons (Node (Max 9) (Cons (Node (Fr 3 12) Nil) Nil)) Nil))

sample-nodes : map node_of (parts sample) ≡ entry Less 4 ∷ entry (Ev 7 0) 1 ∷ entry (Max 9) 2 ∷ entry (Fr 3 12) 1 ∷ []
sample-nodes = refl

sample-kinds : map kind_of (preorder sample) ≡ 5 ∷ 16 ∷ 6 ∷ 17 ∷ []
sample-kinds = refl

sample-sizes : sizes sample ≡ 4 ∷ 1 ∷ 2 ∷ 1 ∷ []
sample-sizes = refl

sample-firsts : map first_of (preorder sample) ≡ 0 ∷ 7 ∷ 9 ∷ 3 ∷ []
sample-firsts = refl

sample-seconds : map second_of (preorder sample) ≡ 0 ∷ 0 ∷ 0 ∷ 12 ∷ []
sample-seconds = refl
