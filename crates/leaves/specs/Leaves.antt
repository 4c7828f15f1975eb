-- The different leaves of tables, in the order in which they first come: kind, first number, second number; at most 64. Assumes nothing.
use Rattle.std.specs.Prelude.{ℕ, zero, suc, Bool, cond, ◌&&◌, ◌||◌, List, [], ◌∷◌, ◌++◌, length, leb, ltb, eqb}
use Rattle.std.specs.List.{position_or_len}
use Rattle.stretches.specs.declared.Node.{Node}
use Rattle.stretches.specs.Table.{node_at, leaf_kind}
use Rattle.leaves.specs.declared.Leaf.{Leaf}

-- the leaf that a node is
abbrev pub leaf_of : Node → Leaf
leaf_of n = record { kind = n.kind; first = n.first; second = n.second }

-- whether two leaves have the same numbers
abbrev pub same_leaf : Leaf → Leaf → Bool
same_leaf x y = eqb x.kind y.kind && (eqb x.first y.first && eqb x.second y.second)

-- the number of a leaf: of the first of these that is the same; as many as they are where none is
abbrev pub number_in : List Leaf → Leaf → ℕ
number_in ls x = position_or_len (λ y. same_leaf y x) ls

-- a leaf more, if it is not among them and there is room
abbrev pub added : List Leaf → Leaf → List Leaf
added ls x = cond (ltb (number_in ls x) (length ls) || leb 64 (length ls)) ls (ls ++ (x ∷ []))

-- with a node's leaf, if it is one
abbrev pub with_node : List Leaf → Node → List Leaf
with_node ls n = cond (leaf_kind n.kind) (added ls (leaf_of n)) ls

-- with those of the first m nodes, in the nodes' order
unfoldable pub gathered_to : List Node → List Leaf → ℕ → List Leaf
gathered_to rows ls zero = ls
gathered_to rows ls (suc m) = with_node (gathered_to rows ls m) (node_at rows m)

-- these leaves, with those of the table
abbrev pub gathered : List Node → List Leaf → List Leaf
gathered rows ls = gathered_to rows ls 32

-- the leaves of the table alone
abbrev pub leaves_of : List Node → List Leaf
leaves_of rows = gathered rows []
