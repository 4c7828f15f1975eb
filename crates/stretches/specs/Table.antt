-- A table of 32 nodes, and the list that each stands for. Assumes nothing.
use Rattle.std.specs.Prelude.{ℕ, zero, suc, ◌+◌, ◌-◌, ◌≡◌, refl, Bool, cond, ◌&&◌, ◌||◌, List, [], ◌∷◌, get_or, replicate, leb, ltb, eqb}
use Rattle.stretches.specs.declared.Node.{Node}
use Rattle.stretches.specs.Stretch.{Stretch, st, length_of}
use Rattle.stretches.specs.Operators.{operator_of, apply}

-- ── The nodes ──

abbrev pub no_node : Node
no_node = record { kind = 0; size = 0; first = 0; second = 0; third = 0 }

abbrev pub node_at : List Node → ℕ → Node
node_at rows v = get_or rows v no_node

-- node v's kind, an operator's number or another; the size of its subtree; its numbers
abbrev pub kind_at : List Node → ℕ → ℕ
kind_at rows v = (node_at rows v).kind

abbrev pub size_at : List Node → ℕ → ℕ
size_at rows v = (node_at rows v).size

abbrev pub first_at : List Node → ℕ → ℕ
first_at rows v = (node_at rows v).first

abbrev pub second_at : List Node → ℕ → ℕ
second_at rows v = (node_at rows v).second

abbrev pub third_at : List Node → ℕ → ℕ
third_at rows v = (node_at rows v).third

-- the kinds of a pattern's leaves
abbrev pub leaf_kind : ℕ → Bool
leaf_kind k = eqb k 16 || eqb k 17

-- the operators whose operands follow each other: `row` and `then`
abbrev pub chain_kind : ℕ → Bool
chain_kind k = eqb k 3 || eqb k 4

-- the filters that ask for one of B that holds the answer: `in` and `out`
abbrev pub holder_kind : ℕ → Bool
holder_kind k = eqb k 7 || eqb k 8

-- the filters that show of B what proves the answer: `in` and `has`
abbrev pub proof_kind : ℕ → Bool
proof_kind k = eqb k 7 || eqb k 9

-- ── Operands: the first stands behind its operator, each next one behind the subtree of the one before ──

-- the place behind c's subtree: past c, and at most 32; 32 where there is no node c
unfoldable pub next_of : List Node → ℕ → ℕ
next_of rows c = cond (ltb c 32) (cond (eqb (size_at rows c) 0) (c + 1) (cond (leb (size_at rows c) (32 - c)) (c + size_at rows c) 32)) 32

-- the place behind v's operands; 32 where there is no node v
unfoldable pub stop_of : List Node → ℕ → ℕ
stop_of rows v = cond (ltb v 32) (cond (leb (size_at rows v) (32 - v)) (v + size_at rows v) 32) 32

-- of what there is of each node from u on, that of the operands from c on up to stop
unfoldable pub operands : {A : Type 0} → List Node → ℕ → ℕ → ℕ → List A → List A
operands rows stop c u [] = []
operands rows stop c u (x ∷ xs) = cond (eqb u c && ltb c stop) (x ∷ operands rows stop (next_of rows c) (suc u) xs) (operands rows stop c (suc u) xs)

-- n numbers from c on
unfoldable pub numbers : ℕ → ℕ → List ℕ
numbers c zero = []
numbers c (suc n) = c ∷ numbers (suc c) n

-- the numbers of the operands from c on, and of all of v's
unfoldable pub operands_up : List Node → ℕ → ℕ → List ℕ
operands_up rows stop c = operands rows stop c c (numbers c (32 - c))

abbrev pub operand_numbers : List Node → ℕ → List ℕ
operand_numbers rows v = operands_up rows (stop_of rows v) (v + 1)

-- ── Lists ──

-- what each node's own list is, for which it stands where it is no operator, and what `max` measures
pub record Given : Type 0 where
  pub own : ℕ → List Stretch
  pub measure : Stretch → ℕ

-- node v's list, the lists of all later nodes being given
abbrev pub node_list : Given → List Node → ℕ → List (List Stretch) → List Stretch
node_list g rows v later = apply (operator_of g.measure (kind_at rows v) (first_at rows v)) (g.own v) (operands rows (stop_of rows v) (v + 1) (v + 1) later)

-- with node v's list in front
abbrev pub with_node : Given → List Node → ℕ → List (List Stretch) → List (List Stretch)
with_node g rows v later = node_list g rows v later ∷ later

-- the lists of the last n nodes, made from the last node to the first
unfoldable pub last_lists : Given → List Node → ℕ → List (List Stretch)
last_lists g rows zero = []
last_lists g rows (suc n) = with_node g rows (31 - n) (last_lists g rows n)

-- the list that node v stands for
unfoldable pub list_at : Given → List Node → ℕ → List Stretch
list_at g rows v = get_or (last_lists g rows 32) v []

-- ── An example ──

-- less of then(node 2, node 3) by node 4
abbrev node : ℕ → ℕ → Node
node kind size = record { kind = kind; size = size; first = 0; second = 0; third = 0 }

abbrev sample : List Node
sample = node 5 5 ∷ node 4 3 ∷ node 16 1 ∷ node 16 1 ∷ node 16 1 ∷ replicate 27 no_node

-- lines 0 and 6; 2 and 8; 7
abbrev owned : List (List Stretch)
owned = [] ∷ [] ∷ (st 0 0 ∷ st 6 6 ∷ []) ∷ (st 2 2 ∷ st 8 8 ∷ []) ∷ (st 7 7 ∷ []) ∷ []

ex-list : list_at (record { own = λ v. get_or owned v []; measure = length_of }) sample 0 ≡ st 0 2 ∷ []
unfolding list_at last_lists operands next_of stop_of
ex-list = refl
