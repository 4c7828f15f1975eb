-- The table of one operator over lent lists: what the contract of a private function cites. Assumes nothing.
use Rattle.std.specs.Prelude.{ℕ, ◌+◌, ◌<◌, ◌≡◌, List, length, get_or}
use Rattle.stretches.specs.inner.Starts.{start_of}
use Rattle.stretches.specs.declared.Node.{Node}
use Rattle.stretches.specs.Table.{no_node, node_at}

-- the operator with bound k over n lists
abbrev pub root_node : ℕ → ℕ → ℕ → Node
root_node op k n = record { kind = op; size = n + 1; first = k; second = 0; third = 0 }

-- list j, a leaf by its places
abbrev pub list_node : List ℕ → ℕ → Node
list_node ends j = record { kind = 17; size = 1; first = start_of ends j; second = get_or ends j 0; third = 0 }

-- the operator stands at node 0 over n lists, and the first i lists behind it; the other places have no nodes
pub record Laid (op k n : ℕ) (ends : List ℕ) (i : ℕ) (rows : List Node) : Type 0 where
  pub wide : length rows ≡ 32
  pub root : node_at rows 0 ≡ root_node op k n
  pub lists : (j : ℕ) → j < i → node_at rows (1 + j) ≡ list_node ends j
  pub others : (v : ℕ) → i < v → v < 32 → node_at rows v ≡ no_node
