-- What a seek finds and promises: the first stretch of a node's list from a line on, or to a line, and a state that serves the next seek. Assumes nothing.
use Rattle.std.specs.Prelude.{ℕ, ◌-◌, ◌≤◌, ◌<◌, ◌≡◌, None, Some, List, length, get_or, replicate}
use Rattle.stretches.specs.declared.Node.{Node}
use Rattle.stretches.specs.declared.Stretch.{Stretch}
use Rattle.stretches.specs.Stretch.{st, In}
use Rattle.stretches.specs.Front.{Front, first_from, first_to}
use Rattle.seek.specs.declared.state.Kept.{Kept}
use Rattle.seek.specs.declared.state.Passed.{Passed}
use Rattle.seek.specs.declared.state.State.{State}
use Rattle.seek.specs.Source.{Source, list_over, Good}

-- ── Fronts as the state keeps them: none is line 65,536, one past every line ──

abbrev pub gone : Stretch
gone = st 65536 65536

abbrev pub front : Front → Stretch
front None = gone
front (Some x) = x

-- ── What is kept of a node: one past the start (0: nothing), the end, the line asked from ──

abbrev pub no_kept : Kept
no_kept = record { past = 0; end = 0; asked = 0; hint = 0 }

abbrev pub kept_at : State → ℕ → Kept
kept_at s v = get_or s.kept v no_kept

abbrev pub held_of : Kept → Stretch
held_of k = st (k.past - 1) k.end

-- ── How far a node was passed over by end: what starts before the one line ends before the other ──

abbrev pub not_passed : Passed
not_passed = record { to = 0; end = 0 }

abbrev pub passed_at : State → ℕ → Passed
passed_at s v = get_or s.passed v not_passed

-- nothing is kept
abbrev pub no_state : State
no_state = record { kept = replicate 32 no_kept; passed = replicate 32 not_passed }

-- ── Seeking ──

-- the first stretch of node v's list that starts at or after t
abbrev pub first : Source → List Node → ℕ → ℕ → Front
first src rows v t = first_from (list_over src rows v) t

-- the first that ends at or after e
abbrev pub reach : Source → List Node → ℕ → ℕ → Front
reach src rows v e = first_to (list_over src rows v) e

-- what of node v's list starts before line t ends before line e
abbrev pub Ended : Source → List Node → ℕ → ℕ → ℕ → Type 0
Ended src rows v t e = (s f : ℕ) → In s f (list_over src rows v) → s < t → f < e

-- what is kept of a node is what it finds from the line that was asked, and it was passed over as far as is kept
pub record Ready (src : Source) (rows : List Node) (s : State) : Type 0 where
  pub wide : (length s.kept ≡ 32) × (length s.passed ≡ 32)
  pub holds : (v : ℕ) → v < 32 → 0 < (kept_at s v).past → front (first src rows v (kept_at s v).asked) ≡ held_of (kept_at s v)
  pub ended : (v : ℕ) → v < 32 → Ended src rows v (passed_at s v).to (passed_at s v).end

-- a seek for g gave r, and left such a state
pub record Found {A : Type 0} (src : Source) (rows : List Node) (g r : A) (s' : State) : Type 0 where
  pub is : r ≡ g
  pub ready : Ready src rows s'

-- where every list is fine and the state is one that seeks over this table left, the node's first stretch; such a state again
pub record FirstOf (src : Source) (rows : List Node) (s : State) (v t : ℕ) (r : Front) (s' : State) : Type 0 where
  pub finds : v < 32 → Good src rows → Ready src rows s → Found src rows (first src rows v t) r s'
  pub outside : 32 ≤ v → (r ≡ None) × (s' ≡ s)

-- the same of the first to a line
pub record ReachOf (src : Source) (rows : List Node) (s : State) (v e : ℕ) (r : Front) (s' : State) : Type 0 where
  pub finds : v < 32 → Good src rows → Ready src rows s → Found src rows (reach src rows v e) r s'
  pub outside : 32 ≤ v → (r ≡ None) × (s' ≡ s)

-- whatever the table, the state and the source
abbrev pub Ahead : ℕ → Front → Type 0
Ahead t None = Unit {0}
Ahead t (Some x) = (t ≤ x.start) × (x.start < 65536)
