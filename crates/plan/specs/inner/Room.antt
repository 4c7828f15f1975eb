-- Words with room for a table's rows. Private contracts of the crates above cite this. Assumes nothing.
use Rattle.std.specs.Prelude.{ℕ, ◌+◌, ◌*◌, ◌≤◌, ◌≡◌, List, length}
use Rattle.stretches.specs.declared.Node.{Node}
use Rattle.plan.specs.Plan.{width_of}

-- a table of 32 nodes, rows as wide as the log's lines need, at most 960 words, words for 32 of them, and for the row of the sound lines with its counts
abbrev pub Roomy : List Node → List ℕ → ℕ → List ℕ → List ℕ → Type 0
Roomy rows log w words sound = (length rows ≡ 32) × (w ≡ width_of log) × (w ≤ 960) × (32 * w ≤ length words) × (w + w ≤ length sound)
