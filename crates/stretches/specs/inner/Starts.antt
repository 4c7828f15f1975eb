-- Where a lent list starts, as private contracts and laws have it. No public promise cites this. Assumes nothing.
use Rattle.std.specs.Prelude.{ℕ, zero, suc, List, get_or}

-- where list k starts: where the list before it ends
abbrev pub start_of : List ℕ → ℕ → ℕ
start_of ends zero = 0
start_of ends (suc k) = get_or ends k 0
