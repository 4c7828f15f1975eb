-- Stretches as they stand in cells, start and end. Private contracts cite this. Assumes nothing.
use Rattle.std.specs.Prelude.{ℕ, List, map, slice_index}
use Rattle.stretches.specs.declared.Stretch.{Stretch}
use Rattle.stretches.specs.Stretch.{st}

abbrev pub stretches_of : List (List ℕ) → List Stretch
stretches_of cells = map (λ c. st (slice_index c 0) (slice_index c 1)) cells
