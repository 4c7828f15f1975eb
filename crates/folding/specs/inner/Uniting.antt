-- Rows united one after the other. Private contracts cite this. Assumes nothing.
use Rattle.std.specs.Prelude.{ℕ, List, [], ◌∷◌}
use Rattle.stretches.specs.declared.Node.{Node}
use Rattle.stretches.specs.Table.{first_at}
use Rattle.marks.specs.Row.{united}

-- the words with the row from place to on united with the rows of these nodes, one after the other
unfoldable pub united_all : List Node → List ℕ → ℕ → ℕ → List ℕ → List ℕ
united_all rows words to width [] = words
united_all rows words to width (c ∷ cs) = united_all rows (united words to (first_at rows c) width) to width cs
