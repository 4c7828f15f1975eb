-- How far the lists are read, of what the taking call returns and writes: docs/FORMATS.md, "How far a list is read".
-- Assumes nothing.
use Rattle.std.specs.Prelude.{ℕ, ◌≡◌, List, length, take}
use Rattle.stretches.specs.declared.Stretch.{Stretch}
use Rattle.stretches.specs.Stretch.{st}
use Rattle.taking.specs.Taking.{TakeReply, take_result, take_cells}

-- an accepted call for answer number p over these lists, with these count cells: by its promise it replied r and left the cells so
pub record Took (op : ℕ) (items ends counts : List ℕ) (p : ℕ) (r : TakeReply) (cells : List ℕ) : Type 0 where
  pub returned : r ≡ take_result op items ends counts p
  pub left : cells ≡ take_cells op items ends counts p
  pub accepted : r.number ≡ 0

-- the answer that it returned
abbrev pub handed_out : TakeReply → Stretch
handed_out r = st r.start r.end

-- the counts written, one for each list
abbrev pub counts_in : List ℕ → List ℕ → List ℕ
counts_in ends cells = take (length ends) cells
