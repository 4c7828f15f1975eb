-- What a filling call over a table promises. Assumes nothing.
use Rattle.std.specs.Prelude.{ℕ, ◌*◌, ◌≤◌, ◌≡◌, List, length, drop}
use Rattle.stretches.specs.declared.Node.{Node}
use Rattle.stretches.specs.declared.Stretch.{Stretch}
use Rattle.stretches.specs.Front.{onward}
use Rattle.stretches.specs.Filling.{written, filled, more_after}
use Rattle.seek.specs.Source.{Source, list_over, Good}
use Rattle.walk.specs.declared.Walked.{Walked}

-- l's answers from number f were written into cells
pub record Filling (l : List Stretch) (f : ℕ) (cells : List ℕ) (r : Walked) (cells' : List ℕ) : Type 0 where
  pub count : r.count ≡ length (written l f cells)
  pub more : r.more ≡ more_after l f cells
  pub wrote : cells' ≡ filled l f cells

-- where every list is fine, the answers of node 0 from the line on, from number f of them on
pub record FillAll (src : Source) (rows : List Node) (line f : ℕ) (cells : List ℕ) (r : Walked) (cells' : List ℕ) : Type 0 where
  pub fills : Good src rows → Filling (onward (list_over src rows 0) line) f cells r cells'

-- whatever the table and the source: the written pairs fit, and what is beyond them keeps its contents
pub record Within (cells : List ℕ) (r : Walked) (cells' : List ℕ) : Type 0 where
  pub fits : 2 * r.count ≤ length cells
  pub keeps : drop (2 * r.count) cells' ≡ drop (2 * r.count) cells
