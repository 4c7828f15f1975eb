-- What the contracts of a leaf's private functions cite. Assumes nothing.
use Rattle.std.specs.Prelude.{ℕ, ◌+◌, ◌*◌, ◌-◌, ◌≤◌, ◌<◌, ◌≡◌, ◌⊎◌, List, length, get_or}
use Rattle.stretches.specs.declared.Stretch.{Stretch}
use Rattle.stretches.specs.Stretch.{Rising, Fine, marks}
use Rattle.stretches.specs.Front.{first_from}
use Rattle.stretches.specs.Lent.{part}
use Rattle.marks.specs.Row.{row}
use Rattle.seek.specs.declared.state.Kept.{Kept}
use Rattle.seek.specs.declared.state.State.{State}
use Rattle.seek.specs.Source.{lent}
use Rattle.seek.specs.First.{front, kept_at}

-- r is a place of the list from lo to hi, with all before it starting before t
pub record Resumed (items : List ℕ) (lo hi t r : ℕ) : Type 0 where
  pub step : ℕ
  pub is : r ≡ lo + 2 * step
  pub fits : r ≤ hi
  pub past : (step ≡ 0) ⊎ (get_or items (r - 2) 0 < t)

-- from p on, the first that starts at or after t stands at r, if there is one
pub record Ran (items : List ℕ) (p hi t r : ℕ) : Type 0 where
  pub same : first_from (part items p hi) t ≡ first_from (part items r hi) t
  pub fits : r ≤ hi
  pub here : r + 1 < hi → t ≤ get_or items r 0

-- the same but for the hint
pub record SameKept (k k' : Kept) : Type 0 where
  pub past : k'.past ≡ k.past
  pub end : k'.end ≡ k.end
  pub asked : k'.asked ≡ k.asked

-- only hints were changed
pub record Hinted (s s' : State) : Type 0 where
  pub wide : length s'.kept ≡ length s.kept
  pub same : (v : ℕ) → SameKept (kept_at s v) (kept_at s' v)
  pub passed : s'.passed ≡ s.passed

pub record ListFound (items : List ℕ) (lo hi t : ℕ) (s : State) (r : Stretch) (s' : State) : Type 0 where
  pub is : Rising (lent items lo hi) → r ≡ front (first_from (lent items lo hi) t)
  pub hinted : Hinted s s'

pub record RowFound (words : List ℕ) (at width t : ℕ) (r : Stretch) : Type 0 where
  pub is : Fine 65536 (marks 0 (row words at width)) → r ≡ front (first_from (marks 0 (row words at width)) t)
