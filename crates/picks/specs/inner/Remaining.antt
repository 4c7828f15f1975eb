-- What remains of a list after picks, and the shortest of it: private contracts and the laws of picks cite this. Assumes nothing.
use Rattle.std.specs.Prelude.{Bool, true, ◌&&◌, List, [], ◌∷◌}
use Rattle.stretches.specs.declared.Stretch.{Stretch}
use Rattle.stretches.specs.Stretch.{keep}
use Rattle.stretches.specs.Front.{Front, None, Some}
use Rattle.picks.specs.Picks.{shortest, apart}

-- y shares no line with any of the picks
abbrev pub clear : List Stretch → Stretch → Bool
clear [] y = true
clear (p ∷ ps) y = apart p y && clear ps y

-- those of the list that remain after these picks
abbrev pub remaining : List Stretch → List Stretch → List Stretch
remaining ps l = keep (clear ps) l

-- the shortest of a list; none where it is empty
abbrev pub shortest_of : List Stretch → Front
shortest_of [] = None
shortest_of (x ∷ l) = Some (shortest x l)
