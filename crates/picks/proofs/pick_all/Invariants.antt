-- `picks::pick_all` meets its contract. The loop's invariant: n picks are written. Assumes nothing.
use mathlib.Core.Path.{◌≡◌}
use lib.ListN.{length}
use Rattle.stretches.proofs.Filling.{Partly}
use Rattle.seek.specs.Source.{source_of, list_over}
use Rattle.picks.specs.Picks.{picks_of}
use Rattle.picks.proofs.pick_all.Given as goal

abbrev pub invariant-loop-n : goal.invariant-loop-n
invariant-loop-n l = (length l.cells ≡ length l.initial.cells) × Partly (picks_of l.k (list_over (source_of l.searched) l.searched.rows.now 0)) l.n l.initial.cells l.cells
