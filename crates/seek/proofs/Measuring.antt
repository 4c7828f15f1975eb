-- What `max` measures, with a row of the sound lines and without. Assumes nothing.
use Prim.Native.Nat.{ℕ}
use mathlib.Core.Path.{◌≡◌, ap}
use mathlib.Core.Bool.{cond}
use mathlib.Core.List.{List}
use lib.ListN.{length}
use borrow.Author.Tests.{eq-eqb, ne_eqb}
use Rattle.stretches.specs.declared.Stretch.{Stretch}
use Rattle.stretches.specs.Stretch.{length_of}
use Rattle.ranks.specs.Rank.{marks_by}
use Rattle.seek.specs.Source.{measured_by}

module _ (sound : List ℕ) (x : Stretch) where
  pub measured-row : (length sound ≡ 0 → ⊥) → measured_by sound x ≡ marks_by sound x.start x.end
  measured-row h = ap (λ b. cond b (length_of x) (marks_by sound x.start x.end)) (ne_eqb (length sound) 0 h)

  pub measured-length : length sound ≡ 0 → measured_by sound x ≡ length_of x
  measured-length h = ap (λ b. cond b (length_of x) (marks_by sound x.start x.end)) (eq-eqb (length sound) 0 h)
