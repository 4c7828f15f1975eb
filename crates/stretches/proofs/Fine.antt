-- Lists that rise, are sound and end below a line; every operator's list is fine where its operands' are. Assumes nothing.
use Prim.Native.Nat.{ℕ}
use mathlib.Core.Bool.{Bool}
use mathlib.Core.List.{List, [], ◌∷◌}
use mathlib.Core.Option.{Option, none, some}
use lib.ListN.{length}
use native.Mathlib.Omega.{arith}
use Rattle.stretches.specs.Stretch.{Stretch, AllRising, AllSound, Fine, Op, answers, marks}
use Rattle.stretches.specs.Operators.{apply}
use Rattle.stretches.proofs.Answers.{rising-answers, sound-answers}
use Rattle.stretches.proofs.InRun.{AllBelow, below-answers}
use Rattle.stretches.proofs.Marks.{in-marks, rising-marks}

pub record AllFine (n : ℕ) (ls : List (List Stretch)) : Type 0 where
  pub rising : AllRising ls
  pub sound : AllSound ls
  pub below : AllBelow n ls

pub fine-none : (n : ℕ) → Fine n []
fine-none n = record { rising = tt; sound = λ s e m. absurd m; below = λ s e m. absurd m }

pub all_none : (n : ℕ) → AllFine n []
all_none n = record { rising = tt; sound = tt; below = tt }

pub all_more : {n : ℕ} {l : List Stretch} {ls : List (List Stretch)} → Fine n l → AllFine n ls → AllFine n (l ∷ ls)
all_more f g = record { rising = (f.rising, g.rising); sound = (f.sound, g.sound); below = (f.below, g.below) }

pub first_fine : {n : ℕ} {l : List Stretch} {ls : List (List Stretch)} → AllFine n (l ∷ ls) → Fine n l
first_fine f = record { rising = f.rising.0; sound = f.sound.0; below = f.below.0 }

pub rest-fine : {n : ℕ} {l : List Stretch} {ls : List (List Stretch)} → AllFine n (l ∷ ls) → AllFine n ls
rest-fine f = record { rising = f.rising.1; sound = f.sound.1; below = f.below.1 }

pub fine-answers : (n : ℕ) (o : Op) (ls : List (List Stretch)) → AllFine n ls → Fine n (answers o ls)
fine-answers n o ls f = record { rising = rising-answers o ls f.rising f.sound; sound = sound-answers o ls f.sound; below = below-answers o n ls f.below }

pub fine-apply : (n : ℕ) (o : Option Op) (own : List Stretch) (ls : List (List Stretch)) → Fine n own → AllFine n ls → Fine n (apply o own ls)
fine-apply n none own ls f g = f
fine-apply n (some o) own ls f g = fine-answers n o ls g

pub fine-marks : (bs : List Bool) → Fine (length bs) (marks 0 bs)
fine-marks bs = record {
  rising = rising-marks 0 bs;
  sound = λ s e m. omega (arith, (in-marks 0 bs s e m).one);
  below = λ s e m. omega (arith, (in-marks 0 bs s e m).one, (in-marks 0 bs s e m).to);
}
