-- The counts before the words: as many as words, and each the number of marks of the words before. By the first word and the rest. Assumes nothing.
use Prim.Native.Nat.{ℕ, zero, suc, ◌+◌, ◌<◌}
use mathlib.Core.Path.{◌≡◌, refl, ap, ◌∙◌}
use mathlib.Core.List.{List, [], ◌∷◌}
use native.Mathlib.Omega.{arith}
use lib.ListN.{length, get_or, take}
use Rattle.marks.specs.Row.{bits, flags, trues}
use Rattle.marks.proofs.Counts.{trues-none, trues-word}
use Rattle.ranks.specs.Rank.{before}

pub length_before : (n : ℕ) (ws : List ℕ) → length (before n ws) ≡ length ws
unfolding before
length_before n [] = refl
length_before n (w ∷ ws) = ap suc (length_before (n + trues (bits 64 w)) ws)

pub before-word : (n : ℕ) (ws : List ℕ) (k : ℕ) → k < length ws → get_or (before n ws) k 0 ≡ n + trues (flags (take k ws))
unfolding before
before-word n [] k h = absurd (omega arith)
before-word n (w ∷ ws) zero h = omega (arith, trues-none)
before-word n (w ∷ ws) (suc k) h = before-word (n + trues (bits 64 w)) ws k (omega arith) ∙ omega (arith, trues-word w (take k ws))
