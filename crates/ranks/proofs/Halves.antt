-- How many words the row has of so many words, by the cases of the test. Assumes nothing.
use Prim.Native.Nat.{ℕ, ◌+◌, ◌/◌, ◌≤◌, ◌<◌}
use mathlib.Core.Path.{◌≡◌, ap, ◌∙◌}
use mathlib.Core.Bool.{cond}
use native.Mathlib.Omega.{arith}
use lib.Dec.{leb}
use borrow.Author.Tests.{le-leb}
use Rattle.basics.proofs.Basics.{cases}
use Rattle.ranks.specs.Rank.{half}

pub half-short : (len : ℕ) → len / 2 ≤ 1024 → half len ≡ len / 2
half-short len h = ap (λ b. cond b (len / 2) 0) (le-leb (len / 2) 1024 h)

pub half_twice : (len : ℕ) → half len + half len ≤ len
half_twice len = cases (leb (len / 2) 1024) (λ b. cond b (len / 2) 0 + cond b (len / 2) 0 ≤ len) (λ h. omega arith) (λ h. omega arith)

-- a row and as many counts
pub half-double : (w : ℕ) → w ≤ 1024 → half (w + w) ≡ w
half-double w h = let z : (w + w) / 2 ≡ w = omega arith in half-short (w + w) (omega arith) ∙ z
