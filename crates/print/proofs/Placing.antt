-- Bytes stored one after the other from a place on: joined, and as a whole from place 0.
-- Assumes nothing.
use Prim.Native.Nat.{ℕ, suc, ◌+◌, ◌≤◌, ◌<◌}
use mathlib.Core.Path.{◌≡◌, refl, sym, ap, ap₂, ◌∙◌}
use mathlib.Core.List.{List, [], ◌∷◌, ◌++◌}
use lib.ListN.{length, set, take, drop}
use lib.Seq.{sets, sets-eq, take_at}
use borrow.Author.Tests.{le-leb, lt-leb}
use native.Mathlib.Omega.{arith}
use Rattle.print.specs.Print.{written_over, bytes_written, Writes}

-- what is stored behind a first part
pub sets-append : (a b l : List ℕ) (i : ℕ) → sets (sets l i a) (i + length a) b ≡ sets l i (a ++ b)
sets-append [] b l i = let z : i + 0 ≡ i = omega arith in ap (λ (k : ℕ). sets l k b) z
sets-append (x ∷ a) b l i =
    let z : i + suc (length a) ≡ suc i + length a = omega arith in
    ap (λ (k : ℕ). sets (sets (set l i x) (suc i) a) k b) z ∙ sets-append a b (set l i x) (suc i)

-- a sheet that fits
pub laid-fits : (s out : List ℕ) → length s ≤ length out → Writes s out (length s) (sets out 0 s)
unfolding written_over bytes_written
laid-fits s out h =
    let z : 0 + length s ≡ length s = omega arith in
    let e : sets out 0 s ≡ s ++ drop (length s) out = sets-eq s out 0 (omega arith) ∙ ap (λ (k : ℕ). s ++ drop k out) z in
    (rw (le-leb (length s) (length out) h), rw (le-leb (length s) (length out) h) e)

-- and one that does not
pub laid-not : (s out : List ℕ) → length out < length s → Writes s out 0 out
unfolding written_over bytes_written
laid-not s out h = (rw (lt-leb (length s) (length out) h), rw (lt-leb (length s) (length out) h))

-- the bytes written are the sheet's
pub laid-all : (s out : List ℕ) (r : ℕ) (out' : List ℕ) → Writes s out r out' → length s ≤ length out → take r out' ≡ s
laid-all s out r out' w h =
    let f = laid-fits s out h in
    let z : 0 + length s ≤ length out = omega arith in
    ap₂ (λ (n : ℕ) (l : List ℕ). take n l) (w.0 ∙ sym f.0) (w.1 ∙ (sym f.1 ∙ sets-eq s out 0 z)) ∙ take_at s (drop (0 + length s) out) (length s) refl
