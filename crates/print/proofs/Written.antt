-- A sheet written part by part from place 0: what is written so far, one part more, and the whole.
-- Assumes nothing.
use Prim.Native.Nat.{ℕ, ◌+◌, ◌≤◌}
use mathlib.Core.Path.{◌≡◌, refl, sym, ap, ap₂, subst, ◌∙◌}
use mathlib.Core.List.{List, [], ◌∷◌, ◌++◌, append_assoc}
use lib.ListN.{length, set, length-append}
use lib.Seq.{sets}
use native.Mathlib.Omega.{arith}
use Rattle.stretches.specs.declared.Stretch.{Stretch}
use Rattle.basics.specs.Decimal.{decimal}
use Rattle.print.specs.Print.{field, rows, found_sheet, refused_sheet, Writes}
use Rattle.print.specs.inner.Cells.{stretches_of}
use Rattle.std.proofs.lemmas.List.{length-map}
use Rattle.print.proofs.Placing.{sets-append, laid-fits}
use Rattle.print.proofs.Printed.{length-field}

-- ── Lengths ──

pub length_found : (lines damaged : ℕ) (l : List Stretch)
    → length (found_sheet lines damaged l) ≡ 2 + length (field lines 44) + length (field damaged 44) + length (field (length l) 10) + length (rows l)
unfolding found_sheet
length_found lines damaged l =
    let a = field lines 44 in
    let b = field damaged 44 in
    let d = field (length l) 10 in
    omega (arith, length-append a (b ++ (d ++ rows l)), length-append b (d ++ rows l), length-append d (rows l))

pub length-refused : (number place : ℕ) → length (refused_sheet number place) ≡ 2 + length (field number 44) + length (field place 10)
unfolding refused_sheet
length-refused number place = omega (arith, length-append (field number 44) (field place 10))

-- in digits
pub digits-found : (lines damaged : ℕ) (cells : List (List ℕ))
    → length (found_sheet lines damaged (stretches_of cells)) ≡ length (decimal lines) + length (decimal damaged) + length (decimal (length cells)) + 5 + length (rows (stretches_of cells))
digits-found lines damaged cells =
    let l = stretches_of cells in
    let e : length l ≡ length cells = length-map cells _ in
    omega (arith, length_found lines damaged l, length-field lines 44, length-field damaged 44, length-field (length l) 10, ap (λ k. length (decimal k)) e)

-- a sheet that fits has room for its parts
pub room-found : (lines damaged : ℕ) (cells : List (List ℕ)) (n : ℕ) → length (found_sheet lines damaged (stretches_of cells)) ≤ n
    → 2 + length (field lines 44) + length (field damaged 44) + length (field (length cells) 10) + length (rows (stretches_of cells)) ≤ n
room-found lines damaged cells n h =
    let l = stretches_of cells in
    let e : length l ≡ length cells = length-map cells _ in
    omega (arith, length_found lines damaged l, ap (λ k. length (field k 10)) e)

pub digits-refused : (number place : ℕ) → length (refused_sheet number place) ≡ length (decimal number) + length (decimal place) + 4
digits-refused number place = omega (arith, length-refused number place, length-field number 44, length-field place 10)

-- ── Part by part ──

-- o is out with s at its start, and `at` is the place after s
pub record Written (out s : List ℕ) (at : ℕ) (o : List ℕ) : Type 0 where
  pub place : at ≡ length s
  pub bytes : o ≡ sets out 0 s

pub written-letter : (out o : List ℕ) (letter : ℕ) → o ≡ set (set out 0 letter) 1 44 → Written out (letter ∷ 44 ∷ []) 2 o
written-letter out o letter e = record { place = refl; bytes = e }

pub written-more : {out s o o' : List ℕ} {at next : ℕ} (b : List ℕ) → Written out s at o → next ≡ at + length b → o' ≡ sets o at b → Written out (s ++ b) next o'
written-more {out} {s} {o} {o'} {at} {next} b w p q =
    let z : at ≡ 0 + length s = omega (arith, w.place) in
    record {
      place = omega (arith, w.place, length-append s b);
      bytes = q ∙ (ap₂ (λ (m : List ℕ) (k : ℕ). sets m k b) w.bytes z ∙ sets-append s b out 0);
    }

-- a sheet is written
pub written-laid : {out s o : List ℕ} {at : ℕ} → Written out s at o → length s ≤ length out → Writes s out at o
written-laid {out} {s} w h = let f = laid-fits s out h in (w.place ∙ f.0, w.bytes ∙ f.1)

-- the sheet of a refusal
pub refused-laid : (number place : ℕ) (out o₀ o₁ o₂ : List ℕ) (n₁ n₂ : ℕ) → length (refused_sheet number place) ≤ length out
    → o₀ ≡ set (set out 0 82) 1 44
    → (n₁ ≡ 2 + length (field number 44)) × (o₁ ≡ sets o₀ 2 (field number 44))
    → (n₂ ≡ n₁ + length (field place 10)) × (o₂ ≡ sets o₁ n₁ (field place 10))
    → Writes (refused_sheet number place) out n₂ o₂
unfolding refused_sheet
refused-laid number place out o₀ o₁ o₂ n₁ n₂ h e₀ e₁ e₂ =
    written-laid (written-more (field place 10) (written-more (field number 44) (written-letter out o₀ 82 e₀) e₁.0 e₁.1) e₂.0 e₂.1) h

-- the sheet of an accepted search
pub found-laid : (lines damaged : ℕ) (cells : List (List ℕ)) (out o₀ o₁ o₂ o₃ o₄ : List ℕ) (n₁ n₂ n₃ n₄ : ℕ) → length (found_sheet lines damaged (stretches_of cells)) ≤ length out
    → o₀ ≡ set (set out 0 70) 1 44
    → (n₁ ≡ 2 + length (field lines 44)) × (o₁ ≡ sets o₀ 2 (field lines 44))
    → (n₂ ≡ n₁ + length (field damaged 44)) × (o₂ ≡ sets o₁ n₁ (field damaged 44))
    → (n₃ ≡ n₂ + length (field (length cells) 10)) × (o₃ ≡ sets o₂ n₂ (field (length cells) 10))
    → (n₄ ≡ n₃ + length (rows (stretches_of cells))) × (o₄ ≡ sets o₃ n₃ (rows (stretches_of cells)))
    → Writes (found_sheet lines damaged (stretches_of cells)) out n₄ o₄
unfolding found_sheet
found-laid lines damaged cells out o₀ o₁ o₂ o₃ o₄ n₁ n₂ n₃ n₄ h e₀ e₁ e₂ e₃ e₄ =
    let a = field lines 44 in
    let b = field damaged 44 in
    let d = field (length cells) 10 in
    let r = rows (stretches_of cells) in
    let w₁ = written-more a (written-letter out o₀ 70 e₀) e₁.0 e₁.1 in
    let w₃ = written-more d (written-more b w₁ e₂.0 e₂.1) e₃.0 e₃.1 in
    let w₄ = written-more r w₃ e₄.0 e₄.1 in
    let n : length cells ≡ length (stretches_of cells) = sym (length-map cells _) in
    let z : ((a ++ b) ++ d) ++ r ≡ a ++ (b ++ (field (length (stretches_of cells)) 10 ++ r)) = (simp append_assoc) ∙ ap (λ k. a ++ (b ++ (field k 10 ++ r))) n in
    written-laid (subst (λ (s : List ℕ). Written out (70 ∷ 44 ∷ s) n₄ o₄) z w₄) h
