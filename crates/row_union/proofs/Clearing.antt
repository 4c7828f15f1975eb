-- A row cleared. Assumes nothing.
use Rattle.std.proofs.Common.{◌≡◌, ℕ, zero, suc, ◌+◌, List, [], ◌∷◌, ◌++◌, true, length, take, drop, replicate, refl, sym, ap, ◌∙◌, arith, cond, append_assoc}
use Rattle.std.proofs.lemmas.Slice.{put_mid-paste}
use lib.ListN.{length-replicate}
use lib.Seq.{take_all}
use borrow.Rule.Slice.PartMut.{put_mid}
use Rattle.marks.specs.Row.{number, lies, packed, with_row, cleared}
use Rattle.marks.proofs.Rows.{lies-true, words-of-row}

-- words of no lines
pub packed-none : (w : ℕ) → packed w [] ≡ replicate w 0
unfolding packed number
packed-none zero = refl
packed-none (suc w) = ap (λ (l : List ℕ). 0 ∷ l) (packed-none w)

-- a row that lies inside the words, filled with 0
pub cleared-is : (words ys : List ℕ) (at width n : ℕ) → lies (length words) at width ≡ true → n ≡ width
    → ys ≡ replicate (length (take n (drop at words))) 0 → put_mid at n words ys ≡ cleared words at width
unfolding with_row
cleared-is words ys at width n h z e =
    let zs : List ℕ = replicate width 0 in
    let m : length (take n (drop at words)) ≡ width = ap (λ (x : ℕ). length (take x (drop at words))) z ∙ words-of-row words at width (lies-true (length words) at width h).0 in
    put_mid-paste at n words ys zs width (e ∙ ap (λ (x : ℕ). replicate x 0) m) (sym z) (sym (length-replicate {A = ℕ} width 0))
    ∙ append_assoc (take at words) (take width zs) (drop (at + width) words)
    ∙ ap (λ (l : List ℕ). take at words ++ (l ++ drop (at + width) words)) (take_all width zs (omega (arith, length-replicate {A = ℕ} width 0)) ∙ sym (packed-none width))
    ∙ sym (ap (λ b. cond b (with_row words at width []) words) h)
