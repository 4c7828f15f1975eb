-- A run of the algorithms over lent lists: the calls of next one after another; after none nothing moves, so the run may stop there. Assumes nothing.
use Prim.Native.Nat.{ℕ, zero, suc, ◌+◌, ◌-◌, ◌≤◌}
use mathlib.Core.Path.{◌≡◌, refl, sym, ap, ◌∙◌}
use mathlib.Core.Bool.{false}
use mathlib.Core.List.{List, [], ◌∷◌, map}
use native.Mathlib.Omega.{arith}
use lib.ListN.{length, replicate}
use Rattle.stretches.specs.declared.Stretch.{Stretch}
use Rattle.stretches.specs.Stretch.{answers}
use Rattle.stretches.specs.Front.{None, nth}
use Rattle.stretches.specs.Taking.{AnswerCounts, HasTaking, takes-or, takes-and, next, taking}
use Rattle.stretches.proofs.Taking.{taking-answers, taking-stays, nth-none}
use Rattle.stretches.proofs.Fine.{AllFine}
use Rattle.meaning.specs.Refusals.{disordered}
use Rattle.lent.proofs.Ordering.{fine-lists}
use Rattle.taking.specs.declared.queue.Operator.{Operator}
use Rattle.taking.specs.declared.queue.Operator.TheVariants.{Or, And}
use Rattle.taking.specs.inner.Queue.{op_of, handed}

pub has-taking : (op : Operator) → HasTaking (op_of op)
has-taking Or = takes-or
has-taking And = takes-and

-- ── The calls one after another ──

ones : (ls : List (List Stretch)) → replicate (length ls) 1 ≡ map {B = ℕ} (λ l. 1) ls
ones [] = refl
ones (l ∷ ls) = ap (λ ks. 1 ∷ ks) (ones ls)

module _ (op : Operator) (ls : List (List Stretch)) where
  abbrev answered : ℕ → AnswerCounts
  answered p = taking (op_of op) ls p

  pub run-first : (n : ℕ) (ks : List ℕ) (s : AnswerCounts) → ks ≡ replicate n 1 → n ≡ length ls → s ≡ next (op_of op) ls (handed None ks) → s ≡ answered 0
  run-first n ks s e m k = k ∙ ap (λ ks. next (op_of op) ls (handed None ks)) (e ∙ (ap (λ (n : ℕ). replicate n 1) m ∙ ones ls))

  pub run-turn : (p : ℕ) (s t : AnswerCounts) → s ≡ answered p → t ≡ next (op_of op) ls s → t ≡ answered (p + 1)
  run-turn p s t h k = let z : suc p ≡ p + 1 = omega arith in k ∙ (ap (next (op_of op) ls) h ∙ ap answered z)

  module _ (d : disordered ls ≡ false) where
    abbrev fine : AllFine 65536 ls
    fine = fine-lists ls d

    stay : (k p : ℕ) → nth (answers (op_of op) ls) p ≡ None → answered (k + p) ≡ answered p
    stay zero p h = let z : 0 + p ≡ p = omega arith in ap answered z
    stay (suc k) p h =
        let z : suc k + p ≡ k + suc p = omega arith in
        ap answered z ∙ (stay k (suc p) (nth-none (answers (op_of op) ls) p h) ∙ taking-stays ls fine.rising fine.sound (op_of op) (has-taking op) p h)

    pub run_none : (number p : ℕ) (ks : List ℕ) → p ≤ number → handed None ks ≡ answered p → handed None ks ≡ answered number
    run_none number p ks le h =
        let z : number - p + p ≡ number = omega arith in
        let w : nth (answers (op_of op) ls) p ≡ None = sym (taking-answers ls fine.rising fine.sound (op_of op) (has-taking op) p) ∙ ap (λ (s : AnswerCounts). s.answer) (sym h) in
        h ∙ (sym (stay (number - p) p w) ∙ ap answered z)
