-- How far the lists are read, of what the taking call returns and writes: by its promise these are the algorithm's answer and counts. Assumes nothing.
use Prim.Native.Nat.{ℕ, ◌≤◌}
use mathlib.Core.Path.{◌≡◌, sym, ap, subst, ◌∙◌}
use mathlib.Core.Bool.{true, cond, true≢false}
use mathlib.Core.List.{List, ◌++◌}
use lib.ListN.{length, take, drop}
use lib.Seq.{take_at}
use lib.Dec.{eqb}
use borrow.Author.Tests.{eq-eqb, eqb-true}
use Rattle.stretches.specs.Stretch.{In, together, And, answers}
use Rattle.stretches.specs.Front.{Front, None, Some, nth}
use Rattle.stretches.specs.Taking.{AnswerCounts, taking}
use Rattle.stretches.specs.Lent.{lists_of}
use Rattle.stretches.specs.Laziness.{EachReaches, each_to_first, Agree}
use Rattle.stretches.proofs.Lent.{lists_length}
use Rattle.stretches.proofs.Fine.{AllFine}
use Rattle.stretches.proofs.Taking.{and-taken}
use Rattle.stretches.proofs.TakingLoops.{taking-length}
use Rattle.stretches.proofs.TakingReach.{and-reaches, exact-there, exact-only}
use Rattle.stretches.proofs.TakingAgreement.{taken-agree}
use Rattle.basics.proofs.Basics.{cases}
use Rattle.meaning.specs.Refusals.{taking_refusal}
use Rattle.lent.proofs.Ordering.{fine-lists}
use Rattle.taking.specs.Taking.{TakeReply, taken_by, taken_of, given, not_taken, take_result, take_cells}
use Rattle.taking.specs.Laziness.{Took, handed_out, counts_in}
use Rattle.taking.specs.inner.Queue.{op_of, operator_at}
use Rattle.taking.proofs.Runs.{has-taking}
use Rattle.taking.proofs.Takings.{Takes, takes}

-- ── An accepted call ──

module _ (op : ℕ) (items ends counts : List ℕ) (p : ℕ) (r : TakeReply) (cells : List ℕ) (t : Took op items ends counts p r cells) where
  no-refusal : taking_refusal op items ends counts ≡ 0
  unfolding take_result
  no-refusal = cases (eqb (taking_refusal op items ends counts) 0)
      (λ b. r ≡ cond b (given (taken_of op items ends p).answer) (not_taken (taking_refusal op items ends counts)) → taking_refusal op items ends counts ≡ 0)
      (λ k _. eqb-true (taking_refusal op items ends counts) 0 k) (λ k e. sym (ap (λ (s : TakeReply). s.number) e) ∙ t.accepted) t.returned

  on : eqb (taking_refusal op items ends counts) 0 ≡ true
  on = eq-eqb (taking_refusal op items ends counts) 0 no-refusal

  taken : Takes op items ends counts
  taken = takes op items ends counts no-refusal

  fine : AllFine 65536 (lists_of items ends)
  fine = fine-lists (lists_of items ends) taken.lists.order

  ran : taken_of op items ends p ≡ taking (op_of (operator_at op)) (lists_of items ends) p
  ran = ap (λ o. taken_by o (lists_of items ends) p) taken.which

  result-is : r ≡ given (taking (op_of (operator_at op)) (lists_of items ends) p).answer
  unfolding take_result
  result-is =
      t.returned ∙ (ap (λ b. cond b (given (taken_of op items ends p).answer) (not_taken (taking_refusal op items ends counts))) on
      ∙ ap (λ (s : AnswerCounts). given s.answer) ran)

  counts-are : counts_in ends cells ≡ (taking (op_of (operator_at op)) (lists_of items ends) p).counts
  unfolding take_cells
  counts-are =
      let o = op_of (operator_at op) in
      ap (take (length ends)) (t.left ∙ (ap (λ b. cond b ((taken_of op items ends p).counts ++ drop (length ends) counts) counts) on
      ∙ ap (λ (s : AnswerCounts). s.counts ++ drop (length ends) counts) ran))
      ∙ take_at (taking o (lists_of items ends) p).counts (drop (length ends) counts) (length ends)
      (taking-length (lists_of items ends) o (has-taking (operator_at op)) p ∙ lists_length 0 items ends)

-- ── and: the items taken reach the first one inside the answer ──

module _ (items ends counts : List ℕ) (p : ℕ) (r : TakeReply) (cells : List ℕ) (t : Took 2 items ends counts p r cells) (f : r.found ≡ true) where
  lists : AllFine 65536 (lists_of items ends)
  lists = fine 2 items ends counts p r cells t

  answered : nth (answers And (lists_of items ends)) p ≡ Some (handed_out r)
  answered = sym (and-taken (lists_of items ends) lists.rising lists.sound p) ∙ go (taking And (lists_of items ends) p).answer (result-is 2 items ends counts p r cells t)
    where
      go : (g : Front) → r ≡ given g → g ≡ Some (handed_out r)
      go None e = absurd (true≢false (sym f ∙ ap (λ (s : TakeReply). s.found) e))
      go (Some x) e = λ i. Some (record { start = sym (ap (λ (s : TakeReply). s.start) e) i; end = sym (ap (λ (s : TakeReply). s.end) e) i })

  -- from each list they do, with at most one beyond it, and that only where this first one starts at the answer's start
  pub take-reaches : EachReaches (handed_out r) (lists_of items ends) (counts_in ends cells)
  take-reaches =
      subst (EachReaches (handed_out r) (lists_of items ends)) (sym (counts-are 2 items ends counts p r cells t))
      (and-reaches (lists_of items ends) lists.rising lists.sound p (handed_out r) answered)

  -- where some list has the answer itself as an item, there is none beyond, and only there
  pub take-exact-there : In r.start r.end (together (lists_of items ends)) → counts_in ends cells ≡ each_to_first (handed_out r) (lists_of items ends)
  take-exact-there m = counts-are 2 items ends counts p r cells t ∙ exact-there (lists_of items ends) lists.rising lists.sound p (handed_out r) answered m

  pub take-exact-only : counts_in ends cells ≡ each_to_first (handed_out r) (lists_of items ends) → In r.start r.end (together (lists_of items ends))
  take-exact-only e = exact-only (lists_of items ends) lists.rising lists.sound p (handed_out r) answered (sym (counts-are 2 items ends counts p r cells t) ∙ e)

-- ── or and and: the items taken decide ──

-- a call for answer p took these items, and other lists agree on them, end marks counted: then calls for an answer 0 to p return the same over both, and write the same counts
pub take-agree : (op : ℕ) (items ends counts : List ℕ) (p : ℕ) (r : TakeReply) (cells : List ℕ) → Took op items ends counts p r cells
    → (items' ends' : List ℕ) → Agree (counts_in ends cells) (lists_of items ends) (lists_of items' ends') → (q : ℕ) → q ≤ p
    → (counts₁ : List ℕ) (r₁ : TakeReply) (cells₁ : List ℕ) → Took op items ends counts₁ q r₁ cells₁
    → (counts₂ : List ℕ) (r₂ : TakeReply) (cells₂ : List ℕ) → Took op items' ends' counts₂ q r₂ cells₂
    → (r₁ ≡ r₂) × (counts_in ends cells₁ ≡ counts_in ends' cells₂)
take-agree op items ends counts p r cells t items' ends' a q h counts₁ r₁ cells₁ t₁ counts₂ r₂ cells₂ t₂ =
    let o = op_of (operator_at op) in
    let e = taken-agree (lists_of items ends) (lists_of items' ends') o (has-taking (operator_at op)) p
    (subst (λ ks. Agree ks (lists_of items ends) (lists_of items' ends')) (counts-are op items ends counts p r cells t) a) q h in (
      result-is op items ends counts₁ q r₁ cells₁ t₁ ∙ (ap (λ (s : AnswerCounts). given s.answer) e ∙ sym (result-is op items' ends' counts₂ q r₂ cells₂ t₂)),
      counts-are op items ends counts₁ q r₁ cells₁ t₁ ∙ (ap (λ (s : AnswerCounts). s.counts) e ∙ sym (counts-are op items' ends' counts₂ q r₂ cells₂ t₂)),
    )
