-- The numbers of a result fit their bits. Assumes nothing.
use Prim.Native.Nat.{ℕ, zero, suc, ◌≤◌}
use mathlib.Core.Path.{◌≡◌, refl, sym, ap, ◌∙◌}
use mathlib.Core.Bool.{Bool, true, false, cond}
use mathlib.Core.List.{List, []}
use mathlib.Core.Logic.{◌⊎◌, inl, inr}
use mathlib.Core.Option.{Option, none, some}
use lib.ListN.{length, drop, length-take, length-drop}
use lib.Dec.{eqb}
use borrow.Author.Tests.{eqb-true}
use native.Mathlib.Omega.{arith}
use Rattle.stretches.specs.declared.Stretch.{Stretch}
use Rattle.stretches.specs.Stretch.{Op, Or, And, Row, Then, Keep, length_of, answers}
use Rattle.stretches.specs.Front.{Front, None, Some, nth}
use Rattle.stretches.specs.Taking.{begun, taking}
use Rattle.stretches.specs.Operators.{operator_of, apply}
use Rattle.stretches.specs.Filling.{pairs_in, written}
use Rattle.stretches.specs.Lent.{lists_of}
use Rattle.stretches.specs.Taking as algorithm
use Rattle.stretches.proofs.Incomparable.{fine-few}
use Rattle.stretches.proofs.Taking.{nth_in, or-taken, and-taken}
use Rattle.meaning.specs.Replies.{FillReply}
use Rattle.meaning.specs.Finding.{filling}
use Rattle.stretches.proofs.Fine.{AllFine, fine-answers}
use Rattle.meaning.specs.Replies.{Reply}
use Rattle.meaning.proofs.Bounds.{Small, refusal-small, pick_small, few-written, lowest-small}
use Rattle.picks.specs.Picking.{picking}
use Rattle.picks.proofs.Picking.{picked-few}
use Rattle.witness.specs.Witness.{triples_in, shown_in, witnessing}
use Rattle.witness.proofs.Laws.{shown-most}
use Rattle.meaning.specs.Refusals.{Signal, refused, miscalled, miscalled_taking, pick_refusal, lowest, lists_refusal, taking_refusal}
use Rattle.lists.specs.Filling.{list_answers, wrote, not_filled, fill_result}
use Rattle.taking.specs.Taking.{TakeReply, taken_by, taken_of, given, not_taken, take_result}
use Rattle.lent.proofs.Ordering.{fine-lists}
use Rattle.lent.proofs.Accepting.{accepted}

-- ── Over a pattern and a log ──

-- of a filling call
pub filling-small : (pattern log : List ℕ) (f : ℕ) (cells : List ℕ) (r : FillReply) → r ≡ filling pattern log f cells → (r.number ≤ 8) × (r.place ≤ 1024) × (r.count ≤ 65536)
filling-small pattern log f cells r e =
    let s = refusal-small pattern log in (
      omega (arith, ap (λ (x : FillReply). x.number) e, s.number),
      omega (arith, ap (λ (x : FillReply). x.place) e, s.place),
      omega (arith, ap (λ (x : FillReply). x.count) e, few-written pattern log f cells),
    )

-- as pattern and log are refused, or with 10
reply-small : (r : Signal) → Small r ⊎ (r ≡ refused 10 0) → (r.number ≤ 10) × (r.place ≤ 1024)
reply-small r (inl s) = (omega (arith, s.number), s.place)
reply-small r (inr s) = (omega (arith, ap (λ (x : Signal). x.number) s), omega (arith, ap (λ (x : Signal). x.place) s))

-- of a picking call
pub picking-small : (pattern log : List ℕ) (k : ℕ) (cells : List ℕ) (r : Reply) → r ≡ picking pattern log k cells → (r.number ≤ 10) × (r.place ≤ 1024) × (r.count ≤ 65536)
picking-small pattern log k cells r e =
    let s = reply-small (pick_refusal pattern log k) (pick_small pattern log k) in (
      omega (arith, ap (λ (x : Reply). x.number) e, s.0),
      omega (arith, ap (λ (x : Reply). x.place) e, s.1),
      omega (arith, ap (λ (x : Reply). x.count) e, picked-few pattern log k cells),
    )

-- of a witness call
pub witness_small : (pattern log : List ℕ) (k : ℕ) (cells : List ℕ) (r : Reply) → r ≡ witnessing pattern log k cells → (r.number ≤ 10) × (r.place ≤ 1024) × (r.count ≤ 65536)
witness_small pattern log k cells r e =
    let s = refusal-small pattern log in (
      omega (arith, ap (λ (x : Reply). x.number) e, s.number),
      omega (arith, ap (λ (x : Reply). x.place) e, s.place),
      omega (arith, ap (λ (x : Reply). x.count) e, length-take (triples_in cells) (shown_in pattern log k), shown-most pattern log k),
    )

-- ── Over lent lists ──

answers-few : (o : Option Op) (ls : List (List Stretch)) → AllFine 65536 ls → length (apply o [] ls) ≤ 65536
answers-few none ls f = omega arith
answers-few (some o) ls f = fine-few 65536 (answers o ls) (fine-answers 65536 o ls f)

written-few : (l : List Stretch) (f : ℕ) (cells : List ℕ) → length (written l f cells) ≤ length l
written-few l f cells = omega (arith, length-take (pairs_in cells) (drop f l), length-drop f l)

-- of a filling call
pub lists-small : (op k : ℕ) (items ends cells : List ℕ) (f : ℕ) (r : FillReply) → r ≡ fill_result op k items ends cells f → (r.number ≤ 8) × (r.place ≤ 1024) × (r.count ≤ 65536)
unfolding fill_result lists_refusal
lists-small op k items ends cells f r e = go (eqb (lowest (miscalled op k ends) items ends) 0) refl e
  where
    go : (b : Bool) → eqb (lowest (miscalled op k ends) items ends) 0 ≡ b → r ≡ cond b (wrote (list_answers op k items ends) cells f) (not_filled (lowest (miscalled op k ends) items ends))
        → (r.number ≤ 8) × (r.place ≤ 1024) × (r.count ≤ 65536)
    go true i x =
        let a = accepted (miscalled op k ends) items ends (eqb-true (lowest (miscalled op k ends) items ends) 0 i) in (
          omega (arith, ap (λ (y : FillReply). y.number) x),
          omega (arith, ap (λ (y : FillReply). y.place) x),
          omega (arith, ap (λ (y : FillReply). y.count) x, written-few (list_answers op k items ends) f cells, answers-few (operator_of length_of op k) (lists_of items ends) (fine-lists (lists_of items ends) a.order)),
        )
    go false i x = (
      omega (arith, ap (λ (y : FillReply). y.number) x, lowest-small (miscalled op k ends) items ends),
      omega (arith, ap (λ (y : FillReply). y.place) x),
      omega (arith, ap (λ (y : FillReply). y.count) x),
    )

-- the other operators take nothing
idle : (ls : List (List Stretch)) (f : algorithm.AnswerCounts → algorithm.AnswerCounts) → ((s : algorithm.AnswerCounts) → f s ≡ s) → (t : ℕ → algorithm.AnswerCounts) → t 0 ≡ f (begun ls) → ((p : ℕ) → t (suc p) ≡ f (t p)) → (p : ℕ) → (t p).answer ≡ None
idle ls f h t z s zero = ap (λ (x : algorithm.AnswerCounts). x.answer) (z ∙ h (begun ls))
idle ls f h t z s (suc p) = ap (λ (x : algorithm.AnswerCounts). x.answer) (s p ∙ h (t p)) ∙ idle ls f h t z s p

-- an answer that is taken ends below 65,536
taken_in : (o : Op) (ls : List (List Stretch)) → AllFine 65536 ls → (p : ℕ) (x : Stretch) → (taking o ls p).answer ≡ Some x → (x.start ≤ 65535) × (x.end ≤ 65535)
taken_in o ls f p x e = by o e
  where
    fits : (o : Op) → nth (answers o ls) p ≡ Some x → (x.start ≤ 65535) × (x.end ≤ 65535)
    fits o k =
        let g = fine-answers 65536 o ls f in
        let m = nth_in (answers o ls) p x k in
        (omega (arith, g.sound x.start x.end m, g.below x.start x.end m), omega (arith, g.below x.start x.end m))

    never : None ≡ Some x → (x.start ≤ 65535) × (x.end ≤ 65535)
    never k = let z : ◌≡◌ {A = ℕ} 0 1 = cc in absurd (omega arith)

    by : (o : Op) → (taking o ls p).answer ≡ Some x → (x.start ≤ 65535) × (x.end ≤ 65535)
    by Or k = fits Or (sym (ap (λ (t : algorithm.AnswerCounts). t.answer) (or-taken ls f.rising f.sound p)) ∙ k)
    by And k = fits And (sym (and-taken ls f.rising f.sound p) ∙ k)
    by Row k = never (sym (idle ls (λ s. s) (λ s. refl) (taking Row ls) refl (λ p. refl) p) ∙ k)
    by Then k = never (sym (idle ls (λ s. s) (λ s. refl) (taking Then ls) refl (λ p. refl) p) ∙ k)
    by (Keep f b) k = never (sym (idle ls (λ s. s) (λ s. refl) (taking (Keep f b) ls) refl (λ p. refl) p) ∙ k)

taken-by : (o : Option Op) (ls : List (List Stretch)) → AllFine 65536 ls → (p : ℕ) (g : Front) → (taken_by o ls p).answer ≡ g → ((given g).start ≤ 65535) × ((given g).end ≤ 65535)
taken-by o ls f p None e = (omega arith, omega arith)
taken-by none ls f p (Some x) e = let z : ◌≡◌ {A = ℕ} 0 1 = cc in absurd (omega arith)
taken-by (some o) ls f p (Some x) e = taken_in o ls f p x e

given-number : (g : Front) → (given g).number ≡ 0
given-number None = refl
given-number (Some x) = refl

-- of a taking call
pub taking-small : (op : ℕ) (items ends counts : List ℕ) (p : ℕ) (r : TakeReply) → r ≡ take_result op items ends counts p → (r.number ≤ 8) × (r.start ≤ 65535) × (r.end ≤ 65535)
unfolding take_result taking_refusal
taking-small op items ends counts p r e = go (eqb (lowest (miscalled_taking op ends counts) items ends) 0) refl e
  where
    go : (b : Bool) → eqb (lowest (miscalled_taking op ends counts) items ends) 0 ≡ b → r ≡ cond b (given (taken_of op items ends p).answer) (not_taken (lowest (miscalled_taking op ends counts) items ends))
        → (r.number ≤ 8) × (r.start ≤ 65535) × (r.end ≤ 65535)
    go true i x =
        let a = accepted (miscalled_taking op ends counts) items ends (eqb-true (lowest (miscalled_taking op ends counts) items ends) 0 i) in
        let h = taken-by (operator_of length_of op 0) (lists_of items ends) (fine-lists (lists_of items ends) a.order) p (taken_of op items ends p).answer refl in (
          omega (arith, ap (λ (y : TakeReply). y.number) x, given-number (taken_of op items ends p).answer),
          omega (arith, ap (λ (y : TakeReply). y.start) x, h.0),
          omega (arith, ap (λ (y : TakeReply). y.end) x, h.1),
        )
    go false i x = (
      omega (arith, ap (λ (y : TakeReply). y.number) x, lowest-small (miscalled_taking op ends counts) items ends),
      omega (arith, ap (λ (y : TakeReply). y.start) x),
      omega (arith, ap (λ (y : TakeReply). y.end) x),
    )
