-- What an accepted taking call has, and what its result and cells then are. Assumes nothing.
use Prim.Native.Nat.{ℕ, zero, suc, ◌≤◌}
use mathlib.Core.Path.{◌≡◌, refl, sym, ap, ap₂, ◌∙◌}
use mathlib.Core.Bool.{true, false, true≢false, not, cond, ◌&&◌, ◌||◌}
use mathlib.Core.List.{List, ◌++◌}
use mathlib.Core.Option.{some}
use native.Mathlib.Omega.{arith}
use lib.ListN.{length, take, drop}
use lib.Seq.{length-take-le}
use lib.Dec.{leb, ltb, eqb}
use borrow.Author.Tests.{eq-eqb, ne_eqb, leb-true, ltb-false, not-false}
use Rattle.std.specs.Prelude.{Result, Ok, Err, IfErr}
use Rattle.std.specs.Result.{IsErr}
use Rattle.stretches.specs.Taking as algorithm
use Rattle.stretches.specs.Taking.{taking}
use Rattle.stretches.specs.declared.Stretch.{Stretch}
use Rattle.stretches.specs.Stretch.{length_of}
use Rattle.stretches.specs.Front.{Front, None, Some}
use Rattle.stretches.specs.Operators.{operator_of}
use Rattle.stretches.specs.Lent.{lists_of}
use Rattle.stretches.proofs.Lent.{lists_length}
use Rattle.basics.proofs.Basics.{and-true, or-false}
use Rattle.meaning.specs.declared.Refusal.{Refusal}
use Rattle.meaning.specs.declared.Refusal.TheVariants.{LongLog, LongPattern, Misspelt, Crowded, Deep, Miscalled, Miscut, Disordered, BadCount}
use Rattle.meaning.specs.Refusals.{Signal, refused, accepted, takes_lists, miscalled_taking, taking_refusal}
use Rattle.meaning.specs.Replies.{number_of, place_of}
use Rattle.taking.specs.Taking.{TakeReply, taken_by, taken_of, take_reply, given, not_taken, take_result, take_cells}
use Rattle.taking.specs.declared.queue.Operator.{Operator}
use Rattle.taking.specs.inner.Queue.{op_of, operator_at, handed}
use Rattle.lent.proofs.Accepting.{Accepted}
use Rattle.lent.proofs.Accepting as accepting

-- no refusal has the number 0
pub numbered : (e : Refusal) → number_of e ≡ 0 → ⊥
numbered LongLog h = absurd (omega arith)
numbered LongPattern h = absurd (omega arith)
numbered (Misspelt n) h = absurd (omega arith)
numbered Crowded h = absurd (omega arith)
numbered Deep h = absurd (omega arith)
numbered Miscalled h = absurd (omega arith)
numbered Miscut h = absurd (omega arith)
numbered Disordered h = absurd (omega arith)
numbered BadCount h = absurd (omega arith)

module _ (op : ℕ) (items ends counts : List ℕ) where
  module _ (p : ℕ) (e : Refusal) (is : refused (number_of e) (place_of e) ≡ refused (taking_refusal op items ends counts) 0) where
    off : eqb (taking_refusal op items ends counts) 0 ≡ false
    off = ne_eqb (taking_refusal op items ends counts) 0 (λ z. numbered e (ap (λ (s : Signal). s.number) is ∙ z))

    pub take-refused : take_reply (Err e) ≡ take_result op items ends counts p
    unfolding take_result
    take-refused = ap (λ (s : Signal). not_taken s.number) is ∙ sym (ap (λ b. cond b (given (taken_of op items ends p).answer) (not_taken (taking_refusal op items ends counts))) off)

    pub take-kept : counts ≡ take_cells op items ends counts p
    unfolding take_cells
    take-kept = sym (ap (λ b. cond b ((taken_of op items ends p).counts ++ drop (length ends) counts) counts) off)

  -- or or and, over lists in order, with a count cell for each
  pub record Takes : Type 0 where
    pub lists : Accepted (miscalled_taking op ends counts) items ends
    pub room : length ends ≤ length counts
    pub which : operator_of length_of op 0 ≡ some (op_of (operator_at op))

  two : (m : ℕ) → 1 ≤ m → m ≤ 2 → operator_of length_of m 0 ≡ some (op_of (operator_at m))
  two zero lo hi = absurd (omega arith)
  two (suc zero) lo hi = refl
  two (suc (suc zero)) lo hi = refl
  two (suc (suc (suc m))) lo hi = absurd (omega arith)

  pub takes : taking_refusal op items ends counts ≡ 0 → Takes
  unfolding taking_refusal
  takes none =
      let a = accepting.accepted (miscalled_taking op ends counts) items ends none in
      let u = or-false (not (leb 1 op && leb op 2)) (not (takes_lists op (length ends)) || ltb (length counts) (length ends)) a.called in
      let v = and-true (leb 1 op) (leb op 2) (not-false (leb 1 op && leb op 2) u.0) in
      let w = or-false (not (takes_lists op (length ends))) (ltb (length counts) (length ends)) u.1 in
      record {
        lists = a;
        room = ltb-false (length counts) (length ends) w.1;
        which = two op (leb-true 1 op v.0) (leb-true op 2 v.1);
      }

-- an accepted call, its lists and how many they are
pub record Taking (op : ℕ) (items ends counts : List ℕ) (ls : List (List Stretch)) (n : ℕ) : Type 0 where
  pub signal : accepted ≡ refused (taking_refusal op items ends counts) 0
  pub lists : ls ≡ lists_of items ends
  pub number : n ≡ length ls

module _ {op : ℕ} {items ends counts : List ℕ} {ls : List (List Stretch)} {n : ℕ} (t : Taking op items ends counts ls n) where
  no-refusal : taking_refusal op items ends counts ≡ 0
  no-refusal = ap (λ (s : Signal). s.number) (sym t.signal)

  places : n ≡ length ends
  places = omega (arith, t.number, ap length t.lists, lists_length 0 items ends)

  -- there is a cell for each list
  pub cells : n ≤ length counts
  cells = omega (arith, places, (takes op items ends counts no-refusal).room)

  pub cells-length : length (take n counts) ≡ n
  cells-length = length-take-le n counts cells

  on : eqb (taking_refusal op items ends counts) 0 ≡ true
  on = eq-eqb (taking_refusal op items ends counts) 0 no-refusal

  -- what the run handed out, over these lists
  module _ (p : ℕ) (o : Operator) (k : o ≡ operator_at op) (g : Front) (ks : List ℕ) (h : handed g ks ≡ taking (op_of o) ls p) where
    ran : taken_of op items ends p ≡ handed g ks
    ran = ap (λ o. taken_by o (lists_of items ends) p) (takes op items ends counts no-refusal).which ∙ sym (h ∙ ap₂ (λ o ls. taking (op_of o) ls p) k t.lists)

    pub take-given : take_reply (Ok g) ≡ take_result op items ends counts p
    unfolding take_result
    take-given = ap (λ (s : algorithm.AnswerCounts). given s.answer) (sym ran) ∙ sym (ap (λ b. cond b (given (taken_of op items ends p).answer) (not_taken (taking_refusal op items ends counts))) on)

    pub take_counted : ks ++ drop n counts ≡ take_cells op items ends counts p
    unfolding take_cells
    take_counted =
        ap₂ (λ (s : algorithm.AnswerCounts) (m : ℕ). s.counts ++ drop m counts) (sym ran) places
        ∙ sym (ap (λ b. cond b ((taken_of op items ends p).counts ++ drop (length ends) counts) counts) on)

-- ── The reply fixes the result ──

given-fixes : (f g : Front) → given f ≡ given g → f ≡ g
given-fixes None None e = refl
given-fixes None (Some y) e = absurd (true≢false (sym (ap (λ (s : TakeReply). s.found) e)))
given-fixes (Some x) None e = absurd (true≢false (ap (λ (s : TakeReply). s.found) e))
given-fixes (Some x) (Some y) e = λ i. Some (record { start = ap (λ (s : TakeReply). s.start) e i; end = ap (λ (s : TakeReply). s.end) e i })

-- an answer or "none": the call returned just that
pub reply-answer : (r : Result Front Refusal) (g : Front) → take_reply r ≡ given g → r ≡ Ok g
reply-answer (Ok f) g e = ap Ok (given-fixes f g e)
reply-answer (Err d) None e = absurd (numbered d (ap (λ (s : TakeReply). s.number) e))
reply-answer (Err d) (Some x) e = absurd (numbered d (ap (λ (s : TakeReply). s.number) e))

-- another number: it returned the refusal of that number
pub reply-refusal : (r : Result Front Refusal) (n : ℕ) → (n ≡ 0 → ⊥) → take_reply r ≡ not_taken n → IfErr r (λ d. number_of d ≡ n) × IsErr r
reply-refusal (Ok None) n h e = absurd (h (sym (ap (λ (s : TakeReply). s.number) e)))
reply-refusal (Ok (Some x)) n h e = absurd (h (sym (ap (λ (s : TakeReply). s.number) e)))
reply-refusal (Err d) n h e = (ap (λ (s : TakeReply). s.number) e, refl)
