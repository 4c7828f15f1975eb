-- The filling call over lent lists: a refused call changes nothing; in an accepted one the machine's promise over the laid table is the call's.
-- What the refusals leave is what the machine asks of its source. Assumes nothing.
use Prim.Native.Nat.{ℕ, ◌≤◌}
use mathlib.Core.Path.{◌≡◌, sym, ap, ap₂, subst, ◌∙◌}
use mathlib.Core.Bool.{true, false, not, cond, ◌&&◌, ◌||◌}
use mathlib.Core.List.{List, []}
use native.Mathlib.Omega.{arith}
use lib.ListN.{length, get_or}
use lib.Dec.{leb, eqb}
use borrow.Author.Tests.{eq-eqb, eqb-true, leb-true, not-false}
use Rattle.stretches.specs.declared.Node.{Node}
use Rattle.stretches.specs.declared.Stretch.{Stretch}
use Rattle.stretches.specs.Filling.{filled}
use Rattle.stretches.specs.Lent.{lists_of}
use Rattle.basics.proofs.Basics.{cases, and-true, or-false}
use Rattle.stretches.proofs.Fine.{AllFine}
use Rattle.meaning.specs.declared.Refusal.{Refusal}
use Rattle.meaning.specs.Refusals.{Signal, refused, accepted, takes_lists, takes_bound, miscalled, lists_refusal}
use Rattle.meaning.specs.Replies.{number_of, place_of, FillReply, fill_reply}
use Rattle.meaning.proofs.Replies.{number_some}
use Rattle.std.specs.Prelude.{Ok, Err}
use Rattle.stretches.proofs.Steps.{onward-all}
use Rattle.walk.specs.declared.Walked.{Walked}
use Rattle.seek.specs.Source.{source, list_over}
use Rattle.walk.specs.Filling.{Filling, FillAll}
use Rattle.seek.proofs.Nodes.{fine}
use Rattle.lists.specs.Filling.{list_answers, wrote, not_filled, fill_result, fill_cells}
use Rattle.lists.specs.inner.Table.{Laid}
use Rattle.lent.proofs.Ordering.{fine-lists}
use Rattle.lent.proofs.Cutting.{ends-inside}
use Rattle.lists.proofs.Laying.{laid-good, laid-answers}
use Rattle.lent.proofs.Accepting as lent

-- how many lists an operator that is not miscalled has
few-lists : (op n : ℕ) → takes_lists op n ≡ true → n ≤ 31
few-lists op n h = cases (eqb op 6) (λ b. cond b (eqb n 1) (cond (leb 5 op) (eqb n 2) (leb 2 n && leb n 31)) ≡ true → n ≤ 31) (λ k e. omega (arith, eqb-true n 1 e))
    (λ k. cases (leb 5 op) (λ b. cond b (eqb n 2) (leb 2 n && leb n 31) ≡ true → n ≤ 31) (λ k e. omega (arith, eqb-true n 2 e)) (λ k e. leb-true n 31 (and-true (leb 2 n) (leb n 31) e).1)) h

module _ (op k : ℕ) (items ends cells : List ℕ) (f : ℕ) where
  -- a refused call
  module _ (e : Refusal) (is : refused (number_of e) (place_of e) ≡ refused (lists_refusal op k items ends) 0) where
    off : eqb (lists_refusal op k items ends) 0 ≡ false
    off = ap (λ (r : Signal). eqb r.number 0) (sym is) ∙ number_some e

    pub fill-refused : fill_reply (Err e) ≡ fill_result op k items ends cells f
    unfolding fill_result
    fill-refused =
        ap {B = FillReply} (λ (r : Signal). record { number = r.number; place = r.place; count = 0; more = false }) is
        ∙ sym (ap (λ b. cond b (wrote (list_answers op k items ends) cells f) (not_filled (lists_refusal op k items ends))) off)

    pub fill-kept : cells ≡ fill_cells op k items ends cells f
    unfolding fill_cells
    fill-kept = sym (ap (λ b. cond b (filled (list_answers op k items ends) f cells) cells) off)

  -- an operator over at most 31 lists, these in order and inside the items
  pub record Fills : Type 0 where
    pub low : 1 ≤ op
    pub high : op ≤ 9
    pub few : length ends ≤ 31
    pub order : AllFine 65536 (lists_of items ends)
    pub inside : (j : ℕ) → get_or ends j 0 ≤ length items

  -- an accepted one
  module _ (is : accepted ≡ refused (lists_refusal op k items ends) 0) where
    none : lists_refusal op k items ends ≡ 0
    none = ap (λ (r : Signal). r.number) (sym is)

    on : eqb (lists_refusal op k items ends) 0 ≡ true
    on = eq-eqb (lists_refusal op k items ends) 0 none

    pub fills : Fills
    unfolding lists_refusal
    fills =
        let a = lent.accepted (miscalled op k ends) items ends none in
        let u = or-false (not (leb 1 op && leb op 9)) (not (takes_lists op (length ends)) || not (takes_bound op k)) a.called in
        let v = and-true (leb 1 op) (leb op 9) (not-false (leb 1 op && leb op 9) u.0) in
        let w = or-false (not (takes_lists op (length ends))) (not (takes_bound op k)) u.1 in
        record {
          low = leb-true 1 op v.0;
          high = leb-true op 9 v.1;
          few = few-lists op (length ends) (not-false (takes_lists op (length ends)) w.0);
          order = fine-lists (lists_of items ends) a.order;
          inside = ends-inside items ends a.cut;
        }

    module _ (rows : List Node) (cells' : List ℕ) (w : Walked) (l : Laid op k (length ends) ends (length ends) rows) (h : FillAll (source [] items []) rows 0 f cells w cells') where
      done : Filling (list_answers op k items ends) f cells w cells'
      done =
          let g = fills in
          let good = laid-good op k items ends rows l g.low g.high g.few g.inside g.order in
          subst (λ (xs : List Stretch). Filling xs f cells w cells')
          (onward-all (list_over (source [] items []) rows 0) (fine (source [] items []) rows good 0 (omega arith)).rising ∙ laid-answers op k items ends rows l g.low g.high g.few g.inside)
          (h.fills good)

      pub fill-walked : fill_reply (Ok (record { count = w.count; more = w.more })) ≡ fill_result op k items ends cells f
      unfolding fill_result
      fill-walked =
          ap₂ {C = FillReply} (λ c m. record { number = 0; place = 0; count = c; more = m }) done.count done.more
          ∙ sym (ap (λ b. cond b (wrote (list_answers op k items ends) cells f) (not_filled (lists_refusal op k items ends))) on)

      pub fill-wrote : cells' ≡ fill_cells op k items ends cells f
      unfolding fill_cells
      fill-wrote = done.wrote ∙ sym (ap (λ b. cond b (filled (list_answers op k items ends) f cells) cells) on)
