-- The proof of the cycle of calls, function by function. Assumes nothing.
use borrow.Author.Rules.{rules}
use native.Mathlib.Omega.{arith}
use Rattle.seek.proofs.Turns.{or-start, or_turn, or-end, span-start, span-turn, span-gone, span-end, chain-gone, chain-start, chain-turn, chain-stop, chain-break, chain-end, test-max, test-alone, test-holder, test-inner, filter-gone, filter-done, look_none}
use mathlib.Core.Path.{◌≡◌, sym, subst, ◌∙◌, refl}
use mathlib.Core.List.{List}
use Prim.Native.Nat.{ℕ, ◌+◌}
use Rattle.stretches.specs.declared.Node.{Node}
use Rattle.stretches.specs.Table.{next_of}
use Rattle.nodes.specs.declared.Operands.{Operands}
use Rattle.nodes.specs.Among.{Among}
use Rattle.nodes.proofs.Operand.{given, all_given, first_given}
use Rattle.seek.proofs.Reaching.{reach-start, reach_here, reach-gone, reach-turn, reach-out}
use Rattle.stretches.proofs.Table.{stop-most}
use Rattle.seek.proofs.Searches.{advance-start, advance-last, advance-good, advance-back, advance-turn, advance-out}
use mathlib.Core.Logic.{inl, inr}
use Rattle.seek.proofs.Keeping.{by_row_lem, by-list, by-none, stored, served}
use Rattle.seek.proofs.Searched.+searching.Goals as goal

-- what the call of `operands_of` gives
abbrev Begun : List Node → ℕ → Operands → Type 0
Begun rows v s = Among rows v s × (s.at ≡ v + 1)

-- behind the first operand
abbrev Behind : List Node → ℕ → Operands → Type 0
Behind rows v s = Among rows v s × (s.at ≡ next_of rows (v + 1))

-- ── `seek_or` ──

pub seek_or-loop-c-init : goal.seek_or-loop-c-init
seek_or-loop-c-init t c = let o = subst (Begun c.args.self.now.rows.now c.args.v) (sym c.into_iter-c-iterator.ensures.into_iter_gives) (c.operands_of-c-items.ensures.operands (omega (arith, c.requires))) in (o.0, or-start (omega (arith, c.requires)) o.1)

pub seek_or-loop-c-preserved : goal.seek_or-loop-c-preserved
seek_or-loop-c-preserved t c = let o = given c.loop-c.invariant.0 c.in-Some.ensures.steps in (o.among, or_turn (omega (arith, c.requires)) c.loop-c.invariant.1 o c.seek.ensures c.better-best.ensures)

pub seek_or-returns : goal.seek_or-returns
seek_or-returns t c = λ k. or-end c.loop-c.invariant.1 (all_given c.loop-c.invariant.0 c.in-None.ensures.steps) k

-- ── `span` ──

pub span-loop-c-init : goal.span-loop-c-init
span-loop-c-init t c = let o = subst (Begun c.args.self.now.rows.now c.args.v) (sym c.into_iter-c-iterator.ensures.into_iter_gives) (c.operands_of-c-items.ensures.operands c.requires.0) in (o.0, span-start c.requires.0 c.requires.1 o.1)

pub span-returns-then-f-ge-NONE : goal.span-returns-then-f-ge-NONE
span-returns-then-f-ge-NONE t c = λ k. span-gone c.requires.0 c.loop-c.invariant.1 (given c.loop-c.invariant.0 c.in-Some.ensures.steps) c.seek-f.ensures c.if-f-ge-NONE.true refl k

pub span-loop-c-preserved : goal.span-loop-c-preserved
span-loop-c-preserved t c = let o = given c.loop-c.invariant.0 c.in-Some.ensures.steps in (o.among, span-turn c.requires.0 c.loop-c.invariant.1 o c.seek-f.ensures c.if-f-ge-NONE.false c.min-s.ensures c.max-e.ensures)

pub span-returns : goal.span-returns
span-returns t c = λ k. span-end c.loop-c.invariant.1 (all_given c.loop-c.invariant.0 c.in-None.ensures.steps) refl k

-- ── `chain` ──

pub chain-returns-then-a-ge-NONE : goal.chain-returns-then-a-ge-NONE
chain-returns-then-a-ge-NONE t c = λ k. chain-gone c.requires.0 c.requires.1 c.seek-a.ensures c.if-a-ge-NONE.true refl k

pub chain-loop-c-init : goal.chain-loop-c-init
chain-loop-c-init t c =
    let h = first_given c.next.result (c.operands_of-rest.ensures.operands c.requires.0).0 (c.operands_of-rest.ensures.operands c.requires.0).1 c.requires.1 c.next.ensures.steps in
    let o = subst (Behind c.args.self.now.rows.now c.args.v) (sym c.into_iter-c-iterator.ensures.into_iter_gives) h in
    (o.0, chain-start o.1)

pub chain-returns-then-f-ge-NONE : goal.chain-returns-then-f-ge-NONE
chain-returns-then-f-ge-NONE t c = λ k. chain-stop c.requires.0 c.requires.1 c.seek-a.ensures c.if-a-ge-NONE.false c.loop-c.invariant.1 k (given c.loop-c.invariant.0 c.in-Some.ensures.steps) c.past-to.ensures c.seek-f.ensures c.if-f-ge-NONE.true refl

pub chain-returns-then-breaks : goal.chain-returns-then-breaks
chain-returns-then-breaks t c = λ k. chain-break c.requires.0 c.requires.1 c.seek-a.ensures c.if-a-ge-NONE.false c.loop-c.invariant.1 k (given c.loop-c.invariant.0 c.in-Some.ensures.steps) c.past-to.ensures c.seek-f.ensures c.if-f-ge-NONE.false (sym c.breaks.ensures ∙ c.if-breaks.true) refl

pub chain-loop-c-preserved : goal.chain-loop-c-preserved
chain-loop-c-preserved t c = let o = given c.loop-c.invariant.0 c.in-Some.ensures.steps in (o.among, chain-turn c.requires.0 c.loop-c.invariant.1 o c.past-to.ensures c.seek-f.ensures c.if-f-ge-NONE.false (sym c.breaks.ensures ∙ c.if-breaks.false))

pub chain-returns : goal.chain-returns
chain-returns t c = λ k. chain-end c.requires.0 c.requires.1 c.seek-a.ensures c.if-a-ge-NONE.false c.loop-c.invariant.1 k (all_given c.loop-c.invariant.0 c.in-None.ensures.steps) refl

-- ── `reach` ──

pub reach-loop-from-init : goal.reach-loop-from-init
reach-loop-from-init t c = reach-start (omega (arith, c.requires)) c.resume-from.ensures

pub reach-returns-then-e-b : goal.reach-returns-then-e-b
reach-returns-then-e-b t c = reach_here (omega (arith, c.requires)) c.loop-from.invariant c.seek-b.ensures c.if-e-b.true c.put_passed.ensures

pub reach-returns-then-b-ge-NONE : goal.reach-returns-then-b-ge-NONE
reach-returns-then-b-ge-NONE t c = reach-gone (omega (arith, c.requires)) c.loop-from.invariant c.seek-b.ensures c.then-b-ge-NONE.either refl

pub reach-loop-from-preserved : goal.reach-loop-from-preserved
reach-loop-from-preserved t c = reach-turn (omega (arith, c.requires)) c.loop-from.invariant c.seek-b.ensures c.if-e-b.false (omega arith)

pub reach-returns : goal.reach-returns
reach-returns t c = reach-out (omega (arith, c.requires)) c.loop-from.invariant c.loop-from-test.false refl

-- ── `passes` ──

pub passes-returns-then-kind-eq-MAX : goal.passes-returns-then-kind-eq-MAX
passes-returns-then-kind-eq-MAX t c = test-max c.requires.0 c.requires.1 c.if-kind-eq-MAX.true c.measure.ensures refl

pub passes-returns-then-stop_of-other : goal.passes-returns-then-stop_of-other
passes-returns-then-stop_of-other t c = test-alone c.requires.0 c.requires.1 c.if-kind-eq-MAX.false c.next_of-other.ensures.value (omega (arith, c.stop_of.ensures.value)) c.keeps.ensures

pub passes-reach-b-requires : goal.passes-reach-b-requires
passes-reach-b-requires t c = let h = c.next_of-other.ensures.lower_bound.0 (omega arith) in (omega (arith, h), omega arith)

pub passes-returns-then-asks_holder : goal.passes-returns-then-asks_holder
passes-returns-then-asks_holder t c = test-holder c.requires.0 c.requires.1 c.if-kind-eq-MAX.false c.next_of-other.ensures.value (omega (arith, c.stop_of.ensures.value)) (sym c.asks_holder.ensures ∙ c.if-asks_holder.true) c.reach-b.ensures c.keeps-then-asks_holder.ensures

pub passes-seek-b-requires : goal.passes-seek-b-requires
passes-seek-b-requires t c = let h = c.next_of-other.ensures.lower_bound.0 (omega arith) in (omega (arith, h), omega arith)

pub passes-returns : goal.passes-returns
passes-returns t c = test-inner c.requires.0 c.requires.1 c.if-kind-eq-MAX.false c.next_of-other.ensures.value (omega (arith, c.stop_of.ensures.value)) (sym c.asks_holder.ensures ∙ c.if-asks_holder.false) c.seek-b.ensures c.keeps-2.ensures

-- ── `filter` ──

pub filter-seek-a-requires : goal.filter-seek-a-requires
filter-seek-a-requires t c = (search rules, omega (arith, c.requires, stop-most c.args.self.now.rows.now c.args.v))

pub filter-returns-then-a-ge-NONE : goal.filter-returns-then-a-ge-NONE
filter-returns-then-a-ge-NONE t c = λ k. filter-gone c.requires.0 c.requires.1 c.seek-a.ensures c.if-a-ge-NONE.true refl k

pub filter-returns-then-passes : goal.filter-returns-then-passes
filter-returns-then-passes t c = λ k. filter-done c.requires.0 c.requires.1 c.seek-a.ensures c.if-a-ge-NONE.false c.passes.ensures c.if-passes.true refl k

pub filter-returns : goal.filter-returns
filter-returns t c = λ k. filter-done c.requires.0 c.requires.1 c.seek-a.ensures c.if-a-ge-NONE.false c.passes.ensures c.if-passes.false refl k

-- ── `look_at` ──

pub look_at-returns-then-stop_of-v : goal.look_at-returns-then-stop_of-v
look_at-returns-then-stop_of-v t c = look_none (omega (arith, c.stop_of.ensures.value)) refl

-- ── `advance` ──

pub advance-loop-from-init : goal.advance-loop-from-init
advance-loop-from-init t c = advance-start refl

pub advance-returns-then-a-ge-NONE : goal.advance-returns-then-a-ge-NONE
advance-returns-then-a-ge-NONE t c = λ k. advance-last c.requires.0 c.requires.1 c.loop-from.invariant c.look_at-a.ensures c.then-a-ge-NONE.either k

pub advance-returns-then-settles : goal.advance-returns-then-settles
advance-returns-then-settles t c = λ k. let s = c.settles.ensures.0 c.if-settles.true in advance-good c.requires.0 c.requires.1 c.loop-from.invariant c.look_at-a.ensures s.0 s.1 k

pub advance-returns-then-a-from : goal.advance-returns-then-a-from
advance-returns-then-a-from t c = λ k. advance-back c.requires.0 c.requires.1 c.loop-from.invariant c.look_at-a.ensures (omega arith) (c.settles.ensures.1 c.if-settles.false) c.if-a-from.true k

pub advance-loop-from-preserved : goal.advance-loop-from-preserved
advance-loop-from-preserved t c = advance-turn c.requires.0 c.requires.1 c.loop-from.invariant c.look_at-a.ensures (omega arith) (c.settles.ensures.1 c.if-settles.false) (omega arith) c.better-best.ensures

pub advance-returns : goal.advance-returns
advance-returns t c = λ k. advance-out c.requires.0 c.requires.1 c.loop-from.invariant c.loop-from-test.false k

-- ── `fresh` ──

pub fresh-returns-in-16 : goal.fresh-returns-in-16
fresh-returns-in-16 t c = by_row_lem (omega (arith, c.requires)) c.in-16.is c.seek_row.ensures

pub fresh-returns-in-17 : goal.fresh-returns-in-17
fresh-returns-in-17 t c = by-list (omega (arith, c.requires)) c.in-17.is c.seek_list.ensures

pub fresh-returns-in_default : goal.fresh-returns-in_default
fresh-returns-in_default t c = by-none (omega (arith, c.requires)) (inl (omega arith)) (λ e. omega arith) (λ e. omega arith) refl

pub fresh-returns-in_default-2 : goal.fresh-returns-in_default-2
fresh-returns-in_default-2 t c = by-none (omega (arith, c.requires)) (inr (omega arith)) (λ e. omega arith) (λ e. omega arith) refl

-- ── `renew` ──

pub renew-returns : goal.renew-returns
renew-returns t c = stored (omega (arith, c.requires)) c.fresh-r.ensures c.put_front.ensures

-- ── `seek` ──

pub seek-front-requires : goal.seek-front-requires
seek-front-requires t c = omega (arith, (c.serves.ensures c.if-serves.true).live)

pub seek-returns-then-serves : goal.seek-returns-then-serves
seek-returns-then-serves t c = served (omega (arith, c.requires)) (c.serves.ensures c.if-serves.true) c.front.ensures

pub seek-returns : goal.seek-returns
seek-returns t c = c.renew.ensures
