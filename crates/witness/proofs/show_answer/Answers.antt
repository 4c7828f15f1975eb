-- `witness::show_answer` meets its contract. Assumes nothing.
use borrow.Author.Rules.{rules}
use mathlib.Core.Path.{subst, sym}
use Rattle.seek.specs.declared.state.State.{State}
use Rattle.seek.specs.Source.{source_of}
use Rattle.seek.specs.First.{Ready}
use Rattle.seek.proofs.Keeping.{ready-none}
use Rattle.witness.proofs.Answering.{answer-none, answer-some}
use Rattle.witness.proofs.show_answer.Goals as goal

pub returns-then-w-eq0 : goal.returns-then-w-eq0
returns-then-w-eq0 c = let a = c.args in let s = a.searched.now in
    answer-none (source_of s) s.rows.now a.rows.now c.requires a.number _ _ c.fill-w.ensures.fill_all a.cells.now c.if-w-eq0.true

pub show_node-requires : goal.show_node-requires
show_node-requires c = let s = c.args.searched.now in
    (c.requires, subst (λ (x : State). Ready (source_of s) s.rows.now x) (sym c.new-st.ensures) (ready-none (source_of s) s.rows.now), search rules)

pub returns : goal.returns
returns c = let a = c.args in let s = a.searched.now in
    answer-some (source_of s) s.rows.now a.rows.now c.requires a.number _ _ c.fill-w.ensures.fill_all c.if-w-eq0.false c.show_node.ensures.shown_at
