-- `take` meets its contract: a refusal changes nothing, and an accepted call hands out what the run found. Assumes nothing.
use Rattle.std.proofs.Common.{sym, ◌∙◌}
use Rattle.std.proofs.lemmas.Result.{err_from_is_err_and}
use Rattle.taking.proofs.Takings.{Taking, take-refused, take-kept, cells, cells-length, take-given, take_counted}
use Rattle.taking.proofs.take.Goals as goal
use Rattle.taking.proofs.take.Goals.{After-len-n}

accepts : (c : After-len-n) → Taking c.args.op c.args.items.now c.args.ends.now c.args.counts.now c.in_ok-lists.lists c.len-n.result
accepts c = record { signal = c.in_ok-lists.ensures.refusal; lists = c.in_ok-lists.ensures.lists; number = c.len-n.ensures.number }

pub returns-in_err-lists-clause-value : goal.returns-in_err-lists-clause-value
returns-in_err-lists-clause-value c =
    let p = err_from_is_err_and c.from_residual.result c.from_residual.ensures.1 in
    rw (p.1, p.2) (take-refused c.args.op c.args.items.now c.args.ends.now c.args.counts.now c.args.number c.in_err-lists.field-0.0 c.in_err-lists.ensures.refusal)

pub returns-in_err-lists-clause-counts_after : goal.returns-in_err-lists-clause-counts_after
returns-in_err-lists-clause-counts_after c = take-kept c.args.op c.args.items.now c.args.ends.now c.args.counts.now c.args.number c.in_err-lists.field-0.0 c.in_err-lists.ensures.refusal

pub slice_bounds-run-end : goal.slice_bounds-run-end
slice_bounds-run-end c = cells (accepts (goal.at.slice_bounds-run-end c).After-len-n)

pub slice_bounds-run-end-2 : goal.slice_bounds-run-end-2
slice_bounds-run-end-2 c = sym (cells-length (accepts (goal.at.slice_bounds-run-end-2 c).After-len-n))

pub run-requires-clause-room : goal.run-requires-clause-room
run-requires-clause-room c = cells-length (accepts (goal.at.run-requires-clause-room c).After-len-n) ∙ c.len-n.ensures.number

pub returns-clause-value : goal.returns-clause-value
returns-clause-value c = take-given (accepts (goal.at.returns-clause-value c).After-len-n) c.args.number c.operator.result c.operator.ensures c.run.result c.run.new.counts c.run.ensures

pub returns-clause-counts_after : goal.returns-clause-counts_after
returns-clause-counts_after c = take_counted (accepts (goal.at.returns-clause-counts_after c).After-len-n) c.args.number c.operator.result c.operator.ensures c.run.result c.run.new.counts c.run.ensures
