-- `acceptance::read_both` meets its contract. Assumes nothing.
use Rattle.std.proofs.lemmas.Result.{err_from_is_err_and}
use Rattle.acceptance.proofs.Reading.{read-long, read-refused, read-accepted}
use Rattle.acceptance.proofs.read_both.Goals as goal

pub returns-then-log-gt-LOG_MAX-clause-signal : goal.returns-then-log-gt-LOG_MAX-clause-signal
returns-then-log-gt-LOG_MAX-clause-signal c = (read-long c.args.text.now c.args.log.now c.if-log-gt-LOG_MAX.true).0

pub returns-in_err-table-clause-signal : goal.returns-in_err-table-clause-signal
returns-in_err-table-clause-signal c =
    let p = err_from_is_err_and c.from_residual.result c.from_residual.ensures.1 in
    rw (p.1, p.2) (read-refused c.args.text.now c.args.log.now _ c.if-log-gt-LOG_MAX.false c.in_err-table.ensures)

pub returns-clause-signal : goal.returns-clause-signal
returns-clause-signal c = read-accepted c.args.text.now c.args.log.now _ c.if-log-gt-LOG_MAX.false c.in_ok-table.ensures
