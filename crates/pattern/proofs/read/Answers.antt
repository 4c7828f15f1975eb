-- `read`: each return's answer says what holds of the text, and so is the reading of it.
-- Assumes nothing.
use Rattle.std.proofs.lemmas.Result.{err_from_is_err_and}
use Rattle.pattern.proofs.Answering.{told-stop, told-whole, encodes, says-crowded, says-deep, says-accepted}
use Rattle.pattern.proofs.Outcomes.{says-reading}
use Rattle.pattern.proofs.read.Goals as goal

pub returns-then-text-gt-PATTERN_MAX : goal.returns-then-text-gt-PATTERN_MAX
returns-then-text-gt-PATTERN_MAX c = says-reading _ _ (record { long = c.if-text-gt-PATTERN_MAX.true })

pub returns-in_err-table : goal.returns-in_err-table
returns-in_err-table c =
    let p = err_from_is_err_and c.from_residual.result c.from_residual.ensures.1 in
    rw (p.1, p.2) (says-reading _ _ (told-stop _ _ c.if-text-gt-PATTERN_MAX.false c.in_err-table.ensures))

pub returns-then-table-gt-NODES : goal.returns-then-table-gt-NODES
returns-then-table-gt-NODES c = says-reading _ _ (says-crowded _ _ c.if-text-gt-PATTERN_MAX.false (told-whole _ _ c.in_ok-table.ensures) c.if-table-gt-NODES.true)

pub measure-requires : goal.measure-requires
measure-requires c = encodes _ _ (told-whole c.args.text.now _ c.in_ok-table.ensures) c.if-table-gt-NODES.false

pub returns-then-measure-gt-DEPTH_MAX : goal.returns-then-measure-gt-DEPTH_MAX
returns-then-measure-gt-DEPTH_MAX c =
    let m = told-whole c.args.text.now _ c.in_ok-table.ensures in
    let few = c.if-table-gt-NODES.false in
    says-reading _ _ (says-deep _ _ _ _ c.if-text-gt-PATTERN_MAX.false m few (c.measure.ensures (encodes _ _ m few)) c.if-measure-gt-DEPTH_MAX.true)

pub returns : goal.returns
returns c =
    let m = told-whole c.args.text.now _ c.in_ok-table.ensures in
    let few = c.if-table-gt-NODES.false in
    says-reading _ _ (says-accepted _ _ _ _ c.if-text-gt-PATTERN_MAX.false m few (c.measure.ensures (encodes _ _ m few)) c.if-measure-gt-DEPTH_MAX.false)
