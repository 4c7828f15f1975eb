-- `finder_c::finder_count` meets its contract: the numbers fit their bits, and are what `marking::count` ensures. Assumes nothing.
use Prim.Native.Nat.{◌≤◌}
use native.Mathlib.Omega.{arith}
use Rattle.finder_c.proofs.Logs.{count_small, count_long, count-packed}
use Rattle.finder_c.proofs.finder_count.Goals as goal
use Rattle.finder_c.proofs.finder_count.Goals.{After-count-c}

small : (c : After-count-c) → (c.count-c.result.damaged ≤ 61440) × (c.count-c.result.lines ≤ 61440)
small c = count_small c.args.log.now c.count-c.result c.count-c.ensures c.if-log-gt-LOG_MAX.false

pub returns-then-log-gt-LOG_MAX : goal.returns-then-log-gt-LOG_MAX
returns-then-log-gt-LOG_MAX c = count_long c.args.log.now c.if-log-gt-LOG_MAX.true

pub overflow_mul-result : goal.overflow_mul-result
overflow_mul-result c = omega (arith, small (goal.at.overflow_mul-result c).After-count-c)

pub overflow_mul-result-2 : goal.overflow_mul-result-2
overflow_mul-result-2 c = omega (arith, small (goal.at.overflow_mul-result-2 c).After-count-c)

pub overflow_add-result : goal.overflow_add-result
overflow_add-result c = omega (arith, small (goal.at.overflow_add-result c).After-count-c)

pub returns : goal.returns
returns c = count-packed c.args.log.now c.count-c.result c.count-c.ensures c.if-log-gt-LOG_MAX.false
