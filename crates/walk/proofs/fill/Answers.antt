-- `walk::fill` meets its contract: the answers before are passed over, the others written. Assumes nothing.
use Rattle.walk.proofs.Walk.{filled-all}
use Rattle.walk.proofs.fill.Goals as goal

pub returns : goal.returns
returns c = record { fill_all = filled-all c.new-st.ensures c.pass_over-t.ensures c.put_all.ensures.put; within = c.put_all.ensures.within }
