-- `nodes::stop_of` meets its contract: each return by the tests that led there. Assumes nothing.
use borrow.Author.Tests.{le-leb, lt-leb, lt-ltb, le-ltb}
use Rattle.stretches.specs.Table.{stop_of}
use borrow.Author.Rules.{rules}
use Rattle.nodes.proofs.stop_of.Goals as goal

pub returns-then-v-ge-NODES : goal.returns-then-v-ge-NODES
unfolding stop_of
returns-then-v-ge-NODES c = record { upper_bound = search rules; value = simp (le-ltb _ _ c.if-v-ge-NODES.true) }

pub returns-then-n-v : goal.returns-then-n-v
unfolding stop_of
returns-then-n-v c = record { upper_bound = search rules; value = simp (lt-ltb _ _ c.if-v-ge-NODES.false, le-leb _ _ c.if-n-v.true) }

pub returns-else-n-v : goal.returns-else-n-v
unfolding stop_of
returns-else-n-v c = record { upper_bound = search rules; value = simp (lt-ltb _ _ c.if-v-ge-NODES.false, lt-leb _ _ c.if-n-v.false) }
