-- `nodes::next_of` meets its contract: each return by the tests that led there. Assumes nothing.
use native.Mathlib.Omega.{arith}
use borrow.Author.Tests.{ne_eqb, eq-eqb, le-leb, lt-leb, lt-ltb, le-ltb}
use Rattle.stretches.specs.Table.{next_of}
use Rattle.nodes.proofs.next_of.Goals as goal

pub returns-then-c-ge-NODES : goal.returns-then-c-ge-NODES
unfolding next_of
returns-then-c-ge-NODES c = record { lower_bound = (λ h. h, omega arith); value = simp (le-ltb _ _ c.if-c-ge-NODES.true) }

pub returns-then-n-eq0 : goal.returns-then-n-eq0
unfolding next_of
returns-then-n-eq0 c = record { lower_bound = (λ h. omega arith, omega arith); value = simp (lt-ltb _ _ c.if-c-ge-NODES.false, eq-eqb _ _ c.if-n-eq0.true) }

pub returns-then-n-c : goal.returns-then-n-c
unfolding next_of
returns-then-n-c c = record { lower_bound = (λ h. omega arith, omega arith); value = simp (lt-ltb _ _ c.if-c-ge-NODES.false, ne_eqb _ _ c.if-n-eq0.false, le-leb _ _ c.if-n-c.true) }

pub returns-else-n-c : goal.returns-else-n-c
unfolding next_of
returns-else-n-c c = record { lower_bound = (λ h. h, omega arith); value = simp (lt-ltb _ _ c.if-c-ge-NODES.false, ne_eqb _ _ c.if-n-eq0.false, lt-leb _ _ c.if-n-c.false) }
