-- `witness::operand` meets its contract: each return is one law. Assumes nothing.
use mathlib.Core.Path.{refl}
use Rattle.seek.specs.Source.{source_of}
use Rattle.witness.proofs.Showing.{to-none, to-kept, to-lost, from-none, from-kept, from-lost}
use Rattle.witness.proofs.operand.Goals as goal

pub returns-in_default-clause-value : goal.returns-in_default-clause-value
returns-in_default-clause-value c = let p = c.requires in let a = c.args in let s = a.searched.now in ((to-none (source_of s) s.rows.now a.st.now _ a.enclosing a.c a.t a.f p.0 p.1 p.2 c.if-enclosing.true c.in_default.ensures refl).0)

pub returns-then-g-f-clause-value : goal.returns-then-g-f-clause-value
returns-then-g-f-clause-value c = let p = c.requires in let a = c.args in let s = a.searched.now in ((to-kept (source_of s) s.rows.now a.st.now _ a.enclosing a.c a.t a.f p.0 p.1 p.2 c.if-enclosing.true c.in-Some.ensures refl c.if-g-f.true).0)

pub returns-else-g-f-clause-value : goal.returns-else-g-f-clause-value
returns-else-g-f-clause-value c = let p = c.requires in let a = c.args in let s = a.searched.now in ((to-lost (source_of s) s.rows.now a.st.now _ a.enclosing a.c a.t a.f p.0 p.1 p.2 c.if-enclosing.true c.in-Some.ensures refl c.if-g-f.false).0)

pub returns-in_default-first-clause-value : goal.returns-in_default-first-clause-value
returns-in_default-first-clause-value c = let p = c.requires in let a = c.args in let s = a.searched.now in ((from-none (source_of s) s.rows.now a.st.now _ a.enclosing a.c a.t a.f p.0 p.1 p.2 c.if-enclosing.false c.in_default-first.ensures.first_of refl).0)

pub returns-then-g-f-2-clause-value : goal.returns-then-g-f-2-clause-value
returns-then-g-f-2-clause-value c = let p = c.requires in let a = c.args in let s = a.searched.now in ((from-kept (source_of s) s.rows.now a.st.now _ a.enclosing a.c a.t a.f p.0 p.1 p.2 c.if-enclosing.false c.in-Some-first.ensures.first_of refl c.if-g-f-2.true).0)

pub returns-else-g-f-2-clause-value : goal.returns-else-g-f-2-clause-value
returns-else-g-f-2-clause-value c = let p = c.requires in let a = c.args in let s = a.searched.now in ((from-lost (source_of s) s.rows.now a.st.now _ a.enclosing a.c a.t a.f p.0 p.1 p.2 c.if-enclosing.false c.in-Some-first.ensures.first_of refl c.if-g-f-2.false).0)
