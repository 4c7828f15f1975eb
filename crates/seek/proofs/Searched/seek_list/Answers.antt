-- `seek::Searched::seek_list` meets its contract. Assumes nothing.
use native.Mathlib.Omega.{arith}
use mathlib.Core.Path.{refl}
use Rattle.seek.proofs.LeafLaws.{list-none, list_at_lem, hinted-set}
use Rattle.seek.proofs.Searched.seek_list.Goals as goal

pub returns-then-hi-r : goal.returns-then-hi-r
returns-then-hi-r c = let a = c.args in list-none (omega arith) c.resume-p.ensures c.run-r.ensures (hinted-set a.st.now a.v c.hint_of.result (omega arith)) refl c.if-hi-r.true

pub returns : goal.returns
returns c = let a = c.args in list_at_lem (omega arith) c.resume-p.ensures c.run-r.ensures (hinted-set a.st.now a.v c.hint_of.result (omega arith)) refl c.if-hi-r.false
