-- `lists::fill` meets its contract: a refusal changes nothing, and in an accepted call the machine fills the cells with the answers of the table that was laid. Assumes nothing.
use Prim.Native.Nat.{ℕ}
use mathlib.Core.Path.{subst₂}
use lib.ListN.{length}
use Rattle.std.proofs.lemmas.Result.{err_from_is_err_and}
use Rattle.lists.specs.inner.Table.{Laid}
use Rattle.lists.proofs.Fillings.{fill-refused, fill-kept, fills, fill-walked, fill-wrote}
use Rattle.lists.proofs.fill.Goals as goal

pub returns-in_err-refusal : goal.returns-in_err-refusal
returns-in_err-refusal c = let a = c.args in
    let p = err_from_is_err_and c.from_residual.result c.from_residual.ensures.1 in
    let is = c.in_err-refusal.ensures.refusal in
    record {
      value = rw (p.1, p.2) (fill-refused a.op a.k a.items.now a.ends.now a.cells.now a.from _ is);
      cells_after = fill-kept a.op a.k a.items.now a.ends.now a.cells.now a.from _ is;
    }

pub table-rows-requires : goal.table-rows-requires
table-rows-requires c = let a = c.args in (fills a.op a.k a.items.now a.ends.now a.cells.now a.from c.in_ok-refusal.ensures.refusal).few

pub returns : goal.returns
returns c = let a = c.args in
    let is = c.in_ok-refusal.ensures.refusal in
    let l = subst₂ (λ (x y : ℕ). Laid x y (length a.ends.now) a.ends.now (length a.ends.now) c.table-rows.result) c.wide.ensures.0 c.wide-2.ensures.0 c.table-rows.ensures in
    record {
      value = fill-walked a.op a.k a.items.now a.ends.now a.cells.now a.from is c.table-rows.result c.fill-w.new.cells c.fill-w.result l c.fill-w.ensures.fill_all;
      cells_after = fill-wrote a.op a.k a.items.now a.ends.now a.cells.now a.from is c.table-rows.result c.fill-w.new.cells c.fill-w.result l c.fill-w.ensures.fill_all;
    }
