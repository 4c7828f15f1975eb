-- `taken` meets its contract: number m of a list stands from its place 2m on. Assumes nothing.
use Rattle.std.proofs.Common.{◌≡◌, ◌-◌, arith, ap₂, ◌∙◌}
use Rattle.stretches.specs.Stretch.{st}
use Rattle.stretches.specs.Front.{Some, nth}
use Rattle.lent.proofs.Cutting.{nth-past, nth-here}
use Rattle.lent.proofs.Lists.taken.Goals as goal

pub returns-in_err-get : goal.returns-in_err-get
returns-in_err-get c =
    let m : c.wide-at.result ≡ c.args.count - 1 = omega arith in
    c.from_residual.ensures ∙ nth-past c.list-list.result.now c.wide-at.result (omega (arith, c.in_err-get.ensures.lookup)) ∙ ap₂ nth c.list-list.ensures m

pub returns-in_err-get-2 : goal.returns-in_err-get-2
returns-in_err-get-2 c =
    let m : c.wide-at.result ≡ c.args.count - 1 = omega arith in
    c.from_residual-in_err-get-2.ensures ∙ nth-past c.list-list.result.now c.wide-at.result (omega (arith, c.in_err-get-2.ensures.lookup)) ∙ ap₂ nth c.list-list.ensures m

pub returns : goal.returns
returns c =
    let m : c.wide-at.result ≡ c.args.count - 1 = omega arith in
    ap₂ (λ s e. Some (st s e)) (c.in_ok-get.ensures.lookup.3.1 0) (c.in_ok-get-2.ensures.lookup.3.1 0)
    ∙ nth-here c.list-list.result.now c.wide-at.result c.in_ok-get-2.ensures.lookup.3.0 ∙ ap₂ nth c.list-list.ensures m
