-- `print::put_number` meets its contract. Assumes nothing.
use Rattle.std.proofs.Common.{rules, ap, arith, ◌∙◌, ◌≡◌, ◌+◌, length}
use Rattle.basics.specs.Decimal.{decimal}
use Rattle.basics.proofs.Basics.{put_sets}
use Rattle.print.proofs.Decimals.{decimal_printed}
use Rattle.print.proofs.put_number.Goals as goal

pub slice_bounds-copy_from_slice-end : goal.slice_bounds-copy_from_slice-end
slice_bounds-copy_from_slice-end c =
    let e : c.as_bytes-number.result.now ≡ decimal c.args.n = c.as_bytes-number.ensures.value ∙ c.format.ensures.text ∙ decimal_printed c.args.n c.ranges.n.fits in
    search rules

pub returns : goal.returns
returns c =
    let e : c.as_bytes-number.result.now ≡ decimal c.args.n = c.as_bytes-number.ensures.value ∙ c.format.ensures.text ∙ decimal_printed c.args.n c.ranges.n.fits in
    let f : c.copy_from_slice.new.self ≡ decimal c.args.n = search rules in
    (ap (λ l. c.args.at + length l) e, rw f (put_sets c.args.out.now (decimal c.args.n) c.args.at _ (omega (arith, ap length e)) (search rules)))
