-- `print::put_field` meets its contract.
-- Assumes nothing.
use Prim.Native.Nat.{ℕ}
use mathlib.Core.Path.{ap, ap₂, ◌∙◌}
use mathlib.Core.List.{List, [], ◌∷◌}
use native.Mathlib.Omega.{arith}
use lib.ListN.{length, set}
use lib.Seq.{length-sets}
use Rattle.basics.specs.Decimal.{decimal}
use Rattle.print.specs.Print.{field}
use Rattle.print.proofs.Printed.{length-field}
use Rattle.print.proofs.Placing.{sets-append}
use Rattle.print.proofs.put_field.Goals as goal

pub put_number-end-requires : goal.put_number-end-requires
put_number-end-requires c = omega (arith, length-field c.args.n c.args.mark)

pub bounds-out-end : goal.bounds-out-end
bounds-out-end c = omega (arith, length-field c.args.n c.args.mark, ap length c.put_number-end.ensures.1 ∙ length-sets c.args.out.now c.args.at (decimal c.args.n))

pub overflow_add-result : goal.overflow_add-result
overflow_add-result c = record { fits = omega (arith, length-field c.args.n c.args.mark, ap length c.put_number-end.ensures.1 ∙ length-sets c.args.out.now c.args.at (decimal c.args.n)) }

pub returns : goal.returns
unfolding field
returns c = let a = c.args in
    let p = c.put_number-end in (
      omega (arith, length-field a.n a.mark),
      ap₂ (λ (l : List ℕ) (k : ℕ). set l k a.mark) p.ensures.1 p.ensures.0 ∙ sets-append (decimal a.n) (a.mark ∷ []) a.out.now a.at,
    )
