-- There is room for each. Assumes nothing.
use Rattle.std.proofs.Common.{◌≡◌, ◌≤◌, length, take, ap, arith, length-take}
use Rattle.leaves.proofs.Leaves.of.Goals as goal

pub push-requires : goal.push-requires
push-requires c =
    let l = c.loop-leaf in
    let items = c.first-leaf-items.result.now in
    omega (arith, c.loop-leaf-test.true, ap length l.invariant, length-take l.leaf-index items, ap length c.first-leaf-items.ensures.result_value, length-take 64 c.args.known.now)
