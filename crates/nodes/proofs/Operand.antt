-- An operand that the iterator gives, and the end. Assumes nothing.
use mathlib.Core.Path.{◌≡◌, ap, ◌∙◌}
use mathlib.Core.List.{List}
use Prim.Native.Nat.{ℕ, ◌+◌, ◌≤◌, ◌<◌}
use native.Mathlib.Omega.{arith}
use Rattle.std.proofs.Common.{Option, None, Some}
use Rattle.stretches.specs.declared.Node.{Node}
use Rattle.stretches.specs.Table.{next_of, stop_of}
use Rattle.nodes.specs.declared.Operands.{Operands}
use Rattle.nodes.specs.Among.{Among, Gives}

-- c is an operand of v, and the iterator goes on behind it
pub record Operand (rows : List Node) (v c n : ℕ) (t : Operands) : Type 0 where
  pub here : c ≡ n
  pub inside : c < stop_of rows v
  pub past : v < c
  pub next : t.at ≡ next_of rows c
  pub among : Among rows v t

pub given : {rows : List Node} {v : ℕ} {s : Operands} {c : ℕ} {t : Operands} → Among rows v s → Gives s (Some c) t → Operand rows v c s.at t
given {c = c} a g = record {
  here = g.item.here;
  inside = omega (arith, a.stop, g.item.inside);
  past = omega (arith, a.past, g.item.here);
  next = g.item.next ∙ ap (λ (r : List Node). next_of r c) a.table;
  among = record { table = g.table ∙ a.table; stop = g.stop ∙ a.stop; past = omega (arith, a.past, g.item.here, g.item.on) };
}

pub all_given : {rows : List Node} {v : ℕ} {s t : Operands} → Among rows v s → Gives s None t → stop_of rows v ≤ s.at
all_given a g = omega (arith, a.stop, g.item)

-- behind the first operand, where there is one
pub first_given : {rows : List Node} {v : ℕ} {s t : Operands} (r : Option ℕ) → Among rows v s → s.at ≡ v + 1 → v + 1 < stop_of rows v → Gives s r t → Among rows v t × (t.at ≡ next_of rows (v + 1))
first_given None a e h g = absurd (omega (arith, all_given a g))
first_given {rows} (Some c) a e h g = let o = given a g in (o.among, o.next ∙ ap (next_of rows) (o.here ∙ e))
