-- What an iterator over a node's operands gives, and how far it has come. Assumes nothing.
use Rattle.std.specs.Prelude.{ℕ, ◌<◌, ◌≤◌, ◌≡◌, Option, MatchOption, List}
use Rattle.stretches.specs.declared.Node.{Node}
use Rattle.stretches.specs.Table.{next_of, stop_of}
use Rattle.nodes.specs.declared.Operands.{Operands}

-- it goes over the operands of node v
pub record Among (rows : List Node) (v : ℕ) (s : Operands) : Type 0 where
  pub table : s.rows.now ≡ rows
  pub stop : s.stop ≡ stop_of rows v
  pub past : v < s.at

-- the operand c, and on behind its subtree
pub record Given (s : Operands) (c : ℕ) (t : Operands) : Type 0 where
  pub here : c ≡ s.at
  pub inside : c < s.stop
  pub on : c < t.at
  pub next : t.at ≡ next_of s.rows.now c

-- a call from s gave r and left t; none once all were given
pub record Gives (s : Operands) (r : Option ℕ) (t : Operands) : Type 0 where
  pub table : t.rows.now ≡ s.rows.now
  pub stop : t.stop ≡ s.stop
  pub item : MatchOption r (s.stop ≤ s.at) (λ c. Given s c t)
