-- The list of a pattern is that of the table it is read into: node by node, each operand standing where the table's walk goes. Assumes nothing.
use Prim.Native.Nat.{ℕ, suc, ◌+◌, ◌≤◌, ◌<◌}
use mathlib.Core.Path.{◌≡◌, refl, ap, ap₂, ◌∙◌}
use mathlib.Core.List.{List, ◌∷◌, map}
use native.Mathlib.Omega.{arith}
use Rattle.stretches.specs.declared.Node as row
use Rattle.stretches.specs.declared.Stretch.{Stretch}
use Rattle.stretches.specs.Stretch.{marks}
use Rattle.stretches.specs.Operators.{operator_of, apply}
use Rattle.stretches.specs.Table.{size_at, second_at, next_of, stop_of, list_at}
use Rattle.stretches.specs.inner.Operands.{operands_from, operands_of}
use Rattle.stretches.proofs.Table.{next-is, stop_is, from_more, from_end, list-node}
use Rattle.records.specs.declared.Line.{Line}
use Rattle.records.specs.Line.{says}
use Rattle.pattern.specs.Kinds.{Symbol, kind_of, first_of, second_of}
use Rattle.pattern.specs.Pattern.{Pattern, Patterns, Node, Nil, Cons, nodes, nodes_of}
use Rattle.pattern.specs.Rows.{Entry, Tree, Trees}
use Rattle.meaning.specs.Meaning.{hits, measure_in, eval, evals, over_lines, answers_in, over_table, table_in}

pub nodes-some : (p : Pattern) → 0 < nodes p
nodes-some (Node h ps) = omega arith

pub tree-size : (rows : List row.Node) (v : ℕ) (p : Pattern) → Tree rows v p → size_at rows v ≡ nodes p
tree-size rows v (Node h ps) t = t.0.size

module _ (rows : List row.Node) (ls : List Line) where
  -- a node's list, by its symbol
  node-is : (v : ℕ) (h : Symbol) (n : ℕ) → v < 32 → Entry rows v h n
      → list_at (over_table rows ls) rows v ≡ apply (operator_of (measure_in ls) (kind_of h) (first_of h)) (marks 0 (map (hits (kind_of h) (first_of h) (second_of h)) ls)) (operands_of (over_table rows ls) rows v)
  node-is v h n lv e =
      list-node (over_table rows ls) rows v lv
      ∙ ap₂ (λ (k a : ℕ). apply (operator_of (measure_in ls) k a) (marks 0 (map (hits k a (second_at rows v)) ls)) (operands_of (over_table rows ls) rows v)) e.kind e.first
      ∙ ap (λ (b : ℕ). apply (operator_of (measure_in ls) (kind_of h) (first_of h)) (marks 0 (map (hits (kind_of h) (first_of h) b) ls)) (operands_of (over_table rows ls) rows v)) e.second

  mutual
    pub tree-list : (v : ℕ) (p : Pattern) → Tree rows v p → v + nodes p ≤ 32 → list_at (over_table rows ls) rows v ≡ eval (over_lines ls) p
    tree-list v (Node h ps) t fits =
        let s : stop_of rows v ≡ v + 1 + nodes_of ps = stop_is rows v (suc (nodes_of ps)) t.0.size (omega arith) fits ∙ omega arith in
        node-is v h (suc (nodes_of ps)) (omega arith) t.0
        ∙ ap (apply (operator_of (measure_in ls) (kind_of h) (first_of h)) (marks 0 (map (hits (kind_of h) (first_of h) (second_of h)) ls))) (trees-lists (stop_of rows v) (v + 1) ps t.1 s (omega arith))

    trees-lists : (stop c : ℕ) (ps : Patterns) → Trees rows c ps → stop ≡ c + nodes_of ps → c + nodes_of ps ≤ 32 → operands_from (over_table rows ls) rows stop c ≡ evals (over_lines ls) ps
    trees-lists stop c Nil t e fits = from_end (over_table rows ls) rows stop c (omega arith)
    trees-lists stop c (Cons p ps) t e fits =
        let n : next_of rows c ≡ c + nodes p = next-is rows c (nodes p) (tree-size rows c p t.0) (nodes-some p) (omega arith) in
        from_more (over_table rows ls) rows stop c (omega (arith, nodes-some p)) (omega arith)
        ∙ ap₂ (λ (l : List Stretch) (m : List (List Stretch)). l ∷ m) (tree-list c p t.0 (omega arith))
        (ap (operands_from (over_table rows ls) rows stop) n ∙ trees-lists stop (c + nodes p) ps t.1 (omega arith) (omega arith))

-- the list of a table in a log is that of its first node over the log's lines
pub table-in : (rows : List row.Node) (log : List ℕ) → table_in rows log ≡ list_at (over_table rows (says log)) rows 0
unfolding table_in
table-in rows log = refl

-- and the pattern's
pub table-answers : (rows : List row.Node) (p : Pattern) (log : List ℕ) → Tree rows 0 p → nodes p ≤ 32 → table_in rows log ≡ answers_in p log
unfolding table_in
table-answers rows p log t few = tree-list rows (says log) 0 p t (omega arith)
