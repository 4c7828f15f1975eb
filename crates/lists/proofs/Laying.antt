-- The table of one operator over lent lists: the stores that lay it, and that node 0 then stands for the operator's answers over the lists.
-- Assumes nothing.
use Prim.Native.Nat.{ℕ, zero, suc, ◌+◌, ◌≤◌, ◌<◌}
use mathlib.Core.Path.{◌≡◌, refl, sym, ap, ap₂, subst, ◌∙◌}
use mathlib.Core.Logic.{◌⊎◌, inl, inr}
use mathlib.Core.Bool.{cond}
use mathlib.Core.List.{List, [], ◌∷◌}
use native.Mathlib.Omega.{arith}
use lib.ListN.{length, get_or, set, drop, replicate, length-set, get_or-replicate, drop_of_length-le}
use lib.Seq.{get_or-set_same, get_or-set_other}
use lib.Dec.{eqb}
use borrow.Author.Tests.{le-leb, ne_eqb}
use Rattle.stretches.specs.declared.Stretch.{Stretch}
use Rattle.stretches.specs.Stretch.{Fine, marks, length_of}
use Rattle.stretches.specs.Operators.{operator_of, apply}
use Rattle.stretches.specs.Lent.{part, lists_from, lists_of}
use Rattle.stretches.specs.inner.Starts.{start_of}
use Rattle.stretches.specs.declared.Node.{Node}
use Rattle.stretches.specs.Table.{no_node, node_at, size_at, first_at, next_of, stop_of}
use borrow.Author.Count.{below_more}
use Rattle.stretches.specs.inner.Operands.{operands_from, operands_of}
use Rattle.stretches.proofs.Fine.{AllFine, fine-none}
use Rattle.stretches.proofs.Lent.{lists_at}
use Rattle.stretches.proofs.Table.{next-is, stop_is, from_more, from_end, list-node}
use Rattle.basics.proofs.Basics.{le-or-lt, open_at}
use Rattle.marks.specs.Row.{row}
use Rattle.seek.specs.Source.{source, lent, own_list, given, list_over, Good}
use Rattle.lists.specs.Filling.{list_answers}
use Rattle.lists.specs.inner.Table.{root_node, list_node, Laid}

-- ── The stores ──

-- the operator's node
pub laid_root : (op k n : ℕ) (ends : List ℕ) → Laid op k n ends 0 (set (replicate 32 no_node) 0 (root_node op k n))
laid_root op k n ends = record {
  wide = refl;
  root = refl;
  lists = λ j h. absurd (omega arith);
  others = λ v h l. get_or-set_other (replicate 32 no_node) 0 v (root_node op k n) no_node (λ e. omega arith) ∙ get_or-replicate 32 v no_node no_node l;
}

-- one list more
module _ (op k n : ℕ) (ends : List ℕ) (i : ℕ) (rows : List Node) (lt : i < 31) (l : Laid op k n ends i rows) (w : ℕ) (at : w ≡ 1 + i) (node : Node) (is : node ≡ list_node ends i) where
  pub laid-list : Laid op k n ends (i + 1) (set rows w node)
  laid-list = record {
    wide = length-set rows w node ∙ l.wide;
    root = get_or-set_other rows w 0 node no_node (λ e. omega arith) ∙ l.root;
    lists = below_more (λ j. node_at (set rows w node) (1 + j) ≡ list_node ends j) i
        (λ j h. get_or-set_other rows w (1 + j) node no_node (λ e. omega arith) ∙ l.lists j h)
        (ap (node_at (set rows w node)) (sym at) ∙ get_or-set_same rows w node no_node (omega (arith, l.wide)) ∙ is);
    others = λ v h g. get_or-set_other rows w v node no_node (λ e. omega arith) ∙ l.others v (omega arith) g;
  }

-- the next list starts where this one ends
pub start-next : (ends : List ℕ) (i : ℕ) → get_or ends i 0 ≡ start_of ends (i + 1)
start-next ends i = let z : suc i ≡ i + 1 = omega arith in ap (start_of ends) z

-- ── What the table stands for ──

module _ (op k : ℕ) (items ends : List ℕ) (rows : List Node) (l : Laid op k (length ends) ends (length ends) rows) (lo : 1 ≤ op) (hi : op ≤ 9) (few : length ends ≤ 31)
    (inside : (j : ℕ) → get_or ends j 0 ≤ length items) where
  -- list j stands at node 1 + j
  own-list : (j : ℕ) → j < length ends → (given (source [] items []) rows).own (1 + j) ≡ get_or (lists_of items ends) j []
  own-list j h =
      ap (λ (n : Node). own_list (source [] items []) n.kind n.first n.second) (l.lists j h)
      ∙ ap (λ b. cond b (part items (start_of ends j) (get_or ends j 0)) []) (le-leb (get_or ends j 0) (length items) (inside j)) ∙ sym (lists_at items ends j)

  own_root : (given (source [] items []) rows).own 0 ≡ []
  own_root =
      ap (λ (n : Node). own_list (source [] items []) n.kind n.first n.second) l.root
      ∙ ap (λ b. cond b (marks 0 (row [] k 0)) (cond (eqb op 17) (lent items k 0) [])) (ne_eqb op 16 (λ e. omega arith))
      ∙ ap (λ b. cond b (lent items k 0) []) (ne_eqb op 17 (λ e. omega arith))

  own-other : (v : ℕ) → length ends < v → v < 32 → (given (source [] items []) rows).own v ≡ []
  own-other v h g = ap (λ (n : Node). own_list (source [] items []) n.kind n.first n.second) (l.others v h g)

  fine-at : (ls : List (List Stretch)) → AllFine 65536 ls → (j : ℕ) → Fine 65536 (get_or ls j [])
  fine-at [] f j = fine-none 65536
  fine-at (m ∷ ls) f zero = record { rising = f.rising.0; sound = f.sound.0; below = f.below.0 }
  fine-at (m ∷ ls) f (suc j) = fine-at ls (record { rising = f.rising.1; sound = f.sound.1; below = f.below.1 }) j

  -- lists in order are good
  pub laid-good : AllFine 65536 (lists_of items ends) → Good (source [] items []) rows
  laid-good f v h = go v h (le-or-lt v (length ends))
    where
      go : (v : ℕ) → v < 32 → (v ≤ length ends) ⊎ (length ends < v) → Fine 65536 ((given (source [] items []) rows).own v)
      go zero h w = subst (Fine 65536) (sym own_root) (fine-none 65536)
      go (suc j) h (inl g) =
          let z : 1 + j ≡ suc j = omega arith in
          subst (λ (m : ℕ). Fine 65536 ((given (source [] items []) rows).own m)) z (subst (Fine 65536) (sym (own-list j (omega arith))) (fine-at (lists_of items ends) f j))
      go (suc j) h (inr g) = subst (Fine 65536) (sym (own-other (suc j) g h)) (fine-none 65536)

  root-size : size_at rows 0 ≡ length ends + 1
  root-size = ap (λ (n : Node). n.size) l.root

  stop-at : stop_of rows 0 ≡ length ends + 1
  stop-at = stop_is rows 0 (length ends + 1) root-size (omega arith) (omega arith) ∙ omega arith

  next-at : (j : ℕ) → j < length ends → next_of rows (1 + j) ≡ 1 + (j + 1)
  next-at j h = next-is rows (1 + j) 1 (ap (λ (n : Node). n.size) (l.lists j h)) (omega arith) (omega arith) ∙ omega arith

  leaf-list : (j : ℕ) → j < length ends → list_over (source [] items []) rows (1 + j) ≡ part items (start_of ends j) (get_or ends j 0)
  leaf-list j h =
      list-node (given (source [] items []) rows) rows (1 + j) (omega arith)
      ∙ ap (λ (x : ℕ). apply (operator_of length_of x (first_at rows (1 + j))) ((given (source [] items []) rows).own (1 + j)) (operands_of (given (source [] items []) rows) rows (1 + j))) (ap (λ (n : Node). n.kind) (l.lists j h))
      ∙ own-list j h ∙ lists_at items ends j

  -- the operands are the lists, from list j on
  leaves : (n j : ℕ) → j + n ≡ length ends → operands_from (given (source [] items []) rows) rows (length ends + 1) (1 + j) ≡ lists_from (start_of ends j) items (drop j ends)
  leaves zero j e =
      from_end (given (source [] items []) rows) rows (length ends + 1) (1 + j) (omega arith) ∙ sym (ap (lists_from (start_of ends j) items) (drop_of_length-le ends {i = j} (omega arith)))
  leaves (suc n) j e =
      from_more (given (source [] items []) rows) rows (length ends + 1) (1 + j) (omega arith) (omega arith)
      ∙ ap₂ (λ (a : List Stretch) (b : List (List Stretch)). a ∷ b) (leaf-list j (omega arith))
      (ap (operands_from (given (source [] items []) rows) rows (length ends + 1)) (next-at j (omega arith)) ∙ leaves n (j + 1) (omega arith) ∙ ap (λ (x : ℕ). lists_from x items (drop (j + 1) ends)) (sym (start-next ends j)))
      ∙ sym (ap (lists_from (start_of ends j) items) (open_at ends j (omega arith)))

  -- its list is the operator's answers over the lent lists
  pub laid-answers : list_over (source [] items []) rows 0 ≡ list_answers op k items ends
  laid-answers =
      let z : 0 + 1 ≡ 1 + 0 = omega arith in
      list-node (given (source [] items []) rows) rows 0 (omega arith)
      ∙ ap (λ (n : Node). apply (operator_of length_of n.kind n.first) ((given (source [] items []) rows).own 0) (operands_of (given (source [] items []) rows) rows 0)) l.root
      ∙ ap₂ (λ (x : List Stretch) (y : List (List Stretch)). apply (operator_of length_of op k) x y) own_root
      (ap₂ (operands_from (given (source [] items []) rows) rows) stop-at z ∙ leaves (length ends) 0 (omega arith))
