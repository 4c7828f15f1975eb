-- Every stretch with the lines that made it: docs/FORMATS.md, "The lines that made a stretch". Assumes nothing.
use Rattle.std.specs.Prelude.{ℕ, suc, ◌+◌, ◌≤◌, ◌<◌, ◌≡◌, refl, Bool, true, not, cond, List, [], ◌∷◌, ◌++◌, map, get_or, eqb}
use Rattle.std.proofs.Math.Option.{Option, none, some}
use Rattle.stretches.specs.declared.Stretch.{Stretch}
use Rattle.stretches.specs.Stretch.{st, In, length_of, Holder, Inner, Op}
use Rattle.stretches.specs.Front.{Front, None, Some}
use Rattle.stretches.specs.Table.{leaf_kind, proof_kind}
use Rattle.stretches.specs.Shown.{nothing, proves, shown_below, spanning, Proved, span_of}
use Rattle.records.specs.declared.Line.{Line}
use Rattle.pattern.specs.Kinds.{Ev, Or, And, Less, Inside, kind_of, first_of}
use Rattle.pattern.specs.Pattern.{Pattern, Patterns, Node, Nil, Cons, nodes, parts}
use Rattle.meaning.specs.Meaning.{Valuation, operator, eval, evals, over_lines, answers_of}

-- a node that took part, and its stretch
pub record Shown : Type 0 where
  pub node : ℕ
  pub stretch : Stretch

abbrev pub shows : ℕ → Stretch → Shown
shows v x = record { node = v; stretch = x }

-- what a node shows of its operands; a leaf has none
abbrev pub below : Option Op → List (List Stretch) → Stretch → List Front
below none ls x = nothing ls
below (some o) ls x = shown_below o ls x

-- of a stretch what is shown of it; of none nothing
abbrev pub of_front : Front → (Stretch → List Shown) → List Shown
of_front None f = []
of_front (Some y) f = f y

-- nodes are numbered as the pattern is read: a node before its operands, and these in their order
abbrev mutual
  -- what the pattern shows of its answer x, its first node being number v: this node and the answer, then each operand's part as the operand shows it
  pub shown_from : Valuation → ℕ → Pattern → Stretch → List Shown
  shown_from w v (Node h ps) x = shows v x ∷ shown_all w (suc v) ps (below (operator w.measure h) (evals w ps) x)

  pub shown_all : Valuation → ℕ → Patterns → List Front → List Shown
  shown_all w c Nil fs = []
  shown_all w c (Cons p ps) [] = []
  shown_all w c (Cons p ps) (f ∷ fs) = of_front f (λ y. shown_from w c p y) ++ shown_all w (c + nodes p) ps fs

-- the nodes that took part in an answer of a pattern in these lines, in node order, each with its stretch
abbrev pub shown : Pattern → List Line → Stretch → List Shown
shown p ls x = shown_from (over_lines ls) 0 p x

-- ── What is proved of it: `shown-explains` of proofs/Shown.antt ──

-- the kind of a pattern's first node
abbrev pub root_kind : Pattern → ℕ
root_kind (Node h ps) = kind_of h

-- the sub-pattern of node v
abbrev pub part_at : Pattern → ℕ → Pattern
part_at p v = get_or (parts p) v p

-- the numbers of operands, the first being c; and those of the operands of a pattern whose first node is number v
abbrev pub numbers_from : ℕ → Patterns → List ℕ
numbers_from c Nil = []
numbers_from c (Cons p ps) = c ∷ numbers_from (c + nodes p) ps

abbrev pub numbers_below : ℕ → Pattern → List ℕ
numbers_below v (Node h ps) = numbers_from (suc v) ps

-- and of those whose stretches make its span: of `in` and `has` the first alone, of every other operator all
abbrev pub numbers_spanning : ℕ → Pattern → List ℕ
numbers_spanning v p = spanning (proof_kind (root_kind p)) (numbers_below v p)

-- what proves an answer x, by the kind, given what is shown of each operand: of `in` the second holds x, of `has` it lies inside x
abbrev pub ProofShown : ℕ → Stretch → List Front → Type 0
ProofShown k x fs = (k ≡ 7 → Proved (proves Holder x) (get_or fs 1 None)) × (k ≡ 9 → Proved (proves Inner x) (get_or fs 1 None))

-- it is an operator
abbrev pub is_operator : Pattern → Bool
is_operator p = not (leaf_kind (root_kind p))

-- the stretch that is shown of node v; none where it took no part
abbrev pub stretch_at : List Shown → ℕ → Front
stretch_at [] v = None
stretch_at (z ∷ zs) v = cond (eqb z.node v) (Some z.stretch) (stretch_at zs v)

-- in node order from v on, each node at most once
abbrev pub NodesFrom : ℕ → List Shown → Type 0
NodesFrom v [] = Unit {0}
NodesFrom v (z ∷ zs) = (v ≤ z.node) × NodesFrom (suc z.node) zs

-- the list explains why x is an answer of the pattern
pub record Explains (p : Pattern) (ls : List Line) (x : Stretch) (l : List Shown) : Type 0 where
  -- it has the answer itself for node 0
  pub whole : stretch_at l 0 ≡ Some x
  -- it is in node order, and each node comes at most once
  pub rising : NodesFrom 0 l
  -- each stretch is an answer of its own sub-pattern
  pub answers : (v : ℕ) (y : Stretch) → stretch_at l v ≡ Some y → (v < nodes p) × In y.start y.end (answers_of (part_at p v) ls)
  -- an operator's stretch is exactly the span of those shown directly below it, but for what `in` and `has` show of B
  pub spans : (v : ℕ) (y : Stretch) → stretch_at l v ≡ Some y → is_operator (part_at p v) ≡ true → span_of (map (stretch_at l) (numbers_spanning v (part_at p v))) ≡ Some y
  -- that one proves the answer
  pub proofs : (v : ℕ) (y : Stretch) → stretch_at l v ≡ Some y → ProofShown (root_kind (part_at p v)) y (map (stretch_at l) (numbers_below v (part_at p v)))

-- ── An example ──

-- less,and,2,or,3,ev,7,0,ev,9,0,ev,9,0,ev,8,0,ev,6,0
abbrev sample : Pattern
sample = Node Less (Cons (Node (And 2) (Cons (Node (Or 3) (Cons (Node (Ev 7 0) Nil) (Cons (Node (Ev 9 0) Nil) (Cons (Node (Ev 9 0) Nil) Nil)))) (Cons (Node (Ev 8 0) Nil) Nil))) (Cons (Node (Ev 6 0) Nil) Nil))

-- each code on the line of its number
abbrev leaves : Valuation
leaves = record { leaf = λ h. st (first_of h) (first_of h) ∷ []; measure = length_of }

ex-answers : eval leaves sample ≡ st 7 8 ∷ st 8 9 ∷ []
ex-answers = refl

-- of line 9 the second operand of `or` is shown, nothing of the third, and nothing of B
ex-shown : shown_from leaves 0 sample (st 8 9) ≡ shows 0 (st 8 9) ∷ shows 1 (st 8 9) ∷ shows 2 (st 9 9) ∷ shows 4 (st 9 9) ∷ shows 6 (st 8 8) ∷ []
ex-shown = refl

ex-numbers : numbers_below 0 sample ≡ 1 ∷ 7 ∷ []
ex-numbers = refl

-- in,ev,7,0,and,2,ev,6,0,ev,9,0: what is shown of B comes with what B shows of it, and is not in the span
abbrev enclosed : Pattern
enclosed = Node Inside (Cons (Node (Ev 7 0) Nil) (Cons (Node (And 2) (Cons (Node (Ev 6 0) Nil) (Cons (Node (Ev 9 0) Nil) Nil))) Nil))

ex-enclosed : (shown_from leaves 0 enclosed (st 7 7) ≡ shows 0 (st 7 7) ∷ shows 1 (st 7 7) ∷ shows 2 (st 6 9) ∷ shows 3 (st 6 6) ∷ shows 4 (st 9 9) ∷ []) × (numbers_spanning 0 enclosed ≡ 1 ∷ [])
ex-enclosed = (refl, refl)
