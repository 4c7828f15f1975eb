-- What a pattern shows of an answer explains it. Each operand's part has the numbers from its own to below the next operand's, so whoever agrees with the
-- whole list agrees with every part, and the law goes from a node to its operands. Assumes nothing.
use Prim.Native.Nat.{ℕ, zero, suc, ◌+◌, ◌-◌, ◌≤◌, ◌<◌}
use mathlib.Core.Path.{◌≡◌, refl, sym, ap, ap₂, subst, ◌∙◌}
use mathlib.Core.Logic.{◌⊎◌, inl, inr}
use mathlib.Core.Bool.{Bool, true, false, not, cond}
use mathlib.Core.List.{List, [], ◌∷◌, ◌++◌, map}
use mathlib.Core.Option.{Option, none, some}
use lib.ListN.{length, get_or, get_or-append}
use lib.Seq.{get_or-append-add}
use lib.Dec.{eqb}
use borrow.Author.Tests.{eq-eqb, ne_eqb, not-true}
use native.Mathlib.Omega.{arith}
use Rattle.basics.proofs.Basics.{cases, le-or-lt, take-map}
use Rattle.stretches.specs.declared.Stretch.{Stretch}
use Rattle.stretches.specs.Stretch.{In, Fine, Op, answers}
use Rattle.stretches.specs.Stretch as op
use Rattle.stretches.specs.Front.{Front, None, Some}
use Rattle.stretches.specs.Operators.{operator_of, apply}
use Rattle.stretches.specs.Table.{leaf_kind, chain_kind, proof_kind}
use Rattle.stretches.specs.Shown.{nothing, proves, shown_below, proven, spanning, Proved, span_of}
use Rattle.stretches.specs.inner.Below.{each_kind, by_end_kind, alone, chained, by_end}
use Rattle.stretches.proofs.Fine.{AllFine}
use Rattle.stretches.proofs.Shown.{EachIn, each-nothing, below_in, below_span, in-proved, has-proved}
use Rattle.records.specs.declared.Line.{Line}
use Rattle.pattern.specs.Kinds.{Symbol, Ev, Fr, Or, And, Row, Then, Less, Max, Inside, Outside, Holding, kind_of, first_of}
use Rattle.pattern.specs.Pattern.{Pattern, Patterns, Node, Nil, Cons, nodes, nodes_of, parts, parts_of}
use Rattle.pattern.proofs.Forests.{length-parts}
use Rattle.meaning.specs.Meaning.{Valuation, operator, eval, evals, over_lines, answers_of}
use Rattle.meaning.specs.Shown.{Shown, shows, below, shown_from, shown_all, shown, numbers_from, numbers_below, numbers_spanning, root_kind, ProofShown, is_operator, stretch_at, NodesFrom, Explains}
use Rattle.meaning.proofs.Tree.{fine-evals, fine-leaf}
use Rattle.meaning.proofs.Table.{nodes-some}

-- ── Lists of shown nodes, and the stretch that they show of a node ──

-- in node order, from v on and below b
abbrev Within : ℕ → ℕ → List Shown → Type 0
Within v b [] = v ≤ b
Within v b (z ∷ l) = (v ≤ z.node) × Within (suc z.node) b l

within-order : (v b : ℕ) (l : List Shown) → Within v b l → v ≤ b
within-order v b [] w = w
within-order v b (z ∷ l) w = omega (arith, within-order (suc z.node) b l w.1)

within-rising : (v b : ℕ) (l : List Shown) → Within v b l → NodesFrom v l
within-rising v b [] w = tt
within-rising v b (z ∷ l) w = (w.0, within-rising (suc z.node) b l w.1)

within-lower : (v m b : ℕ) (l : List Shown) → v ≤ m → Within m b l → Within v b l
within-lower v m b [] h w = omega arith
within-lower v m b (z ∷ l) h w = (omega arith, w.1)

within-append : (v m b : ℕ) (l k : List Shown) → Within v m l → Within m b k → Within v b (l ++ k)
within-append v m b [] k w x = within-lower v m b k w x
within-append v m b (z ∷ l) k w x = (w.0, within-append (suc z.node) m b l k w.1 x)

within-few : (v b : ℕ) (l : List Shown) → Within v b l → v + length l ≤ b
within-few v b [] w = omega arith
within-few v b (z ∷ l) w = omega (arith, w.0, within-few (suc z.node) b l w.1)

-- the first one's own stretch
at_first : (v u : ℕ) (x : Stretch) (l : List Shown) → u ≡ v → stretch_at (shows v x ∷ l) u ≡ Some x
at_first v u x l e = ap (λ (b : Bool). cond b (Some x) (stretch_at l u)) (eq-eqb v u (sym e))

-- nothing is shown of a node before or behind them
at-outside : (v b u : ℕ) (l : List Shown) → Within v b l → (u < v) ⊎ (b ≤ u) → stretch_at l u ≡ None
at-outside v b u [] w o = refl
at-outside v b u (z ∷ l) w o = ap (λ (t : Bool). cond t (Some z.stretch) (stretch_at l u)) (ne_eqb z.node u (other o)) ∙ at-outside (suc z.node) b u l w.1 (later o)
  where
    other : (u < v) ⊎ (b ≤ u) → z.node ≡ u → ⊥
    other (inl h) e = omega (arith, w.0)
    other (inr h) e = omega (arith, within-order (suc z.node) b l w.1)

    later : (u < v) ⊎ (b ≤ u) → (u < suc z.node) ⊎ (b ≤ u)
    later (inl h) = inl (omega (arith, w.0))
    later (inr h) = inr h

-- of two lists in succession, where one shows nothing the other counts
at_left : (l k : List Shown) (u : ℕ) → stretch_at k u ≡ None → stretch_at (l ++ k) u ≡ stretch_at l u
at_left [] k u e = e
at_left (z ∷ l) k u e = ap (cond (eqb z.node u) (Some z.stretch)) (at_left l k u e)

at_right : (l k : List Shown) (u : ℕ) → stretch_at l u ≡ None → stretch_at (l ++ k) u ≡ stretch_at k u
at_right [] k u e = refl
at_right (z ∷ l) k u e =
    cases (eqb z.node u) (λ b. cond b (Some z.stretch) (stretch_at l u) ≡ None → cond b (Some z.stretch) (stretch_at (l ++ k) u) ≡ stretch_at k u)
    (λ t h. let y : ◌≡◌ {A = ℕ} 0 1 = cc in absurd (omega arith)) (λ t h. at_right l k u h) e

-- f gives what the list shows of the nodes from v on and below b
abbrev Agrees : (ℕ → Front) → ℕ → ℕ → List Shown → Type 0
Agrees f v b l = (u : ℕ) → v ≤ u → u < b → f u ≡ stretch_at l u

agrees-left : (f : ℕ → Front) (v m b : ℕ) (l k : List Shown) → Within m b k → Agrees f v b (l ++ k) → Agrees f v m l
agrees-left f v m b l k w a u h i = a u h (omega (arith, within-order m b k w)) ∙ at_left l k u (at-outside m b u k w (inl i))

agrees-right : (f : ℕ → Front) (v m b : ℕ) (l k : List Shown) → Within v m l → Agrees f v b (l ++ k) → Agrees f m b k
agrees-right f v m b l k w a u h i = a u (omega (arith, within-order v m l w)) i ∙ at_right l k u (at-outside v m u l w (inr h))

agrees-rest : (f : ℕ → Front) (v b : ℕ) (x : Stretch) (l : List Shown) → Agrees f v b (shows v x ∷ l) → Agrees f (suc v) b l
agrees-rest f v b x l a = agrees-right f v (suc v) b (shows v x ∷ []) l (omega arith, omega arith) a

-- ── Sub-patterns ──

-- a sub-pattern of operands is the first's or one of the others'
part-split : (P : Pattern → Type 0) (p : Pattern) (ps : Patterns) (u : ℕ) (d : Pattern)
    → (u < nodes p → P (get_or (parts p) u d)) → ((k : ℕ) → u ≡ nodes p + k → P (get_or (parts_of ps) k d)) → P (get_or (parts_of (Cons p ps)) u d)
part-split P p ps u d f g = go (le-or-lt (nodes p) u)
  where
    go : (nodes p ≤ u) ⊎ (u < nodes p) → P (get_or (parts_of (Cons p ps)) u d)
    go (inl h) =
        let k = u - nodes p in
        let e : u ≡ length (parts p) + k = omega (arith, length-parts p) in
        subst P (sym (ap (λ (n : ℕ). get_or (parts p ++ parts_of ps) n d) e ∙ get_or-append-add (parts p) (parts_of ps) k d)) (g k (omega arith))
    go (inr h) = subst P (sym (get_or-append (parts p) (parts_of ps) d u (omega (arith, length-parts p)))) (f h)

-- ── What a node shows of its operands ──

-- a symbol that is no leaf has an operator, which shows its operands as its number says
pub record ByKind (m : Stretch → ℕ) (h : Symbol) : Type 0 where
  pub op : Op
  pub is : operator m h ≡ some op
  pub one : alone op ≡ not (each_kind (kind_of h))
  pub chain : chained op ≡ chain_kind (kind_of h)
  pub by_end : by_end op ≡ by_end_kind (kind_of h)
  pub proven : proven op ≡ proof_kind (kind_of h)

pub by_kind : (m : Stretch → ℕ) (h : Symbol) → leaf_kind (kind_of h) ≡ false → ByKind m h
by_kind m (Ev c l) e = let z : ◌≡◌ {A = ℕ} 0 1 = cc in absurd (omega arith)
by_kind m (Fr c l) e = let z : ◌≡◌ {A = ℕ} 0 1 = cc in absurd (omega arith)
by_kind m (Or n) e = record { op = _; is = refl; one = refl; chain = refl; by_end = refl; proven = refl }
by_kind m (And n) e = record { op = _; is = refl; one = refl; chain = refl; by_end = refl; proven = refl }
by_kind m (Row n) e = record { op = _; is = refl; one = refl; chain = refl; by_end = refl; proven = refl }
by_kind m (Then n) e = record { op = _; is = refl; one = refl; chain = refl; by_end = refl; proven = refl }
by_kind m Less e = record { op = _; is = refl; one = refl; chain = refl; by_end = refl; proven = refl }
by_kind m (Max k) e = record { op = _; is = refl; one = refl; chain = refl; by_end = refl; proven = refl }
by_kind m Inside e = record { op = _; is = refl; one = refl; chain = refl; by_end = refl; proven = refl }
by_kind m Outside e = record { op = _; is = refl; one = refl; chain = refl; by_end = refl; proven = refl }
by_kind m Holding e = record { op = _; is = refl; one = refl; chain = refl; by_end = refl; proven = refl }

-- what is shown of each operand of a node
abbrev fronts : Valuation → Symbol → Patterns → Stretch → List Front
fronts w h ps x = below (operator w.measure h) (evals w ps) x

-- what makes the span, of nodes and of what is shown of them
map-spans : {A B : Type 0} (f : A → B) (b : Bool) (l : List A) → map f (spanning b l) ≡ spanning b (map f l)
map-spans f true l = sym (take-map f 1 l)
map-spans f false l = refl

-- `in` and `has`, numbers 7 and 9, show what proves the answer
module _ (w : Valuation) (h : Symbol) (ps : Patterns) (x : Stretch) (i : In x.start x.end (eval w (Node h ps))) where
  proof-of : (f : Stretch → Bool) (o : Op) → operator w.measure h ≡ some o → (In x.start x.end (answers o (evals w ps)) → Proved f (get_or (shown_below o (evals w ps) x) 1 None)) → Proved f (get_or (fronts w h ps x) 1 None)
  proof-of f o e g =
      subst (λ (q : Option Op). Proved f (get_or (below q (evals w ps) x) 1 None)) (sym e) (g (subst (λ (q : Option Op). In x.start x.end (apply q (w.leaf h) (evals w ps))) e i))

  fronts-proof : ProofShown (kind_of h) x (fronts w h ps x)
  fronts-proof = (
    λ e. proof-of (proves op.Holder x) op.Inside (ap (λ (k : ℕ). operator_of w.measure k (first_of h)) e) (in-proved (evals w ps) x),
    λ e. proof-of (proves op.Inner x) op.Holding (ap (λ (k : ℕ). operator_of w.measure k (first_of h)) e) (has-proved (evals w ps) x),
  )

module _ (w : Valuation) (n : ℕ) (leaves : (h : Symbol) → Fine n (w.leaf h)) (h : Symbol) (ps : Patterns) (x : Stretch) (i : In x.start x.end (eval w (Node h ps))) where
  fine : AllFine n (evals w ps)
  fine = fine-evals n w leaves ps

  -- each is one of its operand's list
  fronts-in : EachIn (fronts w h ps x) (evals w ps)
  fronts-in = go (operator w.measure h) i
    where
      go : (o : Option Op) → In x.start x.end (apply o (w.leaf h) (evals w ps)) → EachIn (below o (evals w ps) x) (evals w ps)
      go none j = each-nothing (evals w ps)
      go (some o) j = below_in o (evals w ps) fine.rising fine.sound x j

  -- and those of an operator span its answer, but for what proves it
  fronts-span : is_operator (Node h ps) ≡ true → span_of (spanning (proof_kind (kind_of h)) (fronts w h ps x)) ≡ Some x
  fronts-span e =
      let o = by_kind w.measure h (not-true _ e) in
      ap₂ (λ (b : Bool) (q : Option Op). span_of (spanning b (below q (evals w ps) x))) (sym o.proven) o.is
      ∙ below_span o.op (evals w ps) fine.rising fine.sound x (subst (λ (q : Option Op). In x.start x.end (apply q (w.leaf h) (evals w ps))) o.is i)

-- ── By the tree ──

module _ (w : Valuation) where
  -- where nothing is shown of any operand, nothing is
  pub all_nothing : (c : ℕ) (ps : Patterns) (ls : List (List Stretch)) → shown_all w c ps (nothing ls) ≡ []
  all_nothing c Nil ls = refl
  all_nothing c (Cons p ps) [] = refl
  all_nothing c (Cons p ps) (l ∷ ls) = all_nothing (c + nodes p) ps ls

  -- a pattern shows its own nodes, in their order
  mutual
    within-from : (v b : ℕ) (p : Pattern) (x : Stretch) → b ≡ v + nodes p → Within v b (shown_from w v p x)
    within-from v b (Node h ps) x e = (omega arith, within_all (suc v) b ps (fronts w h ps x) (omega arith))

    within_all : (c b : ℕ) (ps : Patterns) (gs : List Front) → b ≡ c + nodes_of ps → Within c b (shown_all w c ps gs)
    within_all c b Nil gs e = omega arith
    within_all c b (Cons p ps) [] e = omega arith
    within_all c b (Cons p ps) (None ∷ gs) e = within-lower c (c + nodes p) b (shown_all w (c + nodes p) ps gs) (omega arith) (within_all (c + nodes p) b ps gs (omega arith))
    within_all c b (Cons p ps) (Some y ∷ gs) e =
        within-append c (c + nodes p) b (shown_from w c p y) (shown_all w (c + nodes p) ps gs) (within-from c (c + nodes p) p y refl) (within_all (c + nodes p) b ps gs (omega arith))

  -- the first of them is the pattern's
  at_own : (v : ℕ) (p : Pattern) (x : Stretch) → stretch_at (shown_from w v p x) v ≡ Some x
  at_own v (Node h ps) x = at_first v v x (shown_all w (suc v) ps (fronts w h ps x)) refl

  module _ (f : ℕ → Front) where
    -- whoever agrees with the parts of operands gives, at their numbers, what is shown of them
    at-operands : (c b : ℕ) (ps : Patterns) (gs : List Front) → b ≡ c + nodes_of ps → EachIn gs (evals w ps) → Agrees f c b (shown_all w c ps gs) → map f (numbers_from c ps) ≡ gs
    at-operands c b Nil [] e i a = refl
    at-operands c b Nil (g ∷ gs) e i a = absurd i
    at-operands c b (Cons p ps) [] e i a = absurd i
    at-operands c b (Cons p ps) (None ∷ gs) e i a =
        let m = c + nodes p in
        let r = within_all m b ps gs (omega arith) in
        ap₂ (λ (g : Front) (t : List Front). g ∷ t)
        (a c (omega arith) (omega (arith, nodes-some p)) ∙ at-outside m b c (shown_all w m ps gs) r (inl (omega (arith, nodes-some p))))
        (at-operands m b ps gs (omega arith) i (λ u h. a u (omega arith)))
    at-operands c b (Cons p ps) (Some y ∷ gs) e i a =
        let m = c + nodes p in
        let l = shown_from w c p y in
        let k = shown_all w m ps gs in
        ap₂ (λ (g : Front) (t : List Front). g ∷ t)
        (agrees-left f c m b l k (within_all m b ps gs (omega arith)) a c (omega arith) (omega (arith, nodes-some p)) ∙ at_own c p y)
        (at-operands m b ps gs (omega arith) i.1 (agrees-right f c m b l k (within-from c m p y refl) a))

    -- why y is given at node t, whose sub-pattern is q: it is one of q's list, and where q is an operator the span of what is given at its operands; `in` and
    -- `has` have what proves it instead of B's part in the span
    record Why (t : ℕ) (q : Pattern) (y : Stretch) : Type 0 where
      answer : In y.start y.end (eval w q)
      span : is_operator q ≡ true → span_of (map f (numbers_spanning t q)) ≡ Some y
      proof : ProofShown (root_kind q) y (map f (numbers_below t q))

    module _ (n : ℕ) (leaves : (h : Symbol) → Fine n (w.leaf h)) where
      -- sub-pattern u of a pattern, or of operands, has number t
      mutual
        why : (v b : ℕ) (p : Pattern) (x : Stretch) → b ≡ v + nodes p → In x.start x.end (eval w p) → Agrees f v b (shown_from w v p x)
            → (t u : ℕ) (d : Pattern) (y : Stretch) → t ≡ v + u → t < b → f t ≡ Some y → Why t (get_or (parts p) u d) y
        why v b (Node h ps) x e i a t zero d y q l s =
            let gs = fronts w h ps x in
            let k = shown_all w (suc v) ps gs in
            let z : Some x ≡ Some y = sym (at_first v t x k (omega arith)) ∙ sym (a t (omega arith) l) ∙ s in
            let same : x ≡ y = cc in
            let number : map f (numbers_from (suc t) ps) ≡ gs =
            ap (λ (c : ℕ). map f (numbers_from (suc c) ps)) (omega arith) ∙ at-operands (suc v) b ps gs (omega arith) (fronts-in w n leaves h ps x i) (agrees-rest f v b x k a) in
            record {
              answer = subst (λ (z : Stretch). In z.start z.end (eval w (Node h ps))) same i;
              span = λ r. ap span_of (map-spans f (proof_kind (kind_of h)) (numbers_from (suc t) ps) ∙ ap (spanning (proof_kind (kind_of h))) number) ∙ fronts-span w n leaves h ps x i r ∙ z;
              proof = subst (λ (gs : List Front). ProofShown (kind_of h) y gs) (sym number) (subst (λ (z : Stretch). ProofShown (kind_of h) z gs) same (fronts-proof w h ps x i));
            }
        why v b (Node h ps) x e i a t (suc u) d y q l s =
            let gs = fronts w h ps x in
            whys (suc v) b ps gs (omega arith) (fronts-in w n leaves h ps x i) (agrees-rest f v b x (shown_all w (suc v) ps gs) a) t u d y (omega arith) l s

        whys : (c b : ℕ) (ps : Patterns) (gs : List Front) → b ≡ c + nodes_of ps → EachIn gs (evals w ps) → Agrees f c b (shown_all w c ps gs)
            → (t u : ℕ) (d : Pattern) (y : Stretch) → t ≡ c + u → t < b → f t ≡ Some y → Why t (get_or (parts_of ps) u d) y
        whys c b Nil gs e i a t u d y q l s = absurd (omega arith)
        whys c b (Cons p ps) [] e i a t u d y q l s = absurd i
        whys c b (Cons p ps) (None ∷ gs) e i a t u d y q l s =
            let m = c + nodes p in
            part-split (λ r. Why t r y) p ps u d
            (λ h. let g : f t ≡ None = a t (omega arith) l ∙ at-outside m b t (shown_all w m ps gs) (within_all m b ps gs (omega arith)) (inl (omega arith)) in
            let z : ◌≡◌ {A = ℕ} 0 1 = cc in absurd (omega arith))
            (λ k h. whys m b ps gs (omega arith) i (λ u h. a u (omega arith)) t k d y (omega arith) l s)
        whys c b (Cons p ps) (Some z ∷ gs) e i a t u d y q l s =
            let m = c + nodes p in
            let r = shown_from w c p z in
            let k = shown_all w m ps gs in
            part-split (λ r. Why t r y) p ps u d
            (λ h. why c m p z refl i.0 (agrees-left f c m b r k (within_all m b ps gs (omega arith)) a) t u d y q (omega arith) s)
            (λ j h. whys m b ps gs (omega arith) i.1 (agrees-right f c m b r k (within-from c m p z refl) a) t j d y (omega arith) l s)

-- ── Over lines ──

shown-within : (p : Pattern) (ls : List Line) (x : Stretch) → Within 0 (nodes p) (shown p ls x)
shown-within p ls x = within-from (over_lines ls) 0 (nodes p) p x (omega arith)

-- no more than the pattern has nodes
pub shown-few : (p : Pattern) (ls : List Line) (x : Stretch) → length (shown p ls x) ≤ nodes p
shown-few p ls x = omega (arith, within-few 0 (nodes p) (shown p ls x) (shown-within p ls x))

module _ (p : Pattern) (ls : List Line) (x : Stretch) (i : In x.start x.end (answers_of p ls)) where
  node-below : (v : ℕ) (y : Stretch) → stretch_at (shown p ls x) v ≡ Some y → v < nodes p
  node-below v y e = go (le-or-lt (nodes p) v)
    where
      go : (nodes p ≤ v) ⊎ (v < nodes p) → v < nodes p
      go (inl h) = let n = at-outside 0 (nodes p) v (shown p ls x) (shown-within p ls x) (inr h) in let z : ◌≡◌ {A = ℕ} 0 1 = cc in absurd (omega arith)
      go (inr h) = h

  explained : (v : ℕ) (y : Stretch) → stretch_at (shown p ls x) v ≡ Some y → Why (over_lines ls) (stretch_at (shown p ls x)) v (get_or (parts p) v p) y
  explained v y e = why (over_lines ls) (stretch_at (shown p ls x)) (length ls) (fine-leaf ls) 0 (nodes p) p x (omega arith) i (λ u h l. refl) v v p y (omega arith) (node-below v y e) e

  -- every answer has a list that explains it
  pub shown-explains : Explains p ls x (shown p ls x)
  shown-explains = record {
    whole = at_own (over_lines ls) 0 p x;
    rising = within-rising 0 (nodes p) (shown p ls x) (shown-within p ls x);
    answers = λ v y e. (node-below v y e, (explained v y e).answer);
    spans = λ v y e. (explained v y e).span;
    proofs = λ v y e. (explained v y e).proof;
  }
