-- What a node of the table stands for, by its kind, and what a seek from any line finds of it. Assumes nothing.
use mathlib.Core.Path.{◌≡◌, refl, sym, ap, subst, ◌∙◌}
use mathlib.Core.Logic.{◌⊎◌, inl, inr}
use mathlib.Core.Bool.{Bool, not, cond}
use mathlib.Core.List.{List, [], ◌∷◌}
use Prim.Native.Nat.{ℕ, ◌+◌, ◌≤◌, ◌<◌}
use native.Mathlib.Omega.{arith}
use lib.Dec.{eqb}
use borrow.Author.Tests.{ne_eqb}
use Rattle.stretches.specs.declared.Node.{Node}
use Rattle.stretches.specs.declared.Stretch.{Stretch}
use Rattle.stretches.specs.Stretch.{st, Fine, keep, keep_first, contains_none, contains_some, lies_in_none, lies_in_some, at_most, Op, answers, marks}
use Rattle.stretches.specs.Operators.{operator_of, apply}
use Rattle.stretches.specs.Front.{None, Some, first_from}
use Rattle.stretches.specs.Table.{kind_at, first_at, second_at, stop_of}
use Rattle.stretches.specs.inner.Operands.{operands_of}
use Rattle.stretches.specs.Stretch as op
use Rattle.stretches.specs.Front as fronts
use Rattle.stretches.proofs.Answers.{Cand, cand-sound}
use Rattle.stretches.proofs.InRun.{cand-below}
use Rattle.stretches.proofs.Fine.{AllFine, first_fine, rest-fine}
use Rattle.stretches.proofs.Fronts.{FirstIs, first_good, first-is, first-none}
use Rattle.stretches.proofs.Operators.{no-operator}
use Rattle.stretches.proofs.Table.{list-node, all-operands, fine-list}
use Rattle.marks.specs.Row.{row}
use Rattle.seek.specs.Source.{Source, measured, lent, own_list, given, list_over, Good}
use Rattle.seek.specs.First.{gone, front, first}
use Rattle.seek.specs.inner.Fronts.{kept, go_f}
use Rattle.seek.specs.inner.Looks.{passes, look_by, look, Narrows, Skips}
use Rattle.seek.proofs.Shapes.{filter-kind}
use Rattle.seek.proofs.Looks.{TightLook, t-none, SkipLook, k-none, and-look, then-look, row-look, keep-look, inner-missed, holder-missed}

-- ── Fronts ──

module _ (src : Source) (rows : List Node) (good : Good src rows) (v : ℕ) (lv : v < 32) where
  -- a node's list is fine
  pub fine : Fine 65536 (list_over src rows v)
  fine = fine-list (given src rows) rows 65536 good v lv

  -- and so are its operands'
  pub fine-operands : AllFine 65536 (operands_of (given src rows) rows v)
  fine-operands = all-operands (given src rows) rows 65536 good (stop_of rows v) (v + 1)

  -- a front is none, or starts below line 65,536
  pub first_small : (t : ℕ) → (front (first src rows v t)).start ≤ 65536
  first_small t = go (first_from (list_over src rows v) t) (first_good (list_over src rows v) fine.rising t)
    where
      go : (g : fronts.Front) → FirstIs (list_over src rows v) t g → (front g).start ≤ 65536
      go None h = omega arith
      go (Some x) h = omega (arith, fine.sound x.start x.end h.0, fine.below x.start x.end h.0)

  -- what was found from t serves from any t' up to it
  pub stays : (t t' : ℕ) → t ≤ t' → t' ≤ (front (first src rows v t)).start → front (first src rows v t') ≡ front (first src rows v t)
  stays t t' le ge = go (first_from (list_over src rows v) t) (first_good (list_over src rows v) fine.rising t) ge
    where
      go : (g : fronts.Front) → FirstIs (list_over src rows v) t g → t' ≤ (front g).start → front (first_from (list_over src rows v) t') ≡ front g
      go None h k = ap front (first-none (list_over src rows v) fine.rising t' (λ s e m. omega (arith, h s e m)))
      go (Some x) h k = ap front (first-is (list_over src rows v) fine.rising t' x.start x.end h.0 k (λ s e m p. (h.2 s e m (omega arith)).1))

  -- nothing starts at line 65,536 or later
  pub past : (t : ℕ) → 65536 ≤ t → gone ≡ front (first src rows v t)
  past t h = ap front (sym (first-none (list_over src rows v) fine.rising t (λ a e m. omega (arith, fine.sound a e m, fine.below a e m))))

-- ── A node's list by its kind ──

module _ (src : Source) (rows : List Node) (v : ℕ) (lv : v < 32) where
  pub by_kind : (k : ℕ) → kind_at rows v ≡ k → list_over src rows v ≡ apply (operator_of (measured src) k (first_at rows v)) (own_list src k (first_at rows v) (second_at rows v)) (operands_of (given src rows) rows v)
  by_kind k e =
      list-node (given src rows) rows v lv
      ∙ ap (λ (k : ℕ). apply (operator_of (measured src) k (first_at rows v)) (own_list src k (first_at rows v) (second_at rows v)) (operands_of (given src rows) rows v)) e

  pub row_list : kind_at rows v ≡ 16 → list_over src rows v ≡ marks 0 (row src.words (first_at rows v) (second_at rows v))
  row_list e = by_kind 16 e

  pub lent-list : kind_at rows v ≡ 17 → list_over src rows v ≡ lent src.items (first_at rows v) (second_at rows v)
  lent-list e = by_kind 17 e

  pub or-list : kind_at rows v ≡ 1 → list_over src rows v ≡ answers op.Or (operands_of (given src rows) rows v)
  or-list e = by_kind 1 e

  -- a kind that no list and no operator has
  pub no-list : (kind_at rows v ≡ 0) ⊎ (9 < kind_at rows v) → (kind_at rows v ≡ 16 → ⊥) → (kind_at rows v ≡ 17 → ⊥) → list_over src rows v ≡ []
  no-list (inl e) a b = by_kind 0 e
  no-list (inr h) a b =
      by_kind (kind_at rows v) refl
      ∙ ap (λ o. apply o (own_list src (kind_at rows v) (first_at rows v) (second_at rows v)) (operands_of (given src rows) rows v)) (no-operator (measured src) (kind_at rows v) (first_at rows v) h)
      ∙ ap (λ c. cond c (marks 0 (row src.words (first_at rows v) (second_at rows v))) (cond (eqb (kind_at rows v) 17) (lent src.items (first_at rows v) (second_at rows v)) [])) (ne_eqb (kind_at rows v) 16 a)
      ∙ ap (λ c. cond c (lent src.items (first_at rows v) (second_at rows v)) []) (ne_eqb (kind_at rows v) 17 b)

-- ── and, then: tight looks ──

-- what narrowing needs of a node: its operator over fine lists, with tight looks
pub record Narrowing (src : Source) (rows : List Node) (v : ℕ) : Type 0 where
  pub op : Op
  pub ls : List (List Stretch)
  pub fines : AllFine 65536 ls
  pub is : list_over src rows v ≡ answers op ls
  pub tight : (t : ℕ) → TightLook op ls t (look src rows v t)

-- a candidate lies below line 65,536
pub small-cand : (o : Op) (ls : List (List Stretch)) → AllFine 65536 ls → (s e : ℕ) → Cand o ls s e → (s < 65536) × (e < 65536)
small-cand o ls f s e c =
    let a = cand-sound o ls f.sound s e c in
    let b = cand-below o 65536 ls f.below s e c in
    (omega arith, b)

module _ (src : Source) (rows : List Node) (good : Good src rows) (v : ℕ) (lv : v < 32) where
  -- a look by the node's kind
  pub look-kind : (k t : ℕ) → kind_at rows v ≡ k → look src rows v t ≡ look_by src k (first_at rows v) (operands_of (given src rows) rows v) t
  unfolding look
  look-kind k t e = ap (λ (k : ℕ). look_by src k (first_at rows v) (operands_of (given src rows) rows v) t) e

  and-tight-look : (ls : List (List Stretch)) → AllFine 65536 ls → (t : ℕ) → TightLook op.And ls t (look_by src 2 (first_at rows v) ls t)
  and-tight-look [] f t = t-none (λ s e c. absurd c.picks)
  and-tight-look (l ∷ ls) f t = and-look l ls f t

  then-tight-look : (ls : List (List Stretch)) → AllFine 65536 ls → (t : ℕ) → TightLook op.Then ls t (look_by src 4 (first_at rows v) ls t)
  then-tight-look [] f t = t-none (λ s e c. absurd c.picks)
  then-tight-look (l ∷ ls) f t = then-look l ls f t

  pub narrowing : Narrows (kind_at rows v) → Narrowing src rows v
  narrowing (inl k) = record {
    op = op.And;
    ls = operands_of (given src rows) rows v;
    fines = fine-operands src rows good v lv;
    is = by_kind src rows v lv 2 k;
    tight = λ t. subst (TightLook op.And (operands_of (given src rows) rows v) t) (sym (look-kind 2 t k)) (and-tight-look (operands_of (given src rows) rows v) (fine-operands src rows good v lv) t);
  }
  narrowing (inr k) = record {
    op = op.Then;
    ls = operands_of (given src rows) rows v;
    fines = fine-operands src rows good v lv;
    is = by_kind src rows v lv 4 k;
    tight = λ t. subst (TightLook op.Then (operands_of (given src rows) rows v) t) (sym (look-kind 4 t k)) (then-tight-look (operands_of (given src rows) rows v) (fine-operands src rows good v lv) t);
  }

  -- ── row and the filters: looks that are good or passed over ──

  row-skip-look : (ls : List (List Stretch)) → AllFine 65536 ls → (t : ℕ) → SkipLook (answers op.Row ls) t (look_by src 3 (first_at rows v) ls t)
  row-skip-look [] f t = k-none refl
  row-skip-look (l ∷ ls) f t = row-look l ls f t

  -- a filter's, by its test
  filter-skip-look : (k : ℕ) (test : List (List Stretch) → Stretch → Bool) → ((t : ℕ) → look_by src k (first_at rows v) [] t ≡ gone)
      → ((l : List Stretch) (ls : List (List Stretch)) (t : ℕ) → look_by src k (first_at rows v) (l ∷ ls) t ≡ go_f (front (first_from l t)) (λ x. kept x (passes src k (first_at rows v) ls x)))
      → ((ls : List (List Stretch)) → AllFine 65536 ls → (x : Stretch) → x.start < 65536 → x.end < 65536 → passes src k (first_at rows v) ls (st x.start x.end) ≡ test ls x)
      → (ls : List (List Stretch)) → AllFine 65536 ls → (t : ℕ) → SkipLook (keep_first test ls) t (look_by src k (first_at rows v) ls t)
  filter-skip-look k test none one is [] f t = subst (SkipLook [] t) (sym (none t)) (k-none refl)
  filter-skip-look k test none one is (l ∷ ls) f t =
      subst (SkipLook (keep (test ls) l) t) (sym (one l ls t)) (keep-look (test ls) (passes src k (first_at rows v) ls) l (first_fine f)
      (λ x m. let lt = f.below.0 x.start x.end m in is ls (rest-fine f) x (omega (arith, f.sound.0 x.start x.end m)) lt) t)

  skipping-by : (k : ℕ) → kind_at rows v ≡ k → ((ls : List (List Stretch)) → AllFine 65536 ls → (t : ℕ)
      → SkipLook (apply (operator_of (measured src) k (first_at rows v)) (own_list src k (first_at rows v) (second_at rows v)) ls) t (look_by src k (first_at rows v) ls t))
      → (t : ℕ) → SkipLook (list_over src rows v) t (look src rows v t)
  skipping-by k e f t =
      let ls = operands_of (given src rows) rows v in
      subst (λ (l : List Stretch). SkipLook l t (look src rows v t)) (sym (by_kind src rows v lv k e))
      (subst (SkipLook (apply (operator_of (measured src) k (first_at rows v)) (own_list src k (first_at rows v) (second_at rows v)) ls) t) (sym (look-kind k t e)) (f ls (fine-operands src rows good v lv) t))

  pub skipping : Skips (kind_at rows v) → (t : ℕ) → SkipLook (list_over src rows v) t (look src rows v t)
  skipping (inl k) = skipping-by 3 k row-skip-look
  skipping (inr h) = filter-kind (λ k. kind_at rows v ≡ k → (t : ℕ) → SkipLook (list_over src rows v) t (look src rows v t)) (kind_at rows v) h.0 h.1
      (λ e. skipping-by 5 e (filter-skip-look 5 contains_none (λ t. refl) (λ l ls t. refl) (λ ls f x s b. inner-missed 5 refl ls f.rising x b)))
      (λ e. skipping-by 6 e (filter-skip-look 6 (at_most (measured src) (first_at rows v)) (λ t. refl) (λ l ls t. refl) (λ ls f x s b. refl)))
      (λ e. skipping-by 7 e (filter-skip-look 7 lies_in_some (λ t. refl) (λ l ls t. refl) (λ ls f x s b. ap not (holder-missed 7 refl ls f.rising x s))))
      (λ e. skipping-by 8 e (filter-skip-look 8 lies_in_none (λ t. refl) (λ l ls t. refl) (λ ls f x s b. holder-missed 8 refl ls f.rising x s)))
      (λ e. skipping-by 9 e (filter-skip-look 9 contains_some (λ t. refl) (λ l ls t. refl) (λ ls f x s b. ap not (inner-missed 9 refl ls f.rising x b)))) refl
