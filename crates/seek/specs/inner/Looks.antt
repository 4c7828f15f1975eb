-- What a look at a node's operands finds. Private contracts cite this. Assumes nothing.
use Rattle.std.specs.Prelude.{ℕ, ◌<◌, min, max, ◌≡◌, ◌⊎◌, Bool, true, false, not, cond, ◌&&◌, List, [], ◌∷◌, leb, ltb, eqb}
use Rattle.stretches.specs.declared.Node.{Node}
use Rattle.stretches.specs.declared.Stretch.{Stretch}
use Rattle.stretches.specs.Stretch.{st}
use Rattle.stretches.specs.Front.{first_from, first_to}
use Rattle.stretches.specs.Table.{kind_at, first_at, holder_kind, proof_kind}
use Rattle.stretches.specs.inner.Operands.{operands_of}
use Rattle.seek.specs.declared.state.State.{State}
use Rattle.seek.specs.Source.{Source, measured, given, Good}
use Rattle.seek.specs.First.{gone, front, first, reach, Ready, Found}
use Rattle.seek.specs.inner.Fronts.{past_of, bad_f, kept, go_f}

-- node v was sought from t with the state at s, which is left at s'
pub record Sought (src : Source) (rows : List Node) (s : State) (v t : ℕ) (r : Stretch) (s' : State) : Type 0 where
  pub found : Good src rows → Ready src rows s → Found src rows (front (first src rows v t)) r s'

-- node v was sought for its first stretch that ends at or after e, with the state at s, which is left at s'
pub record Reached (src : Source) (rows : List Node) (s : State) (v e : ℕ) (r : Stretch) (s' : State) : Type 0 where
  pub found : Good src rows → Ready src rows s → Found src rows (front (reach src rows v e)) r s'

-- ── Looking at operands: what an operator offers first from t on, no good where it ends at line 65,536 ──

-- `and`: the span of h and the lists' fronts from t on
unfoldable pub span_from : ℕ → Stretch → List (List Stretch) → Stretch
span_from t h [] = h
span_from t h (l ∷ ls) = go_f (front (first_from l t)) (λ f. span_from t (st (min h.start f.start) (max h.end f.end)) ls)

-- `row` and `then`: [s..e] and then each list's front from past the one before; `row`, which is tight, is no good where one does not start there
unfoldable pub chain_from : Bool → ℕ → ℕ → List (List Stretch) → Stretch
chain_from tight s e [] = st s e
chain_from tight s e (l ∷ ls) = go_f (front (first_from l (past_of e))) (λ f. cond (tight && not (eqb f.start (past_of e))) (bad_f s) (chain_from tight s f.end ls))

-- nothing is found in B, the first of the others: for `in` and `out` none that holds the front, for `less` and `has` none inside it
abbrev pub misses : ℕ → List (List Stretch) → Stretch → Bool
misses k [] f = true
misses k (b ∷ bs) f = cond (holder_kind k) (ltb f.start (front (first_to b f.end)).start) (ltb f.end (front (first_from b f.start)).end)

-- `in` and `has` keep a front for which one is found, `less` and `out` one for which none is
abbrev pub verdict : ℕ → Bool → Bool
verdict k m = cond (proof_kind k) (not m) m

-- the filters' tests of a front of the first operand, the others being ls: `max` is 6
abbrev pub passes : Source → ℕ → ℕ → List (List Stretch) → Stretch → Bool
passes src kind bound ls f = cond (eqb kind 6) (leb (measured src (st f.start f.end)) bound) (verdict kind (misses kind ls f))

-- the operands but the first
abbrev pub others : List (List Stretch) → List (List Stretch)
others [] = []
others (l ∷ ls) = ls

-- by the operator's number and its bound
abbrev pub look_by : Source → ℕ → ℕ → List (List Stretch) → ℕ → Stretch
look_by src kind bound [] t = gone
look_by src kind bound (l ∷ ls) t =
    cond (eqb kind 2) (span_from t (st 65536 0) (l ∷ ls))
    (cond (eqb kind 3) (go_f (front (first_from l t)) (λ f. chain_from true f.start f.end ls))
    (cond (eqb kind 4) (go_f (front (first_from l t)) (λ f. chain_from false f.start f.end ls))
    (go_f (front (first_from l t)) (λ f. kept f (passes src kind bound ls f)))))

unfoldable pub look : Source → List Node → ℕ → ℕ → Stretch
look src rows v t = look_by src (kind_at rows v) (first_at rows v) (operands_of (given src rows) rows v) t

pub record Seen (src : Source) (rows : List Node) (v t : ℕ) (r : Stretch) (s' : State) : Type 0 where
  pub is : r ≡ look src rows v t
  pub ready : Ready src rows s'

-- node v's operands were looked at
pub record Looked (src : Source) (rows : List Node) (s : State) (v t : ℕ) (r : Stretch) (s' : State) : Type 0 where
  pub seen : Good src rows → Ready src rows s → Seen src rows v t r s'

pub record Passed (src : Source) (rows : List Node) (v : ℕ) (a : Stretch) (r : Bool) (s' : State) : Type 0 where
  pub is : r ≡ passes src (kind_at rows v) (first_at rows v) (others (operands_of (given src rows) rows v)) a
  pub ready : Ready src rows s'

-- a front of v's first operand was tested
pub record Tested (src : Source) (rows : List Node) (s : State) (v : ℕ) (a : Stretch) (r : Bool) (s' : State) : Type 0 where
  pub passed : Good src rows → Ready src rows s → Passed src rows v a r s'

-- ── The operators by their shape ──

-- `and` and `then`: narrowed to the last look that still ends where the first does
abbrev pub Narrows : ℕ → Type 0
Narrows k = (k ≡ 2) ⊎ (k ≡ 4)

-- the filters, and every number that no operator has: a look at the first operand
abbrev pub Filters : ℕ → Type 0
Filters k = (k ≡ 2 → ⊥) × (k ≡ 3 → ⊥) × (k ≡ 4 → ⊥)

-- `row` and the filters: skipped to the first look that is good
abbrev pub Skips : ℕ → Type 0
Skips k = (k ≡ 3) ⊎ ((4 < k) × (k < 10))
