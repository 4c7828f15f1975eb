-- The turns of `or`, of a span, of a chain and of a filter: what is left of the operands at each turn, and one law for each return and turn.
-- Assumes nothing.
use mathlib.Core.Path.{◌≡◌, sym, ap, ◌∙◌}
use mathlib.Core.Logic.{◌⊎◌, inl, inr}
use mathlib.Core.Bool.{Bool, true, false, not, cond, ◌&&◌}
use mathlib.Core.List.{List, [], ◌∷◌}
use Prim.Native.Nat.{ℕ, ◌+◌, ◌≤◌, ◌<◌, min, max}
use native.Mathlib.Omega.{arith}
use lib.Dec.{leb, ltb, eqb}
use borrow.Author.Tests.{lt-ltb, le-ltb, eq-eqb, ne_eqb}
use Rattle.stretches.specs.declared.Node.{Node}
use Rattle.stretches.specs.declared.Stretch.{Stretch}
use Rattle.nodes.specs.declared.Operands.{Operands}
use Rattle.nodes.proofs.Operand.{Operand}
use Rattle.stretches.specs.Stretch.{st}
use Rattle.stretches.specs.Front.{first_from, first_to}
use Rattle.stretches.specs.Table.{kind_at, first_at, chain_kind, holder_kind, next_of, stop_of}
use Rattle.stretches.specs.inner.Operands.{operands_from, operands_of}
use Rattle.stretches.proofs.Table.{stop-most, from_more, from_end}
use Rattle.seek.specs.declared.state.State.{State}
use Rattle.seek.specs.Source.{Source, measured, given, list_over, Good}
use Rattle.seek.specs.First.{gone, front, first, Ready}
use Rattle.seek.specs.inner.Fronts.{past_of, bad_f, kept, go_f, better_of}
use Rattle.seek.specs.inner.Looks.{span_from, chain_from, misses, verdict, passes, others, look_by, look, Sought, Reached, Looked, Passed, Tested, Filters}
use Rattle.seek.proofs.Best.{best_from, or-look}
use Rattle.seek.proofs.Nodes.{fine-operands, or-list, look-kind}
use Rattle.seek.proofs.Shapes.{chains}

-- ── What is left of the operands ──

-- v's operands from c on
abbrev pub left : Source → List Node → ℕ → ℕ → List (List Stretch)
left src rows v c = operands_from (given src rows) rows (stop_of rows v) c

left-more : (src : Source) (rows : List Node) (v c : ℕ) → v < 32 → c < stop_of rows v → left src rows v c ≡ list_over src rows c ∷ left src rows v (next_of rows c)
left-more src rows v c lv lt = from_more (given src rows) rows (stop_of rows v) c lt (stop-most rows v)

left_end : (src : Source) (rows : List Node) (v c : ℕ) → stop_of rows v ≤ c → left src rows v c ≡ []
left_end src rows v c le = from_end (given src rows) rows (stop_of rows v) c le

-- ── or ──

-- the best of the operands before c is `best`
pub record OrInv (src : Source) (rows : List Node) (s₀ : State) (v t : ℕ) (s : State) (c : ℕ) (best : Stretch) : Type 0 where
  pub at : kind_at rows v ≡ 1 → Good src rows → Ready src rows s₀ → Ready src rows s × (best_from t best (left src rows v c) ≡ front (first src rows v t))

pub or-start : {src : Source} {rows : List Node} {s : State} {v t c : ℕ} → v < 32 → c ≡ v + 1 → OrInv src rows s v t s c gone
or-start {src} {rows} {s} {v} {t} lv e = record {
  at = λ k good rdy.
      let f = fine-operands src rows good v lv in (
        rdy,
        ap (λ (n : ℕ). best_from t gone (left src rows v n)) e ∙ or-look (operands_of (given src rows) rows v) f.rising f.below t
            ∙ ap (λ (l : List Stretch). front (first_from l t)) (sym (or-list src rows v lv k)),
      );
}

pub or_turn : {src : Source} {rows : List Node} {s₀ : State} {v t : ℕ} {s s' : State} {n c : ℕ} {it : Operands} {best best' f : Stretch} → v < 32 → OrInv src rows s₀ v t s n best → Operand rows v c n it
    → Sought src rows s c t f s' → best' ≡ better_of best f → OrInv src rows s₀ v t s' it.at best'
unfolding best_from
or_turn {src} {rows} {s₀} {v} {t} {s} {s'} {n} {c} {it} {best} {best'} {f} lv inv o w eb = record {
  at = λ k good rdy.
      let i = inv.at k good rdy in
      let g = w.found good i.0 in
      let e : best' ≡ better_of best (front (first_from (list_over src rows c) t)) = eb ∙ ap (better_of best) g.is in (
        g.ready,
        ap (λ (x : Stretch). best_from t x (left src rows v it.at)) e ∙ ap (λ (k : ℕ). best_from t (better_of best (front (first_from (list_over src rows c) t))) (left src rows v k)) o.next
            ∙ (sym (ap (best_from t best) (left-more src rows v c lv o.inside)) ∙ (ap (λ (k : ℕ). best_from t best (left src rows v k)) o.here ∙ i.1)),
      );
}

pub or-end : {src : Source} {rows : List Node} {s₀ : State} {v t : ℕ} {s : State} {c : ℕ} {best : Stretch} → OrInv src rows s₀ v t s c best → stop_of rows v ≤ c → kind_at rows v ≡ 1 → Sought src rows s₀ v t best s
unfolding best_from
or-end {src} {rows} {s₀} {v} {t} {s} {c} {best} inv le k = record {
  found = λ good rdy. let i = inv.at k good rdy in record { is = sym (ap (best_from t best) (left_end src rows v c le)) ∙ i.1; ready = i.0 };
}

-- ── Looks ──

go-some : (f : Stretch) (k : Stretch → Stretch) → f.start < 65536 → go_f f k ≡ k f
unfolding go_f
go-some f k e = ap (λ b. cond b (k f) gone) (lt-ltb f.start 65536 e)

go-none : (f : Stretch) (k : Stretch → Stretch) → 65536 ≤ f.start → go_f f k ≡ gone
unfolding go_f
go-none f k n = ap (λ b. cond b (k f) gone) (le-ltb f.start 65536 n)

-- a node without operands
pub look_none : {src : Source} {rows : List Node} {s : State} {v t : ℕ} {r : Stretch} → stop_of rows v ≤ v + 1 → r ≡ gone → Looked src rows s v t r s
unfolding look
look_none {src} {rows} {s} {v} {t} le e = record {
  seen = λ good rdy. record { is = e ∙ sym (ap (λ (ls : List (List Stretch)). look_by src (kind_at rows v) (first_at rows v) ls t) (left_end src rows v (v + 1) le)); ready = rdy };
}

-- ── and: a span ──

-- [m..e] is the span of the operands before c
pub record SpanInv (src : Source) (rows : List Node) (s₀ : State) (v t : ℕ) (s : State) (m e c : ℕ) : Type 0 where
  pub at : kind_at rows v ≡ 2 → Good src rows → Ready src rows s₀ → Ready src rows s × (span_from t (st m e) (left src rows v c) ≡ look src rows v t)

pub span-start : {src : Source} {rows : List Node} {s : State} {v t c : ℕ} → v < 32 → v + 1 < stop_of rows v → c ≡ v + 1 → SpanInv src rows s v t s 65536 0 c
unfolding look
span-start {src} {rows} {s} {v} {t} lv some e = record {
  at = λ k good rdy.
      let z = left-more src rows v (v + 1) lv some in
      (rdy, ap (λ (n : ℕ). span_from t (st 65536 0) (left src rows v n)) e ∙ ap (span_from t (st 65536 0)) z ∙ sym (look-kind src rows good v lv 2 t k ∙ ap (λ (ls : List (List Stretch)). look_by src 2 (first_at rows v) ls t) z));
}

module _ {src : Source} {rows : List Node} {s₀ : State} {v t : ℕ} {s s' : State} {m e n c : ℕ} {it : Operands} {f : Stretch} (lv : v < 32) (inv : SpanInv src rows s₀ v t s m e n) (o : Operand rows v c n it) (w : Sought src rows s c t f s') where
  -- the span goes on with the front at c
  span-step : kind_at rows v ≡ 2 → Good src rows → Ready src rows s₀
      → Ready src rows s' × (go_f f (λ x. span_from t (st (min m x.start) (max e x.end)) (left src rows v (next_of rows c))) ≡ look src rows v t)
  unfolding span_from
  span-step k good rdy =
      let i = inv.at k good rdy in
      let g = w.found good i.0 in (
        g.ready,
        ap (λ (y : Stretch). go_f y (λ x. span_from t (st (min m x.start) (max e x.end)) (left src rows v (next_of rows c)))) g.is
            ∙ (sym (ap (span_from t (st m e)) (left-more src rows v c lv o.inside)) ∙ (ap (λ (k : ℕ). span_from t (st m e) (left src rows v k)) o.here ∙ i.1)),
      )

  pub span-turn : {m' e' : ℕ} → f.start < 65536 → m' ≡ min m f.start → e' ≡ max e f.end → SpanInv src rows s₀ v t s' m' e' it.at
  span-turn {m'} {e'} one em ee = record {
    at = λ k good rdy.
        let i = span-step k good rdy in (
          i.0,
          ap (λ (n : ℕ). span_from t (st n e') (left src rows v it.at)) em ∙ ap (λ (n : ℕ). span_from t (st (min m f.start) n) (left src rows v it.at)) ee
              ∙ ap (λ (n : ℕ). span_from t (st (min m f.start) (max e f.end)) (left src rows v n)) o.next
              ∙ (sym (go-some f (λ x. span_from t (st (min m x.start) (max e x.end)) (left src rows v (next_of rows c))) one) ∙ i.1),
        );
  }

  pub span-gone : {r : Stretch} → 65536 ≤ f.start → r ≡ gone → kind_at rows v ≡ 2 → Looked src rows s₀ v t r s'
  span-gone n er k = record {
    seen = λ good rdy. let i = span-step k good rdy in record { is = er ∙ (sym (go-none f (λ x. span_from t (st (min m x.start) (max e x.end)) (left src rows v (next_of rows c))) n) ∙ i.1); ready = i.0 };
  }

pub span-end : {src : Source} {rows : List Node} {s₀ : State} {v t : ℕ} {s : State} {m e c : ℕ} {r : Stretch} → SpanInv src rows s₀ v t s m e c → stop_of rows v ≤ c → r ≡ st m e → kind_at rows v ≡ 2
    → Looked src rows s₀ v t r s
unfolding span_from
span-end {src} {rows} {s₀} {v} {t} {s} {m} {e} {c} inv le er k = record {
  seen = λ good rdy. let i = inv.at k good rdy in record { is = er ∙ (sym (ap (span_from t (st m e)) (left_end src rows v c le)) ∙ i.1); ready = i.0 };
}

-- ── row and then: a chain ──

-- whether the node's chain is tight
abbrev pub tight_at : List Node → ℕ → Bool
tight_at rows v = eqb (kind_at rows v) 3

module _ {src : Source} {rows : List Node} {s s₁ : State} {v t : ℕ} {a : Stretch} (lv : v < 32) (some : v + 1 < stop_of rows v) (w : Sought src rows s (v + 1) t a s₁) where
  -- a look begins with the first operand's front
  chain_first : chain_kind (kind_at rows v) ≡ true → Good src rows → Ready src rows s
      → Ready src rows s₁ × (go_f a (λ f. chain_from (tight_at rows v) f.start f.end (left src rows v (next_of rows (v + 1)))) ≡ look src rows v t)
  chain_first k good rdy =
      let g = w.found good rdy in
      let z = left-more src rows v (v + 1) lv some in
      (g.ready, ap (λ (x : Stretch). go_f x (λ f. chain_from (tight_at rows v) f.start f.end (left src rows v (next_of rows (v + 1))))) g.is ∙ by (chains (kind_at rows v) k) good z)
    where
      by : (kind_at rows v ≡ 3) ⊎ (kind_at rows v ≡ 4) → Good src rows → left src rows v (v + 1) ≡ list_over src rows (v + 1) ∷ left src rows v (next_of rows (v + 1))
          → go_f (front (first_from (list_over src rows (v + 1)) t)) (λ f. chain_from (tight_at rows v) f.start f.end (left src rows v (next_of rows (v + 1)))) ≡ look src rows v t
      by (inl k) good z =
          ap (λ b. go_f (front (first_from (list_over src rows (v + 1)) t)) (λ f. chain_from b f.start f.end (left src rows v (next_of rows (v + 1))))) (eq-eqb (kind_at rows v) 3 k)
          ∙ sym (look-kind src rows good v lv 3 t k ∙ ap (λ (ls : List (List Stretch)). look_by src 3 (first_at rows v) ls t) z)
      by (inr k) good z =
          ap (λ b. go_f (front (first_from (list_over src rows (v + 1)) t)) (λ f. chain_from b f.start f.end (left src rows v (next_of rows (v + 1))))) (ne_eqb (kind_at rows v) 3 (λ z. omega arith))
          ∙ sym (look-kind src rows good v lv 4 t k ∙ ap (λ (ls : List (List Stretch)). look_by src 4 (first_at rows v) ls t) z)

  pub chain-gone : {r : Stretch} → 65536 ≤ a.start → r ≡ gone → chain_kind (kind_at rows v) ≡ true → Looked src rows s v t r s₁
  chain-gone n er k = record {
    seen = λ good rdy. let i = chain_first k good rdy in record { is = er ∙ (sym (go-none a (λ f. chain_from (tight_at rows v) f.start f.end (left src rows v (next_of rows (v + 1)))) n) ∙ i.1); ready = i.0 };
  }

  pub chain-some : a.start < 65536 → chain_kind (kind_at rows v) ≡ true → Good src rows → Ready src rows s
      → Ready src rows s₁ × (chain_from (tight_at rows v) a.start a.end (left src rows v (next_of rows (v + 1))) ≡ look src rows v t)
  chain-some one k good rdy =
      let i = chain_first k good rdy in
      (i.0, sym (go-some a (λ f. chain_from (tight_at rows v) f.start f.end (left src rows v (next_of rows (v + 1)))) one) ∙ i.1)

-- the chain from m on has come to e; s₁ and e₁ are the state and the end where the loop began
pub record ChainInv (src : Source) (rows : List Node) (s₁ : State) (v t m e₁ : ℕ) (s : State) (e c : ℕ) : Type 0 where
  pub at : Good src rows → Ready src rows s₁ → chain_from (tight_at rows v) m e₁ (left src rows v (next_of rows (v + 1))) ≡ look src rows v t
      → Ready src rows s × (chain_from (tight_at rows v) m e (left src rows v c) ≡ look src rows v t)

pub chain-start : {src : Source} {rows : List Node} {s : State} {v t m e c : ℕ} → c ≡ next_of rows (v + 1) → ChainInv src rows s v t m e s e c
chain-start {src} {rows} {s} {v} {t} {m} {e} {c} ec = record { at = λ good rdy i. (rdy, ap (λ (n : ℕ). chain_from (tight_at rows v) m e (left src rows v n)) ec ∙ i) }

module _ {src : Source} {rows : List Node} {s₁ : State} {v t m e₁ : ℕ} {s s' : State} {e n c to : ℕ} {it : Operands} {f : Stretch}
    (lv : v < 32) (inv : ChainInv src rows s₁ v t m e₁ s e n) (o : Operand rows v c n it) (et : to ≡ past_of e) (w : Sought src rows s c to f s') where
  -- the chain goes on with the front at c
  chain-step : Good src rows → Ready src rows s₁ → chain_from (tight_at rows v) m e₁ (left src rows v (next_of rows (v + 1))) ≡ look src rows v t
      → Ready src rows s' × (go_f f (λ x. cond (tight_at rows v && not (eqb x.start to)) (bad_f m) (chain_from (tight_at rows v) m x.end (left src rows v (next_of rows c)))) ≡ look src rows v t)
  unfolding chain_from
  chain-step good rdy i₁ =
      let i = inv.at good rdy i₁ in
      let g = w.found good i.0 in (
        g.ready,
        ap (λ (y : Stretch). go_f y (λ x. cond (tight_at rows v && not (eqb x.start to)) (bad_f m) (chain_from (tight_at rows v) m x.end (left src rows v (next_of rows c))))) g.is
            ∙ ap (λ (n : ℕ). go_f (front (first_from (list_over src rows c) n)) (λ x. cond (tight_at rows v && not (eqb x.start n)) (bad_f m) (chain_from (tight_at rows v) m x.end (left src rows v (next_of rows c))))) et
            ∙ (sym (ap (chain_from (tight_at rows v) m e) (left-more src rows v c lv o.inside)) ∙ (ap (λ (k : ℕ). chain_from (tight_at rows v) m e (left src rows v k)) o.here ∙ i.1)),
      )

  module _ (one : f.start < 65536) where
    chain-over : (b : Bool) → (tight_at rows v && not (eqb f.start to)) ≡ b → Good src rows → Ready src rows s₁ → chain_from (tight_at rows v) m e₁ (left src rows v (next_of rows (v + 1))) ≡ look src rows v t
        → Ready src rows s' × (cond b (bad_f m) (chain_from (tight_at rows v) m f.end (left src rows v (next_of rows c))) ≡ look src rows v t)
    chain-over b eb good rdy i₁ =
        let i = chain-step good rdy i₁ in (
          i.0,
          sym (ap (λ b. cond b (bad_f m) (chain_from (tight_at rows v) m f.end (left src rows v (next_of rows c)))) eb)
              ∙ (sym (go-some f (λ x. cond (tight_at rows v && not (eqb x.start to)) (bad_f m) (chain_from (tight_at rows v) m x.end (left src rows v (next_of rows c)))) one) ∙ i.1),
        )

    pub chain-turn : (tight_at rows v && not (eqb f.start to)) ≡ false → ChainInv src rows s₁ v t m e₁ s' f.end it.at
    chain-turn eb = record { at = λ good rdy i₁. let i = chain-over false eb good rdy i₁ in (i.0, ap (λ (n : ℕ). chain_from (tight_at rows v) m f.end (left src rows v n)) o.next ∙ i.1) }

-- the ways out of the chain, from the state at entry
module _ {src : Source} {rows : List Node} {s₀ s₁ : State} {v t : ℕ} {a : Stretch} (lv : v < 32) (some : v + 1 < stop_of rows v) (w₀ : Sought src rows s₀ (v + 1) t a s₁) (one₀ : a.start < 65536)
    {s : State} {e c : ℕ} (inv : ChainInv src rows s₁ v t a.start a.end s e c) (k : chain_kind (kind_at rows v) ≡ true) where
  pub chain-end : {r : Stretch} → stop_of rows v ≤ c → r ≡ st a.start e → Looked src rows s₀ v t r s
  unfolding chain_from
  chain-end le er = record {
    seen = λ good rdy.
        let i₀ = chain-some lv some w₀ one₀ k good rdy in
        let i = inv.at good i₀.0 i₀.1 in
        record { is = er ∙ (sym (ap (chain_from (tight_at rows v) a.start e) (left_end src rows v c le)) ∙ i.1); ready = i.0 };
  }

  module _ {s' : State} {u to : ℕ} {it : Operands} {f : Stretch} (o : Operand rows v u c it) (et : to ≡ past_of e) (w : Sought src rows s u to f s') where
    pub chain-stop : {r : Stretch} → 65536 ≤ f.start → r ≡ gone → Looked src rows s₀ v t r s'
    chain-stop n er = record {
      seen = λ good rdy.
          let i₀ = chain-some lv some w₀ one₀ k good rdy in
          let i = chain-step lv inv o et w good i₀.0 i₀.1 in
          record {
            is = er ∙ (sym (go-none f (λ x. cond (tight_at rows v && not (eqb x.start to)) (bad_f a.start) (chain_from (tight_at rows v) a.start x.end (left src rows v (next_of rows u)))) n) ∙ i.1);
            ready = i.0;
          };
    }

    pub chain-break : {r : Stretch} → f.start < 65536 → (tight_at rows v && not (eqb f.start to)) ≡ true → r ≡ bad_f a.start → Looked src rows s₀ v t r s'
    chain-break one eb er = record {
      seen = λ good rdy.
          let i₀ = chain-some lv some w₀ one₀ k good rdy in
          let i = chain-over lv inv o et w one true eb good i₀.0 i₀.1 in
          record { is = er ∙ i.1; ready = i.0 };
    }

-- ── The filters ──

-- v's operands but the first
rest-left : (src : Source) (rows : List Node) (v : ℕ) → v < 32 → v + 1 < stop_of rows v → others (operands_of (given src rows) rows v) ≡ left src rows v (next_of rows (v + 1))
rest-left src rows v lv some = ap others (left-more src rows v (v + 1) lv some)

-- the test of a front, the other operands being ls
abbrev tested : ℕ → Stretch → List (List Stretch) → Bool
tested k a ls = verdict k (misses k ls a)

module _ {src : Source} {rows : List Node} {v : ℕ} {a : Stretch} (lv : v < 32) (some : v + 1 < stop_of rows v) where
  pub test-max : {s : State} {n : ℕ} {r : Bool} → kind_at rows v ≡ 6 → n ≡ measured src (st a.start a.end) → r ≡ leb n (first_at rows v) → Tested src rows s v a r s
  test-max k en er = record {
    passed = λ good rdy. record {
      is = er ∙ ap (λ (x : ℕ). leb x (first_at rows v)) en
          ∙ sym (ap (λ b. cond b (leb (measured src (st a.start a.end)) (first_at rows v)) (verdict (kind_at rows v) (misses (kind_at rows v) (others (operands_of (given src rows) rows v)) a))) (eq-eqb (kind_at rows v) 6 k));
      ready = rdy;
    };
  }

  module _ {o : ℕ} (six : kind_at rows v ≡ 6 → ⊥) (eo : o ≡ next_of rows (v + 1)) where
    test-other : {r : Bool} {s' : State} → Ready src rows s' → r ≡ verdict (kind_at rows v) (misses (kind_at rows v) (left src rows v o) a) → Passed src rows v a r s'
    test-other rdy er = record {
      is = er ∙ ap (λ (n : ℕ). tested (kind_at rows v) a (left src rows v n)) eo ∙ ap (tested (kind_at rows v) a) (sym (rest-left src rows v lv some))
          ∙ sym (ap (λ b. cond b (leb (measured src (st a.start a.end)) (first_at rows v)) (verdict (kind_at rows v) (misses (kind_at rows v) (others (operands_of (given src rows) rows v)) a))) (ne_eqb (kind_at rows v) 6 six));
      ready = rdy;
    }

    -- there is no other operand
    pub test-alone : {s : State} {r : Bool} → stop_of rows v ≤ o → r ≡ verdict (kind_at rows v) true → Tested src rows s v a r s
    test-alone le er = record { passed = λ good rdy. test-other rdy (er ∙ sym (ap (tested (kind_at rows v) a) (left_end src rows v o le))) }

    module _ (lt : o < stop_of rows v) where
      -- what is found of it
      by-other : {s' : State} {r : Bool} → Ready src rows s' → (h : Bool) → holder_kind (kind_at rows v) ≡ h
          → r ≡ verdict (kind_at rows v) (cond h (ltb a.start (front (first_to (list_over src rows o) a.end)).start) (ltb a.end (front (first_from (list_over src rows o) a.start)).end))
          → Passed src rows v a r s'
      by-other rdy h e er = test-other rdy
          (er ∙ ap (λ (c : Bool). verdict (kind_at rows v) (cond c (ltb a.start (front (first_to (list_over src rows o) a.end)).start) (ltb a.end (front (first_from (list_over src rows o) a.start)).end))) (sym e)
          ∙ sym (ap (tested (kind_at rows v) a) (left-more src rows v o lv lt)))

      pub test-holder : {s s' : State} {b : Stretch} {r : Bool} → holder_kind (kind_at rows v) ≡ true → Reached src rows s o a.end b s' → r ≡ verdict (kind_at rows v) (ltb a.start b.start) → Tested src rows s v a r s'
      test-holder k w er = record { passed = λ good rdy. let g = w.found good rdy in by-other g.ready true k (er ∙ ap (λ (x : Stretch). verdict (kind_at rows v) (ltb a.start x.start)) g.is) }

      pub test-inner : {s s' : State} {b : Stretch} {r : Bool} → holder_kind (kind_at rows v) ≡ false → Sought src rows s o a.start b s' → r ≡ verdict (kind_at rows v) (ltb a.end b.end) → Tested src rows s v a r s'
      test-inner k w er = record { passed = λ good rdy. let g = w.found good rdy in by-other g.ready false k (er ∙ ap (λ (x : Stretch). verdict (kind_at rows v) (ltb a.end x.end)) g.is) }

module _ {src : Source} {rows : List Node} {s s₁ : State} {v t : ℕ} {a : Stretch} (lv : v < 32) (some : v + 1 < stop_of rows v) (w : Sought src rows s (v + 1) t a s₁) where
  -- a look begins with the first operand's front
  filter-first : Filters (kind_at rows v) → Good src rows → Ready src rows s
      → Ready src rows s₁ × (go_f a (λ f. kept f (passes src (kind_at rows v) (first_at rows v) (others (operands_of (given src rows) rows v)) f)) ≡ look src rows v t)
  unfolding look
  filter-first k good rdy =
      let g = w.found good rdy in
      let z = left-more src rows v (v + 1) lv some in (
        g.ready,
        ap (λ (x : Stretch). go_f x (λ f. kept f (passes src (kind_at rows v) (first_at rows v) (others (operands_of (given src rows) rows v)) f))) g.is
            ∙ ap (λ (ls : List (List Stretch)). go_f (front (first_from (list_over src rows (v + 1)) t)) (λ f. kept f (passes src (kind_at rows v) (first_at rows v) (others ls) f))) z
            ∙ sym (ap (λ (ls : List (List Stretch)). look_by src (kind_at rows v) (first_at rows v) ls t) z ∙ simp (ne_eqb (kind_at rows v) 2 k.0, ne_eqb (kind_at rows v) 3 k.1, ne_eqb (kind_at rows v) 4 k.2)),
      )

  pub filter-gone : {r : Stretch} → 65536 ≤ a.start → r ≡ gone → Filters (kind_at rows v) → Looked src rows s v t r s₁
  filter-gone n er k = record {
    seen = λ good rdy.
        let i = filter-first k good rdy in
        record { is = er ∙ (sym (go-none a (λ f. kept f (passes src (kind_at rows v) (first_at rows v) (others (operands_of (given src rows) rows v)) f)) n) ∙ i.1); ready = i.0 };
  }

  pub filter-done : {s' : State} {b b' : Bool} {r : Stretch} → a.start < 65536 → Tested src rows s₁ v a b s' → b ≡ b' → r ≡ kept a b' → Filters (kind_at rows v) → Looked src rows s v t r s'
  filter-done one p eb er k = record {
    seen = λ good rdy.
        let i = filter-first k good rdy in
        let g = p.passed good i.0 in
        record {
          is = er ∙ ap (kept a) (sym eb ∙ g.is) ∙ (sym (go-some a (λ f. kept f (passes src (kind_at rows v) (first_at rows v) (others (operands_of (given src rows) rows v)) f)) one) ∙ i.1);
          ready = g.ready;
        };
  }
