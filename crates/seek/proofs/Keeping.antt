-- The state: what storing a front changes, that what is kept stays true, and what `seek`, `renew` and `fresh` make of it. Each return is one law.
-- Assumes nothing.
use mathlib.Core.Path.{◌≡◌, sym, ap, ap₂, subst, ◌∙◌}
use mathlib.Core.Logic.{◌⊎◌, ◌≢◌, ⊎_elim}
use mathlib.Core.List.{List}
use Prim.Native.Nat.{ℕ, ◌-◌, ◌≤◌, ◌<◌}
use native.Mathlib.Omega.{arith}
use lib.ListN.{length, get_or, length-set, length-replicate, get_or-replicate}
use lib.Seq.{get_or-set_same, get_or-set_other}
use Rattle.stretches.specs.declared.Node.{Node}
use Rattle.stretches.specs.declared.Stretch.{Stretch}
use Rattle.stretches.specs.Stretch.{st, Fine}
use Rattle.stretches.specs.Front.{first_from}
use Rattle.stretches.specs.Table.{kind_at, first_at, second_at}
use Rattle.basics.proofs.Basics.{eq-or-ne}
use Rattle.seek.specs.declared.state.Kept.{Kept}
use Rattle.seek.specs.declared.state.Passed.{Passed}
use Rattle.seek.specs.declared.state.State.{State}
use Rattle.seek.specs.Source.{Source, Good}
use Rattle.seek.specs.First.{gone, front, no_kept, kept_at, held_of, not_passed, passed_at, no_state, first, Ended, Ready}
use Rattle.seek.specs.inner.Fronts.{past_of, Serves, put_at, pass_at}
use Rattle.seek.specs.inner.Looks.{Sought}
use Rattle.seek.specs.inner.Leaves.{Hinted, ListFound, RowFound}
use Rattle.seek.proofs.Looks.{past_is}
use Rattle.seek.proofs.Nodes.{fine, first_small, stays, row_list, lent-list, no-list}

-- ── What storing changes ──

put_other : (s : State) (v : ℕ) (f : Stretch) (t u : ℕ) → u ≢ v → kept_at (put_at s v f t) u ≡ kept_at s u
put_other s v f t u ne = rw get_or-set_other

module _ (s : State) (v : ℕ) (f : Stretch) (t : ℕ) (lt : v < length s.kept) where
  put_same : kept_at (put_at s v f t) v ≡ record { past = past_of f.start; end = f.end; asked = t; hint = (kept_at s v).hint }
  put_same = rw get_or-set_same

  put-held : f.start ≤ 65536 → held_of (kept_at (put_at s v f t) v) ≡ f
  put-held le = let z : past_of f.start - 1 ≡ f.start = omega (arith, past_is f.start le) in ap held_of put_same ∙ ap (λ (n : ℕ). st n f.end) z

ready-put : (src : Source) (rows : List Node) (s : State) (v : ℕ) (f : Stretch) (t : ℕ) → v < 32 → Good src rows → f ≡ front (first src rows v t) → Ready src rows s → Ready src rows (put_at s v f t)
ready-put src rows s v f t lv good e rdy = record {
  wide = ((simp length-set) ∙ rdy.wide.0, rdy.wide.1);
  holds = λ u lt live. ⊎_elim
      (λ (z : u ≡ v).
      let le : f.start ≤ 65536 = subst (λ (g : Stretch). g.start ≤ 65536) (sym e) (first_small src rows good v lv t) in
      let lw : v < length s.kept = omega (arith, rdy.wide.0) in
      subst (λ (w : ℕ). front (first src rows w (kept_at (put_at s v f t) w).asked) ≡ held_of (kept_at (put_at s v f t) w)) (sym z)
      (ap (λ (k : Kept). front (first src rows v k.asked)) (put_same s v f t lw) ∙ (sym e ∙ sym (put-held s v f t lw le))))
      (λ (o : (u < v) ⊎ (v < u)).
      let ne : u ≢ v = λ z. ⊎_elim (λ (h : u < v). omega arith) (λ (h : v < u). omega arith) o in
      subst (λ (k : Kept). 0 < k.past → front (first src rows u k.asked) ≡ held_of k) (sym (put_other s v f t u ne)) (rdy.holds u lt) live)
      (eq-or-ne u v);
  ended = rdy.ended;
}

-- what is kept of how far v was passed over
pass-other : (s : State) (v t e u : ℕ) → u ≢ v → passed_at (pass_at s v t e) u ≡ passed_at s u
pass-other s v t e u ne = rw get_or-set_other

pass-same : (s : State) (v t e : ℕ) → v < length s.passed → passed_at (pass_at s v t e) v ≡ record { to = t; end = e }
pass-same s v t e lt = rw get_or-set_same

pub ready-pass : (src : Source) (rows : List Node) (s : State) (v t e : ℕ) → v < 32 → Ended src rows v t e → Ready src rows s → Ready src rows (pass_at s v t e)
ready-pass src rows s v t e lv h rdy = record {
  wide = (rdy.wide.0, (simp length-set) ∙ rdy.wide.1);
  holds = rdy.holds;
  ended = λ u lt. ⊎_elim
      (λ (z : u ≡ v).
      let lw : v < length s.passed = omega (arith, rdy.wide.1) in
      subst (λ (w : ℕ). Ended src rows w (passed_at (pass_at s v t e) w).to (passed_at (pass_at s v t e) w).end) (sym z)
      (subst (λ (p : Passed). Ended src rows v p.to p.end) (sym (pass-same s v t e lw)) h))
      (λ (o : (u < v) ⊎ (v < u)).
      let ne : u ≢ v = λ z. ⊎_elim (λ (h : u < v). omega arith) (λ (h : v < u). omega arith) o in
      subst (λ (p : Passed). Ended src rows u p.to p.end) (sym (pass-other s v t e u ne)) (rdy.ended u lt))
      (eq-or-ne u v);
}

-- a state in which only hints changed
ready-hinted : (src : Source) (rows : List Node) (s s' : State) → Hinted s s' → Ready src rows s → Ready src rows s'
ready-hinted src rows s s' h rdy = record {
  wide = (h.wide ∙ rdy.wide.0, ap length h.passed ∙ rdy.wide.1);
  holds = λ v lt live.
      let k = h.same v in
      ap (λ (n : ℕ). front (first src rows v n)) k.asked
      ∙ (rdy.holds v lt (subst (λ (n : ℕ). 0 < n) k.past live) ∙ sym (ap₂ st (ap (λ (n : ℕ). n - 1) k.past) k.end));
  ended = λ v lt. subst (λ (l : List Passed). Ended src rows v (get_or l v not_passed).to (get_or l v not_passed).end) (sym h.passed) (rdy.ended v lt);
}

-- nothing is kept yet
pub ready-none : (src : Source) (rows : List Node) → Ready src rows no_state
ready-none src rows = record {
  wide = (length-replicate {A = Kept} 32 no_kept, length-replicate {A = Passed} 32 not_passed);
  holds = λ v lt live. absurd (omega (arith, ap (λ (k : Kept). k.past) (get_or-replicate {A = Kept} 32 v no_kept no_kept lt)));
  ended = λ v lt s f m h. absurd (omega (arith, ap (λ (p : Passed). p.to) (get_or-replicate {A = Passed} 32 v not_passed not_passed lt)));
}

-- ── seek and renew ──

-- what is kept serves
pub served : {src : Source} {rows : List Node} {s : State} {v t : ℕ} {r : Stretch} → v < 32 → Serves (kept_at s v) t → r ≡ held_of (kept_at s v) → Sought src rows s v t r s
served {src} {rows} {s} {v} {t} {r} lv w e = record {
  found = λ good rdy.
      let k = kept_at s v in
      let h : front (first src rows v k.asked) ≡ held_of k = rdy.holds v lv (omega (arith, w.live)) in
      let z : t ≤ (held_of k).start = omega (arith, w.live) in
      let g : front (first src rows v t) ≡ front (first src rows v k.asked) = stays src rows good v lv k.asked t w.asked (subst (λ (f : Stretch). t ≤ f.start) (sym h) z) in
      record { is = e ∙ (sym h ∙ sym g); ready = rdy };
}

-- what was found is stored
pub stored : {src : Source} {rows : List Node} {s s' s'' : State} {v t : ℕ} {r : Stretch} → v < 32 → Sought src rows s v t r s' → s'' ≡ put_at s' v r t → Sought src rows s v t r s''
stored {src} {rows} {s} {s'} {s''} {v} {t} {r} lv w e = record {
  found = λ good rdy. let f = w.found good rdy in record { is = f.is; ready = subst (Ready src rows) (sym e) (ready-put src rows s' v r t lv good f.is f.ready) };
}

-- ── fresh ──

pub by_row_lem : {src : Source} {rows : List Node} {s : State} {v t : ℕ} {r : Stretch} → v < 32 → kind_at rows v ≡ 16 → RowFound src.words (first_at rows v) (second_at rows v) t r → Sought src rows s v t r s
by_row_lem {src} {rows} {s} {v} {t} lv k f = record {
  found = λ good rdy.
      let z = row_list src rows v lv k in
      record { is = f.is (subst (Fine 65536) z (fine src rows good v lv)) ∙ ap (λ (l : List Stretch). front (first_from l t)) (sym z); ready = rdy };
}

pub by-list : {src : Source} {rows : List Node} {s s' : State} {v t : ℕ} {r : Stretch} → v < 32 → kind_at rows v ≡ 17 → ListFound src.items (first_at rows v) (second_at rows v) t s r s'
    → Sought src rows s v t r s'
by-list {src} {rows} {s} {s'} {v} {t} lv k f = record {
  found = λ good rdy.
      let z = lent-list src rows v lv k in
      record { is = f.is (subst (Fine 65536) z (fine src rows good v lv)).rising ∙ ap (λ (l : List Stretch). front (first_from l t)) (sym z); ready = ready-hinted src rows s s' f.hinted rdy };
}

-- a kind that no list and no operator has
pub by-none : {src : Source} {rows : List Node} {s : State} {v t : ℕ} {r : Stretch} → v < 32 → (kind_at rows v ≡ 0) ⊎ (9 < kind_at rows v) → (kind_at rows v ≡ 16 → ⊥) → (kind_at rows v ≡ 17 → ⊥) → r ≡ gone
    → Sought src rows s v t r s
by-none {src} {rows} {s} {v} {t} lv k a b e = record { found = λ good rdy. record { is = e ∙ ap (λ (l : List Stretch). front (first_from l t)) (sym (no-list src rows v lv k a b)); ready = rdy } }
