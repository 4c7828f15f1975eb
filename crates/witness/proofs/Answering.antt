-- What is shown of the answer that was asked for, and the call's returns. Assumes nothing.
use Prim.Native.Nat.{ℕ, ◌*◌, ◌≤◌}
use mathlib.Core.Path.{◌≡◌, refl, sym, ap, ap₂, subst, subst₂, ◌∙◌}
use mathlib.Core.List.{List, [], ◌∷◌, ◌++◌}
use native.Mathlib.Omega.{arith}
use lib.ListN.{length, get_or, take, drop}
use Rattle.stretches.specs.declared.Node.{Node}
use Rattle.stretches.specs.declared.Stretch.{Stretch}
use Rattle.stretches.specs.Stretch.{st}
use Rattle.stretches.specs.Front.{Front, None, Some, head_of, nth}
use Rattle.stretches.specs.Filling.{flat}
use Rattle.stretches.proofs.Steps.{onward-all}
use Rattle.stretches.proofs.Taking.{nth_in}
use Rattle.records.specs.declared.Line.{Line}
use Rattle.records.specs.Line.{says}
use Rattle.pattern.specs.Pattern.{Pattern}
use Rattle.pattern.specs.Rows.{Tree}
use Rattle.meaning.specs.Meaning.{answers_of}
use Rattle.meaning.specs.Refusals.{Signal, refused, accepted, refusal}
use Rattle.meaning.specs.Shown.{Shown, of_front, shown}
use Rattle.std.specs.Prelude.{Ok, Err}
use Rattle.meaning.specs.declared.Refusal.{Refusal}
use Rattle.meaning.specs.Replies.{number_of, place_of, reply}
use Rattle.meaning.proofs.Replies.{some_number}
use Rattle.plan.specs.Marks.{Marks}
use Rattle.seek.specs.declared.Searched.{Searched}
use Rattle.meaning.proofs.Table.{tree-list}
use Rattle.acceptance.specs.Readied.{rows_in}
use Rattle.acceptance.proofs.Reading.{accepted-tree}
use Rattle.seek.specs.Source.{Source, source_of, list_over, Good}
use Rattle.seek.proofs.Nodes.{fine}
use Rattle.walk.specs.declared.Walked.{Walked}
use Rattle.walk.specs.Filling.{Filling, FillAll}
use Rattle.witness.specs.Witness.{shown_in, written_shown, filled_shown, witnessing}
use Rattle.witness.specs.inner.Showing.{Held, Stands, ShownAt, AnswerShown, TableShown}
use Rattle.witness.proofs.Triples.{held_none}
use Rattle.witness.proofs.Laws.{shown-refused, shown-accepted}

-- ── One pair of cells has the answer that was asked for ──

module _ (l : List Stretch) (k : ℕ) (w : Walked) (pair : List ℕ) (f : Filling l k (0 ∷ 0 ∷ []) w pair) where
  -- there is none
  pair-none : w.count ≡ 0 → nth l k ≡ None
  pair-none e = go (drop k l) refl
    where
      go : (m : List Stretch) → drop k l ≡ m → head_of m ≡ None
      go [] h = refl
      go (x ∷ m) h = absurd (omega (arith, f.count, ap (λ (m : List Stretch). length (take 1 m)) h))

  -- there is one
  pair-some : (w.count ≡ 0 → ⊥) → nth l k ≡ Some (st (get_or pair 0 0) (get_or pair 1 0))
  pair-some n = go (drop k l) refl
    where
      go : (m : List Stretch) → drop k l ≡ m → head_of m ≡ Some (st (get_or pair 0 0) (get_or pair 1 0))
      go [] h = absurd (n (f.count ∙ ap (λ (m : List Stretch). length (take 1 m)) h))
      go (x ∷ m) h =
          let e = f.wrote ∙ ap (λ (m : List Stretch). flat (take 1 m) ++ drop (2 * length (take 1 m)) (0 ∷ 0 ∷ [])) h in
          ap₂ (λ (s t : ℕ). Some (st s t)) (sym (ap (λ (c : List ℕ). get_or c 0 0) e)) (sym (ap (λ (c : List ℕ). get_or c 1 0) e))

module _ (src : Source) (table rows : List Node) (good : Good src table) (k : ℕ) (w : Walked) (pair : List ℕ) (f : FillAll src table 0 k (0 ∷ 0 ∷ []) w pair) where
  -- the list's answers
  of-list : (l : List Stretch) → list_over src table 0 ≡ l → Filling l k (0 ∷ 0 ∷ []) w pair
  of-list l e =
      subst (λ (l : List Stretch). Filling l k (0 ∷ 0 ∷ []) w pair) (onward-all (list_over src table 0) (fine src table good 0 (omega arith)).rising ∙ e) (f.fills good)

  module _ (ls : List Line) (p : Pattern) (stands : Stands src table rows ls 0 p) where
    of-pattern : Filling (answers_of p ls) k (0 ∷ 0 ∷ []) w pair
    of-pattern = of-list (answers_of p ls) (stands.lists 0 ∙ tree-list rows ls 0 p stands.tree stands.fits)

  -- there is no such answer
  pub answer-none : (cells : List ℕ) → w.count ≡ 0 → AnswerShown src table rows k cells 0 cells
  answer-none cells e = record {
    holds = λ ls p stands. subst (λ (g : Front). Held (of_front g (shown p ls)) cells 0 cells) (sym (pair-none (answers_of p ls) k w pair (of-pattern ls p stands) e)) (held_none cells);
  }

  -- there is one
  pub answer-some : {cells cells' : List ℕ} {n : ℕ} → (w.count ≡ 0 → ⊥) → ShownAt src table rows 0 (st (get_or pair 0 0) (get_or pair 1 0)) 0 cells n cells' → AnswerShown src table rows k cells n cells'
  answer-some {cells} {cells'} {n} some s = record {
    holds = λ ls p stands.
        let e = pair-some (answers_of p ls) k w pair (of-pattern ls p stands) some in
        subst (λ (g : Front). Held (of_front g (shown p ls)) cells n cells') (sym e)
        (s.grows ls p stands (nth_in (answers_of p ls) k (st (get_or pair 0 0) (get_or pair 1 0)) e) [] cells (held_none cells));
  }

-- ── Over the marks of a log ──

-- by the pattern's table, over other cells that are the same
pub marks-shown : {rows : List Node} {log : List ℕ} {s : Searched} {k : ℕ} {old new cells : List ℕ} {n : ℕ} {cells' : List ℕ}
    → Marks rows log s → AnswerShown (source_of s) s.rows.now rows k old n new → old ≡ cells → new ≡ cells' → TableShown rows log k cells n cells'
marks-shown {log = log} {k = k} {n = n} m a e h = record {
  holds = λ p tree few. subst₂ (λ (x y : List ℕ). Held (of_front (nth (answers_of p (says log)) k) (shown p (says log))) x n y) e h (a.holds (says log) p (record { tree = tree; fits = omega arith; lists = m.lists }));
}

-- ── The call ──

module _ (text log : List ℕ) (k : ℕ) (cells : List ℕ) where
  -- what was written, once it is known what is shown
  written_as : {n : ℕ} {cells' : List ℕ} (d : List Shown) → shown_in text log k ≡ d → Held d cells n cells' → (n ≡ length (written_shown (shown_in text log k) cells)) × (cells' ≡ filled_shown (shown_in text log k) cells)
  written_as {n} {cells'} d z h = subst (λ (l : List Shown). Held l cells n cells') (sym z) h

  pub show-refused : (e : Refusal) → refused (number_of e) (place_of e) ≡ refusal text log → (reply (Err e) ≡ witnessing text log k cells) × (cells ≡ filled_shown (shown_in text log k) cells)
  show-refused e is =
      let h = written_as [] (shown-refused text log k (omega (arith, some_number e, ap (λ (x : Signal). x.number) is))) (held_none cells) in
      (λ i. record { number = (is i).number; place = (is i).place; count = h.0 i }, h.1)

  module _ (is : accepted ≡ refusal text log) where
    zero_number : (refusal text log).number ≡ 0
    zero_number = ap (λ (x : Signal). x.number) (sym is)

    pub show-brief : length log ≤ 61440
    show-brief = (accepted-tree text log zero_number).brief

    pub show-done : (rows : List Node) → rows ≡ rows_in text log → {n : ℕ} {cells' : List ℕ} → TableShown rows log k cells n cells'
        → (reply (Ok n) ≡ witnessing text log k cells) × (cells' ≡ filled_shown (shown_in text log k) cells)
    show-done rows e {n} {cells'} t =
        let a = accepted-tree text log zero_number in
        let h = written_as (of_front (nth (answers_of a.tree (says log)) k) (shown a.tree (says log))) (shown-accepted text log k a.tree a.reads a.list)
        (t.holds a.tree (subst (λ (r : List Node). Tree r 0 a.tree) (sym e) a.stands) a.few) in
        (λ i. record { number = (is i).number; place = (is i).place; count = h.0 i }, h.1)
