-- What is shown of an answer explains it; it fits into 96 cells; and past the last answer nothing is shown. Assumes nothing.
use Prim.Native.Nat.{ℕ, ◌≤◌, ◌<◌}
use mathlib.Core.Path.{◌≡◌, refl, sym, ap, ap₂, subst, ◌∙◌}
use mathlib.Core.Logic.{◌⊎◌, inl, inr}
use mathlib.Core.List.{List, [], ◌∷◌}
use native.Mathlib.Omega.{arith}
use lib.ListN.{length, length-take}
use lib.Seq.{take_all}
use Rattle.basics.proofs.Basics.{le-or-lt}
use Rattle.stretches.specs.declared.Stretch.{Stretch}
use Rattle.stretches.specs.Front.{Front, None, Some, nth}
use Rattle.stretches.proofs.Taking.{nth_in, nth_past}
use Rattle.records.specs.Line.{says}
use Rattle.pattern.specs.Pattern.{Pattern}
use Rattle.pattern.specs.Reading.{Outcome, Accepts, Refuses, outcome_of}
use Rattle.pattern.proofs.Outcomes.{accepts-spells}
use Rattle.meaning.specs.Meaning.{answers_in}
use Rattle.meaning.specs.Refusals.{refusal}
use Rattle.meaning.specs.Finding.{list_of}
use Rattle.meaning.specs.Shown.{Shown, of_front, shown, stretch_at, Explains}
use Rattle.meaning.proofs.Finding.{refused-list}
use Rattle.meaning.proofs.Shown.{shown-few, shown-explains}
use Rattle.acceptance.proofs.Reading.{accepted-tree}
use Rattle.witness.specs.Witness.{shown_by, shown_in, triples_in, written_shown}

module _ (text log : List ℕ) (k : ℕ) where
  -- no more than a pattern has nodes
  pub shown-most : length (shown_in text log k) ≤ 32
  unfolding shown_in
  shown-most = go (outcome_of text) refl (nth (list_of text log) k)
    where
      go : (o : Outcome) → outcome_of text ≡ o → (g : Front) → length (shown_by o log g) ≤ 32
      go (Accepts p) e None = omega arith
      go (Accepts p) e (Some x) = omega (arith, shown-few p (says log) x, (accepts-spells text p e).few)
      go (Refuses n q) e g = omega arith

  -- three cells for each of 32 nodes are enough
  pub shown-all : (cells : List ℕ) → 96 ≤ length cells → written_shown (shown_in text log k) cells ≡ shown_in text log k
  shown-all cells h = take_all (triples_in cells) (shown_in text log k) (omega (arith, shown-most))

  -- past the last answer nothing is shown
  pub shown-past : length (list_of text log) ≤ k → shown_in text log k ≡ []
  unfolding shown_in
  shown-past h = ap (shown_by (outcome_of text) log) (nth_past (list_of text log) k h) ∙ go (outcome_of text)
    where
      go : (o : Outcome) → shown_by o log None ≡ []
      go (Accepts p) = refl
      go (Refuses n q) = refl

  -- of a refused call nothing is shown
  pub shown-refused : 1 ≤ (refusal text log).number → shown_in text log k ≡ []
  shown-refused h = shown-past (omega (arith, ap length (refused-list text log (refusal text log) refl h)))

  -- of an accepted one what the pattern shows
  pub shown-accepted : (p : Pattern) → outcome_of text ≡ Accepts p → list_of text log ≡ answers_in p log → shown_in text log k ≡ of_front (nth (answers_in p log) k) (shown p (says log))
  unfolding shown_in
  shown-accepted p reads list = ap₂ (λ (o : Outcome) (l : List Stretch). shown_by o log (nth l k)) reads list

  -- every answer has a list that explains it
  pub record Explained (x : Stretch) : Type 0 where
    pub tree : Pattern
    pub reads : outcome_of text ≡ Accepts tree
    pub explains : Explains tree (says log) x (shown_in text log k)

  pub shown-explained : (x : Stretch) → nth (list_of text log) k ≡ Some x → Explained x
  shown-explained x e = go (le-or-lt 1 (refusal text log).number)
    where
      go : (1 ≤ (refusal text log).number) ⊎ ((refusal text log).number < 1) → Explained x
      go (inl h) =
          let z : None ≡ Some x = sym (nth_past (list_of text log) k (omega (arith, ap length (refused-list text log (refusal text log) refl h)))) ∙ e in
          let y : ◌≡◌ {A = ℕ} 0 1 = cc in
          absurd (omega arith)
      go (inr h) =
          let a = accepted-tree text log (omega arith) in
          let n : nth (answers_in a.tree log) k ≡ Some x = ap (λ (l : List Stretch). nth l k) (sym a.list) ∙ e in
          record {
            tree = a.tree;
            reads = a.reads;
            explains = subst (Explains a.tree (says log) x) (sym (shown-accepted a.tree a.reads a.list ∙ ap (λ (g : Front). of_front g (shown a.tree (says log))) n))
                (shown-explains a.tree (says log) x (nth_in (answers_in a.tree log) k x n));
          }

  -- where a whole triple fits, nothing written says that there is no such answer
  pub written_none : (cells : List ℕ) → 3 ≤ length cells → length (written_shown (shown_in text log k) cells) ≡ 0 → nth (list_of text log) k ≡ None
  written_none cells room e = go (nth (list_of text log) k) refl
    where
      first : (l : List Shown) (x : Stretch) → stretch_at l 0 ≡ Some x → 1 ≤ length l
      first [] x h = let y : ◌≡◌ {A = ℕ} 0 1 = cc in absurd (omega arith)
      first (z ∷ l) x h = omega arith

      go : (g : Front) → nth (list_of text log) k ≡ g → g ≡ None
      go None h = refl
      go (Some x) h = absurd (omega (arith, length-take (triples_in cells) (shown_in text log k), first (shown_in text log k) x (shown-explained x h).explains.whole))
