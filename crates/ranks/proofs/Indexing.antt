-- The turns of `index`: the counts of the first k words are written, and n marks are before word k. Assumes nothing.
use Rattle.std.proofs.Common.{◌≡◌, ℕ, suc, ◌+◌, ◌*◌, ◌≤◌, ◌<◌, List, [], ◌∷◌, ◌++◌, length, get_or, take, drop, set, refl, sym, ap, ap₂, ◌∙◌, arith}
use Rattle.std.proofs.lemmas.List.{drop-drop}
use lib.Seq.{length-take-le, take_all, take-suc, drop-cons, set_at, append_snoc}
use Rattle.marks.specs.Row.{bits, flags, trues}
use Rattle.marks.proofs.Counts.{trues-none, trues-more}
use Rattle.ranks.specs.Rank.{half, before, indexed}
use Rattle.ranks.proofs.Before.{length_before, before-word}

-- ws: the row; of the counts the first k are written
pub record Indexing (ws counts₀ counts : List ℕ) (k n : ℕ) : Type 0 where
  pub room : length ws ≤ length counts₀
  pub few : n ≤ 64 * k
  pub sum : n ≡ trues (flags (take k ws))
  pub done : counts ≡ take k (before 0 ws) ++ drop k counts₀

pub begin : (ws counts : List ℕ) → length ws ≤ length counts → Indexing ws counts counts 0 0
begin ws counts h = record { room = h; few = omega arith; sum = sym trues-none; done = refl }

module _ (ws counts₀ counts : List ℕ) (k n : ℕ) (c : Indexing ws counts₀ counts k n) where
  written : k < length ws → set counts k n ≡ take (suc k) (before 0 ws) ++ drop (suc k) counts₀
  written l =
      let bs = before 0 ws in
      let front : length (take k bs) ≡ k = length-take-le k bs (omega (arith, length_before 0 ws)) in
      let here : get_or bs k 0 ≡ n = before-word 0 ws k l ∙ omega (arith, c.sum) in
      ap (λ (l : List ℕ). set l k n) (c.done ∙ ap (λ (l : List ℕ). take k bs ++ l) (drop-cons counts₀ k 0 (omega (arith, c.room))))
      ∙ set_at (take k bs) (get_or counts₀ k 0) (drop (suc k) counts₀) n k front
      ∙ sym (append_snoc (take k bs) n (drop (suc k) counts₀))
      ∙ ap (λ (l : List ℕ). l ++ drop (suc k) counts₀) (ap (λ (x : ℕ). take k bs ++ (x ∷ [])) (sym here) ∙ sym (take-suc bs k 0 (omega (arith, length_before 0 ws))))

  pub turn : (m : ℕ) → m ≡ trues (bits 64 (get_or ws k 0)) → m ≤ 64 → k < length ws → Indexing ws counts₀ (set counts k n) (k + 1) (n + m)
  turn m e f l =
      let z : suc k ≡ k + 1 = omega arith in
      record {
        room = c.room;
        few = omega (arith, c.few);
        sum = ap₂ (λ (x y : ℕ). x + y) c.sum e ∙ sym (trues-more ws k l) ∙ ap (λ (x : ℕ). trues (flags (take x ws))) z;
        done = written l ∙ ap (λ (x : ℕ). take x (before 0 ws) ++ drop x counts₀) z;
      }

pub finish : (words ws counts₀ counts : List ℕ) (h k n : ℕ) → h ≡ half (length words) → ws ≡ take h words → counts₀ ≡ drop h words → length ws ≡ h → k ≡ h
    → Indexing ws counts₀ counts k n → ws ++ counts ≡ indexed words
unfolding indexed
finish words ws counts₀ counts h k n e f g l m c =
    ap (λ (v : List ℕ). ws ++ v) (c.done ∙ ap (λ (x : ℕ). take x (before 0 ws) ++ drop x counts₀) m
    ∙ ap₂ (λ (x y : List ℕ). x ++ y) (take_all h (before 0 ws) (omega (arith, length_before 0 ws))) (ap (drop h) g ∙ drop-drop h h words))
    ∙ ap (λ (v : List ℕ). v ++ (before 0 v ++ drop (h + h) words)) f
    ∙ ap (λ (x : ℕ). take x words ++ (before 0 (take x words) ++ drop (x + x) words)) e
