-- The loop over the steps: before step n the cells hold the list's first n stretches. Assumes nothing.
use Prim.Native.Nat.{ℕ, suc, ◌+◌, ◌*◌, ◌≤◌}
use mathlib.Core.Path.{◌≡◌, refl, sym, ap, ◌∙◌}
use mathlib.Core.List.{List, []}
use lib.ListN.{length, set, take, drop, length-drop, length-set}
use native.Mathlib.Omega.{arith}
use Rattle.stretches.specs.declared.Stretch.{Stretch}
use Rattle.stretches.specs.Filling.{pairs_in, written, filled}
use Rattle.stretches.proofs.Filling.{Partly, partly_more, partly-done, partly-all}
use Rattle.meaning.specs.Finding.{list_of}
use Rattle.finder.specs.declared.Finder.{Finder}
use Rattle.finder.specs.declared.Stepped.{Stepped}
use Rattle.finder.specs.declared.Opened.{Opened}
use Rattle.finder.specs.Promises.{OpenReply, open_reply}
use Rattle.std.specs.Prelude.{Some, None}
use Rattle.finder.specs.Promises.{opened, stepped}
use Rattle.finder.specs.Whole.{after}
use Rattle.finder.proofs.Stepping.{step-answer}
use Rattle.finder.proofs.Whole.{rest-none, rest_some}

pub record Takes (pattern log cells₀ cells : List ℕ) (f : Finder) (n : ℕ) : Type 0 where
  pub finder : f ≡ after pattern log n
  pub partly : Partly (list_of pattern log) n cells₀ cells
  pub wide : length cells ≡ length cells₀

pub takes-start : (pattern log cells : List ℕ) (o : Opened) → open_reply o ≡ opened pattern log → Takes pattern log cells cells o.finder 0
unfolding after
takes-start pattern log cells o e = record { finder = ap (λ (x : OpenReply). x.finder) e; partly = record { some = omega arith; wrote = refl }; wide = refl }

module _ (pattern log cells₀ cells : List ℕ) (f : Finder) (n : ℕ) (c : Takes pattern log cells₀ cells f n) where
  abbrev l : List Stretch
  l = list_of pattern log

  pub takes-full : pairs_in cells₀ ≤ n → 2 * n ≤ length cells₀ → (n ≡ length (written l 0 cells₀)) × (cells ≡ filled l 0 cells₀)
  takes-full h i = let z : pairs_in cells₀ ≡ n = omega arith in partly-done l n cells₀ cells c.partly (ap (λ (k : ℕ). take k l) z)

  module _ (r : Stepped) (e : r ≡ stepped f log) where
    answered : r.answer ≡ Rattle.stretches.specs.Front.nth l n
    answered = ap (λ (x : Stepped). x.answer) (e ∙ ap (λ (g : Finder). stepped g log) c.finder) ∙ step-answer pattern log n

    pub takes_none : r.answer ≡ None → 2 * n ≤ length cells₀ → (n ≡ length (written l 0 cells₀)) × (cells ≡ filled l 0 cells₀)
    takes_none k h =
        let z : drop n l ≡ [] = rest-none l n (sym answered ∙ k) in
        partly-done l n cells₀ cells c.partly (partly-all l n cells₀ (omega (arith, length-drop n l, ap length z)) h)

    pub takes-more : (x : Stretch) → r.answer ≡ Some x → 2 * n + 2 ≤ length cells₀ → Takes pattern log cells₀ (set (set cells (2 * n) x.start) (2 * n + 1) x.end) r.finder (n + 1)
    unfolding after
    takes-more x k h =
        let z : suc n ≡ n + 1 = omega arith in
        record {
          finder = ap (λ (x : Stepped). x.finder) (e ∙ ap (λ (g : Finder). stepped g log) c.finder) ∙ ap (after pattern log) z;
          partly = partly_more l n cells₀ cells c.partly x (drop (suc n) l) (rest_some l n x (sym answered ∙ k)) h;
          wide = length-set (set cells (2 * n) x.start) (2 * n + 1) x.end ∙ length-set cells (2 * n) x.start ∙ c.wide;
        }
