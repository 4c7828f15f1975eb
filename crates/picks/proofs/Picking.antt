-- Picks written one after another, and the call's returns. Assumes nothing.
use Prim.Native.Nat.{ℕ, zero, suc, ◌+◌, ◌*◌, ◌≤◌, ◌<◌, min}
use mathlib.Core.Path.{◌≡◌, refl, sym, ap, subst, subst₂, ◌∙◌}
use mathlib.Core.Logic.{◌⊎◌, inl, inr}
use mathlib.Core.Bool.{Bool, true, false, not, cond, ◌&&◌}
use mathlib.Core.List.{List, [], ◌∷◌, ◌++◌}
use lib.ListN.{length, set, take, drop, length-take, length-drop}
use lib.Seq.{take_at}
use lib.Dec.{leb, eqb}
use borrow.Author.Tests.{le-leb, lt-leb, eqb-true, eq-eqb}
use native.Mathlib.Omega.{arith}
use Rattle.basics.proofs.Basics.{cases, true-and, le-or-lt}
use Rattle.stretches.specs.declared.Stretch.{Stretch}
use Rattle.stretches.specs.Stretch.{In}
use Rattle.stretches.specs.Front.{Front, None, Some, head_of, nth}
use Rattle.stretches.specs.Filling.{flat, pairs_in, written, filled}
use Rattle.stretches.specs.Lent.{pairs}
use Rattle.stretches.proofs.Filling.{length-flat, pairs-flat, Partly, partly_more, partly-done, partly-all}
use Rattle.meaning.specs.Meaning.{table_in}
use Rattle.meaning.specs.Refusals.{Signal, refused, accepted, bad_count, refusal, pick_refusal}
use Rattle.meaning.specs.Finding.{list_of}
use Rattle.std.specs.Prelude.{Ok, Err}
use Rattle.meaning.specs.declared.Refusal.{Refusal}
use Rattle.meaning.specs.declared.Refusal.TheVariants.{BadCount}
use Rattle.meaning.specs.Replies.{number_of, place_of, Reply, reply}
use Rattle.meaning.proofs.Replies.{number_some}
use Rattle.stretches.specs.declared.Node.{Node}
use Rattle.meaning.proofs.Finding.{accepted-number, pick-as, pick-count, pick-accepted}
use Rattle.acceptance.specs.Readied.{rows_in}
use Rattle.acceptance.proofs.Reading.{table-list}
use Rattle.seek.specs.Source.{Source, list_over, Good}
use Rattle.picks.specs.Picking.{picks_in, picking}
use Rattle.picks.specs.Picks.{picks_of}
use Rattle.picks.specs.inner.Remaining.{remaining, shortest_of}
use Rattle.picks.specs.inner.Passes.{held_in, Lying, Wrote}
use Rattle.picks.proofs.Laws.{picks-answers, pick-number, picks-take, picks-most, picks-few, few-none}
use Rattle.picks.proofs.Passes.{answers-lie}

module _ (src : Source) (rows : List Node) (good : Good src rows) (k : ℕ) (cells₀ : List ℕ) where
  abbrev l : List Stretch
  l = list_over src rows 0

  abbrev all : List Stretch
  all = picks_of k l

  lying : Lying l
  lying = answers-lie src rows good

  module _ (cells : List ℕ) (n : ℕ) (few : n ≤ k) (p : Partly all n cells₀ cells) where
    held : held_in cells n ≡ picks_of n l
    held =
        let w : length (flat (take n all)) ≡ 2 * n = length-flat (take n all) ∙ omega (arith, length-take n all, p.some) in
        ap (λ (c : List ℕ). pairs (take (2 * n) c)) p.wrote
        ∙ (ap pairs (take_at (flat (take n all)) (drop (2 * n) cells₀) (2 * n) w) ∙ (pairs-flat (take n all) ∙ picks-take n k l few))

    pub pick-lying : Lying (held_in cells n)
    pick-lying s e m = lying s e (picks-answers n l s e (subst (In s e) held m))

    -- where these are all
    done : written all 0 cells₀ ≡ take n all → Wrote k l cells₀ n cells
    done e = partly-done all n cells₀ cells p e

    module _ (room : 2 * n ≤ length cells₀) where
      -- all that were asked for, or as many as whole pairs fit
      pub pick_end : min k (pairs_in cells₀) ≤ n → Wrote k l cells₀ n cells
      pick_end h = go (le-or-lt k n)
        where
          go : (k ≤ n) ⊎ (n < k) → Wrote k l cells₀ n cells
          go (inl i) = done (partly-all all n cells₀ (omega (arith, picks-most k l)) room)
          go (inr i) = let z : pairs_in cells₀ ≡ n = omega arith in done (ap (λ (j : ℕ). take j all) z)

      -- the next
      module _ (more : n < k) (r : Front) (e : r ≡ shortest_of (remaining (held_in cells n) l)) where
        number : nth all n ≡ shortest_of (remaining (picks_of n l) l)
        number = pick-number n k l more

        shown : r ≡ nth all n
        shown = e ∙ (ap (λ (ps : List Stretch). shortest_of (remaining ps l)) held ∙ sym number)

        pub pick-none : r ≡ None → Wrote k l cells₀ n cells
        pick-none h = done (partly-all all n cells₀ (go (drop n all) refl) room)
          where
            go : (d : List Stretch) → drop n all ≡ d → length all ≤ n
            go [] i = omega (arith, length-drop n all, ap length i)
            go (x ∷ d) i = let z : r ≡ Some x = shown ∙ ap head_of i in absurd cc

        pub pick_some : {x : Stretch} → r ≡ Some x → 2 * n + 2 ≤ length cells₀ → Partly all (n + 1) cells₀ (set (set cells (2 * n) x.start) (2 * n + 1) x.end)
        pick_some {x} h fits = go (drop n all) refl
          where
            go : (d : List Stretch) → drop n all ≡ d → Partly all (n + 1) cells₀ (set (set cells (2 * n) x.start) (2 * n + 1) x.end)
            go [] i = let z : r ≡ None = shown ∙ ap head_of i in absurd cc
            go (y ∷ d) i =
                let z : r ≡ Some y = shown ∙ ap head_of i in
                let same : y ≡ x = cc in
                partly_more all n cells₀ cells p x d (i ∙ ap (λ (w : Stretch). w ∷ d) same) fits

-- ── The call ──

-- a number of picks outside 1 to 16
pub count-low : (k : ℕ) → k < 1 → bad_count k ≡ true
count-low k h = ap (λ b. not (b && leb k 16)) (lt-leb 1 k h)

pub count-high : (k : ℕ) → 16 < k → bad_count k ≡ true
count-high k h = ap (λ b. not (leb 1 k && b)) (lt-leb k 16 h) ∙ cases (leb 1 k) (λ b. not (b && false) ≡ true) (λ e. refl) (λ e. refl)

-- and within
count-right : (k : ℕ) → 1 ≤ k → k ≤ 16 → bad_count k ≡ false
count-right k h i = ap not (true-and (leb 1 k) (leb k 16) (le-leb 1 k h) (le-leb k 16 i))

-- over another list and cells that are the same
pub wrote_in : (k : ℕ) {l l' : List Stretch} {old new cells cells' : List ℕ} {n : ℕ} → l ≡ l' → old ≡ cells → new ≡ cells' → Wrote k l old n new → Wrote k l' cells n cells'
wrote_in k {l} {l'} {old} {new} {cells} {cells'} {n} e a b g =
    subst (λ (x : List Stretch). Wrote k x cells n cells') e (subst₂ (λ (x y : List ℕ). Wrote k l x n y) a b g)

module _ (text log : List ℕ) (k : ℕ) (cells : List ℕ) where
  abbrev Gives : ℕ → ℕ → ℕ → List ℕ → Type 0
  Gives number place n cells' = (◌≡◌ {A = Reply} (record { number = number; place = place; count = n }) (picking text log k cells)) × (cells' ≡ filled (picks_in text log k) 0 cells)

  -- a refused call writes nothing
  refused-call : (x : Signal) → pick_refusal text log k ≡ x → eqb x.number 0 ≡ false → Gives x.number x.place 0 cells
  unfolding picks_in
  refused-call x e n = (
    λ i. record { number = (sym e i).number; place = (sym e i).place; count = sym (ap length nothing) i },
    sym (ap (λ (w : List Stretch). flat w ++ drop (2 * length w) cells) nothing),
  )
    where
      empty : picks_in text log k ≡ []
      empty = ap (λ b. cond b (picks_of k (list_of text log)) []) (ap (λ (y : Signal). eqb y.number 0) e ∙ n)

      none : (j : ℕ) → ◌≡◌ {A = List Stretch} (take j []) []
      none zero = refl
      none (suc j) = refl

      nothing : written (picks_in text log k) 0 cells ≡ []
      nothing = ap (take (pairs_in cells)) empty ∙ none (pairs_in cells)

  pub pick-refused : (e : Refusal) → refused (number_of e) (place_of e) ≡ refusal text log → (reply (Err e) ≡ picking text log k cells) × (cells ≡ filled (picks_in text log k) 0 cells)
  pick-refused e is =
      refused-call (refused (number_of e) (place_of e)) (pick-as text log k (ap (λ (x : Signal). eqb x.number 0) (sym is) ∙ number_some e) ∙ sym is) (number_some e)

  module _ (is : accepted ≡ refusal text log) where
    given : eqb (refusal text log).number 0 ≡ true
    given = ap (λ (x : Signal). eqb x.number 0) (sym is)

    pub pick-miscounted : bad_count k ≡ true → (reply (Err BadCount) ≡ picking text log k cells) × (cells ≡ filled (picks_in text log k) 0 cells)
    pick-miscounted bad = refused-call (refused 10 0) (pick-count text log k true given bad) refl

    -- the log is not too long
    pub pick-brief : length log ≤ 61440
    pick-brief = (accepted-number text log (ap (λ (x : Signal). x.number) (sym is))).brief

    pub pick-done : 1 ≤ k → k ≤ 16 → (rows : List Node) → rows ≡ rows_in text log → (count : ℕ) (cells' : List ℕ) → Wrote k (table_in rows log) cells count cells'
        → (reply (Ok count) ≡ picking text log k cells) × (cells' ≡ filled (picks_in text log k) 0 cells)
    unfolding picks_in
    pick-done h i rows e count cells' g =
        let a : pick_refusal text log k ≡ accepted = pick-count text log k false given (count-right k h i) in
        let l : table_in rows log ≡ list_of text log = ap (λ (x : List Node). table_in x log) e ∙ table-list text log (ap (λ (x : Signal). x.number) (sym is)) in
        let ps : picks_of k (table_in rows log) ≡ picks_in text log k =
        ap (picks_of k) l ∙ sym (ap (λ (y : Signal). cond (eqb y.number 0) (picks_of k (list_of text log)) []) a) in
        let w : written (picks_of k (table_in rows log)) 0 cells ≡ written (picks_in text log k) 0 cells = ap (λ (x : List Stretch). written x 0 cells) ps in
        ((λ i. record { number = (sym a i).number; place = (sym a i).place; count = (g.0 ∙ ap length w) i }), g.1 ∙ ap (λ (x : List Stretch). filled x 0 cells) ps)

-- ── What the call has written ──

module _ (text log : List ℕ) (k : ℕ) (cells : List ℕ) where
  -- never more than 16
  pub picked-few : (picking text log k cells).count ≤ 16
  unfolding picks_in
  picked-few = go (eqb (pick_refusal text log k).number 0) refl
    where
      go : (b : Bool) → eqb (pick_refusal text log k).number 0 ≡ b → length (written (cond b (picks_of k (list_of text log)) []) 0 cells) ≤ 16
      go true i =
          let a = pick-accepted text log k (eqb-true (pick_refusal text log k).number 0 i) in
          omega (arith, length-take (pairs_in cells) (picks_of k (list_of text log)), picks-most k (list_of text log), a.2)
      go false i = omega (arith, length-take {A = Stretch} (pairs_in cells) [])

-- of an accepted call: fewer than k come exactly if, before the k-th, no answer remains or no whole pair of cells is left
module _ (text log : List ℕ) (m : ℕ) (cells : List ℕ) (ok : (pick_refusal text log (suc m)).number ≡ 0) where
  abbrev answers : List Stretch
  answers = list_of text log

  came : (picking text log (suc m) cells).count ≡ length (take (pairs_in cells) (picks_of (suc m) answers))
  unfolding picks_in
  came = ap (λ b. length (take (pairs_in cells) (cond b (picks_of (suc m) answers) []))) (eq-eqb (pick_refusal text log (suc m)).number 0 ok)

  pub fewer-only : (picking text log (suc m) cells).count < suc m → (remaining (picks_of m answers) answers ≡ []) ⊎ (pairs_in cells < suc m)
  fewer-only h = go (le-or-lt (suc m) (pairs_in cells))
    where
      go : (suc m ≤ pairs_in cells) ⊎ (pairs_in cells < suc m) → (remaining (picks_of m answers) answers ≡ []) ⊎ (pairs_in cells < suc m)
      go (inl i) = inl (few-none m answers (omega (arith, came, length-take (pairs_in cells) (picks_of (suc m) answers))))
      go (inr i) = inr i

  pub fewer-there : (remaining (picks_of m answers) answers ≡ []) ⊎ (pairs_in cells < suc m) → (picking text log (suc m) cells).count < suc m
  fewer-there (inl e) = omega (arith, came, length-take (pairs_in cells) (picks_of (suc m) answers), picks-few m answers e)
  fewer-there (inr i) = omega (arith, came, length-take (pairs_in cells) (picks_of (suc m) answers))
