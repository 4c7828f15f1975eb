-- Laws of a pattern's list, by its tree: it rises, is sound and lies below the lines; and the undamaged run, for patterns without `in` and `out` over lists of lines.
-- Each is the operators' law, taken through the tree. Assumes nothing.
use Prim.Native.Nat.{ℕ, suc, ◌+◌, ◌≤◌, ◌<◌}
use mathlib.Core.Path.{◌≡◌, sym, ap, subst, subst₂, ◌∙◌}
use mathlib.Core.Bool.{Bool, false}
use mathlib.Core.List.{List, ◌++◌, map, map-append}
use lib.ListN.{length, take, drop, length-map}
use lib.Seq.{take-append-add, drop-append-add, take-append-le}
use native.Mathlib.Omega.{arith}
use Rattle.stretches.specs.declared.Stretch.{Stretch}
use Rattle.stretches.specs.Stretch.{st, Fine, marks}
use Rattle.stretches.specs.Run.{in_run}
use Rattle.stretches.specs.Operators.{apply}
use Rattle.stretches.specs.Table.{holder_kind}
use Rattle.stretches.specs.Stretch as op
use Rattle.stretches.proofs.Fine.{AllFine, all_none, all_more, fine-apply, fine-marks}
use Rattle.stretches.proofs.Incomparable.{fine-few}
use Rattle.stretches.proofs.Window.{Window, Windows, or-alike, and_alike, row-alike, then-alike, less-alike, max-alike, has-alike, local}
use Rattle.stretches.proofs.InRun.{window-cut}
use Rattle.stretches.proofs.Marks.{window-marks}
use Rattle.records.specs.declared.Line.{Line}
use Rattle.records.specs.Line.{sound_lines}
use Rattle.pattern.specs.Kinds.{Symbol, Ev, Fr, Or, And, Row, Then, Less, Max, Inside, Outside, Holding, kind_of}
use Rattle.pattern.specs.Pattern.{Pattern, Patterns, Node, Nil, Cons}
use Rattle.meaning.specs.Meaning.{Valuation, matches, operator, eval, evals, measure_in, over_lines, answers_of, Local, Locals}

-- ── Every list of a pattern rises, is sound and ends below n, where the leaves' lists do ──

module _ (n : ℕ) (v : Valuation) (leaves : (h : Symbol) → Fine n (v.leaf h)) where
  mutual
    pub fine-eval : (p : Pattern) → Fine n (eval v p)
    fine-eval (Node h ps) = fine-apply n (operator v.measure h) (v.leaf h) (evals v ps) (leaves h) (fine-evals ps)

    pub fine-evals : (ps : Patterns) → AllFine n (evals v ps)
    fine-evals Nil = all_none n
    fine-evals (Cons p ps) = all_more (fine-eval p) (fine-evals ps)

-- ── The leaves over lines ──

pub fine-leaf : (ls : List Line) (h : Symbol) → Fine (length ls) (marks 0 (map (matches h) ls))
fine-leaf ls h = subst (λ (n : ℕ). Fine n (marks 0 (map (matches h) ls))) (length-map ls (matches h)) (fine-marks (map (matches h) ls))

-- the answers of a pattern rise, are sound and end on the lines
pub fine-answers_of : (p : Pattern) (ls : List Line) → Fine (length ls) (answers_of p ls)
fine-answers_of p ls = fine-eval (length ls) (over_lines ls) (fine-leaf ls) p

-- no more answers than lines
pub few-answers : (p : Pattern) (ls : List Line) → length (answers_of p ls) ≤ length ls
few-answers p ls = fine-few (length ls) (answers_of p ls) (fine-answers_of p ls)

-- ── The undamaged run, over lines ──

module _ (r n : ℕ) (v v' : Valuation) (b b' : ℕ)
    (leaves : (h : Symbol) → Fine b (v.leaf h)) (leaves' : (h : Symbol) → Fine b' (v'.leaf h))
    (windows : (h : Symbol) → Window r n (v.leaf h) (v'.leaf h))
    (measures : (s e : ℕ) → e < n → v.measure (st (r + s) (r + e)) ≡ v'.measure (st s e)) where
  -- a symbol over windows of its operands
  window-apply : (h : Symbol) → holder_kind (kind_of h) ≡ false → (ls ls' : List (List Stretch)) → AllFine b ls → AllFine b' ls' → Windows r n ls ls'
      → Window r n (apply (operator v.measure h) (v.leaf h) ls) (apply (operator v'.measure h) (v'.leaf h) ls')
  window-apply (Ev c l) z ls ls' f f' w = windows (Ev c l)
  window-apply (Fr c l) z ls ls' f f' w = windows (Fr c l)
  window-apply (Or k) z ls ls' f f' w = local r n op.Or op.Or or-alike ls ls' f.rising f.sound f'.rising f'.sound w
  window-apply (And k) z ls ls' f f' w = local r n op.And op.And and_alike ls ls' f.rising f.sound f'.rising f'.sound w
  window-apply (Row k) z ls ls' f f' w = local r n op.Row op.Row row-alike ls ls' f.rising f.sound f'.rising f'.sound w
  window-apply (Then k) z ls ls' f f' w = local r n op.Then op.Then then-alike ls ls' f.rising f.sound f'.rising f'.sound w
  window-apply Less z ls ls' f f' w = local r n op.Less op.Less (less-alike r n) ls ls' f.rising f.sound f'.rising f'.sound w
  window-apply (Max k) z ls ls' f f' w = local r n (op.Max v.measure k) (op.Max v'.measure k) (max-alike r n v.measure v'.measure k measures) ls ls' f.rising f.sound f'.rising f'.sound w
  window-apply Inside z ls ls' f f' w = let y : ◌≡◌ {A = ℕ} 0 1 = cc in absurd (omega arith)
  window-apply Outside z ls ls' f f' w = let y : ◌≡◌ {A = ℕ} 0 1 = cc in absurd (omega arith)
  window-apply Holding z ls ls' f f' w = local r n op.Holding op.Holding (has-alike r n) ls ls' f.rising f.sound f'.rising f'.sound w

  mutual
    window-eval : (p : Pattern) → Local p → Window r n (eval v p) (eval v' p)
    window-eval (Node h ps) k = window-apply h k.0 (evals v ps) (evals v' ps) (fine-evals b v leaves ps) (fine-evals b' v' leaves' ps) (windows-evals ps k.1)

    windows-evals : (ps : Patterns) → Locals ps → Windows r n (evals v ps) (evals v' ps)
    windows-evals Nil k = tt
    windows-evals (Cons p ps) k = (window-eval p k.0, windows-evals ps k.1)

-- what a stretch within a run measures depends on the run alone
measure-run : (xs run zs : List Line) (s e : ℕ) → e < length run → measure_in (xs ++ (run ++ zs)) (st (length xs + s) (length xs + e)) ≡ measure_in run (st s e)
measure-run xs run zs s e h =
    let z : suc (length xs + e) ≡ length xs + suc e = omega arith in
    ap sound_lines (ap (λ (n : ℕ). drop (length xs + s) (take n (xs ++ (run ++ zs)))) z ∙ ap (drop (length xs + s)) (take-append-add xs (run ++ zs) (suc e))
    ∙ drop-append-add xs (take (suc e) (run ++ zs)) s ∙ ap (drop s) (take-append-le (suc e) run zs (omega arith)))

-- demand 3 over lists of lines: whatever precedes and follows a run, the answers wholly within it, counted from its first line, are those of the run alone
pub run-lines : (p : Pattern) → Local p → (xs run zs : List Line) → in_run (length xs) (length run) (answers_of p (xs ++ (run ++ zs))) ≡ answers_of p run
run-lines p k xs run zs =
    let f = fine-answers_of p (xs ++ (run ++ zs)) in
    let g = fine-answers_of p run in
    window-cut (length xs) (length run) (answers_of p (xs ++ (run ++ zs))) (answers_of p run) f.rising f.sound g.rising g.below
    (window-eval (length xs) (length run) (over_lines (xs ++ (run ++ zs))) (over_lines run) (length (xs ++ (run ++ zs))) (length run)
    (fine-leaf (xs ++ (run ++ zs))) (fine-leaf run) window (measure-run xs run zs) p k)
  where
    flags : (h : Symbol) → map (matches h) (xs ++ (run ++ zs)) ≡ map (matches h) xs ++ (map (matches h) run ++ map (matches h) zs)
    flags h = map-append (matches h) xs (run ++ zs) ∙ ap (λ (t : List Bool). map (matches h) xs ++ t) (map-append (matches h) run zs)

    window : (h : Symbol) → Window (length xs) (length run) (marks 0 (map (matches h) (xs ++ (run ++ zs)))) (marks 0 (map (matches h) run))
    window h =
        subst₂ (λ (r n : ℕ). Window r n (marks 0 (map (matches h) (xs ++ (run ++ zs)))) (marks 0 (map (matches h) run))) (length-map xs (matches h)) (length-map run (matches h))
        (subst (λ (bs : List Bool). Window (length (map (matches h) xs)) (length (map (matches h) run)) (marks 0 bs) (marks 0 (map (matches h) run))) (sym (flags h))
        (window-marks (map (matches h) xs) (map (matches h) run) (map (matches h) zs)))
