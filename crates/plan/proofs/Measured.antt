-- What `max` measures over a prepared table: the sound lines, by their row, which is there where a node is a `max`. Assumes nothing.
use Prim.Native.Nat.{ℕ, zero, suc, ◌+◌, ◌*◌, ◌≤◌, ◌<◌}
use mathlib.Core.Path.{◌≡◌, refl, sym, ap, ap₂, ◌∙◌}
use mathlib.Core.Logic.{◌⊎◌, inl, inr}
use mathlib.Core.Bool.{Bool, true, false, cond, ◌&&◌}
use mathlib.Core.List.{List, [], ◌∷◌, map}
use native.Mathlib.Omega.{arith}
use lib.ListN.{length, length-map}
use lib.Dec.{eqb}
use borrow.Author.Tests.{le-leb, eq-eqb}
use Rattle.basics.proofs.Basics.{true-or-false, le-or-lt}
use Rattle.stretches.specs.Stretch.{st}
use Rattle.stretches.specs.declared.Node.{Node}
use Rattle.stretches.specs.Table.{no_node, kind_at}
use Rattle.std.proofs.lemmas.List.Folds.{list_any_at}
use Rattle.stretches.proofs.Measures.{Measures}
use Rattle.marks.proofs.Counts.{count-lines}
use Rattle.ranks.specs.Rank.{ranked}
use Rattle.ranks.proofs.Ranked.{ranked-length, count-ranked, count-single}
use Rattle.records.specs.declared.Line.{Line}
use Rattle.records.specs.Line.{is_sound, sound_lines}
use Rattle.meaning.specs.Meaning.{measure_in}
use Rattle.seek.specs.Source.{measured_by}
use Rattle.seek.proofs.Measuring.{measured-row, measured-length}
use Rattle.folding.proofs.FoldLaws.{Single}
use Rattle.marking.specs.Rows.{sound_marked}
use Rattle.marking.proofs.SoundRow.{sound-length, sound-whole}
use Rattle.plan.specs.Plan.{has_max, sound_words}

-- a node that is a `max` stands in the table: where there is none, the kind is 0
max-stands : (rows : List Node) (v : ℕ) → kind_at rows v ≡ 6 → v < length rows
max-stands [] v e = absurd (omega (arith, e))
max-stands (x ∷ rows) zero e = omega arith
max-stands (x ∷ rows) (suc v) e = omega (arith, max-stands rows v e)

-- one node that is a `max`
max-among : (rows : List Node) (v : ℕ) → v < length rows → kind_at rows v ≡ 6 → has_max rows ≡ true
max-among rows v h e = list_any_at (λ n. eqb n.kind 6) rows v no_node h (eq-eqb (kind_at rows v) 6 e)

-- how many words the row of the sound lines has
sound-kept : (rows : List Node) (w : ℕ) {b : Bool} → w ≤ 1024 → has_max rows ≡ b → cond b (w + w) 0 ≡ sound_words rows w
sound-kept rows w h e = sym (ap₂ (λ a b. cond (a && b) (w + w) 0) (le-leb w 1024 h) e)

-- over the words of the sound lines' row
module _ (rows : List Node) (ls : List Line) (w : ℕ) (sound : List ℕ) (narrow : w ≤ 1024) (lines : length ls ≤ 64 * w) (fits : length sound ≡ sound_words rows w) where
  abbrev row-of-sound : List ℕ
  row-of-sound = sound_marked ls sound

  abbrev sound-flags : List Bool
  sound-flags = map is_sound ls

  -- where a node is a `max` it is the row with its counts
  with_max : has_max rows ≡ true → row-of-sound ≡ ranked w sound-flags
  with_max h = sound-whole ls sound w (fits ∙ sym (sound-kept rows w narrow h)) narrow

  -- elsewhere it has no words
  without-max : has_max rows ≡ false → length row-of-sound ≡ 0
  without-max h = sound-length ls sound ∙ fits ∙ sym (sound-kept rows w narrow h)

  pub sound-single : Single row-of-sound
  sound-single p = by (le-or-lt (length row-of-sound) 0) (true-or-false (has_max rows))
    where
      by : (length row-of-sound ≤ 0) ⊎ (0 < length row-of-sound) → (has_max rows ≡ true) ⊎ (has_max rows ≡ false) → measured_by row-of-sound (st p p) ≤ 1
      by (inl z) h = omega (arith, measured-length row-of-sound (st p p) (omega arith))
      by (inr l) (inl h) = omega (arith, measured-row row-of-sound (st p p) (λ z. omega arith), count-single w sound-flags row-of-sound (with_max h) narrow p)
      by (inr l) (inr h) = absurd (omega (arith, without-max h))

  -- what a `max` measures by it is the number of sound lines
  pub sound-measures : (v : ℕ) → v < 32 → kind_at rows v ≡ 6 → Measures (length ls) (measured_by row-of-sound) (measure_in ls)
  sound-measures v lv k s e h l =
      let r = with_max (max-among rows v (max-stands rows v k) k) in
      measured-row row-of-sound (st s e) (λ z. omega (arith, ap length r, ranked-length w sound-flags))
      ∙ count-ranked w sound-flags row-of-sound r narrow s e h (omega (arith, length-map ls is_sound)) (omega (arith, length-map ls is_sound))
      ∙ count-lines is_sound sound_lines refl (λ x xs. refl) s e ls
