-- The machine's table has the lists of the pattern's table. Assumes nothing.
use Prim.Native.Nat.{ℕ, zero, suc, ◌+◌, ◌-◌, ◌*◌, ◌≤◌, ◌<◌}
use mathlib.Core.Path.{◌≡◌, refl, sym, ap, ap₂, subst, ◌∙◌}
use mathlib.Core.Logic.{◌⊎◌, inl, inr}
use mathlib.Core.Bool.{Bool, true, false, cond, ◌&&◌}
use mathlib.Core.List.{List, [], ◌∷◌, ◌++◌, map, append_assoc}
use native.Mathlib.Omega.{arith}
use native.Mathlib.Nat.{suc-mul, mul-le-mul_right}
use lib.ListN.{length, get_or, take, drop, replicate, length-map}
use lib.Seq.{take_at, drop_at, drop-drop, length-take-le, take_all}
use Rattle.std.proofs.lemmas.List.{get_or-map}
use lib.Dec.{leb, ltb, eqb}
use borrow.Author.Tests.{le-leb, lt-ltb, leb-true, eqb-false}
use Rattle.basics.proofs.Basics.{cases, true-or-false, true-and, and-true, or-false}
use Rattle.stretches.specs.declared.Stretch.{Stretch}
use Rattle.stretches.specs.Stretch.{st, Fine, marks}
use Rattle.stretches.specs.Operators.{operator_of, apply}
use Rattle.stretches.specs.declared.Node.{Node}
use Rattle.stretches.specs.Table.{no_node, node_at, kind_at, size_at, first_at, second_at, leaf_kind, stop_of, Given, list_at}
use Rattle.stretches.specs.inner.Operands.{operands_of}
use Rattle.stretches.proofs.Fine.{fine-marks}
use Rattle.stretches.proofs.Marks.{marks-clear}
use Rattle.stretches.proofs.Measures.{Measures, measure-same}
use Rattle.stretches.proofs.Operators.{leaf-none}
use Rattle.stretches.proofs.Table.{list-node, all-operands, same_lists}
use Rattle.marks.specs.Row.{flags, lies, row, packed, fit}
use Rattle.marks.proofs.Rows.{true-lies, row_words}
use Rattle.marks.proofs.Packed.{length-packed, flags-packed-short}
use Rattle.records.specs.declared.Line.{Line}
use Rattle.records.specs.Line.{says}
use Rattle.records.specs.Leaf.{code_is, frame_is}
use Rattle.meaning.specs.Meaning.{hits, measure_in, over_table, table_in}
use Rattle.meaning.proofs.Run.{says-few}
use Rattle.meaning.proofs.Table.{table-in}
use Rattle.seek.specs.declared.Searched.{Searched}
use Rattle.seek.specs.Source.{Source, source, source_of, lent, own_list, measured_by, given, list_over, Good}
use Rattle.folding.specs.Fold.{Folding, folding, made_row, folded}
use Rattle.folding.proofs.FoldLeaf.{Before}
use Rattle.folding.proofs.FoldLaws.{Single, fold-lists, fold-good}
use Rattle.leaves.specs.declared.Leaf.{Leaf}
use Rattle.leaves.specs.Leaves.{leaf_of, number_in, leaves_of}
use Rattle.marking.specs.Rows.{leaf_hits, rows_from, rows_then, marked, sound_marked}
use Rattle.plan.specs.Plan.{width_of, plan_node, planned, sound_words, prepared, prepared_sound}
use Rattle.plan.specs.Marks.{Marks}
use Rattle.plan.specs.inner.Room.{Roomy}
use Rattle.leaves.proofs.Gathering.{Has, leaf-few, leaf-found, leaf-is}
use Rattle.marking.proofs.Marking.{then-length}
use Rattle.marking.proofs.SoundRow.{sound-length}
use Rattle.plan.proofs.Measured.{sound-single, sound-measures}

-- ── The rows of the leaves ──

-- row r of the marked words
row_from : (leaves : List Leaf) (ls : List Line) (w : ℕ) (after : List ℕ) (r : ℕ) (d : Leaf) → r < length leaves → take w (drop (r * w) (rows_from leaves ls w ++ after)) ≡ packed w (map (leaf_hits (get_or leaves r d)) ls)
unfolding rows_from
row_from [] ls w after r d h = absurd (omega arith)
row_from (f ∷ fs) ls w after zero d h =
    let z : 0 * w ≡ 0 = omega arith in
    let p = packed w (map (leaf_hits f) ls) in
    ap (λ (k : ℕ). take w (drop k ((p ++ rows_from fs ls w) ++ after))) z ∙ ap (take w) (append_assoc p (rows_from fs ls w) after)
    ∙ take_at p (rows_from fs ls w ++ after) w (length-packed w (map (leaf_hits f) ls))
row_from (f ∷ fs) ls w after (suc r) d h =
    let z : suc r * w ≡ w + r * w = omega (arith, suc-mul r w) in
    let p = packed w (map (leaf_hits f) ls) in
    let rest = rows_from fs ls w in
    ap (λ (k : ℕ). take w (drop k ((p ++ rest) ++ after))) z ∙ ap (take w) (sym (drop-drop (r * w) w ((p ++ rest) ++ after)))
    ∙ ap (λ (l : List ℕ). take w (drop (r * w) l)) (ap (drop w) (append_assoc p rest after) ∙ drop_at p (rest ++ after) w (length-packed w (map (leaf_hits f) ls)))
    ∙ row_from fs ls w after r d (omega arith)

-- ── The lists ──

no_lines : {A : Type 0} (f : A → Bool) → ((x : A) → f x ≡ false) → (p : ℕ) (xs : List A) → marks p (map f xs) ≡ []
no_lines f h p [] = refl
no_lines f h p (x ∷ xs) = ap (λ b. cond b (st p p ∷ marks (suc p) (map f xs)) (marks (suc p) (map f xs))) (h x) ∙ no_lines f h (suc p) xs

-- over leaves among which all of the table's are found
module _ (rows : List Node) (leaves : List Leaf) (ls : List Line) (w : ℕ) (words : List ℕ) (wide : length rows ≡ 32) (narrow : w ≤ 1024) (lines : length ls ≤ 64 * w) (enough : length leaves * w ≤ length words)
    (found : (v : ℕ) → v < 32 → leaf_kind (kind_at rows v) ≡ true → Has leaves (leaf_of (node_at rows v)))
    (sound : List ℕ) (single : Single sound) (measures : (v : ℕ) → v < 32 → kind_at rows v ≡ 6 → Measures (length ls) (measured_by sound) (measure_in ls)) where
  abbrev t : List Node
  t = planned leaves w rows

  abbrev marked-words : List ℕ
  marked-words = rows_then leaves ls w words

  -- node by node
  plan : (v : ℕ) → v < 32 → node_at t v ≡ plan_node leaves w (node_at rows v)
  plan v h = get_or-map (plan_node leaves w) rows v no_node no_node (omega (arith, wide))

  abbrev old : Given
  old = over_table rows ls

  abbrev new : Given
  new = given (source marked-words [] sound) t

  -- own lists end at the last line, and so do all
  old-own : (v : ℕ) → Fine (length ls) (old.own v)
  old-own v =
      let hit = hits (kind_at rows v) (first_at rows v) (second_at rows v) in
      subst (λ (m : ℕ). Fine m (marks 0 (map hit ls))) (length-map ls hit) (fine-marks (map hit ls))

  module _ (v : ℕ) (lv : v < 32) where
    abbrev k : ℕ
    k = kind_at rows v

    abbrev a : ℕ
    a = first_at rows v

    abbrev b : ℕ
    b = second_at rows v

    abbrev leaf : Leaf
    leaf = leaf_of (node_at rows v)

    abbrev r : ℕ
    r = number_in leaves leaf

    -- a leaf's number, and the leaf of that number
    module _ (h : leaf_kind k ≡ true) where
      below : r < length leaves
      below = found v lv h

      node : node_at t v ≡ made_row (r * w) w (node_at rows v)
      node = plan v lv ∙ ap₂ (λ c d. cond (c && d) (made_row (r * w) w (node_at rows v)) (node_at rows v)) h (lt-ltb r (length leaves) below)

      leaf-row : marks 0 (row marked-words (r * w) w) ≡ old.own v
      leaf-row =
          let hit = leaf_hits (get_or leaves r leaf) in
          let e = length-map ls hit in
          let place : r * w + w ≤ length leaves * w = omega (arith, suc-mul r w, mul-le-mul_right w below) in
          let inside : lies (length marked-words) (r * w) w ≡ true = true-lies (length marked-words) (r * w) w (omega (arith, then-length leaves w words ls enough)) (omega arith) in
          ap (marks 0) (row_words marked-words (r * w) w inside ∙ ap flags (row_from leaves ls w (drop (length leaves * w) words) r leaf below) ∙ flags-packed-short w (map hit ls) (omega arith))
          ∙ marks-clear 0 (map hit ls) (64 * w - length (map hit ls))
          ∙ ap (λ (x : Leaf). marks 0 (map (leaf_hits x) ls)) (leaf-is leaves leaf leaf below)

      leaf-own : new.own v ≡ old.own v
      leaf-own = ap (λ (x : Node). own_list (source marked-words [] sound) x.kind x.first x.second) node ∙ leaf-row

      leaf-list : apply (operator_of new.measure (kind_at t v) (first_at t v)) (new.own v) (operands_of old rows v) ≡ list_at old rows v
      leaf-list =
          ap (λ (x : Node). apply (operator_of new.measure x.kind x.first) (new.own v) (operands_of old rows v)) node ∙ leaf-own
          ∙ sym (list-node old rows v lv ∙ ap (λ o. apply o (old.own v) (operands_of old rows v)) (leaf-none old.measure k a h))

    -- another node
    module _ (h : leaf_kind k ≡ false) where
      node-other : node_at t v ≡ node_at rows v
      node-other = plan v lv ∙ ap (λ c. cond (c && ltb r (length leaves)) (made_row (r * w) w (node_at rows v)) (node_at rows v)) h

      other-own : new.own v ≡ old.own v
      other-own =
          let no = or-false (eqb k 16) (eqb k 17) h in
          ap (λ (x : Node). own_list (source marked-words [] sound) x.kind x.first x.second) node-other
          ∙ ap₂ (λ x y. cond x (marks 0 (row marked-words a b)) (cond y (lent [] a b) [])) no.0 no.1
          ∙ sym (no_lines (hits k a b) (λ x. ap₂ (λ y z. cond y (code_is a b x) (cond z (frame_is a b x) false)) no.0 no.1) 0 ls)

      other-list : apply (operator_of new.measure (kind_at t v) (first_at t v)) (new.own v) (operands_of old rows v) ≡ list_at old rows v
      other-list =
          ap (λ (x : Node). apply (operator_of new.measure x.kind x.first) (new.own v) (operands_of old rows v)) node-other
          ∙ ap (λ (l : List Stretch). apply (operator_of new.measure k a) l (operands_of old rows v)) other-own
          ∙ measure-same (length ls) new.measure old.measure a k (old.own v) (operands_of old rows v)
          (all-operands old rows (length ls) (λ u lu. old-own u) (stop_of rows v) (v + 1)) (measures v lv)
          ∙ sym (list-node old rows v lv)

    own_same : new.own v ≡ old.own v
    own_same = by (true-or-false (leaf_kind k))
      where
        by : (leaf_kind k ≡ true) ⊎ (leaf_kind k ≡ false) → new.own v ≡ old.own v
        by (inl h) = leaf-own h
        by (inr h) = other-own h

    list_same : apply (operator_of new.measure (kind_at t v) (first_at t v)) (new.own v) (operands_of old rows v) ≡ list_at old rows v
    list_same = by (true-or-false (leaf_kind k))
      where
        by : (leaf_kind k ≡ true) ⊎ (leaf_kind k ≡ false) → apply (operator_of new.measure (kind_at t v) (first_at t v)) (new.own v) (operands_of old rows v) ≡ list_at old rows v
        by (inl h) = leaf-list h
        by (inr h) = other-list h

    size_same : size_at t v ≡ size_at rows v
    size_same = by (true-or-false (leaf_kind k))
      where
        by : (leaf_kind k ≡ true) ⊎ (leaf_kind k ≡ false) → size_at t v ≡ size_at rows v
        by (inl h) = ap (λ (x : Node). x.size) (node h)
        by (inr h) = ap (λ (x : Node). x.size) (node-other h)

    row_ends : kind_at t v ≡ 16 → first_at t v + second_at t v ≤ length leaves * w
    row_ends e = by (true-or-false (leaf_kind k))
      where
        by : (leaf_kind k ≡ true) ⊎ (leaf_kind k ≡ false) → first_at t v + second_at t v ≤ length leaves * w
        by (inl h) =
            omega (arith, ap (λ (x : Node). x.first) (node h), ap (λ (x : Node). x.second) (node h), suc-mul r w, mul-le-mul_right w (below h))
        by (inr h) = absurd (omega (arith, ap (λ (x : Node). x.kind) (node-other h), eqb-false k 16 (or-false (eqb k 16) (eqb k 17) h).0))

    fine-own : Fine 65536 (new.own v)
    fine-own =
        let f = old-own v in
        subst (Fine 65536) (sym own_same) (record { rising = f.rising; sound = f.sound; below = λ s e m. omega (arith, f.below s e m) })

  before : Before t (length leaves * w)
  before = record { wide = length-map rows (plan_node leaves w) ∙ wide; ends = row_ends }

  abbrev made : Folding
  made = folded w 32 (folding t marked-words (length leaves * w))

  made-lists : (v : ℕ) → list_over (source made.words [] sound) made.rows v ≡ list_at old rows v
  made-lists v = fold-lists [] sound single w (folding t marked-words (length leaves * w)) before 32 v ∙ same_lists old new rows t size_same list_same v

  made-good : Good (source made.words [] sound) made.rows
  made-good = fold-good [] sound single w (folding t marked-words (length leaves * w)) before 32 fine-own

-- 32 rows are room enough for every table
room-enough : (rows : List Node) (w len : ℕ) → 32 * w ≤ len → length (leaves_of rows) * w ≤ len
room-enough rows w len h = omega (arith, mul-le-mul_right w (leaf-few rows))

module _ (rows : List Node) (log : List ℕ) (w : ℕ) (words sound : List ℕ) (wide : length rows ≡ 32) (narrow : w ≤ 1024) (lines : length (says log) ≤ 64 * w) (room : length (leaves_of rows) * w ≤ length words)
    (fits : length sound ≡ sound_words rows w) where
  abbrev g : List Leaf
  g = leaves_of rows

  abbrev sound'' : List ℕ
  sound'' = sound_marked (says log) sound

  single : Single sound''
  single = sound-single rows (says log) w sound narrow lines fits

  measures : (v : ℕ) → v < 32 → kind_at rows v ≡ 6 → Measures (length (says log)) (measured_by sound'') (measure_in (says log))
  measures = sound-measures rows (says log) w sound narrow lines fits

  enough : fit (length g) w (length words) ≡ true
  enough = true-and (leb w 1024) (leb (length g * w) (length words)) (le-leb w 1024 narrow) (le-leb (length g * w) (length words) room)

  is_made : prepared rows log w words ≡ made rows g (says log) w words wide narrow lines room (leaf-found rows) sound'' single measures
  unfolding prepared
  is_made =
      let small : take 64 g ≡ g = take_all 64 g (omega (arith, leaf-few rows)) in
      let fold : List ℕ → Folding = λ l. folded w 32 (folding (planned g w rows) l (length g * w)) in
      ap (λ b. cond b (fold (marked g (says log) w words)) (folding (replicate 32 no_node) words 0)) enough
      ∙ ap fold (ap (λ (hs : List Leaf). cond (fit (length hs) w (length words)) (rows_then hs (says log) w words) words) small ∙ ap (λ b. cond b (rows_then g (says log) w words) words) enough)

  sound-made : prepared_sound rows log w words sound ≡ sound''
  unfolding prepared_sound
  sound-made = ap (λ b. cond b sound'' sound) enough

  -- the lists of the machine's table are those of the pattern's
  prepared-lists : (v : ℕ) → list_over (source (prepared rows log w words).words [] sound'') (prepared rows log w words).rows v ≡ list_at (over_table rows (says log)) rows v
  prepared-lists v =
      ap (λ (f : Folding). list_over (source f.words [] sound'') f.rows v) is_made
      ∙ made-lists rows g (says log) w words wide narrow lines room (leaf-found rows) sound'' single measures v

  -- and fine
  prepared-good : Good (source (prepared rows log w words).words [] sound'') (prepared rows log w words).rows
  prepared-good =
      subst (λ (f : Folding). Good (source f.words [] sound'') f.rows) (sym is_made)
      (made-good rows g (says log) w words wide narrow lines room (leaf-found rows) sound'' single measures)

-- the first node's list is the table's
pub marks-first : {rows : List Node} {log : List ℕ} {s : Searched} → Marks rows log s → list_over (source_of s) s.rows.now 0 ≡ table_in rows log
marks-first {rows} {log} m = m.lists 0 ∙ sym (table-in rows log)

-- in words with room, once `sound_words` gave n and `prepare` the table, the words and the row of the sound lines: the machine's table is fine, and its lists are
-- those that the pattern's table has in the log
module _ (rows : List Node) (log : List ℕ) (w : ℕ) (words sound : List ℕ) (h : Roomy rows log w words sound) (n : ℕ) (e : (n ≡ sound_words rows w) × (n ≤ w + w)) where
  -- the words that are lent to that row
  pub sound-room : n ≡ length (take n sound)
  sound-room = sym (length-take-le n sound (omega (arith, e.1, h.4)))

  module _ (t : List Node) (words' kept : List ℕ) (et : t ≡ (prepared rows log w words).rows) (ew : words' ≡ (prepared rows log w words).words) (ek : kept ≡ prepared_sound rows log w words (take n sound)) where
    kept-length : length kept ≡ n
    unfolding prepared_sound
    kept-length =
        ap length ek ∙ cases (fit (length (leaves_of rows)) w (length words)) (λ b. length (cond b (sound_marked (says log) (take n sound)) (take n sound)) ≡ length (take n sound))
        (λ _. sound-length (says log) (take n sound)) (λ _. refl) ∙ sym sound-room

    -- what the machine reads of them
    abbrev read : List ℕ
    read = take n (kept ++ drop n sound)

    pub sound-again : n ≡ length read
    sound-again = sym (ap length (take_at kept (drop n sound) n kept-length) ∙ kept-length)

    -- every node's list, in what is searched
    pub machine-lists : {s : Searched} → s.rows.now ≡ t → source_of s ≡ source words' [] read → Marks rows log s
    machine-lists {s = s} es er =
        let lines : length (says log) ≤ 64 * w = omega (arith, h.1) in
        let narrow : w ≤ 1024 = omega (arith, h.2) in
        let room = room-enough rows w (length words) h.3 in
        let fits = sym sound-room ∙ e.0 in
        let made : Source = source (prepared rows log w words).words [] (sound_marked (says log) (take n sound)) in
        let table : s.rows.now ≡ (prepared rows log w words).rows = es ∙ et in
        let same : source_of s ≡ made =
        er ∙ ap₂ (λ (x y : List ℕ). source x [] y) ew (take_at kept (drop n sound) n kept-length ∙ ek ∙ sound-made rows log w words (take n sound) h.0 narrow lines room fits) in record {
          good = subst (λ (x : Source). Good x s.rows.now) (sym same) (subst (Good made) (sym table) (prepared-good rows log w words (take n sound) h.0 narrow lines room fits));
          lists = λ v. ap₂ (λ (x : Source) (y : List Node). list_over x y v) same table ∙ prepared-lists rows log w words (take n sound) h.0 narrow lines room fits v;
        }

    -- the first node's, which is the table's
    pub machine-list : (s : Searched) → s.rows.now ≡ t → source_of s ≡ source words' [] read → Good (source_of s) s.rows.now × (list_over (source_of s) s.rows.now 0 ≡ table_in rows log)
    machine-list s es er = let m = machine-lists {s = s} es er in (m.good, marks-first m)

-- a log that is not too long has rows of at most 960 words
pub short-width : (log : List ℕ) (w : ℕ) → w ≡ width_of log → length log ≤ 61440 → w ≤ 960
short-width log w e h = omega (arith, says-few log)

-- ── Preparing ──

module _ (rows : List Node) (log : List ℕ) (w : ℕ) (words sound : List ℕ) {ls : List Leaf} (e : ls ≡ leaves_of rows) {b : Bool} (f : b ≡ fit (length ls) w (length words)) where
  pub prepare-few : length ls ≤ 32
  prepare-few = omega (arith, leaf-few rows, ap (λ (l : List Leaf). length l) e)

  -- the definitions over the leaves gathered
  abbrev whole : List Leaf → Bool → Folding
  whole g b = cond b (folded w 32 (folding (planned g w rows) (marked g (says log) w words) (length g * w))) (folding (replicate 32 no_node) words 0)

  same : whole ls b ≡ prepared rows log w words
  unfolding prepared
  same = ap (whole ls) f ∙ ap (λ (g : List Leaf). whole g (fit (length g) w (length words))) e

  same-sound : cond b (sound_marked (says log) sound) sound ≡ prepared_sound rows log w words sound
  unfolding prepared_sound
  same-sound = ap (λ b. cond b (sound_marked (says log) sound) sound) f ∙ ap (λ (g : List Leaf). cond (fit (length g) w (length words)) (sound_marked (says log) sound) sound) e

  -- where the rows do not fit
  pub prepare-not : b ≡ false → (replicate 32 no_node ≡ (prepared rows log w words).rows) × (words ≡ (prepared rows log w words).words) × (sound ≡ prepared_sound rows log w words sound)
  prepare-not h =
      let k : folding (replicate 32 no_node) words 0 ≡ prepared rows log w words = sym (ap (whole ls) h) ∙ same in
      (ap (λ (x : Folding). x.rows) k, ap (λ (x : Folding). x.words) k, sym (ap (λ b. cond b (sound_marked (says log) sound) sound) h) ∙ same-sound)

  -- where they do
  module _ (h : b ≡ true) where
    pub prepare-room : (w ≤ 1024) × (length ls * w ≤ length words)
    prepare-room = let k = and-true (leb w 1024) (leb (length ls * w) (length words)) (sym f ∙ h) in (leb-true w 1024 k.0, leb-true (length ls * w) (length words) k.1)

    pub prepare-is : {words' sound' : List ℕ} {t t' : List Node} {words'' : List ℕ} → words' ≡ marked ls (says log) w words → sound' ≡ sound_marked (says log) sound → t ≡ planned ls w rows
        → t' ≡ (folded w 32 (folding t words' (length ls * w))).rows → words'' ≡ (folded w 32 (folding t words' (length ls * w))).words
        → (t' ≡ (prepared rows log w words).rows) × (words'' ≡ (prepared rows log w words).words) × (sound' ≡ prepared_sound rows log w words sound)
    prepare-is {words'} {sound'} {t} m ms p ft fw =
        let k : folded w 32 (folding t words' (length ls * w)) ≡ prepared rows log w words =
        ap₂ (λ (x : List Node) (y : List ℕ). folded w 32 (folding x y (length ls * w))) p m ∙ sym (ap (whole ls) h) ∙ same in
        (ft ∙ ap (λ (x : Folding). x.rows) k, fw ∙ ap (λ (x : Folding). x.words) k, ms ∙ sym (ap (λ b. cond b (sound_marked (says log) sound) sound) h) ∙ same-sound)
