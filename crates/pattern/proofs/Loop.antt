-- The loop over the text: what its variables hold, and how a turn keeps it.
-- Assumes nothing.
use Prim.Native.Nat.{ℕ, suc, ◌+◌, ◌-◌, ◌*◌, ◌≤◌, ◌<◌}
use mathlib.Core.Path.{◌≡◌, refl, sym, ap, ap₂, subst, ◌∙◌}
use mathlib.Core.Bool.{true, false, cond}
use mathlib.Core.List.{List, [], ◌∷◌, ◌++◌, map, append_assoc, map-append}
use lib.Dec.{leb, ltb, eqb}
use lib.ListN.{length, get_or, take, drop, set, replicate, length-append, length-drop, length-map, drop_of_length-le}
use lib.Seq.{drop-cons, take-suc, get_or-drop}
use borrow.Author.Tests.{leb-true, ltb-false, lt-ltb}
use native.Mathlib.Numerals.{add-one}
use native.Mathlib.Omega.{arith}
use Rattle.std.specs.Prelude.{Option, Some, None, Ok, Err}
use Rattle.pattern.specs.Kinds.{Symbol, symbol, field_count, low, arity}
use Rattle.stretches.specs.declared.Node as row
use Rattle.stretches.specs.Table.{no_node}
use Rattle.pattern.specs.declared.State.{State}
use Rattle.pattern.specs.declared.State.TheVariants.{Letters, Field, Digits}
use Rattle.pattern.specs.declared.Table.{Table}
use Rattle.pattern.specs.declared.Refusal.{Refusal}
use Rattle.pattern.specs.declared.Refusal.TheVariants.{Misspelt}
use Rattle.pattern.specs.declared.Step.{Step}
use Rattle.pattern.specs.declared.Step.TheVariants.{Within, Closed}
use Rattle.pattern.specs.Automaton.{slot, coded, said, first_field, second_field, third_field, step, Scan, Stop, Whole, later, after, last, finish, go, scan}
use Rattle.pattern.specs.Rows.{entry}
use Rattle.pattern.specs.inner.Scanner.{Bounded, Written, Piece, final, end_of, put, unsized, Tells}
use Rattle.basics.proofs.Basics.{cases}
use Rattle.pattern.proofs.KindLaws.{few-fields, range-sound, word-short, rank-small}
use Rattle.pattern.proofs.Fields.{made-last, first_small}
use Rattle.pattern.proofs.Scanning.{Held, need, After, Went, Shut, step_after, named_node, since-comma, since-other}

-- ── What is left to scan, and what has been ──

-- the scan of the whole from that of the rest
abbrev pub resume : ℕ → List Symbol → Scan → Scan
resume i done (Stop p) = Stop (i + p)
resume i done (Whole hs) = Whole (done ++ hs)

-- a byte further, inside a symbol
resume-later : (i : ℕ) (done : List Symbol) (r : Scan) → resume i done (later r) ≡ resume (i + 1) done r
resume-later i done (Stop p) = ap Stop (omega arith)
resume-later i done (Whole hs) = refl

-- a byte further, past a symbol
resume-after : (i : ℕ) (done : List Symbol) (h : Symbol) (r : Scan) → resume i done (after h r) ≡ resume (i + 1) (done ++ (h ∷ [])) r
resume-after i done h (Stop p) = ap Stop (omega arith)
resume-after i done h (Whole hs) = ap Whole (sym (append_assoc done (h ∷ []) hs))

-- the scan from place i on, by its first byte
scan-drop : (text : List ℕ) (i : ℕ) (s : State) → i < length text → scan (drop i text) s ≡ go (scan (drop (i + 1) text)) (step s (get_or text i 0))
unfolding scan
scan-drop text i s h = ap (λ (w : List ℕ). scan w s) (drop-cons text i 0 h) ∙ ap (λ (m : ℕ). go (scan (drop m text)) (step s (get_or text i 0))) (sym (add-one i))

-- ── The nodes kept ──

-- a store past the first list
pub set-append : {A : Type 0} (l r : List A) (y x : A) → set (l ++ (y ∷ r)) (length l) x ≡ l ++ (x ∷ r)
set-append [] r y x = refl
set-append (z ∷ l) r y x = ap (λ t. z ∷ t) (set-append l r y x)

-- a node more
put-unsized : (hs : List Symbol) (h : row.Node) (rows : List row.Node) (n : ℕ) → n ≡ length hs → n < 32 → entry (said h) 0 ≡ h → rows ≡ unsized hs → cond (ltb n 32) (set rows n h) rows ≡ unsized (hs ++ (said h ∷ []))
put-unsized hs h rows n e p m g =
    let l : List row.Node = map (λ h. entry h 0) hs in
    let n' : n ≡ length l = e ∙ sym (length-map hs (λ h. entry h 0)) in
    let k : 32 - length hs ≡ suc (31 - length hs) = omega arith in
    let j : 31 - length hs ≡ 32 - length (hs ++ (said h ∷ [])) = omega (arith, length-append hs (said h ∷ [])) in
    ap (λ c. cond c (set rows n h) rows) (lt-ltb n 32 p) ∙ (ap₂ (λ (t : List row.Node) (m : ℕ). set t m h) (g ∙ ap (λ m. l ++ replicate m no_node) k) n'
    ∙ (set-append l (replicate (31 - length hs) no_node) no_node h
    ∙ (ap₂ (λ (x : row.Node) (m : ℕ). l ++ (x ∷ replicate m no_node)) (sym m) j
    ∙ (sym (append_assoc l (entry (said h) 0 ∷ []) (replicate (32 - length (hs ++ (said h ∷ []))) no_node))
    ∙ ap (λ (x : List row.Node). x ++ replicate (32 - length (hs ++ (said h ∷ []))) no_node) (sym (map-append (λ h. entry h 0) hs (said h ∷ [])))))))

-- ── The invariant ──

-- i bytes are read: their symbols are in the table, and the state scans the rest
pub record Scanning (text : List ℕ) (tb : Table) (s : State) (i : ℕ) : Type 0 where
  pub done : List Symbol
  pub within : i ≤ length text
  pub few : tb.count ≤ i
  pub held : Held s
  pub needs : need s ≤ 1 + 31 * i
  pub rest : scan text (Letters 0 0 1) ≡ resume i done (scan (drop i text) s)
  pub counted : tb.count ≡ length done
  pub kept : length done ≤ 32 → tb.rows ≡ unsized done

-- at the start
pub begin : (text : List ℕ) → Scanning text (record { count = 0; rows = replicate 32 no_node }) (Letters 0 0 1) 0
begin text = record {
  done = [];
  within = omega arith;
  few = omega arith;
  held = (omega arith, omega arith, omega arith);
  needs = omega arith;
  rest = same (scan text (Letters 0 0 1));
  counted = refl;
  kept = λ h. refl;
}
  where
    same : (r : Scan) → r ≡ resume 0 [] r
    same (Stop p) = ap Stop (omega arith)
    same (Whole hs) = refl

-- the numbers of the state stay small
pub bounded : {text : List ℕ} {tb : Table} {s : State} {i : ℕ} → length text ≤ 1024 → Scanning text tb s i → Bounded 1000000 s
bounded {text} {tb} {s} {i} l v = go s v.held (omega (arith, v.needs, v.within))
  where
    go : (s : State) → Held s → need s ≤ 40000 → Bounded 1000000 s
    go (Letters r m n) h y = (h.2, omega arith, omega (arith, h.1, word-short r), h.0)
    go (Field f) h y = (h.1, omega arith, omega (arith, h.0.field, few-fields f.kind))
    go (Digits f v) h y =
        let b : v ≤ 65535 = omega (arith, h.2.below, range-sound f.kind f.field) in
        (h.1, omega arith, b, first_small f.kind f.field f.first f.second v h.0.earlier b, omega (arith, h.0.field, few-fields f.kind))

module _ {text : List ℕ} {tb : Table} {s : State} {i : ℕ} (v : Scanning text tb s i) (l : i < length text) {t : Option Step} (q : t ≡ step s (get_or text i 0)) where
  on_step : scan text (Letters 0 0 1) ≡ resume i v.done (go (scan (drop (i + 1) text)) t)
  on_step = v.rest ∙ ap (resume i v.done) (scan-drop text i s l ∙ ap (go (scan (drop (i + 1) text))) (sym q))

  after-step : After s (get_or text i 0) t
  after-step = subst (After s (get_or text i 0)) (sym q) (step_after s (get_or text i 0) v.held)

  pub turn-none : t ≡ None → scan text (Letters 0 0 1) ≡ Stop i
  turn-none d = on_step ∙ (ap (λ x. resume i v.done (go (scan (drop (i + 1) text)) x)) d ∙ ap Stop (omega arith))

  -- what the step did
  pub went : {s' : State} → t ≡ Some (Within s') → Went s (get_or text i 0) s'
  went d = subst (After s (get_or text i 0)) d after-step

  closed-after : {h : row.Node} {s' : State} → t ≡ Some (Closed h s') → Shut s (get_or text i 0) (said h) s' × (entry (said h) 0 ≡ h)
  closed-after z = subst (After s (get_or text i 0)) z after-step

  pub closed : {h : row.Node} {s' : State} → t ≡ Some (Closed h s') → Shut s (get_or text i 0) (said h) s'
  closed z = (closed-after z).0

  pub turn-within : {s' : State} → t ≡ Some (Within s') → Scanning text tb s' (i + 1)
  turn-within {s'} d =
      let g = went d in
      record {
        done = v.done;
        within = omega arith;
        few = omega (arith, v.few);
        held = g.held;
        needs = omega (arith, g.needs, v.needs);
        rest = on_step ∙ (ap (λ x. resume i v.done (go (scan (drop (i + 1) text)) x)) d ∙ resume-later i v.done (scan (drop (i + 1) text) s'));
        counted = v.counted;
        kept = v.kept;
      }

  pub turn-closed : {h : row.Node} {s' : State} → t ≡ Some (Closed h s') → Scanning text (put tb h) s' (i + 1)
  turn-closed {h} {s'} z =
      let g = closed-after z in
      record {
        done = v.done ++ (said h ∷ []);
        within = omega arith;
        few = omega (arith, v.few);
        held = g.0.held;
        needs = omega (arith, g.0.needs, v.needs, rank-small (said h) g.0.ranged);
        rest = on_step ∙ (ap (λ x. resume i v.done (go (scan (drop (i + 1) text)) x)) z ∙ resume-after i v.done (said h) (scan (drop (i + 1) text) s'));
        counted = omega (arith, v.counted, length-append v.done (said h ∷ []));
        kept = λ k. let few : tb.count < 32 = omega (arith, v.counted, length-append v.done (said h ∷ [])) in put-unsized v.done h tb.rows tb.count v.counted few g.1 (v.kept (omega (arith, v.counted)));
      }

-- ── The present word or number ──

-- it starts at a place, and what the state has read of it stands there
pub record Begun (text : List ℕ) (from i : ℕ) (s : State) : Type 0 where
  pub place : from ≤ i
  pub written : Written s (take (i - from) (drop from text))

-- past a comma
pub begun-past : (text : List ℕ) (i : ℕ) (s : State) → Written s [] → Begun text i i s
begun-past text i s w = let z : i - i ≡ 0 = omega arith in record { place = omega arith; written = subst (Written s) (sym (ap (λ (n : ℕ). take n (drop i text)) z)) w }

module _ {text : List ℕ} {from i : ℕ} {s : State} (g : Begun text from i s) (l : i < length text) where
  -- a byte more stands there
  one_more : take (i + 1 - from) (drop from text) ≡ take (i - from) (drop from text) ++ (get_or text i 0 ∷ [])
  one_more =
      let n : i + 1 - from ≡ suc (i - from) = omega (arith, g.place) in
      let p : from + (i - from) ≡ i = omega (arith, g.place) in
      let h : i - from < length (drop from text) = omega (arith, g.place, length-drop from text) in
      ap (λ (n : ℕ). take n (drop from text)) n ∙ take-suc (drop from text) (i - from) 0 h
      ∙ ap (λ (x : ℕ). take (i - from) (drop from text) ++ (x ∷ [])) (get_or-drop from text (i - from) 0 ∙ ap (λ (n : ℕ). get_or text n 0) p)

  -- and with the byte
  pub begun-piece : Piece s (get_or text i 0) (take (i + 1 - from) (drop from text))
  begun-piece = record { before = take (i - from) (drop from text); written = g.written; whole = one_more }

  -- a byte further, past a comma
  pub begun-comma : {s' : State} → Went s (get_or text i 0) s' → get_or text i 0 ≡ 44 → Begun text (i + 1) (i + 1) s'
  begun-comma {s'} w e = begun-past text (i + 1) s' (subst (Written s') (since-comma (get_or text i 0) (take (i - from) (drop from text)) e) (w.written (take (i - from) (drop from text)) g.written))

  -- and past no comma
  pub begun-on : {s' : State} → Went s (get_or text i 0) s' → (get_or text i 0 ≡ 44 → ⊥) → Begun text from (i + 1) s'
  begun-on {s'} w n = record { place = omega (arith, g.place); written = subst (Written s') (since-other (get_or text i 0) (take (i - from) (drop from text)) n ∙ sym one_more) (w.written (take (i - from) (drop from text)) g.written) }

-- ── The end of the text ──

-- a stop is told
pub tells-stop : {x : Scan} {i : ℕ} {r : Refusal} → x ≡ Stop i → r ≡ Misspelt i → Tells x (Err r)
tells-stop {x} {i} {r} e z = subst (λ (y : Scan). Tells y (Err r)) (sym e) z

-- what the code makes of the end of the text is what the scan does
abbrev Ends : Scan → Option row.Node → Type 0
Ends f None = f ≡ Stop 0
Ends f (Some h) = (f ≡ Whole (said h ∷ [])) × (entry (said h) 0 ≡ h)

-- after a number
ends-number : (k j a c v n : ℕ) → Held (Digits (slot k j a c n) v) → Ends (finish (Digits (slot k j a c n) v)) (end_of (Digits (slot k j a c n) v))
unfolding finish end_of
ends-number k j a c v n h =
    cases (leb (low k j) v) (λ t. (t ≡ true → low k j ≤ v) → Ends (cond t (cond (ltb (j + 1) (field_count k)) (Stop 0) (last (coded k (first_field j a v) (second_field j c v) (third_field j v)) n)) (Stop 0)) (cond t (cond (ltb (j + 1) (field_count k)) None (final (coded k (first_field j a v) (second_field j c v) (third_field j v)) n)) None))
    (λ e y. cases (ltb (j + 1) (field_count k)) (λ t. (t ≡ false → field_count k ≤ j + 1) → Ends (cond t (Stop 0) (last (coded k (first_field j a v) (second_field j c v) (third_field j v)) n)) (cond t None (final (coded k (first_field j a v) (second_field j c v) (third_field j v)) n)))
    (λ g z. refl)
    (λ g z. cases (eqb (n + arity k (first_field j a v)) 1) (λ t. Ends (cond t (Whole (symbol k (first_field j a v) (second_field j c v) (third_field j v) ∷ [])) (Stop 0)) (cond t (Some (coded k (first_field j a v) (second_field j c v) (third_field j v))) None))
    (λ q. (refl, named_node (made-last k h.0.sound a c v j (omega (arith, z refl, h.0.field)) h.0.earlier (y refl, h.2.below)).named)) (λ q. refl))
    (ltb-false (j + 1) (field_count k)))
    (λ e y. refl) (leb-true (low k j) v)

-- in every state
ends : (s : State) → Held s → Ends (finish s) (end_of s)
unfolding finish end_of
ends (Letters r m n) h = refl
ends (Field f) h = refl
ends (Digits f v) h = ends-number f.kind f.field f.first f.second v f.need h

module _ {text : List ℕ} {tb : Table} {s : State} {i : ℕ} (v : Scanning text tb s i) (l : length text ≤ i) {t : Option row.Node} (q : t ≡ end_of s) where
  at-end : scan text (Letters 0 0 1) ≡ resume i v.done (finish s)
  unfolding scan
  at-end = v.rest ∙ ap (λ (w : List ℕ). resume i v.done (scan w s)) (drop_of_length-le text {i = i} l)

  -- a text that stops is told
  pub end-none : t ≡ None → {r : Refusal} → r ≡ Misspelt i → Tells (scan text (Letters 0 0 1)) (Err r)
  end-none d z = let g : finish s ≡ Stop 0 = subst (Ends (finish s)) (sym q ∙ d) (ends s v.held) in tells-stop (at-end ∙ (ap (resume i v.done) g ∙ ap Stop (omega arith))) z

  -- so is a whole one
  pub end-some : {h : row.Node} → t ≡ Some h → Tells (scan text (Letters 0 0 1)) (Ok (put tb h))
  end-some {h} z =
      let g : (finish s ≡ Whole (said h ∷ [])) × (entry (said h) 0 ≡ h) = subst (Ends (finish s)) (sym q ∙ z) (ends s v.held) in
      subst (λ (y : Scan). Tells y (Ok (put tb h))) (sym (at-end ∙ ap (resume i v.done) g.0)) (
        omega (arith, v.counted, length-append v.done (said h ∷ [])),
        λ k. let few : tb.count < 32 = omega (arith, v.counted, length-append v.done (said h ∷ [])) in put-unsized v.done h tb.rows tb.count v.counted few g.1 (v.kept (omega (arith, v.counted))),
      )
