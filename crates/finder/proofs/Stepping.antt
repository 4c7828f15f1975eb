-- The finder after n steps: what is found and not yet given, and then what is still to be sought, is the list from number n on. Assumes nothing.
use Prim.Native.Nat.{ℕ, zero, suc, ◌+◌, ◌*◌, ◌≤◌, ◌<◌}
use mathlib.Core.Path.{◌≡◌, refl, sym, ap, ap₂, subst, ◌∙◌}
use mathlib.Core.Bool.{Bool, true, false, cond, ◌&&◌}
use mathlib.Core.List.{List, [], ◌∷◌, ◌++◌, append-nil}
use lib.ListN.{length, get_or, take, drop, length-take, length-drop, length-append, take-append-drop, drop_of_length-le}
use lib.Seq.{drop-cons, drop-drop, drop-nil, get_or-take, take_all}
use lib.Dec.{ltb, eqb}
use borrow.Author.Tests.{lt-ltb, ltb-true, ltb-false, eqb-true, eqb-false}
use native.Mathlib.Omega.{arith}
use Rattle.basics.proofs.Basics.{cases, and-true, true-and, le-or-lt}
use mathlib.Core.Logic.{◌⊎◌, ◌≢◌, inl, inr}
use Rattle.stretches.specs.declared.Node.{Node}
use Rattle.stretches.specs.declared.Stretch.{Stretch}
use Rattle.stretches.specs.Stretch.{st, Rising}
use Rattle.stretches.specs.Front.{onward, head_of, nth}
use Rattle.stretches.specs.Filling.{flat, pairs_in, written, filled, more_after}
use Rattle.stretches.specs.Lent.{pairs}
use Rattle.stretches.proofs.Filling.{pair-at, pairs-length, filled-front, length-flat}
use Rattle.stretches.proofs.Steps.{onward-all, onward-after}
use Rattle.meaning.specs.Refusals.{refusal}
use Rattle.meaning.specs.Finding.{list_of}
use Rattle.meaning.proofs.Finding.{refused-list}
use Rattle.finder.specs.declared.Finder.{Finder}
use Rattle.finder.specs.declared.Stepped.{Stepped}
use Rattle.std.specs.Prelude.{Option, Some, None}
use Rattle.acceptance.specs.Readied.{rows_in}
use Rattle.finder.specs.Promises.{list_in, waits, handed, none, offered, line_after, refilled, sought, step_over, opened, stepped}
use Rattle.finder.specs.Whole.{after, after_all}
use Rattle.finder.proofs.Calls.{fine-in, list-in}

distinct : ◌≡◌ {A = Bool} true false → ⊥
distinct z = let y : ◌≡◌ {A = ℕ} 1 0 = ap (λ b. cond b 1 0) z in omega arith

-- ── Cells as stretches ──

flat_start : (xs : List Stretch) (after : List ℕ) (m : ℕ) → m < length xs → get_or (flat xs ++ after) (2 * m) 0 ≡ (get_or xs m (st 0 0)).start
flat_start [] after m h = absurd (omega arith)
flat_start (x ∷ xs) after zero h = refl
flat_start (x ∷ xs) after (suc m) h =
    let z : 2 * suc m ≡ suc (suc (2 * m)) = omega arith in
    ap (λ (i : ℕ). get_or (x.start ∷ x.end ∷ (flat xs ++ after)) i 0) z ∙ flat_start xs after m (omega arith)

-- where no answer is found, there is none
empty-rest : (rest : List Stretch) (found : List ℕ) → length found ≡ 128 → ltb 0 (length (written rest 0 found)) && ltb 0 64 ≡ false → rest ≡ []
empty-rest [] found wide e = refl
empty-rest (x ∷ rest) found wide e =
    let n = length (written (x ∷ rest) 0 found) in
    let some : 0 < n = omega (arith, length-take (pairs_in found) (x ∷ rest)) in
    absurd (distinct (sym (true-and (ltb 0 n) (ltb 0 64) (lt-ltb 0 n some) refl) ∙ e))

-- ── A finder that leads to number n of a list ──

abbrev kept : Finder → List Stretch
kept f = pairs (take (2 * f.count) f.found)

-- what is still to be sought
abbrev ahead_by : List Stretch → Option ℕ → List Stretch
ahead_by l None = []
ahead_by l (Some line) = onward l line

record Leads (l : List Stretch) (n : ℕ) (f : Finder) : Type 0 where
  wide : length f.found ≡ 128
  few : f.count ≤ 64
  upto : f.given ≤ f.count
  rest : drop n l ≡ drop f.given (kept f) ++ ahead_by l f.from

next : (l : List Stretch) (n : ℕ) (xs : List Stretch) → drop n l ≡ xs → drop (n + 1) l ≡ drop 1 xs
next l n xs e = sym (drop-drop 1 n l) ∙ ap (drop 1) e

module _ (l : List Stretch) (n : ℕ) (f : Finder) (c : Leads l n f) where
  kept-length : length (kept f) ≡ f.count
  kept-length = pairs-length (take (2 * f.count) f.found) f.count (omega (arith, length-take (2 * f.count) f.found, c.wide, c.few))

  -- nothing waits
  given-all : waits f ≡ false → drop f.given (kept f) ≡ []
  given-all e = drop_of_length-le (kept f) {i = f.given} (omega (arith, kept-length, all (le-or-lt f.count f.given)))
    where
      all : (f.count ≤ f.given) ⊎ (f.given < f.count) → f.count ≤ f.given
      all (inl h) = h
      all (inr h) = absurd (distinct (sym (true-and (ltb f.given f.count) (ltb f.given 64) (lt-ltb f.given f.count h) (lt-ltb f.given 64 (omega (arith, c.few)))) ∙ e))

  record Offers (r : Stepped) : Type 0 where
    answer : r.answer ≡ nth l n
    leads : Leads l (n + 1) r.finder

  -- a finder offers the list's number n, where nothing waits only at its end
  offers : (waits f ≡ false → drop n l ≡ []) → Offers (offered f)
  offers end = cases (waits f) (λ b. Offers (cond b (handed f) (none f)))
      (λ e.
      let h = and-true (ltb f.given f.count) (ltb f.given 64) e in
      let g = ltb-true f.given f.count h.0 in
      let cells = take (2 * f.count) f.found in
      let x = st (get_or f.found (2 * f.given) 0) (get_or f.found (2 * f.given + 1) 0) in
      let more = drop (f.given + 1) (kept f) ++ ahead_by l f.from in
      let z : suc f.given ≡ f.given + 1 = omega arith in
      let first : get_or (kept f) f.given (st 0 0) ≡ x =
      pair-at cells f.given (omega (arith, length-take (2 * f.count) f.found, c.wide, c.few))
      ∙ ap₂ st (get_or-take (2 * f.count) f.found (2 * f.given) 0 (omega arith)) (get_or-take (2 * f.count) f.found (2 * f.given + 1) 0 (omega arith)) in
      let on : drop n l ≡ x ∷ more =
      c.rest ∙ ap (λ (ys : List Stretch). ys ++ ahead_by l f.from)
      (drop-cons (kept f) f.given (st 0 0) (omega (arith, kept-length)) ∙ ap₂ (λ (y : Stretch) (k : ℕ). y ∷ drop k (kept f)) first z) in
      record {
        answer = sym (ap (λ (ys : List Stretch). head_of ys) on);
        leads = record { wide = c.wide; few = c.few; upto = omega arith; rest = next l n (x ∷ more) on };
      })
      (λ e. record {
        answer = sym (ap (λ (ys : List Stretch). head_of ys) (end e));
        leads = record { wide = c.wide; few = c.few; upto = c.upto; rest = next l n [] (end e) ∙ sym (end e) ∙ c.rest };
      })

  -- the next answers found, from the line on
  module _ (r : Rising l) (empty : waits f ≡ false) (line : ℕ) (seeks : f.from ≡ Some line) where
    abbrev ahead : List Stretch
    ahead = onward l line

    abbrev some : List Stretch
    some = written ahead 0 f.found

    left : drop n l ≡ ahead
    left = c.rest ∙ ap₂ (λ (ys : List Stretch) (o : Option ℕ). ys ++ ahead_by l o) (given-all empty) seeks

    half : pairs_in f.found ≡ 64
    half = omega (arith, c.wide)

    some-few : length some ≤ 64
    some-few = omega (arith, half, length-take (pairs_in f.found) ahead)

    found-wide : length (filled ahead 0 f.found) ≡ 128
    found-wide = omega (arith, length-append (flat some) (drop (2 * length some) f.found), length-flat some, length-drop (2 * length some) f.found, c.wide, some-few)

    -- what follows the found answers starts after the last of them
    after_last : (m : ℕ) → length some ≡ suc m → length some < length ahead → ahead ≡ some ++ onward l (line_after line (filled ahead 0 f.found) (suc m))
    after_last m e h =
        let k : ℕ = pairs_in f.found in
        let full : k ≡ suc m = omega (arith, length-take k ahead) in
        let x = get_or ahead m (st 0 0) in
        let here : drop m ahead ≡ x ∷ drop (suc m) ahead = drop-cons ahead m (st 0 0) (omega arith) in
        let start : get_or (filled ahead 0 f.found) (2 * m) 0 ≡ x.start =
        flat_start some (drop (2 * length some) f.found) m (omega arith) ∙ ap (λ (y : Stretch). y.start) (get_or-take k ahead m (st 0 0) (omega arith)) in
        let next-line : suc x.start ≡ get_or (filled ahead 0 f.found) (2 * m) 0 + 1 = omega arith in
        sym (take-append-drop k ahead) ∙ ap (λ (ys : List Stretch). some ++ ys) (ap (λ (i : ℕ). drop i ahead) full ∙ onward-after l r m line x (drop (suc m) ahead) here ∙ ap (onward l) next-line)

    abbrev on : Option ℕ
    on = Some (line_after line (filled ahead 0 f.found) (length some))

    all_there : ahead ≡ some ++ ahead_by l (cond (more_after ahead 0 f.found) on None)
    all_there = cases (more_after ahead 0 f.found) (λ b. ahead ≡ some ++ ahead_by l (cond b on None))
        (λ e. by (length some) refl (ltb-true (0 + length some) (length ahead) e))
        (λ e. sym (append-nil some ∙ take_all (pairs_in f.found) ahead (omega (arith, length-take (pairs_in f.found) ahead, ltb-false (0 + length some) (length ahead) e))))
      where
        by : (m : ℕ) → length some ≡ m → 0 + length some < length ahead → ahead ≡ some ++ onward l (line_after line (filled ahead 0 f.found) m)
        by zero e h = absurd (omega (arith, half, length-take (pairs_in f.found) ahead))
        by (suc m) e h = after_last m e (omega arith)

    refills : Leads l n (refilled l line f)
    refills = record {
      wide = found-wide;
      few = some-few;
      upto = omega arith;
      rest = left ∙ all_there ∙ ap (λ (ys : List Stretch). ys ++ ahead_by l (cond (more_after ahead 0 f.found) on None)) (sym (filled-front ahead 0 f.found));
    }

    -- where none is found the list is at its end
    none_found : waits (refilled l line f) ≡ false → drop n l ≡ []
    none_found e = left ∙ empty-rest ahead f.found c.wide e

-- a step gives the list's number n, and leads to the next
step-offers : (l : List Stretch) → Rising l → (n : ℕ) (f : Finder) (c : Leads l n f) → Offers l n f c (step_over l f)
unfolding step_over
step-offers l r n f c =
    cases (waits f) (λ b. Offers l n f c (offered (cond b f (sought l f.from f)))) (λ e. offers l n f c (λ z. absurd (distinct (sym e ∙ z)))) (λ e. seek e f.from refl)
  where
    seek : waits f ≡ false → (o : Option ℕ) → f.from ≡ o → Offers l n f c (offered (sought l o f))
    seek e None q = offers l n f c (λ z. c.rest ∙ ap₂ (λ (ys : List Stretch) (o : Option ℕ). ys ++ ahead_by l o) (given-all l n f c e) q)
    seek e (Some line) q = let o = offers l n (refilled l line f) (refills l n f c r e line q) (none_found l n f c r e line q) in record { answer = o.answer; leads = o.leads }

-- ── The finder after n steps ──

step-rows : (l : List Stretch) (f : Finder) → (step_over l f).finder.rows ≡ f.rows
unfolding step_over
step-rows l f = offered-rows (cond (waits f) f (sought l f.from f)) ∙ cases (waits f) (λ b. (cond b f (sought l f.from f)).rows ≡ f.rows) (λ e. refl) (λ e. sought-rows f.from)
  where
    offered-rows : (g : Finder) → (offered g).finder.rows ≡ g.rows
    offered-rows g = cases (waits g) (λ b. (cond b (handed g) (none g)).finder.rows ≡ g.rows) (λ e. refl) (λ e. refl)

    sought-rows : (o : Option ℕ) → (sought l o f).rows ≡ f.rows
    sought-rows None = refl
    sought-rows (Some line) = refl

-- nothing waits, and there is no line to seek from
abbrev Shut : Finder → Type 0
Shut f = (waits f ≡ false) × (f.from ≡ None)

-- such a finder says none and stays the same, whatever the log
pub closed_none : (f : Finder) (log : List ℕ) → Shut f → stepped f log ≡ none f
unfolding step_over
closed_none f log h = let l = list_in f.rows log in
    ap₂ (λ b (o : Option ℕ). offered (cond b f (sought l o f))) h.0 h.1 ∙ ap (λ b. cond b (handed f) (none f)) h.0

module _ (pattern log : List ℕ) where
  -- accepted
  module _ (ok : (refusal pattern log).number ≡ 0) where
    abbrev l : List Stretch
    l = list_of pattern log

    rising : Rising l
    rising = subst Rising (list-in pattern log ok) (fine-in (rows_in pattern log) log).rising

    rows-after : (n : ℕ) → (after pattern log n).rows ≡ rows_in pattern log
    unfolding after
    rows-after zero = refl
    rows-after (suc n) = step-rows (list_in (after pattern log n).rows log) (after pattern log n) ∙ rows-after n

    list-after : (n : ℕ) → list_in (after pattern log n).rows log ≡ l
    list-after n = ap (λ (r : List Node). list_in r log) (rows-after n) ∙ list-in pattern log ok

    leads-after : (n : ℕ) → Leads l n (after pattern log n)
    unfolding after
    leads-after zero = record {
      wide = refl;
      few = omega arith;
      upto = omega arith;
      rest = sym (onward-all l rising) ∙ ap (λ (k : ℕ). ahead_by l (cond (eqb k 0) (Some 0) None)) (sym ok);
    }
    leads-after (suc n) =
        let f = after pattern log n in
        let z : n + 1 ≡ suc n = omega arith in
        subst (λ (k : ℕ). Leads l k (stepped f log).finder) z
        (subst (λ (m : List Stretch). Leads l (n + 1) (step_over m f).finder) (sym (list-after n)) (step-offers l rising n f (leads-after n)).leads)

    answer-accepted : (n : ℕ) → (stepped (after pattern log n) log).answer ≡ nth l n
    answer-accepted n = ap (λ (m : List Stretch). (step_over m (after pattern log n)).answer) (list-after n) ∙ (step-offers l rising n (after pattern log n) (leads-after n)).answer

  -- refused
  module _ (no : eqb (refusal pattern log).number 0 ≡ false) where
    closed_after : (n : ℕ) → Shut (after pattern log n)
    unfolding after
    closed_after zero = (refl, ap (λ b. cond b (Some 0) None) no)
    closed_after (suc n) = let f = after pattern log n in subst (λ (r : Stepped). Shut r.finder) (sym (closed_none f log (closed_after n))) (closed_after n)

    answer-refused : (n : ℕ) → (stepped (after pattern log n) log).answer ≡ nth (list_of pattern log) n
    answer-refused n =
        let f = after pattern log n in
        let empty : list_of pattern log ≡ [] = refused-list pattern log (refusal pattern log) refl (omega (arith, eqb-false (refusal pattern log).number 0 no)) in
        ap (λ (r : Stepped). r.answer) (closed_none f log (closed_after n))
        ∙ sym (ap (λ (m : List Stretch). nth m n) empty ∙ ap (λ (m : List Stretch). head_of m) (drop-nil n))

  -- the step after n steps gives number n of the list, and past its end none
  pub step-answer : (n : ℕ) → (stepped (after pattern log n) log).answer ≡ nth (list_of pattern log) n
  step-answer n = go (eqb (refusal pattern log).number 0) refl
    where
      go : (b : Bool) → eqb (refusal pattern log).number 0 ≡ b → (stepped (after pattern log n) log).answer ≡ nth (list_of pattern log) n
      go true e = answer-accepted (eqb-true (refusal pattern log).number 0 e) n
      go false e = answer-refused e n

-- ── After none ──

-- a finder that says none with every log says so after any steps
stays : (f : Finder) → ((log : List ℕ) → stepped f log ≡ none f) → (logs : List (List ℕ)) (log : List ℕ) → stepped (after_all f logs) log ≡ none f
stays f h [] log = h log
stays f h (x ∷ logs) log = ap (λ (r : Stepped). stepped (after_all r.finder logs) log) (h x) ∙ stays f h logs log

-- a refused opening gives a finder that only says none, whatever the logs
pub refused_none : (pattern log : List ℕ) → (opened pattern log).number ≢ 0 → (logs : List (List ℕ)) (log' : List ℕ)
    → stepped (after_all (opened pattern log).finder logs) log' ≡ none (opened pattern log).finder
refused_none pattern log n =
    stays (opened pattern log).finder (λ log'. closed_none (opened pattern log).finder log' (refl, shut))
  where
    shut : cond {A = Option ℕ} (eqb (refusal pattern log).number 0) (Some 0) None ≡ None
    shut = cases (eqb (refusal pattern log).number 0) (λ b. cond {A = Option ℕ} b (Some 0) None ≡ None) (λ e. absurd (n (eqb-true (refusal pattern log).number 0 e))) (λ e. refl)

-- a finder that offers none, and has then nothing to seek
offers-none : (f : Finder) → (waits f ≡ false → f.from ≡ None) → (offered f).answer ≡ None → Shut (offered f).finder
offers-none f u = cases (waits f) (λ b. waits f ≡ b → (cond b (handed f) (none f)).answer ≡ None → Shut (cond b (handed f) (none f)).finder)
    (λ e k z. absurd cc) (λ e k z. (e, u e)) refl

step-shut : (l : List Stretch) (f : Finder) → length f.found ≡ 128 → (step_over l f).answer ≡ None → Shut (step_over l f).finder
unfolding step_over
step-shut l f wide = cases (waits f) (λ b. waits f ≡ b → (offered (cond b f (sought l f.from f))).answer ≡ None → Shut (offered (cond b f (sought l f.from f))).finder)
    (λ _ e. offers-none f (λ k. absurd (distinct (sym e ∙ k)))) (λ _ e. seek f.from refl) refl
  where
    nothing-more : (n : ℕ) → ltb (0 + length {A = Stretch} (take n [])) 0 ≡ false
    nothing-more zero = refl
    nothing-more (suc n) = refl

    at_end : (line : ℕ) → onward l line ≡ [] → (refilled l line f).from ≡ None
    at_end line e =
        let on = λ (xs : List Stretch). Some (line_after line (filled xs 0 f.found) (length (written xs 0 f.found))) in
        ap (λ (xs : List Stretch). cond (more_after xs 0 f.found) (on xs) None) e ∙ ap (λ b. cond b (on []) None) (nothing-more (pairs_in f.found))

    seek : (o : Option ℕ) → f.from ≡ o → (offered (sought l o f)).answer ≡ None → Shut (offered (sought l o f)).finder
    seek None e = offers-none f (λ k. e)
    seek (Some line) e = offers-none (refilled l line f) (λ k. at_end line (empty-rest (onward l line) f.found wide k))

-- after "none" comes "none", whatever the logs
pub none_stays : (f : Finder) → length f.found ≡ 128 → (log : List ℕ) → (stepped f log).answer ≡ None
    → (logs : List (List ℕ)) (log' : List ℕ) → stepped (after_all (stepped f log).finder logs) log' ≡ none (stepped f log).finder
none_stays f wide log e = let g = (stepped f log).finder in stays g (λ x. closed_none g x (step-shut (list_in f.rows log) f wide e))
