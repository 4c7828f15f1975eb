-- Algorithms 2 and 3 with no bound on the turns of their loops, as the paper writes them; specs/Taking.antt runs them with one.
-- Assumes nothing.
use Rattle.std.specs.Prelude.{ℕ, zero, suc, max, ◌≡◌, true, false, List}
use Rattle.stretches.specs.Stretch.{Stretch, inside, Op, Or, And}
use Rattle.stretches.specs.Front.{Front, None, Some}
use Rattle.stretches.specs.Taking.{AnswerCounts, fronts, Order, ends_first, starts_first, top, span, contains, advance, or_hand, is_top, begun}

-- lines 2 to 4: while top(Q), or span(Q), contains c, advance; from the counts ks to js in n turns
pub data SkipGives (o : Order) (view : List Front → Front) (ls : List (List Stretch)) (c : Front) : List ℕ → ℕ → List ℕ → Type 0 where
  skip-over : {ks : List ℕ} → contains (view (fronts ls ks)) c ≡ false → SkipGives o view ls c ks 0 ks
  skip-on : {ks js : List ℕ} {n : ℕ} → contains (view (fronts ls ks)) c ≡ true → SkipGives o view ls c (advance o ls ks) n js → SkipGives o view ls c ks (suc n) js

-- lines 6 to 11, c being span(Q): from the counts ks to what is handed out, in n turns
pub data ShrinkGives (ls : List (List Stretch)) : Stretch → List ℕ → ℕ → AnswerCounts → Type 0 where
  -- line 8: c is top(Q) itself
  shrink-top : {c : Stretch} {ks : List ℕ} → is_top (top starts_first (fronts ls ks)) c ≡ true → ShrinkGives ls c ks 0 (record { answer = Some c; counts = ks })
  -- lines 9 to 11: after an advance Q is not full, or span(Q) does not lie in c
  shrink-over : {c : Stretch} {ks : List ℕ} → is_top (top starts_first (fronts ls ks)) c ≡ false
      → contains (Some c) (span (fronts ls (advance starts_first ls ks))) ≡ false → ShrinkGives ls c ks 1 (record { answer = Some c; counts = advance starts_first ls ks })
  -- lines 9 and 10: after an advance span(Q) lies in c
  shrink-on : {c x : Stretch} {ks : List ℕ} {n : ℕ} {r : AnswerCounts} → is_top (top starts_first (fronts ls ks)) c ≡ false
      → span (fronts ls (advance starts_first ls ks)) ≡ Some x → inside x c ≡ true → ShrinkGives ls x (advance starts_first ls ks) n r → ShrinkGives ls c ks (suc n) r

-- a call of next after s gives r, and n is the most turns that a loop of it makes
pub data NextGives (ls : List (List Stretch)) (s : AnswerCounts) : Op → ℕ → AnswerCounts → Type 0 where
  -- Algorithm 2
  or-next : {n : ℕ} {js : List ℕ} → SkipGives ends_first (top ends_first) ls s.answer s.counts n js → NextGives ls s Or n (or_hand ls js)
  -- Algorithm 3, line 5: Q is not full
  and_none : {n : ℕ} {js : List ℕ} → SkipGives starts_first span ls s.answer s.counts n js → span (fronts ls js) ≡ None → NextGives ls s And n (record { answer = None; counts = js })
  -- Algorithm 3, from line 6 on: Q is full
  and-next : {n i : ℕ} {js : List ℕ} {c : Stretch} {r : AnswerCounts} → SkipGives starts_first span ls s.answer s.counts n js
      → span (fronts ls js) ≡ Some c → ShrinkGives ls c js i r → NextGives ls s And (max n i) r

-- answer number p or none, with the items taken, and the most turns that a loop makes up to it
pub data TakingGives (ls : List (List Stretch)) (o : Op) : ℕ → ℕ → AnswerCounts → Type 0 where
  taking-first : {n : ℕ} {r : AnswerCounts} → NextGives ls (begun ls) o n r → TakingGives ls o zero n r
  taking-later : {p m n : ℕ} {s r : AnswerCounts} → TakingGives ls o p m s → NextGives ls s o n r → TakingGives ls o (suc p) (max m n) r
