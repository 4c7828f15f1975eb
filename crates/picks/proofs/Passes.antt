-- A pass: what each return and turn of its functions shows. Assumes nothing.
use Prim.Native.Nat.{ℕ, suc, ◌+◌, ◌-◌, ◌*◌, ◌≤◌, ◌<◌}
use mathlib.Core.Path.{◌≡◌, refl, sym, ap, ap₂, subst, ◌∙◌}
use mathlib.Core.Logic.{◌⊎◌, inl, inr}
use mathlib.Core.Bool.{Bool, true, false, cond, ◌&&◌, ◌||◌}
use mathlib.Core.List.{List, [], ◌∷◌}
use lib.Dec.{leb, ltb}
use lib.ListN.{length, get_or, take, drop, length-take, drop_of_length-le}
use lib.Seq.{drop-cons, get_or-take}
use borrow.Author.Tests.{ltb-true, ltb-false, lt-ltb, le-ltb, leb-true, leb-false, le-leb, eq-eqb, ne_eqb}
use native.Mathlib.Omega.{arith}
use Rattle.basics.proofs.Basics.{cases, and-true, true-and}
use Rattle.stretches.specs.declared.Stretch.{Stretch}
use Rattle.stretches.specs.Stretch.{st, In, Rising, Fine, length_of}
use Rattle.stretches.proofs.Lists.{st-path, ext-rising, keep-in, in-keep, rising-keep}
use Rattle.stretches.proofs.Steps.{in-onward, onward-all}
use Rattle.stretches.proofs.Answers.{rising-mono}
use Rattle.stretches.proofs.Filling.{pair-at, pairs-length}
use Rattle.stretches.specs.declared.Node.{Node}
use Rattle.stretches.specs.Front.{Front, None, Some}
use Rattle.seek.specs.declared.state.State.{State}
use Rattle.seek.specs.Source.{Source, list_over, Good}
use Rattle.seek.specs.First.{no_state, Ready, FirstOf}
use Rattle.seek.proofs.Nodes.{fine}
use Rattle.seek.proofs.Keeping.{ready-none}
use Rattle.seek.proofs.Ahead.{rest, step-ready, step-none, step-some}
use Rattle.picks.specs.Picks.{ahead, apart}
use Rattle.picks.specs.inner.Remaining.{clear, remaining, shortest_of}
use Rattle.picks.specs.inner.Passes.{held_in, Lying, Upright, before, nearer, next_of, better}

-- the machine's stretches lie on lines
pub answers-lie : (src : Source) (rows : List Node) → Good src rows → Lying (list_over src rows 0)
answers-lie src rows good s e m = let f = fine src rows good 0 (omega arith) in (f.sound s e m, f.below s e m)

-- ── Which is ahead ──

module _ (x y : Stretch) (hx : x.start ≤ x.end) (hy : y.start ≤ y.end) where
  pub ahead-shorter : x.end - x.start < y.end - y.start → true ≡ ahead x y
  ahead-shorter h = simp (lt-ltb (length_of x) (length_of y) (omega arith))

  pub ahead-longer : y.end - y.start < x.end - x.start → false ≡ ahead x y
  ahead-longer h = simp (le-ltb (length_of x) (length_of y) (omega arith), ne_eqb (length_of x) (length_of y) (λ z. omega arith))

  pub ahead-alike : y.end - y.start ≤ x.end - x.start → x.end - x.start ≤ y.end - y.start → ltb y.start x.start ≡ ahead x y
  ahead-alike h k = simp (le-ltb (length_of x) (length_of y) (omega arith), eq-eqb (length_of x) (length_of y) (omega arith))

-- ── The best so far ──

-- the best of a list, one after another
abbrev best_of : Front → List Stretch → Front
best_of b [] = b
best_of b (x ∷ l) = best_of (better b x) l

best-at : (x : Stretch) (l : List Stretch) → best_of (Some x) l ≡ shortest_of (x ∷ l)
best-at x [] = refl
best-at x (y ∷ l) = ap (λ (b : Front). best_of b l) (cases (ahead y x) (λ b. cond b (Some y) (Some x) ≡ Some (cond b y x)) (λ k. refl) (λ k. refl)) ∙ best-at (cond (ahead y x) y x) l

-- is the shortest of it
best-all : (l : List Stretch) → best_of None l ≡ shortest_of l
best-all [] = refl
best-all (x ∷ l) = best-at x l

-- ── The next pick ──

apart-before : (x y : Stretch) → x.end < y.start → apart x y ≡ true
apart-before x y h = ap (λ b. b || ltb y.end x.start) (lt-ltb x.end y.start h)

apart-after : (x y : Stretch) → y.end < x.start → apart x y ≡ true
apart-after x y h = cases (ltb x.end y.start) (λ b. b || ltb y.end x.start ≡ true) (λ k. refl) (λ k. lt-ltb y.end x.start h)

apart-not : (x y : Stretch) → y.start ≤ x.end → x.start ≤ y.end → apart x y ≡ false
apart-not x y h k = ap₂ ◌||◌ (le-ltb x.end y.start h) (le-ltb y.end x.start k)

-- what shares a line with one of the picks is not clear of them
shares-not : (ps : List Stretch) (s e : ℕ) (y : Stretch) → In s e ps → apart (st s e) y ≡ false → clear ps y ≡ false
shares-not [] s e y m h = absurd m
shares-not (x ∷ ps) s e y (inl k) h = ap (λ b. b && clear ps y) (ap (λ (z : Stretch). apart z y) (sym (st-path (st s e) x k.0 k.1)) ∙ h)
shares-not (x ∷ ps) s e y (inr m) h = cases (apart x y) (λ b. b && clear ps y ≡ false) (λ k. shares-not ps s e y m h) (λ k. refl)

-- y ends before the front starts
abbrev pub Short : Stretch → Front → Type 0
Short y None = Unit {0}
Short y (Some p) = y.end < p.start

pub short-none : (y : Stretch) (r : Front) → ((p : Stretch) → r ≡ Some p → ⊥) → Short y r
short-none y None h = tt
short-none y (Some p) h = absurd (h p refl)

-- what starts at t or later and ends before the next pick starts is clear of the picks
next-clear : (t : ℕ) (r : Front) (ps : List Stretch) (y : Stretch) → t ≤ y.start → Short y (next_of t r ps) → (clear ps y ≡ true) × Short y r
next-clear t r [] y h k = (refl, k)
next-clear t r (x ∷ ps) y h k =
    let j = next-clear t (nearer t x r) ps y h k in
    let a = one r (leb t x.end) refl j.1 in
    (true-and (apart x y) (clear ps y) a.0 j.0, a.1)
  where
    one : (r : Front) (b : Bool) → leb t x.end ≡ b → Short y (cond (b && before x r) (Some x) r) → (apart x y ≡ true) × Short y r
    one None true e g = (apart-after x y g, tt)
    one (Some p) true e g = two (ltb x.start p.start) refl g
      where
        two : (b : Bool) → ltb x.start p.start ≡ b → Short y (cond b (Some x) (Some p)) → (apart x y ≡ true) × (y.end < p.start)
        two true e g = (apart-after x y g, omega (arith, ltb-true x.start p.start e))
        two false e g = (apart-after x y (omega (arith, ltb-false x.start p.start e)), g)
    one r false e g = (apart-before x y (omega (arith, leb-false t x.end e)), g)

-- the next pick is one of the picks, and ends at t or later
abbrev Among : List Stretch → ℕ → Front → Type 0
Among ps t None = ⊥
Among ps t (Some n) = In n.start n.end ps × (t ≤ n.end)

next-among : (t : ℕ) (r : Front) (ps : List Stretch) → (next_of t r ps ≡ r) ⊎ Among ps t (next_of t r ps)
next-among t r [] = inl refl
next-among t r (x ∷ ps) = go (next_of t (nearer t x r) ps) (next-among t (nearer t x r) ps)
  where
    more : (n : Front) → Among ps t n → Among (x ∷ ps) t n
    more None m = m
    more (Some n) m = (inr m.0, m.1)

    go : (n : Front) → (n ≡ nearer t x r) ⊎ Among ps t n → (n ≡ r) ⊎ Among (x ∷ ps) t n
    go n (inr m) = inr (more n m)
    go n (inl e) = cases (leb t x.end && before x r) (λ b. n ≡ cond b (Some x) r → (n ≡ r) ⊎ Among (x ∷ ps) t n)
        (λ k i. inr (subst (Among (x ∷ ps) t) (sym i) (inl (refl, refl), leb-true t x.end (and-true (leb t x.end) (before x r) k).0)))
        (λ k i. inl i) e

-- pick i is two cells
held_at : (cells : List ℕ) (n i : ℕ) → i < n → 2 * n ≤ length cells → drop i (held_in cells n) ≡ st (get_or cells (2 * i) 0) (get_or cells (2 * i + 1) 0) ∷ drop (i + 1) (held_in cells n)
held_at cells n i h k =
    let w : length (take (2 * n) cells) ≡ 2 * n = omega (arith, length-take (2 * n) cells) in
    let z : suc i ≡ i + 1 = omega arith in
    drop-cons (held_in cells n) i (st 0 0) (omega (arith, pairs-length (take (2 * n) cells) n w))
    ∙ ap₂ (λ (x : Stretch) (j : ℕ). x ∷ drop j (held_in cells n))
    (pair-at (take (2 * n) cells) i (omega arith) ∙ ap₂ st (get_or-take (2 * n) cells (2 * i) 0 (omega arith)) (get_or-take (2 * n) cells (2 * i + 1) 0 (omega arith))) z

module _ (cells : List ℕ) (n t : ℕ) (room : 2 * n ≤ length cells) where
  pub next-turn : (r : Front) {r' : Front} (i : ℕ) {g : Front} → i < n → next_of t r (drop i (held_in cells n)) ≡ g → r' ≡ nearer t (st (get_or cells (2 * i) 0) (get_or cells (2 * i + 1) 0)) r
      → next_of t r' (drop (i + 1) (held_in cells n)) ≡ g
  next-turn r i h e k = ap (λ (f : Front). next_of t f (drop (i + 1) (held_in cells n))) k ∙ (sym (ap (next_of t r) (held_at cells n i h room)) ∙ e)

  pub next-done : (r : Front) (i : ℕ) {g : Front} → n ≤ i → next_of t r (drop i (held_in cells n)) ≡ g → r ≡ g
  next-done r i h e =
      let w : length (take (2 * n) cells) ≡ 2 * n = omega (arith, length-take (2 * n) cells) in
      sym (ap (next_of t r) (drop_of_length-le (held_in cells n) {i = i} (omega (arith, pairs-length (take (2 * n) cells) n w)))) ∙ e

-- r is the next of the picks from line t on
pub record Next (ps : List Stretch) (t : ℕ) (r : Front) : Type 0 where
  pub clears : (y : Stretch) → t ≤ y.start → Short y r → clear ps y ≡ true
  pub blocks : (x : Stretch) → r ≡ Some x → (y : Stretch) → y.start ≤ x.end → x.start ≤ y.end → clear ps y ≡ false
  pub lies : (x : Stretch) → r ≡ Some x → (t ≤ x.end) × (x.start ≤ x.end) × (x.end < 65536)

next-is : (ps : List Stretch) → Lying ps → (t : ℕ) (r : Front) → r ≡ next_of t None ps → Next ps t r
next-is ps lying t r e = record {
  clears = λ y h k. (next-clear t None ps y h (subst (Short y) e k)).0;
  blocks = λ x i y h k. shares-not ps x.start x.end y (among x i).0 (apart-not x y h k);
  lies = λ x i. let m = among x i in let z = lying x.start x.end m.0 in (m.1, z.0, z.1);
}
  where
    among : (x : Stretch) → r ≡ Some x → Among ps t (Some x)
    among x i = go (next-among t None ps)
      where
        go : (next_of t None ps ≡ None) ⊎ Among ps t (next_of t None ps) → Among ps t (Some x)
        go (inl k) = absurd cc
        go (inr m) = subst (Among ps t) (sym e ∙ i) m

-- ── The pass ──

-- up to line t: the best so far and what remains from there on have the shortest of all that remains
pub record Pass (src : Source) (rows : List Node) (ps : List Stretch) (s : State) (b r : Front) (t : ℕ) : Type 0 where
  pub within : t ≤ 65536
  pub ready : Ready src rows s
  pub upright : Upright b
  pub next : Next ps t r
  pub left : best_of b (remaining ps (rest src rows t)) ≡ shortest_of (remaining ps (list_over src rows 0))

module _ (src : Source) (rows : List Node) (ps : List Stretch) (good : Good src rows) (lying : Lying ps) where
  abbrev l : List Stretch
  l = list_over src rows 0

  abbrev goal : Front
  goal = shortest_of (remaining ps l)

  fine-all : Fine 65536 l
  fine-all = fine src rows good 0 (omega arith)

  low : Lying l
  low = answers-lie src rows good

  pub pass-start : {r : Front} → r ≡ next_of 0 None ps → Pass src rows ps no_state None r 0
  pass-start {r} e = record {
    within = omega arith;
    ready = ready-none src rows;
    upright = tt;
    next = next-is ps lying 0 r e;
    left = ap (λ (x : List Stretch). best_of None (remaining ps x)) (onward-all l fine-all.rising) ∙ best-all (remaining ps l);
  }

  module _ {s : State} {b r : Front} {t : ℕ} (p : Pass src rows ps s b r t) where
    ended : rest src rows t ≡ [] → b ≡ goal
    ended e = sym (ap (λ (x : List Stretch). best_of b (remaining ps x)) e) ∙ p.left

    module _ {o : Front} {s' : State} (g : FirstOf src rows s 0 t o s') where
      -- past the last answer
      pub pass-end : o ≡ None → b ≡ goal
      pass-end h = ended (step-none g good p.ready h)

      module _ {x : Stretch} (one : o ≡ Some x) where
        here : rest src rows t ≡ x ∷ rest src rows (x.start + 1)
        here = step-some g good p.ready one

        found : In x.start x.end l × (t ≤ x.start)
        found = in-onward l t x.start x.end (subst (In x.start x.end) (sym here) (inl (refl, refl)))

        pub pass-lies : (x.start ≤ x.end) × (x.end < 65536) × (t ≤ x.start)
        pass-lies = let z = low x.start x.end found.0 in (z.0, z.1, found.1)

        -- an answer that ends before the next pick starts
        pub pass-take : {b' : Front} → Short x r → b' ≡ better b x → Pass src rows ps s' b' r (x.start + 1)
        pass-take h e =
            let z = pass-lies in
            let c : clear ps x ≡ true = p.next.clears x z.2 h in
            subst (λ (y : Front). Pass src rows ps s' y r (x.start + 1)) (sym e) (record {
              within = omega arith;
              ready = step-ready g good p.ready;
              upright = up b p.upright;
              next = record {
                clears = λ y i j. p.next.clears y (omega (arith, z.2)) j;
                blocks = p.next.blocks;
                lies = λ y i. let w = p.next.lies y i in (beyond y (subst (Short x) i h) w.1, w.1, w.2);
              };
              left = sym (ap (λ q. best_of b (cond q (x ∷ remaining ps (rest src rows (x.start + 1))) (remaining ps (rest src rows (x.start + 1))))) c)
                  ∙ (sym (ap (λ (y : List Stretch). best_of b (remaining ps y)) here) ∙ p.left);
            })
          where
            up : (b : Front) → Upright b → Upright (better b x)
            up None u = pass-lies.0
            up (Some y) u = cases (ahead x y) (λ q. Upright (cond q (Some x) (Some y))) (λ k. pass-lies.0) (λ k. u)

            beyond : (y : Stretch) → x.end < y.start → y.start ≤ y.end → x.start + 1 ≤ y.end
            beyond y i j = omega (arith, pass-lies.0)

        -- one that reaches it: what remains starts after that pick's end
        module _ {q : Stretch} (pick : r ≡ Some q) (h : q.start ≤ x.end) where
          pub pass-next : (t ≤ q.end) × (q.end < 65536)
          pass-next = let y = p.next.lies q pick in (y.0, y.2)

          after : (s e : ℕ) → In s e (remaining ps (rest src rows t)) → In s e (remaining ps (rest src rows (q.end + 1)))
          after s e m =
              let k = in-keep (clear ps) (rest src rows t) s e m in
              let i = in-onward l t s e k.0 in
              keep-in (clear ps) (rest src rows (q.end + 1)) s e (keep-in (λ y. leb (q.end + 1) y.start) l s e i.0 (le-leb (q.end + 1) s (beyond k.0 i.0 k.1))) k.1
            where
              beyond : In s e (rest src rows t) → In s e l → clear ps (st s e) ≡ true → q.end + 1 ≤ s
              beyond m i c = cases (leb (q.end + 1) s) (λ b. leb (q.end + 1) s ≡ b → q.end + 1 ≤ s) (λ k j. leb-true (q.end + 1) s j)
                  (λ k j.
                  let low_end : x.start ≤ s = from (subst (In s e) here m) in
                  let z = rising-mono l fine-all.rising x.start x.end s e found.0 i low_end in
                  let w = p.next.blocks q pick (st s e) (omega (arith, leb-false (q.end + 1) s j)) (omega (arith, z)) in
                  absurd cc) refl
                where
                  from : In s e (x ∷ rest src rows (x.start + 1)) → x.start ≤ s
                  from (inl k) = omega arith
                  from (inr k) = omega (arith, (in-onward l (x.start + 1) s e k).1)

          since : (s e : ℕ) → In s e (remaining ps (rest src rows (q.end + 1))) → In s e (remaining ps (rest src rows t))
          since s e m =
              let k = in-keep (clear ps) (rest src rows (q.end + 1)) s e m in
              let i = in-onward l (q.end + 1) s e k.0 in
              keep-in (clear ps) (rest src rows t) s e (keep-in (λ y. leb t y.start) l s e i.0 (le-leb t s (omega (arith, i.1, pass-next.0)))) k.1

          pub pass-skip : {n : Front} → n ≡ next_of (q.end + 1) None ps → Pass src rows ps s' b n (q.end + 1)
          pass-skip {n} e =
              let up : (u : ℕ) → Rising (remaining ps (rest src rows u)) = λ u. rising-keep (clear ps) (rest src rows u) (rising-keep (λ y. leb u y.start) l fine-all.rising) in
              record {
                within = omega (arith, pass-next.1);
                ready = step-ready g good p.ready;
                upright = p.upright;
                next = next-is ps lying (q.end + 1) n e;
                left = sym (ap (best_of b) (ext-rising (remaining ps (rest src rows t)) (remaining ps (rest src rows (q.end + 1))) (up t) (up (q.end + 1)) after since)) ∙ p.left;
              }
