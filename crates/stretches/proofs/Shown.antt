-- Laws of what an operator shows of its operands: each the first of its list from some line on, or to one, and one of its list, and those that make the span have
-- that of the answer.
-- Assumes nothing.
use Prim.Native.Nat.{ℕ, suc, ◌≤◌}
use mathlib.Core.Path.{◌≡◌, refl, sym, ap, ap₂, subst, ◌∙◌}
use mathlib.Core.Logic.{◌⊎◌, inl, inr}
use mathlib.Core.Bool.{Bool, true, false, not, cond}
use mathlib.Core.List.{List, [], ◌∷◌, map}
use lib.Dec.{leb, eqb}
use lib.ListN.{get_or}
use borrow.Author.Tests.{le-leb, leb-true, eqb-true, eq-eqb}
use native.Mathlib.Omega.{arith}
use Rattle.basics.proofs.Basics.{cases, and-true, true-and, or-true, or_left, or_right}
use Rattle.stretches.specs.Stretch.{Stretch, st, In, Rising, AllRising, AllSound, inside, same, keep, low, high, linked, anyhow, adjoins, follows, none_that, first_list, Beside, Alone, Holder, Inner, Op, Or, And, Row, Then, Keep, Inside, Holding, answers}
use Rattle.stretches.specs.Front.{Front, None, Some, first_from, first_to, head_of, first_that}
use Rattle.stretches.specs.Shown.{is_in, nothing, shown_or, shown_and, shown_after, shown_row, proves, shown_first, shown_below, proven, spanning, Proved, spanned, span_of}
use Rattle.stretches.specs.inner.Below.{alone, chained, by_end, only_if, found_one, and_then, found_below}
use Rattle.stretches.proofs.Lists.{st-path, in-keep, same_true, inside-true, true-inside}
use Rattle.stretches.proofs.Tuples.{InAny, Picks, Span, in-cast}
use Rattle.stretches.proofs.Answers.{Ordered, ordered-adjoins, ordered-follows, ordered-low, Kept, Least, answer-cand, answer-least}
use Rattle.stretches.proofs.Fronts.{FirstIs, first_good, FrontsAt, From, To, low-from, high-to, front-good, fronts-picks, fronts-are}
use Rattle.stretches.proofs.Ordered.{ChainAt, after-linked, chain-picks, chain-is, span-after, RowAt, picks-row}
use Rattle.stretches.proofs.Held.{keep-nothing, inner_first, holder-first, some-proved, to_in, self-found}
use Rattle.stretches.proofs.Steps.{keep_taken}
use Rattle.stretches.proofs.Tight.{and-tight, then-tight}

-- ── The first that passes a test, as a front ──

head_first : (l : List Stretch) (t : ℕ) → ((s e : ℕ) → In s e l → t ≤ s) → head_of l ≡ first_from l t
head_first [] t f = refl
head_first (x ∷ l) t f = ap (λ (b : Bool). cond b (Some x) (first_from l t)) (sym (le-leb t x.start (f x.start x.end (inl (refl, refl)))))

-- where only stretches from line t on pass, and the front from there does, it is that front
first-that : (f : Stretch → Bool) (l : List Stretch) → Rising l → (t : ℕ) (y : Stretch) → ((z : Stretch) → f z ≡ true → t ≤ z.start) → first_from l t ≡ Some y → f y ≡ true → first_that f l ≡ Some y
first-that f l r t y g p h = head_first (keep f l) t (λ s e m. g (st s e) (in-keep f l s e m).1) ∙ keep_taken f l r t y p h

abbrev onto : Stretch → List Front → List Front
onto a fs = Some a ∷ fs

-- ── Looking at one operand ──

module _ (a c h k : Bool) (x : Stretch) (t : ℕ) (l : List Stretch) (ls : List (List Stretch)) where
  abbrev next : Front → List Front
  next g = and_then g (λ y. cond a (nothing ls) (found_below a c k k x (cond c (suc y.end) t) ls)) (found_below a c k k x t ls)

  -- one is found
  pub found_at : (y : Stretch) → found_one h x t l ≡ Some y → found_below a c h k x t (l ∷ ls) ≡ Some y ∷ cond a (nothing ls) (found_below a c k k x (cond c (suc y.end) t) ls)
  found_at y p = ap next p

  -- none is
  pub found-past : found_one h x t l ≡ None → found_below a c h k x t (l ∷ ls) ≡ None ∷ found_below a c k k x t ls
  found-past p = ap next p

-- the front that passes is the front
only-if : (f : Stretch → Bool) (g : Front) (y : Stretch) → only_if f g ≡ Some y → g ≡ Some y
only-if f None y = λ p. p
only-if f (Some z) y = cases (f z) (λ b. cond b (Some z) None ≡ Some y → Some z ≡ Some y) (λ k p. p) (λ k p. let z : ◌≡◌ {A = ℕ} 0 1 = cc in absurd (omega arith))

-- the front from line t on, where it does not end behind x
front-found : (x : Stretch) (t : ℕ) (l : List Stretch) (y : Stretch) → first_from l t ≡ Some y → y.end ≤ x.end → found_one false x t l ≡ Some y
front-found x t l y p h = ap (only_if (λ z. leb z.end x.end)) p ∙ ap (λ (b : Bool). cond b (Some y) None) (le-leb y.end x.end h)

-- ── or ──

is_in-in : (x : Stretch) (l : List Stretch) → is_in x l ≡ true → In x.start x.end l
is_in-in x [] h = absurd (let z : ◌≡◌ {A = ℕ} 0 1 = cc in omega arith)
is_in-in x (y ∷ l) h = go (or-true (same y x) (is_in x l) h) (is_in-in x l)
  where
    go : (same y x ≡ true) ⊎ (is_in x l ≡ true) → (is_in x l ≡ true → In x.start x.end l) → In x.start x.end (y ∷ l)
    go (inl k) f = let p = same_true y x k in inl (sym p.0, sym p.1)
    go (inr k) f = inr (f k)

in-is_in : (x : Stretch) (l : List Stretch) → In x.start x.end l → is_in x l ≡ true
in-is_in x (y ∷ l) (inl h) = or_left (same y x) (is_in x l) (true-and _ _ (eq-eqb y.start x.start (sym h.0)) (eq-eqb y.end x.end (sym h.1)))
in-is_in x (y ∷ l) (inr m) = or_right (same y x) (is_in x l) (in-is_in x l m)
in-is_in x [] m = absurd m

or-found : (x : Stretch) (ls : List (List Stretch)) → AllRising ls → Least Or ls x.start x.end → shown_or x ls ≡ found_below true false false false x x.start ls
or-found x [] r f = refl
or-found x (l ∷ ls) r f = cases (is_in x l) (λ b. cond b (Some x ∷ nothing ls) (None ∷ shown_or x ls) ≡ found_below true false false false x x.start (l ∷ ls))
    (λ k. sym (found_at true false false false x x.start l ls x (self-found l r.0 x (is_in-in x l k))))
    (λ k. ap (λ (fs : List Front). None ∷ fs) (or-found x ls r.1 (λ s e m. f s e (inr m))) ∙ sym (found-past true false false false x x.start l ls (past k (first_from l x.start) (first_good l r.0 x.start))))
  where
    past : is_in x l ≡ false → (g : Front) → FirstIs l x.start g → only_if (λ y. leb y.end x.end) g ≡ None
    past k None h = refl
    past k (Some y) h = cases (leb y.end x.end) (λ b. cond b (Some y) None ≡ None)
        (λ e. let q = f y.start y.end (inl h.0) h.1 (leb-true y.end x.end e) in
        let i = in-is_in x l (in-cast l y.start y.end x.start x.end (sym q.0) (sym q.1) h.0) in
        let z : ◌≡◌ {A = ℕ} 0 1 = cc in absurd (omega arith)) (λ e. refl)

-- ── The filters ──

-- where each is shown and none is sought behind another, each operand's is found by itself
each-found : (h : Bool) (x : Stretch) (t : ℕ) (ls : List (List Stretch)) → found_below false false h h x t ls ≡ map (found_one h x t) ls
each-found h x t [] = refl
each-found h x t (l ∷ ls) = go (found_one h x t l) ∙ ap (λ (fs : List Front). found_one h x t l ∷ fs) (each-found h x t ls)
  where
    go : (g : Front) → and_then g (λ y. found_below false false h h x t ls) (found_below false false h h x t ls) ≡ g ∷ found_below false false h h x t ls
    go None = refl
    go (Some y) = refl

-- what is found of each is the first that proves the answer
module _ (b : Beside) (x : Stretch) (find : List Stretch → Front) (is : (l : List Stretch) → Rising l → first_that (proves b x) l ≡ find l) where
  proofs-are : (ls : List (List Stretch)) → AllRising ls → map (first_that (proves b x)) ls ≡ map find ls
  proofs-are [] r = refl
  proofs-are (l ∷ ls) r = ap₂ (λ (f : Front) (fs : List Front). f ∷ fs) (is l r.0) (proofs-are ls r.1)

kept-found : (g : List (List Stretch) → Stretch → Bool) (b : Beside) (x : Stretch) (ls : List (List Stretch)) → AllRising ls → Kept g ls x.start x.end
    → shown_first b x ls ≡ found_below (alone (Keep g b)) false false (by_end (Keep g b)) x x.start ls
kept-found g b x [] r k = refl
kept-found g Alone x (l ∷ ls) r k =
    ap (onto x) (proofs-are Alone x (λ l. None) (λ l q. ap head_of (keep-nothing (λ y. false) l (λ s e m. refl))) ls r.1)
    ∙ sym (found_at true false false false x x.start l ls x (self-found l r.0 x k.0))
kept-found g Holder x (l ∷ ls) r k =
    ap (onto x) (proofs-are Holder x (found_one true x x.start) (λ l q. holder-first l q x x.start) ls r.1 ∙ sym (each-found true x x.start ls))
    ∙ sym (found_at false false false true x x.start l ls x (self-found l r.0 x k.0))
kept-found g Inner x (l ∷ ls) r k =
    ap (onto x) (proofs-are Inner x (found_one false x x.start) (λ l q. inner_first l q x) ls r.1 ∙ sym (each-found false x x.start ls))
    ∙ sym (found_at false false false false x x.start l ls x (self-found l r.0 x k.0))

-- ── and, row and then show a tuple of fronts that spans the answer ──

record Made (shown sought : List Front) (x : Stretch) : Type 0 where
  first : Stretch
  rest : List Stretch
  shows : shown ≡ map Some (first ∷ rest)
  finds : sought ≡ map Some (first ∷ rest)
  starts : low first rest ≡ x.start
  ends : high first rest ≡ x.end

-- and: each operand's front from x's start on is its first inside x
and-shown : (x : Stretch) (ls : List (List Stretch)) (u : List Stretch) → AllRising ls → FrontsAt x.start ls u → To x.end u → shown_and x ls ≡ map Some u
and-shown x [] [] r h n = refl
and-shown x (l ∷ ls) (a ∷ u) r h n =
    let g = front-good l r.0 x.start a h.0 in
    let p = first-that (λ y. inside y x) l r.0 x.start a (λ z i. (true-inside z x i).0) h.0 (inside-true a x g.1 n.0) in
    ap (λ (f : Front). f ∷ shown_and x ls) p ∙ ap (onto a) (and-shown x ls u r.1 h.1 n.1)
and-shown x [] (a ∷ u) r h n = absurd h
and-shown x (l ∷ ls) [] r h n = absurd h

and-found : (x : Stretch) (t : ℕ) (ls : List (List Stretch)) (u : List Stretch) → FrontsAt t ls u → To x.end u → found_below false false false false x t ls ≡ map Some u
and-found x t [] [] h n = refl
and-found x t (l ∷ ls) (a ∷ u) h n = found_at false false false false x t l ls a (front-found x t l a h.0 n.0) ∙ ap (onto a) (and-found x t ls u h.1 n.1)
and-found x t [] (a ∷ u) h n = absurd h
and-found x t (l ∷ ls) [] h n = absurd h

-- row and then: of a chain of fronts whose neighbours pass the test each is the next operand's first allowed
after-shown : (f : Stretch → Stretch → Bool) → Ordered f → (b : Stretch) (ls : List (List Stretch)) (u : List Stretch) → AllRising ls → ChainAt (suc b.end) ls u → linked f (b ∷ u) ≡ true
    → shown_after f (Some b) ls ≡ map Some u
after-shown f o b [] [] r h k = refl
after-shown f o b (l ∷ ls) (a ∷ u) r h k =
    let j = and-true (f b a) (linked f (a ∷ u)) k in
    let p = first-that (f b) l r.0 (suc b.end) a (o b) h.0 j.0 in
    ap (λ (g : Front). g ∷ shown_after f g ls) p ∙ ap (onto a) (after-shown f o a ls u r.1 h.1 j.1)
after-shown f o b [] (a ∷ u) r h k = absurd h
after-shown f o b (l ∷ ls) [] r h k = absurd h

chain-shown : (f : Stretch → Stretch → Bool) → Ordered f → (x : Stretch) (ls : List (List Stretch)) (a : Stretch) (u : List Stretch) → AllRising ls → ChainAt x.start ls (a ∷ u) → a.start ≡ x.start → linked f (a ∷ u) ≡ true
    → shown_row f x ls ≡ map Some (a ∷ u)
chain-shown f o x [] a u r h s k = absurd h
chain-shown f o x (l ∷ ls) a u r h s k =
    let p = first-that (λ y. eqb y.start x.start) l r.0 x.start a (λ z i. omega (arith, eqb-true z.start x.start i)) h.0 (eq-eqb a.start x.start s) in
    ap (λ (g : Front). g ∷ shown_after f g ls) p ∙ ap (onto a) (after-shown f o a ls u r.1 h.1 k)

chain-found : (x : Stretch) (t : ℕ) (ls : List (List Stretch)) (u : List Stretch) → ChainAt t ls u → To x.end u → found_below false true false false x t ls ≡ map Some u
chain-found x t [] [] h n = refl
chain-found x t (l ∷ ls) (a ∷ u) h n = found_at false true false false x t l ls a (front-found x t l a h.0 n.0) ∙ ap (onto a) (chain-found x (suc a.end) ls u h.1 n.1)
chain-found x t [] (a ∷ u) h n = absurd h
chain-found x t (l ∷ ls) [] h n = absurd h

row-chain : (t : ℕ) (ls : List (List Stretch)) (u : List Stretch) → RowAt t ls u → ChainAt t ls u
row-chain t [] [] h = tt
row-chain t (l ∷ ls) (a ∷ u) h = (h.0, row-chain (suc a.end) ls u h.2)
row-chain t [] (a ∷ u) h = absurd h
row-chain t (l ∷ ls) [] h = absurd h

not-empty : (ls : List (List Stretch)) (a : Stretch) (u : List Stretch) → Picks (a ∷ u) ls → Picks [] ls → ⊥
not-empty [] a u p q = p
not-empty (l ∷ ls) a u p q = q

module _ (ls : List (List Stretch)) (rising : AllRising ls) (sound : AllSound ls) (x : Stretch) where
  and-made : In x.start x.end (answers And ls) → Made (shown_and x ls) (found_below false false false false x x.start ls) x
  and-made i = let g = fronts-are ls rising x.start (c.first ∷ c.rest) c.picks from in go g.0 g.1
    where
      c : Span (linked anyhow) ls x.start x.end
      c = answer-cand And ls x.start x.end i

      from : From x.start (c.first ∷ c.rest)
      from = low-from x.start c.first c.rest (omega (arith, c.starts))

      go : (u : List Stretch) → FrontsAt x.start ls u → Made (shown_and x ls) (found_below false false false false x x.start ls) x
      go [] h = absurd (not-empty ls c.first c.rest c.picks (fronts-picks ls rising x.start [] h).0)
      go (a ∷ u) h =
          let g = and-tight ls rising x.start a u h in
          let n : high a u ≤ x.end = g.least x.start x.end c (omega arith) in
          let k = answer-least And ls rising sound x.start x.end i (low a u) (high a u) g.cand g.from n in
          let to = high-to x.end a u n in
          record { first = a; rest = u; shows = and-shown x ls (a ∷ u) rising h to; finds = and-found x x.start ls (a ∷ u) h to; starts = k.0; ends = k.1 }

  chain-made : (f : Stretch → Stretch → Bool) → Ordered f → (a : Stretch) (u : List Stretch) → ChainAt x.start ls (a ∷ u) → linked f (a ∷ u) ≡ true → a.start ≡ x.start → high a u ≡ x.end
      → Made (shown_row f x ls) (found_below false true false false x x.start ls) x
  chain-made f o a u h k s e =
      let p : low a u ≡ a.start = ordered-low f o ls a u sound (chain-picks ls rising x.start (a ∷ u) h).0 k in
      record {
        first = a;
        rest = u;
        shows = chain-shown f o x ls a u rising h s k;
        finds = chain-found x x.start ls (a ∷ u) h (high-to x.end a u (omega arith));
        starts = p ∙ s;
        ends = e;
      }

  row_made : In x.start x.end (answers Row ls) → Made (shown_row adjoins x ls) (found_below false true false false x x.start ls) x
  row_made i =
      let c : Span (linked adjoins) ls x.start x.end = answer-cand Row ls x.start x.end i in
      let s : c.first.start ≡ x.start = omega (arith, c.starts, ordered-low adjoins ordered-adjoins ls c.first c.rest sound c.picks c.okay) in
      chain-made adjoins ordered-adjoins c.first c.rest
      (row-chain x.start ls (c.first ∷ c.rest) (picks-row ls rising x.start c.first c.rest s c.picks c.okay)) c.okay s (sym c.ends)

  then-made : In x.start x.end (answers Then ls) → Made (shown_row follows x ls) (found_below false true false false x x.start ls) x
  then-made i = let g = chain-is ls rising x.start (c.first ∷ c.rest) c.picks (span-after ls sound x.start x.start x.end c (omega arith)) in go g.0 g.1
    where
      c : Span (linked follows) ls x.start x.end
      c = answer-cand Then ls x.start x.end i

      go : (u : List Stretch) → ChainAt x.start ls u → Made (shown_row follows x ls) (found_below false true false false x x.start ls) x
      go [] h = absurd (not-empty ls c.first c.rest c.picks (chain-picks ls rising x.start [] h).0)
      go (a ∷ u) h =
          let g = then-tight ls rising sound x.start a u h in
          let k = answer-least Then ls rising sound x.start x.end i a.start (high a u) g.cand g.from (g.least x.start x.end c (omega arith)) in
          chain-made follows ordered-follows a u h (after-linked x.start a u (chain-picks ls rising x.start (a ∷ u) h).1) k.0 k.1

-- ── Each is the first of its operand's list from some line on, or to one ──

pub below-found : (o : Op) (ls : List (List Stretch)) → AllRising ls → AllSound ls → (x : Stretch) → In x.start x.end (answers o ls) → shown_below o ls x ≡ found_below (alone o) (chained o) false (by_end o) x x.start ls
below-found Or ls r d x i = or-found x ls r (answer-least Or ls r d x.start x.end i)
below-found And ls r d x i = let m = and-made ls r d x i in m.shows ∙ sym m.finds
below-found Row ls r d x i = let m = row_made ls r d x i in m.shows ∙ sym m.finds
below-found Then ls r d x i = let m = then-made ls r d x i in m.shows ∙ sym m.finds
below-found (Keep g b) ls r d x i = kept-found g b x ls r (answer-cand (Keep g b) ls x.start x.end i)

-- ── Each is one of its operand's list ──

-- of each operand a stretch of its list is shown, or nothing
abbrev pub EachIn : List Front → List (List Stretch) → Type 0
EachIn [] [] = Unit {0}
EachIn [] (l ∷ ls) = ⊥
EachIn (f ∷ fs) [] = ⊥
EachIn (None ∷ fs) (l ∷ ls) = EachIn fs ls
EachIn (Some y ∷ fs) (l ∷ ls) = In y.start y.end l × EachIn fs ls

pub each-nothing : (ls : List (List Stretch)) → EachIn (nothing ls) ls
each-nothing [] = tt
each-nothing (l ∷ ls) = each-nothing ls

-- what is found of an operand is one of its list
pub one_in : (h : Bool) (x : Stretch) (t : ℕ) (l : List Stretch) → Rising l → (y : Stretch) → found_one h x t l ≡ Some y → In y.start y.end l
one_in false x t l r y p = (front-good l r t y (only-if (λ z. leb z.end x.end) (first_from l t) y p)).0
one_in true x t l r y p = (to_in l x.end y (only-if (λ z. leb z.start x.start) (first_to l x.end) y p)).0

found_in : (a c h k : Bool) (x : Stretch) (t : ℕ) (ls : List (List Stretch)) → AllRising ls → EachIn (found_below a c h k x t ls) ls
found_in a c h k x t [] r = tt
found_in a c h k x t (l ∷ ls) r = go (found_one h x t l) (one_in h x t l r.0) (λ t'. found_in a c k k x t' ls r.1)
  where
    rest : (b : Bool) (fs : List Front) → EachIn fs ls → EachIn (cond b (nothing ls) fs) ls
    rest true fs f = each-nothing ls
    rest false fs f = f

    go : (g : Front) → ((y : Stretch) → g ≡ Some y → In y.start y.end l) → ((t' : ℕ) → EachIn (found_below a c k k x t' ls) ls) → EachIn (next a c h k x t l ls g) (l ∷ ls)
    go None i f = f t
    go (Some y) i f = (i y refl, rest a (found_below a c k k x (cond c (suc y.end) t) ls) (f (cond c (suc y.end) t)))

pub below_in : (o : Op) (ls : List (List Stretch)) → AllRising ls → AllSound ls → (x : Stretch) → In x.start x.end (answers o ls) → EachIn (shown_below o ls x) ls
below_in o ls r d x i = subst (λ fs. EachIn fs ls) (sym (below-found o ls r d x i)) (found_in (alone o) (chained o) false (by_end o) x x.start ls r)

-- ── Together they span the answer ──

span-nothing : (ls : List (List Stretch)) → span_of (nothing ls) ≡ None
span-nothing [] = refl
span-nothing (l ∷ ls) = span-nothing ls

-- one alone
span-one : (x : Stretch) (ls : List (List Stretch)) → span_of (Some x ∷ nothing ls) ≡ Some x
span-one x ls = ap (spanned (Some x)) (span-nothing ls)

span-or : (x : Stretch) (ls : List (List Stretch)) → InAny x.start x.end ls → span_of (shown_or x ls) ≡ Some x
span-or x [] m = absurd m
span-or x (l ∷ ls) m = cases (is_in x l) (λ b. span_of (cond b (Some x ∷ nothing ls) (None ∷ shown_or x ls)) ≡ Some x) (λ k. span-one x ls) (λ k. later k m (span-or x ls))
  where
    later : is_in x l ≡ false → InAny x.start x.end (l ∷ ls) → (InAny x.start x.end ls → span_of (shown_or x ls) ≡ Some x) → span_of (shown_or x ls) ≡ Some x
    later k (inl j) f = let i = in-is_in x l j in let z : ◌≡◌ {A = ℕ} 0 1 = cc in absurd (omega arith)
    later k (inr j) f = f j

span-kept : (g : List (List Stretch) → Stretch → Bool) (b : Beside) (x : Stretch) (ls : List (List Stretch)) → AllRising ls → Kept g ls x.start x.end → span_of (spanning (proven (Keep g b)) (shown_first b x ls)) ≡ Some x
span-kept g b x [] r k = absurd k
span-kept g Alone x (l ∷ ls) r k = ap span_of (kept-found g Alone x (l ∷ ls) r k ∙ found_at true false false false x x.start l ls x (self-found l r.0 x k.0)) ∙ span-one x ls
span-kept g Holder x (l ∷ ls) r k = refl
span-kept g Inner x (l ∷ ls) r k = refl

-- a tuple
span-tuple : (a : Stretch) (u : List Stretch) → span_of (map Some (a ∷ u)) ≡ Some (st (low a u) (high a u))
span-tuple a [] = refl
span-tuple a (b ∷ u) = ap (spanned (Some a)) (span-tuple b u)

span-made : (shown sought : List Front) (x : Stretch) → Made shown sought x → span_of shown ≡ Some x
span-made shown sought x m = ap span_of m.shows ∙ span-tuple m.first m.rest ∙ ap Some (st-path (st (low m.first m.rest) (high m.first m.rest)) x m.starts m.ends)

pub below_span : (o : Op) (ls : List (List Stretch)) → AllRising ls → AllSound ls → (x : Stretch) → In x.start x.end (answers o ls) → span_of (spanning (proven o) (shown_below o ls x)) ≡ Some x
below_span Or ls r d x i = span-or x ls (answer-cand Or ls x.start x.end i)
below_span And ls r d x i = span-made _ _ x (and-made ls r d x i)
below_span Row ls r d x i = span-made _ _ x (row_made ls r d x i)
below_span Then ls r d x i = span-made _ _ x (then-made ls r d x i)
below_span (Keep g b) ls r d x i = span-kept g b x ls r (answer-cand (Keep g b) ls x.start x.end i)

-- ── Of B what proves the answer: `in` shows one that holds it, `has` one inside it ──

module _ (f : Stretch → Stretch → Bool) (x : Stretch) where
  proof-second : (ls : List (List Stretch)) → not (none_that (f x) (first_list ls)) ≡ true → Proved (f x) (get_or (Some x ∷ map (first_that (f x)) ls) 1 None)
  proof-second [] h = let z : ◌≡◌ {A = ℕ} 0 1 = cc in omega arith
  proof-second (l ∷ ls) h = some-proved (f x) l h

pub in-proved : (ls : List (List Stretch)) (x : Stretch) → In x.start x.end (answers Inside ls) → Proved (inside x) (get_or (shown_below Inside ls x) 1 None)
in-proved [] x i = absurd i
in-proved (l ∷ ls) x i = proof-second (λ x y. inside x y) x ls (answer-cand Inside (l ∷ ls) x.start x.end i).1

pub has-proved : (ls : List (List Stretch)) (x : Stretch) → In x.start x.end (answers Holding ls) → Proved (λ y. inside y x) (get_or (shown_below Holding ls x) 1 None)
has-proved [] x i = absurd i
has-proved (l ∷ ls) x i = proof-second (λ x y. inside y x) x ls (answer-cand Holding (l ∷ ls) x.start x.end i).1
