-- Stretches of lines, rising lists of them, and what the operators answer: docs/FORMATS.md, "What the operators mean"; `or` to `max` as in section 3 of
-- Boldi and Vigna, "Efficient Optimally Lazy Algorithms for Minimal-Interval Semantics".
-- Assumes nothing.
use Rattle.std.specs.Prelude.{ℕ, suc, ◌-◌, ◌≤◌, ◌<◌, min, max, ◌≡◌, ◌⊎◌, Bool, true, false, not, cond, ◌&&◌, ◌||◌, List, [], ◌∷◌, ◌++◌, map, leb, ltb, eqb}
pub use Rattle.stretches.specs.declared.Stretch.{Stretch}

abbrev pub st : ℕ → ℕ → Stretch
st s e = record { start = s; end = e }

-- [s..e] is in the list
abbrev pub In : ℕ → ℕ → List Stretch → Type 0
In s e [] = ⊥
In s e (x ∷ xs) = ((s ≡ x.start) × (e ≡ x.end)) ⊎ In s e xs

-- starts and ends both rise strictly
abbrev pub Above : Stretch → List Stretch → Type 0
Above x xs = (s e : ℕ) → In s e xs → (x.start < s) × (x.end < e)

abbrev pub Rising : List Stretch → Type 0
Rising [] = Unit {0}
Rising (x ∷ xs) = Above x xs × Rising xs

-- no start above its end
abbrev pub Sound : List Stretch → Type 0
Sound l = (s e : ℕ) → In s e l → s ≤ e

-- each of several lists rises; each has no start above its end
abbrev pub AllRising : List (List Stretch) → Type 0
AllRising [] = Unit {0}
AllRising (l ∷ ls) = Rising l × AllRising ls

abbrev pub AllSound : List (List Stretch) → Type 0
AllSound [] = Unit {0}
AllSound (l ∷ ls) = Sound l × AllSound ls

-- a list that rises, has no start above its end, and ends below line n
pub record Fine (n : ℕ) (l : List Stretch) : Type 0 where
  pub rising : Rising l
  pub sound : (s e : ℕ) → In s e l → s ≤ e
  pub below : (s e : ℕ) → In s e l → e < n

-- x lies inside y
abbrev pub inside : Stretch → Stretch → Bool
inside x y = leb y.start x.start && leb x.end y.end

-- of any two of the list neither lies inside the other
abbrev pub Incomparable : List Stretch → Type 0
Incomparable [] = Unit {0}
Incomparable (x ∷ xs) = ((s e : ℕ) → In s e xs → (inside (st s e) x ≡ false) × (inside x (st s e) ≡ false)) × Incomparable xs

abbrev pub same : Stretch → Stretch → Bool
same x y = eqb x.start y.start && eqb x.end y.end

-- none of the list passes the test
abbrev pub none_that : (Stretch → Bool) → List Stretch → Bool
none_that f [] = true
none_that f (y ∷ ys) = not (f y) && none_that f ys

-- none of the list lies inside x; x lies inside none of the list
abbrev pub holds_none : List Stretch → Stretch → Bool
holds_none l x = none_that (λ y. inside y x) l

abbrev pub inside_none : List Stretch → Stretch → Bool
inside_none l x = none_that (inside x) l

-- none of the list but x itself lies inside x
abbrev pub holds_no_other : List Stretch → Stretch → Bool
holds_no_other [] x = true
holds_no_other (y ∷ ys) x = (not (inside y x) || same y x) && holds_no_other ys x

-- those of the list that pass the test
abbrev pub keep : (Stretch → Bool) → List Stretch → List Stretch
keep f [] = []
keep f (x ∷ xs) = cond (f x) (x ∷ keep f xs) (keep f xs)

-- x starts earlier, or starts alike and ends earlier
abbrev pub before : Stretch → Stretch → Bool
before x y = ltb x.start y.start || (eqb x.start y.start && ltb x.end y.end)

-- each once, in rising order
abbrev pub insert : Stretch → List Stretch → List Stretch
insert x [] = x ∷ []
insert x (y ∷ ys) = cond (before x y) (x ∷ y ∷ ys) (cond (same x y) (y ∷ ys) (y ∷ insert x ys))

abbrev pub arrange : List Stretch → List Stretch
arrange [] = []
arrange (x ∷ xs) = insert x (arrange xs)

-- the candidates with no other candidate inside, each once, in rising order
abbrev pub minimal : List Stretch → List Stretch
minimal c = arrange (keep (holds_no_other c) c)

-- all tuples of one stretch from each list, in the lists' order
abbrev pub with_each : List Stretch → List (List Stretch) → List (List Stretch)
with_each [] ts = []
with_each (a ∷ l) ts = map (λ t. a ∷ t) ts ++ with_each l ts

abbrev pub tuples : List (List Stretch) → List (List Stretch)
tuples [] = [] ∷ []
tuples (l ∷ ls) = with_each l (tuples ls)

-- the span of a tuple: its least start and its greatest end
abbrev pub low : Stretch → List Stretch → ℕ
low a [] = a.start
low a (b ∷ t) = min a.start (low b t)

abbrev pub high : Stretch → List Stretch → ℕ
high a [] = a.end
high a (b ∷ t) = max a.end (high b t)

-- the spans of the tuples that pass the test
abbrev pub spans : (List Stretch → Bool) → List (List Stretch) → List Stretch
spans ok [] = []
spans ok ([] ∷ ts) = spans ok ts
spans ok ((a ∷ t) ∷ ts) = cond (ok (a ∷ t)) (st (low a t) (high a t) ∷ spans ok ts) (spans ok ts)

-- each two neighbours of the tuple pass the test
abbrev pub linked : (Stretch → Stretch → Bool) → List Stretch → Bool
linked f [] = true
linked f (a ∷ []) = true
linked f (a ∷ (b ∷ t)) = f a b && linked f (b ∷ t)

-- any two; b starts on the line after a's end; b starts after a's end
abbrev pub anyhow : Stretch → Stretch → Bool
anyhow a b = true

abbrev pub adjoins : Stretch → Stretch → Bool
adjoins a b = eqb b.start (suc a.end)

abbrev pub follows : Stretch → Stretch → Bool
follows a b = ltb a.end b.start

-- the stretches of all lists together
abbrev pub together : List (List Stretch) → List Stretch
together [] = []
together (l ∷ ls) = l ++ together ls

-- a leaf: [p..p] for each matching line p; the flags say of each line from p on whether it matches
abbrev pub marks : ℕ → List Bool → List Stretch
marks p [] = []
marks p (b ∷ bs) = cond b (st p p ∷ marks (suc p) bs) (marks (suc p) bs)

-- the lines that either has, and those that any has
abbrev pub either : List Bool → List Bool → List Bool
either [] ys = ys
either (x ∷ xs) [] = x ∷ xs
either (x ∷ xs) (y ∷ ys) = (x || y) ∷ either xs ys

abbrev pub any_of : List (List Bool) → List Bool
any_of [] = []
any_of (b ∷ bs) = either b (any_of bs)

-- the first of the lists
abbrev pub first_list : List (List Stretch) → List Stretch
first_list [] = []
first_list (l ∷ ls) = l

-- those of the first operand that pass a test, which may look at the others
abbrev pub keep_first : (List (List Stretch) → Stretch → Bool) → List (List Stretch) → List Stretch
keep_first f [] = []
keep_first f (a ∷ ls) = keep (f ls) a

-- x contains none of B, and some
abbrev pub contains_none : List (List Stretch) → Stretch → Bool
contains_none ls x = holds_none (first_list ls) x

abbrev pub contains_some : List (List Stretch) → Stretch → Bool
contains_some ls x = not (contains_none ls x)

-- x lies in none of B, and inside some, an equal one included
abbrev pub lies_in_none : List (List Stretch) → Stretch → Bool
lies_in_none ls x = inside_none (first_list ls) x

abbrev pub lies_in_some : List (List Stretch) → Stretch → Bool
lies_in_some ls x = not (lies_in_none ls x)

-- x measures at most k
abbrev pub at_most : (Stretch → ℕ) → ℕ → List (List Stretch) → Stretch → Bool
at_most m k ls x = leb (m x) k

-- the length of a stretch: e − s + 1 lines
abbrev pub length_of : Stretch → ℕ
length_of x = suc x.end - x.start

-- what a filter shows of B beside its answer: nothing, the first that holds the answer, or the first inside it
pub data Beside : Type 0 where
  Alone Holder Inner : Beside

-- the operators; a filter has its test, which may look at the other operands, and what it shows of them
pub data Op : Type 0 where
  Or And Row Then : Op
  Keep : (List (List Stretch) → Stretch → Bool) → Beside → Op

-- less; max has its measure beside its bound
abbrev pub Less : Op
Less = Keep contains_none Alone

abbrev pub Max : (Stretch → ℕ) → ℕ → Op
Max m k = Keep (at_most m k) Alone

-- in, out and has
abbrev pub Inside : Op
Inside = Keep lies_in_some Holder

abbrev pub Outside : Op
Outside = Keep lies_in_none Alone

abbrev pub Holding : Op
Holding = Keep contains_some Inner

-- what an operator answers, given its operands' lists
abbrev pub answers : Op → List (List Stretch) → List Stretch
answers Or ls = minimal (together ls)
answers And ls = minimal (spans (linked anyhow) (tuples ls))
answers Row ls = arrange (spans (linked adjoins) (tuples ls))
answers Then ls = minimal (spans (linked follows) (tuples ls))
answers (Keep f b) ls = keep_first f ls
