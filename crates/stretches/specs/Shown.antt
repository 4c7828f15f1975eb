-- What an operator shows of its operands for one of its answers: docs/FORMATS.md, "The lines that made a stretch". Assumes nothing.
use Rattle.std.specs.Prelude.{min, max, ◌≡◌, refl, Bool, true, false, cond, ◌||◌, List, [], ◌∷◌, map, eqb, take}
use Rattle.stretches.specs.Stretch.{Stretch, st, inside, same, adjoins, follows, Beside, Alone, Holder, Inner, Op, Or, And, Row, Then, Keep, Less, Inside, Outside, Holding, answers}
use Rattle.stretches.specs.Front.{Front, None, Some, first_that, nth}

-- x is in the list
abbrev pub is_in : Stretch → List Stretch → Bool
is_in x [] = false
is_in x (y ∷ l) = same y x || is_in x l

-- nothing of any operand
abbrev pub nothing : List (List Stretch) → List Front
nothing ls = map (λ l. None) ls

-- or: its first operand that has the same stretch, and nothing of the others
abbrev pub shown_or : Stretch → List (List Stretch) → List Front
shown_or x [] = []
shown_or x (l ∷ ls) = cond (is_in x l) (Some x ∷ nothing ls) (None ∷ shown_or x ls)

-- and: each operand's first stretch inside
abbrev pub shown_and : Stretch → List (List Stretch) → List Front
shown_and x ls = map (first_that (λ y. inside y x)) ls

-- row and then: each next operand's first stretch allowed, given the one before; behind none there is none
abbrev pub next_shown : (Stretch → Stretch → Bool) → Front → List Stretch → Front
next_shown f None l = None
next_shown f (Some a) l = first_that (f a) l

abbrev pub shown_after : (Stretch → Stretch → Bool) → Front → List (List Stretch) → List Front
shown_after f g [] = []
shown_after f g (l ∷ ls) = next_shown f g l ∷ shown_after f (next_shown f g l) ls

-- the first operand's stretch at the same start, and then these
abbrev pub at_start : Stretch → List Stretch → Front
at_start x l = first_that (λ y. eqb y.start x.start) l

abbrev pub shown_row : (Stretch → Stretch → Bool) → Stretch → List (List Stretch) → List Front
shown_row f x [] = []
shown_row f x (l ∷ ls) = at_start x l ∷ shown_after f (at_start x l) ls

-- y stands so to the answer x that it proves it: it holds x, or lies inside x
abbrev pub proves : Beside → Stretch → Stretch → Bool
proves Alone x y = false
proves Holder x y = inside x y
proves Inner x y = inside y x

-- the filters: A's, and of B the first that proves it: of `in` the first that holds it, of `has` the first inside it, else nothing
abbrev pub shown_first : Beside → Stretch → List (List Stretch) → List Front
shown_first b x [] = []
shown_first b x (l ∷ ls) = Some x ∷ map (first_that (proves b x)) ls

-- what is shown of each operand, given their lists and the answer
abbrev pub shown_below : Op → List (List Stretch) → Stretch → List Front
shown_below Or ls x = shown_or x ls
shown_below And ls x = shown_and x ls
shown_below Row ls x = shown_row adjoins x ls
shown_below Then ls x = shown_row follows x ls
shown_below (Keep f b) ls x = shown_first b x ls

-- the filters that show of B what proves the answer, which belongs to the proof of the answer, not to its span
abbrev pub proven : Op → Bool
proven Or = false
proven And = false
proven Row = false
proven Then = false
proven (Keep f Alone) = false
proven (Keep f Holder) = true
proven (Keep f Inner) = true

-- what makes the span: all, or where what proves the answer is shown too, the first alone
abbrev pub spanning : {A : Type 0} → Bool → List A → List A
spanning b l = cond b (take 1 l) l

-- it is there and passes the test
abbrev pub Proved : (Stretch → Bool) → Front → Type 0
Proved f None = ⊥
Proved f (Some y) = f y ≡ true

-- the span of those that are there: the least start and the greatest end; none where none is
abbrev pub spanned : Front → Front → Front
spanned None g = g
spanned (Some x) None = Some x
spanned (Some x) (Some y) = Some (st (min x.start y.start) (max x.end y.end))

abbrev pub span_of : List Front → Front
span_of [] = None
span_of (f ∷ fs) = spanned f (span_of fs)

-- ── Examples: what is shown of an answer ──

-- A = 0, 3..4, B = 4, 5, 7 and C = 5, 6
abbrev ex_lists : List (List Stretch)
ex_lists = (st 0 0 ∷ st 3 4 ∷ []) ∷ (st 4 4 ∷ st 5 5 ∷ st 7 7 ∷ []) ∷ (st 5 5 ∷ st 6 6 ∷ []) ∷ []

-- B and C have line 5: B, and nothing of C
ex-or : (nth (answers Or ex_lists) 2 ≡ Some (st 5 5)) × (shown_below Or ex_lists (st 5 5) ≡ None ∷ Some (st 5 5) ∷ None ∷ [])
ex-or = (refl, refl)

-- B has 4 and 5 inside: the first
ex-and : (nth (answers And ex_lists) 0 ≡ Some (st 3 5)) × (shown_below And ex_lists (st 3 5) ≡ Some (st 3 4) ∷ Some (st 4 4) ∷ Some (st 5 5) ∷ [])
ex-and = (refl, refl)

-- A's at line 3, not its first; B's 4 and C's 5 are not past the one before, and B's 5 comes before its 7
ex-then : (nth (answers Then ex_lists) 1 ≡ Some (st 3 6)) × (shown_below Then ex_lists (st 3 6) ≡ Some (st 3 4) ∷ Some (st 5 5) ∷ Some (st 6 6) ∷ [])
ex-then = (refl, refl)

ex-row : (nth (answers Row ex_lists) 0 ≡ Some (st 3 6)) × (shown_below Row ex_lists (st 3 6) ≡ Some (st 3 4) ∷ Some (st 5 5) ∷ Some (st 6 6) ∷ [])
ex-row = (refl, refl)

-- B's 3..5 starts where A's 3..4 does, but is not inside it
ex-less : (nth (answers Less ((st 3 4 ∷ []) ∷ (st 3 5 ∷ []) ∷ [])) 0 ≡ Some (st 3 4)) × (shown_below Less ((st 3 4 ∷ []) ∷ (st 3 5 ∷ []) ∷ []) (st 3 4) ≡ Some (st 3 4) ∷ None ∷ [])
ex-less = (refl, refl)

-- B's 0..1 and 5..13 do not hold A's 3..5, 1..9 is the first of two that do; what is shown of B does not count for the span
abbrev ex_held : List (List Stretch)
ex_held = (st 3 5 ∷ []) ∷ (st 0 1 ∷ st 1 9 ∷ st 2 12 ∷ st 5 13 ∷ []) ∷ []

ex-in : (answers Inside ex_held ≡ st 3 5 ∷ []) × (shown_below Inside ex_held (st 3 5) ≡ Some (st 3 5) ∷ Some (st 1 9) ∷ []) × (span_of (spanning (proven Inside) (shown_below Inside ex_held (st 3 5))) ≡ Some (st 3 5))
ex-in = (refl, refl, refl)

-- 5..13 shares line 5 and does not hold 3..5
ex-out : (answers Outside ((st 3 5 ∷ []) ∷ (st 5 13 ∷ []) ∷ []) ≡ st 3 5 ∷ []) × (shown_below Outside ((st 3 5 ∷ []) ∷ (st 5 13 ∷ []) ∷ []) (st 3 5) ≡ Some (st 3 5) ∷ None ∷ [])
ex-out = (refl, refl)

-- B's 0..1 reaches out of A's 1..6, 2..2 is the first of two inside
ex-has : (answers Holding ((st 1 6 ∷ []) ∷ (st 0 1 ∷ st 2 2 ∷ st 6 6 ∷ []) ∷ []) ≡ st 1 6 ∷ []) × (shown_below Holding ((st 1 6 ∷ []) ∷ (st 0 1 ∷ st 2 2 ∷ st 6 6 ∷ []) ∷ []) (st 1 6) ≡ Some (st 1 6) ∷ Some (st 2 2) ∷ [])
ex-has = (refl, refl)

ex-span : span_of (None ∷ Some (st 2 4) ∷ Some (st 1 3) ∷ []) ≡ Some (st 1 4)
ex-span = refl
