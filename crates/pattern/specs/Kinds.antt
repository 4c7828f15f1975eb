-- The kinds of a pattern's nodes in one list, in the order of docs/FORMATS.md, "The pattern": whatever depends on a kind is read off it.
-- Assumes nothing.
use Rattle.std.specs.Prelude.{ℕ, suc, ◌≤◌, Bool, cond, List, [], ◌∷◌, eqb, length, get_or}

-- ── Symbols ──

-- a node's word and numbers: leaves by code or frame and lane, operators by the number of operands or k
pub data Symbol : Type 0 where
  Ev Fr : ℕ → ℕ → Symbol
  Or And Row Then : ℕ → Symbol
  Less : Symbol
  Max : ℕ → Symbol
  Inside Outside Holding : Symbol

-- a node's kind: an operator's number, 16 and 17 for the leaves; 0 is no node
abbrev pub kind_of : Symbol → ℕ
kind_of (Ev c l) = 16
kind_of (Fr f l) = 17
kind_of (Or n) = 1
kind_of (And n) = 2
kind_of (Row n) = 3
kind_of (Then n) = 4
kind_of Less = 5
kind_of (Max k) = 6
kind_of Inside = 7
kind_of Outside = 8
kind_of Holding = 9

-- the numbers that follow the word
abbrev pub numbers : Symbol → List ℕ
numbers (Ev c l) = c ∷ l ∷ []
numbers (Fr f l) = f ∷ l ∷ []
numbers (Or n) = n ∷ []
numbers (And n) = n ∷ []
numbers (Row n) = n ∷ []
numbers (Then n) = n ∷ []
numbers Less = []
numbers (Max k) = k ∷ []
numbers Inside = []
numbers Outside = []
numbers Holding = []

-- the first of them: code, frame, number of operands or k; 0 where there is none
abbrev pub first_of : Symbol → ℕ
first_of h = get_or (numbers h) 0 0

-- the second: a leaf's lane
abbrev pub second_of : Symbol → ℕ
second_of h = get_or (numbers h) 1 0

-- the third: no kind has one yet
abbrev pub third_of : Symbol → ℕ
third_of h = get_or (numbers h) 2 0

-- ── The list ──

-- a number's least and greatest value
pub record Range : Type 0 where
  pub least : ℕ
  pub most : ℕ

-- how many operands: a fixed number, or as many as the first number says
pub data Operands : Type 0 where
  Fixed : ℕ → Operands
  Counted : Operands

-- a kind's number, word, the ranges of its numbers (three at most), its operands, and its symbol by three numbers
pub record Kind : Type 0 where
  pub number : ℕ
  pub word : List ℕ
  pub ranges : List Range
  pub operands : Operands
  pub make : ℕ → ℕ → ℕ → Symbol

-- from a to b
abbrev pub from : ℕ → ℕ → Range
from a b = record { least = a; most = b }

-- a row of the list
abbrev pub kind : ℕ → List ℕ → List Range → Operands → (ℕ → ℕ → ℕ → Symbol) → Kind
kind k w rs o f = record { number = k; word = w; ranges = rs; operands = o; make = f }

-- ev,c,l  fr,f,l  or,n,..  and,n,..  row,n,..  then,n,..  less,A,B  max,k,A  in,A,B  out,A,B  has,A,B:
-- that symbols and rows agree is proved once (`fair-kinds`)
abbrev pub kinds : List Kind
kinds =
    kind 16 (101 ∷ 118 ∷ []) (from 1 255 ∷ from 0 99 ∷ []) (Fixed 0) (λ a b c. Ev a b)
    ∷ kind 17 (102 ∷ 114 ∷ []) (from 0 10 ∷ from 0 99 ∷ []) (Fixed 0) (λ a b c. Fr a b)
    ∷ kind 1 (111 ∷ 114 ∷ []) (from 2 31 ∷ []) Counted (λ a b c. Or a)
    ∷ kind 2 (97 ∷ 110 ∷ 100 ∷ []) (from 2 31 ∷ []) Counted (λ a b c. And a)
    ∷ kind 3 (114 ∷ 111 ∷ 119 ∷ []) (from 2 31 ∷ []) Counted (λ a b c. Row a)
    ∷ kind 4 (116 ∷ 104 ∷ 101 ∷ 110 ∷ []) (from 2 31 ∷ []) Counted (λ a b c. Then a)
    ∷ kind 5 (108 ∷ 101 ∷ 115 ∷ 115 ∷ []) [] (Fixed 2) (λ a b c. Less)
    ∷ kind 6 (109 ∷ 97 ∷ 120 ∷ []) (from 1 65535 ∷ []) (Fixed 1) (λ a b c. Max a)
    ∷ kind 7 (105 ∷ 110 ∷ []) [] (Fixed 2) (λ a b c. Inside)
    ∷ kind 8 (111 ∷ 117 ∷ 116 ∷ []) [] (Fixed 2) (λ a b c. Outside)
    ∷ kind 9 (104 ∷ 97 ∷ 115 ∷ []) [] (Fixed 2) (λ a b c. Holding)
    ∷ []

-- what stands for a kind where there is none
abbrev pub no_kind : Kind
no_kind = kind 0 [] [] (Fixed 0) (λ a b c. Less)

-- the row of the first kind that passes the test; the number of kinds where none does
abbrev pub find : (Kind → Bool) → List Kind → ℕ
find f [] = 0
find f (x ∷ xs) = cond (f x) 0 (suc (find f xs))

-- the kind in a row
unfoldable pub kind_in : ℕ → Kind
kind_in r = get_or kinds r no_kind

-- the row of a kind's number
unfoldable pub row_of : ℕ → ℕ
row_of k = find (λ x. eqb k x.number) kinds

-- the kind that has the number
unfoldable pub kind_by : ℕ → Kind
kind_by k = kind_in (row_of k)

-- ── Read off the list ──

-- how many numbers follow the word
abbrev pub field_count : ℕ → ℕ
field_count k = length (kind_by k).ranges

-- the range at place j
abbrev pub range_at : List Range → ℕ → Range
range_at rs j = get_or rs j (from 0 0)

-- the least number at place j
abbrev pub low : ℕ → ℕ → ℕ
low k j = (range_at (kind_by k).ranges j).least

-- and the greatest
abbrev pub high : ℕ → ℕ → ℕ
high k j = (range_at (kind_by k).ranges j).most

-- how many operands, where a is the first number
abbrev pub operand_count : Operands → ℕ → ℕ
operand_count (Fixed n) a = n
operand_count Counted a = a

-- the number of operands of a kind with a for its first number
abbrev pub arity : ℕ → ℕ → ℕ
arity k a = operand_count (kind_by k).operands a

-- the symbol of a kind with its numbers
abbrev pub symbol : ℕ → ℕ → ℕ → ℕ → Symbol
symbol k a b c = (kind_by k).make a b c

-- the symbol's word
abbrev pub word : Symbol → List ℕ
word h = (kind_by (kind_of h)).word

-- the symbol's number of operands
abbrev pub rank : Symbol → ℕ
rank h = arity (kind_of h) (first_of h)

-- from lo to hi
abbrev pub InRange : ℕ → ℕ → ℕ → Type 0
InRange lo hi n = (lo ≤ n) × (n ≤ hi)

-- a number for each range, and in it
abbrev pub AllInRange : List Range → List ℕ → Type 0
AllInRange [] [] = Unit {0}
AllInRange [] (n ∷ ns) = ⊥
AllInRange (r ∷ rs) [] = ⊥
AllInRange (r ∷ rs) (n ∷ ns) = InRange r.least r.most n × AllInRange rs ns

-- the symbol's numbers are in their ranges
abbrev pub Ranged : Symbol → Type 0
Ranged h = AllInRange (kind_by (kind_of h)).ranges (numbers h)
