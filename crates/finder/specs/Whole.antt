-- The finder after n steps, acceptance, and the stretches of a pattern in a log as the calls give them: docs/FORMATS.md, "The undamaged run". Assumes nothing.
use Rattle.std.specs.Prelude.{ℕ, zero, suc, ◌*◌, ◌≡◌, ◌⊎◌, false, List, [], ◌∷◌, take, Some, None}
use Rattle.stretches.specs.declared.Stretch.{Stretch}
use Rattle.stretches.specs.Filling.{filled}
use Rattle.stretches.specs.Lent.{pairs}
use Rattle.meaning.specs.Finding.{list_of, filling}
use Rattle.finder.specs.declared.Finder.{Finder}
use Rattle.finder.specs.Promises.{opened, stepped}

-- the finder after n steps from the opening, each with that log: its next answer is number n of the list (`step-answer` of proofs/Stepping.antt)
unfoldable pub after : List ℕ → List ℕ → ℕ → Finder
after pattern log zero = (opened pattern log).finder
after pattern log (suc n) = (stepped (after pattern log n) log).finder

-- the finder after steps with these logs, whatever they are
abbrev pub after_all : Finder → List (List ℕ) → Finder
after_all f [] = f
after_all f (log ∷ logs) = after_all (stepped f log).finder logs

-- accepted: neither the opening nor the filling call refuses them, whatever the cells and the first number
pub record Accepted (pattern log : List ℕ) : Type 0 where
  pub opens : (opened pattern log).number ≡ 0
  pub fills : (from : ℕ) (cells : List ℕ) → (filling pattern log from cells).number ≡ 0

-- the stretches of the steps up to the first "none"
pub data Steps (log : List ℕ) : Finder → List Stretch → Type 0 where
  last : {f : Finder} → (stepped f log).answer ≡ None → Steps log f []
  more : {f : Finder} (x : Stretch) {xs : List Stretch} → (stepped f log).answer ≡ Some x → Steps log (stepped f log).finder xs → Steps log f (x ∷ xs)

-- from the opening on
abbrev pub BySteps : List ℕ → List ℕ → List Stretch → Type 0
BySteps pattern log xs = Steps log (opened pattern log).finder xs

-- the stretches that the filling call writes from number 0 with cells enough to say "done"
pub record Written (pattern log : List ℕ) (xs : List Stretch) : Type 0 where
  pub cells : List ℕ
  pub done : (filling pattern log 0 cells).more ≡ false
  pub shows : xs ≡ pairs (take (2 * (filling pattern log 0 cells).count) (filled (list_of pattern log) 0 cells))

-- the stretches of a pattern in a log, whether taken one by one or filled into a buffer
abbrev pub Shown : List ℕ → List ℕ → List Stretch → Type 0
Shown pattern log xs = BySteps pattern log xs ⊎ Written pattern log xs
