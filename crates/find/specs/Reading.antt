-- What the program reads and prints. Which bytes a read brings, no contract of the system says: the input is what the reads brought, put together.
-- Assumes nothing.
use Rattle.std.specs.Prelude.{ℕ, ◌≤◌, ◌≡◌, List, length, Option, None, Some, Result, Ok, Err}
use Rattle.std.specs.declared.io.Error.{Error}
use Rattle.input.specs.declared.Intake.{Intake}
use Rattle.input.specs.Input.{TakenIn, Keeps}
use Rattle.sheet.specs.Sheet.{printed_of}

-- a piece came and was taken in; at the end of the input, and where a read failed, the buffers p and l keep their contents
abbrev pub Turned : Intake → List ℕ → List ℕ → Result (Option Intake) Error → List ℕ → List ℕ → Type 0
Turned t p l (Ok (Some r)) p' l' = (piece : List ℕ) × TakenIn piece t p l r p' l'
Turned t p l (Ok None) p' l' = (p' ≡ p) × (l' ≡ l)
Turned t p l (Err e) p' l' = (p' ≡ p) × (l' ≡ l)

-- there is an input whose pattern and log are kept, as far as the buffers go
abbrev pub Gathered : Result Intake Error → List ℕ → List ℕ → Type 0
Gathered (Ok t) p l = (input : List ℕ) × Keeps input t p l
Gathered (Err e) p l = Unit {0}

-- an input is kept in buffers that hold one byte more of pattern and log than are accepted
pub record Held (t : Intake) (p l : List ℕ) : Type 0 where
  pub input : List ℕ
  pub keeps : Keeps input t p l
  pub pattern : 1025 ≤ length p
  pub log : 61441 ≤ length l

-- and the sheet is that input's
pub record Prints (t : Intake) (p l s : List ℕ) : Type 0 where
  pub input : List ℕ
  pub keeps : Keeps input t p l
  pub bytes : s ≡ printed_of input
