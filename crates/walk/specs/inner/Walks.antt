-- What the two walks of the filling call promise. Private contracts cite this. Assumes nothing.
use Rattle.std.specs.Prelude.{ℕ, ◌≡◌, List, drop}
use Rattle.stretches.specs.declared.Node.{Node}
use Rattle.stretches.specs.Front.{onward}
use Rattle.seek.specs.declared.state.State.{State}
use Rattle.seek.specs.Source.{Source, list_over, Good}
use Rattle.seek.specs.First.{Ready}
use Rattle.walk.specs.declared.Walked.{Walked}
use Rattle.walk.specs.Filling.{Filling}

-- n of the answers from line t on were passed over, and the next is sought from line t'
pub record PassedOver (src : Source) (rows : List Node) (s : State) (t n t' : ℕ) (s' : State) : Type 0 where
  pub ready : Good src rows → Ready src rows s → Ready src rows s'
  pub rest : Good src rows → Ready src rows s → onward (list_over src rows 0) t' ≡ drop n (onward (list_over src rows 0) t)

pub record Put (src : Source) (rows : List Node) (s : State) (t : ℕ) (cells : List ℕ) (r : Walked) (cells' : List ℕ) : Type 0 where
  pub puts : Good src rows → Ready src rows s → Filling (onward (list_over src rows 0) t) 0 cells r cells'
