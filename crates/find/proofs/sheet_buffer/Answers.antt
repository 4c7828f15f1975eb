-- `find::sheet_buffer` meets its contract, by the law of repeats and not by counting.
-- Assumes nothing.
use Prim.Native.Nat.{ℕ}
use mathlib.Core.Path.{sym}
use lib.ListN.{length-replicate}
use Rattle.find.proofs.sheet_buffer.Goals as goal

pub returns : goal.returns
returns c = sym (length-replicate {A = ℕ} 800000 0)
