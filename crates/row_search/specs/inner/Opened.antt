-- What the contract of a private function cites. Assumes nothing.
use Rattle.std.specs.Prelude.{◌≡◌, ℕ, ◌+◌, ◌-◌, ◌*◌, ◌/◌, ◌%◌, ◌^◌, ◌<◌, Bool, List, ◌++◌, length}
use Rattle.marks.specs.Row.{bits, flags}

-- these lines, the first of which is line t, are the bits of w, of which so many stand in its word from that line on, and those of the later words
pub record Opened (bs : List Bool) (t w : ℕ) (later : List ℕ) : Type 0 where
  pub are : bs ≡ bits (64 - t % 64) w ++ flags later
  pub word : w < 2 ^ (64 - t % 64)
  pub few : 64 * (t / 64 + 1 + length later) < 2 ^ 64
