-- What the kit prints of a number is its decimal. Assumes nothing.
use Rattle.std.proofs.Common.{ℕ, suc, ◌^◌, ◌<◌, ◌≡◌, sym, ◌∙◌, arith}
use Rattle.std.specs.Fmt as kit
use Rattle.std.proofs.lemmas.Fmt.{decimal_from_appends, length-decimal-le_succ}
use Rattle.basics.specs.Decimal.{digits_of, decimal}
use Rattle.basics.proofs.Decimals.{digits-small, digits-large, digits-enough}

pub decimal_printed : (n : ℕ) → n < 2 ^ 64 → kit.decimal n ≡ decimal n
unfolding decimal
decimal_printed n h =
    sym (decimal_from_appends digits_of (record { one = λ k n h. digits-small (suc k) n h; more = λ k n h. digits-large k n h }) (suc n) n h (omega (arith, length-decimal-le_succ n h)))
    ∙ digits-enough (suc n) n n (omega arith) (omega arith)
