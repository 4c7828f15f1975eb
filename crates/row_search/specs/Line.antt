-- The next mark of a row. Assumes nothing.
use Rattle.std.specs.Prelude.{◌≡◌, refl, ℕ, Option, Some, None, option_map, [], ◌∷◌}
use Rattle.stretches.specs.declared.Stretch.{Stretch}
use Rattle.stretches.specs.Stretch.{marks}
use Rattle.stretches.specs.Front.{first_from}
use Rattle.marks.specs.Row.{bits, flags, row}

-- the line with which the stretch starts, if there is one
abbrev pub line_of : Option Stretch → Option ℕ
line_of = option_map (λ (x : Stretch). x.start)

-- ── Examples ──

ex-next : line_of (first_from (marks 0 (row (9 ∷ 5 ∷ 1 ∷ []) 1 2)) 3) ≡ Some 64
unfolding row flags bits
ex-next = refl

ex-no-next : line_of (first_from (marks 0 (row (9 ∷ 5 ∷ 1 ∷ []) 1 2)) 65) ≡ None
unfolding row flags bits
ex-no-next = refl
