-- `letter`: a cell of the table of words, and the comma past it.
-- Assumes nothing.
use mathlib.Core.Path.{sym}
use native.Mathlib.Omega.{arith}
use Rattle.pattern.specs.Kinds.{kind_in}
use Rattle.basics.proofs.Basics.{get_d_past}
use Rattle.pattern.proofs.KindLaws.{word-short}
use Rattle.pattern.proofs.Shapes.{letter-cell}
use Rattle.pattern.proofs.alphabet.letter.Goals as goal

pub returns-then-place-lt4 : goal.returns-then-place-lt4
returns-then-place-lt4 c = let a = c.args in letter-cell a.row a.place c.requires c.if-place-lt4.true

pub returns-else-place-lt4 : goal.returns-else-place-lt4
returns-else-place-lt4 c = let a = c.args in sym (get_d_past (kind_in a.row).word a.place 44 (omega (arith, word-short a.row)))
