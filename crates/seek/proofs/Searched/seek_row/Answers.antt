-- `seek::Searched::seek_row` meets its contract: each return by one law. Assumes nothing.
use mathlib.Core.Path.{refl}
use Rattle.stretches.specs.Table.{first_at, second_at}
use Rattle.seek.proofs.LeafLaws.{row-missed, row-there}
use Rattle.seek.proofs.Searched.seek_row.Goals as goal

pub returns-in-Some : goal.returns-in-Some
returns-in-Some c = let a = c.args in
    row-there a.self.now.words.now (first_at a.self.now.rows.now a.v) (second_at a.self.now.rows.now a.v) a.t c.in-Some.line c.in-Some.ensures c.at_line.ensures

pub returns-in-None : goal.returns-in-None
returns-in-None c = let a = c.args in row-missed a.self.now.words.now (first_at a.self.now.rows.now a.v) (second_at a.self.now.rows.now a.v) a.t c.in-None.ensures refl
