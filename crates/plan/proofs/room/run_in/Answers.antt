-- `plan::room::run_in` meets its contract. Assumes nothing.
use mathlib.Core.Path.{refl}
use lib.ListN.{replicate}
use Rattle.plan.proofs.Planning.{machine-marks}
use Rattle.plan.proofs.room.run_in.Goals as goal

pub run-requires : goal.run-requires
run-requires g c = let a = c.args in
    let p = c.prepare-table.ensures in
    c.requires.runs _ _ (machine-marks a.rows.now a.log.now a.width (replicate g.row.WORDS 0) (replicate g.row.SOUND 0) c.requires.room _ c.sound_words-n.ensures _ _ _ p.value p.words_after p.sound_after refl refl)

pub returns : goal.returns
returns g c = let a = c.args in
    let p = c.prepare-table.ensures in
    (_, _, _, machine-marks a.rows.now a.log.now a.width (replicate g.row.WORDS 0) (replicate g.row.SOUND 0) c.requires.room _ c.sound_words-n.ensures _ _ _ p.value p.words_after p.sound_after refl refl, refl, c.run.ensures, refl)
