-- `finder_steps::finder_steps` meets its contract. The loop's invariant: the finder is that after n steps, and the cells hold the first n answers. Assumes nothing.
use Rattle.finder_steps.proofs.Taking.{Takes}
use Rattle.finder_steps.proofs.finder_steps.Given as goal

abbrev pub invariant-loop-n : goal.invariant-loop-n
invariant-loop-n l = Takes l.pattern l.log l.initial.cells l.cells l.f l.n
