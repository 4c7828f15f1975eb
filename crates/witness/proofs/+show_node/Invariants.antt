-- The measure: `show_node` calls itself for operands, whose numbers are higher. And what the loop keeps: the operands before c have shown their part. Assumes nothing.
use Rattle.std.proofs.Common.{◌-◌}
use Rattle.nodes.specs.Among.{Among}
use Rattle.seek.specs.Source.{source_of}
use Rattle.seek.specs.First.{Ready}
use Rattle.witness.proofs.Showing.{Midway}
use Rattle.witness.proofs.+show_node.Given as goal

abbrev pub decreases-show_node : goal.decreases-show_node
decreases-show_node l = 32 - l.v

abbrev pub invariant-loop-c : goal.invariant-loop-c
invariant-loop-c l =
    Among l.rows l.v l.c-iterator × Ready (source_of l.searched) l.searched.rows.now l.st × Midway (source_of l.searched) l.searched.rows.now l.rows l.v l.f l.initial.k l.initial.cells l.each l.chain l.enclosing l.later l.c-iterator.at l.t l.k l.cells
