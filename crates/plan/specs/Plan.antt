-- The machine's table of a pattern's table. Assumes nothing.
use Rattle.std.specs.Prelude.{ℕ, ◌+◌, ◌*◌, ◌/◌, Bool, cond, ◌&&◌, List, map, length, replicate, leb, ltb, eqb}
use Rattle.std.specs.List.{list_any}
use Rattle.stretches.specs.declared.Node.{Node}
use Rattle.stretches.specs.Table.{no_node, leaf_kind}
use Rattle.folding.specs.Fold.{Folding, folding, made_row, folded}
use Rattle.records.specs.Line.{says}
use Rattle.leaves.specs.declared.Leaf.{Leaf}
use Rattle.leaves.specs.Leaves.{leaf_of, number_in, leaves_of}
use Rattle.marks.specs.Row.{fit}
use Rattle.marking.specs.Rows.{marked, sound_marked}

-- how many words a row of the log's lines has
abbrev pub width_of : List ℕ → ℕ
width_of log = (length (says log) + 63) / 64

-- a leaf that is among these made the row of its number
abbrev pub plan_node : List Leaf → ℕ → Node → Node
plan_node leaves w n =
    let r = number_in leaves (leaf_of n) in
    cond (leaf_kind n.kind && ltb r (length leaves)) (made_row (r * w) w n) n

-- every node's
abbrev pub planned : List Leaf → ℕ → List Node → List Node
planned leaves w rows = map (plan_node leaves w) rows

-- a node is a `max`
abbrev pub has_max : List Node → Bool
has_max rows = list_any (λ n. eqb n.kind 6) rows

-- how many words the row of the sound lines takes with its counts: it is kept only where a node is a `max`, and never where it has more than 1,024 words
abbrev pub sound_words : List Node → ℕ → ℕ
sound_words rows w = cond (leb w 1024 && has_max rows) (w + w) 0

-- the table over the rows of its leaves, folded, and the words with these rows; where they do not fit, no nodes and the words as they are
unfoldable pub prepared : List Node → List ℕ → ℕ → List ℕ → Folding
prepared rows log w words =
    let ls = leaves_of rows in
    cond (fit (length ls) w (length words))
    (folded w 32 (folding (planned ls w rows) (marked ls (says log) w words) (length ls * w)))
    (folding (replicate 32 no_node) words 0)

-- and the words of the row of the sound lines
unfoldable pub prepared_sound : List Node → List ℕ → ℕ → List ℕ → List ℕ → List ℕ
prepared_sound rows log w words sound = cond (fit (length (leaves_of rows)) w (length words)) (sound_marked (says log) sound) sound
