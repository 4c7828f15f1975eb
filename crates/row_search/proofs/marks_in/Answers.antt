-- `row_search::marks_in` meets its contract: a word has no more set bits than bits. Assumes nothing.
use Rattle.std.proofs.Common.{sym, arith}
use lib.Count.{ones-le}
use Rattle.marks.proofs.Bits.{trues-all}
use Rattle.row_search.proofs.marks_in.Goals as goal

pub returns : goal.returns
returns c = (sym (trues-all 64 c.args.w (omega arith)), ones-le 64 c.args.w (omega arith))
