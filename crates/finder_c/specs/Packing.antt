-- A call's result in one number of 64 bits, and the parts of it, as include/finder.h has them. Assumes nothing.
use Rattle.std.specs.Prelude.{ℕ, ◌+◌, ◌*◌, ◌/◌, ◌%◌, ◌^◌, ◌<◌, ◌≡◌, Bool, cond, List, length, take, drop}
use Rattle.lines.specs.Lines.{stretch_lines, stretch_start}
use Rattle.meaning.specs.Replies.{FillReply, Reply}
use Rattle.meaning.specs.Refusals.{long_log}
use Rattle.marking.specs.Rows.{counted}
use Rattle.taking.specs.Taking.{TakeReply}

abbrev pub bit : Bool → ℕ
bit b = cond b 1 0

-- bits 0 to 7 the refusal's number (0: accepted), bit 8 "more", bits 16 to 31 the place, bits 32 to 63 the stretches written
abbrev pub packed_fill : FillReply → ℕ
packed_fill r = r.number + 256 * bit r.more + 65536 * r.place + 4294967296 * r.count

-- the same with bit 8 zero, bits 32 to 63 the count: of picks, or of triples
abbrev pub packed_reply : Reply → ℕ
packed_reply r = r.number + 65536 * r.place + 4294967296 * r.count

-- bits 0 to 7 the refusal's number (0: accepted), bit 8 set where there is an answer, bits 16 to 31 its start, bits 32 to 47 its end
abbrev pub packed_taken : TakeReply → ℕ
packed_taken r = r.number + 256 * bit r.found + 65536 * r.start + 4294967296 * r.end

-- of a log: bits 0 to 7 the refusal's number (1 for a long log, and then nothing else), bits 16 to 31 the damaged lines, bits 32 to 63 the lines
abbrev pub packed_count : List ℕ → ℕ
packed_count log = cond (long_log log) 1 (65536 * (counted log).damaged + 4294967296 * (counted log).lines)

-- of the lines of a stretch: bits 0 to 31 where in the log they start, bits 32 to 63 their bytes; 0 for an empty part
abbrev pub packed_lines : List ℕ → ℕ → ℕ → ℕ
packed_lines log first last = stretch_start log first last + 4294967296 * length (stretch_lines log first last)

-- ── The parts of a result ──

-- n >> k & (2 ^ m - 1) is n / 2 ^ k % 2 ^ m

-- finder_refusal: & 0xff
abbrev pub refusal_in : ℕ → ℕ
refusal_in w = w % 256

-- finder_more, finder_taken: >> 8 & 1
abbrev pub flag_in : ℕ → ℕ
flag_in w = w / 256 % 2

-- finder_place, finder_taken_start, the damaged lines: >> 16 & 0xffff
abbrev pub place_in : ℕ → ℕ
place_in w = w / 65536 % 65536

-- finder_written, the lines, the bytes of lines: >> 32
abbrev pub written_in : ℕ → ℕ
written_in w = w / 4294967296

-- finder_taken_end: >> 32 & 0xffff
abbrev pub end_in : ℕ → ℕ
end_in w = w / 4294967296 % 65536

-- where lines start: & 0xffffffff
abbrev pub start_in : ℕ → ℕ
start_in w = w % 4294967296

-- the word has 64 bits, and its parts are the result
pub record ReadsFill (w : ℕ) (r : FillReply) : Type 0 where
  pub fits : w < 2 ^ 64
  pub number : refusal_in w ≡ r.number
  pub more : flag_in w ≡ bit r.more
  pub place : place_in w ≡ r.place
  pub count : written_in w ≡ r.count

pub record ReadsReply (w : ℕ) (r : Reply) : Type 0 where
  pub fits : w < 2 ^ 64
  pub number : refusal_in w ≡ r.number
  pub more : flag_in w ≡ 0
  pub place : place_in w ≡ r.place
  pub count : written_in w ≡ r.count

pub record ReadsTaken (w : ℕ) (r : TakeReply) : Type 0 where
  pub fits : w < 2 ^ 64
  pub number : refusal_in w ≡ r.number
  pub found : flag_in w ≡ bit r.found
  pub start : place_in w ≡ r.start
  pub end : end_in w ≡ r.end

pub record ReadsCount (w : ℕ) (log : List ℕ) : Type 0 where
  pub fits : w < 2 ^ 64
  pub number : refusal_in w ≡ cond (long_log log) 1 0
  pub damaged : place_in w ≡ cond (long_log log) 0 (counted log).damaged
  pub lines : written_in w ≡ cond (long_log log) 0 (counted log).lines

pub record ReadsLines (w : ℕ) (log : List ℕ) (first last : ℕ) : Type 0 where
  pub fits : w < 2 ^ 64
  pub start : start_in w ≡ stretch_start log first last
  pub bytes : written_in w ≡ length (stretch_lines log first last)
  pub part : take (written_in w) (drop (start_in w) log) ≡ stretch_lines log first last
