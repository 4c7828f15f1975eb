-- A row opened at a line, and its first marked line from there on. Assumes nothing.
use Rattle.std.proofs.Common.{◌≡◌, ◌≢◌, ℕ, suc, ◌+◌, ◌-◌, ◌*◌, ◌/◌, ◌%◌, ◌^◌, ◌<◌, ◌≤◌, Bool, false, List, [], ◌∷◌, ◌++◌, length, get_or, take, drop, sym, ap, ◌∙◌, arith, Some, None}
use lib.ListN.{drop_of_length-le, length-drop}
use lib.Seq.{take_all, drop-cons}
use lib.Pow.{shr_lt}
use lib.Count.{count_trailing_zeros}
use Rattle.stretches.specs.Stretch.{marks}
use Rattle.stretches.specs.Front.{first_from, head_of}
use Rattle.marks.specs.Row.{bits, flags, lies, row, RowIs}
use Rattle.marks.proofs.Flags.{length-flags, open-flags, next-flags}
use Rattle.marks.proofs.Lines.{first-from, walk-zero, walk_first}
use Rattle.marks.proofs.Rows.{row-flags, row-wide, row-none}
use Rattle.row_search.specs.Line.{line_of}
use Rattle.row_search.specs.inner.Opened.{Opened}

pub outside : (words : List ℕ) (at width t : ℕ) → lies (length words) at width ≡ false → drop t (row words at width) ≡ []
outside words at width t h = ap (drop t) (row-none words at width h) ∙ drop_of_length-le [] (omega arith)

module _ (words : List ℕ) (at width : ℕ) (ws : List ℕ) (t : ℕ) (h : RowIs words at width ws) where
  -- a row that ends before line t
  pub past : length ws ≤ t / 64 → drop t (row words at width) ≡ []
  past l = ap (drop t) (row-flags words at width ws h) ∙ drop_of_length-le (flags ws) (omega (arith, length-flags ws))

  pub opens : (w : ℕ) (later : List ℕ) → take (length ws - t / 64) (drop (t / 64) ws) ≡ w ∷ later → w < 2 ^ 64 → Opened (drop t (row words at width)) t (w / 2 ^ (t % 64)) later
  opens w later m f =
      let k = t / 64 in
      let o = t % 64 in
      let e : drop k ws ≡ w ∷ later = sym (take_all (length ws - k) (drop k ws) (omega (arith, length-drop k ws))) ∙ m in
      let n : k < length ws = omega (arith, length-drop k ws, ap length e) in
      let c : w ∷ later ≡ get_or ws k 0 ∷ drop (suc k) ws = sym e ∙ drop-cons ws k 0 n in
      let z : 64 * k + o ≡ t = omega arith in
      let u : (64 - o) + o ≡ 64 = omega arith in
      let r = row-wide words at width ws h in
      record {
        are = ap (drop t) (row-flags words at width ws h) ∙ ap (λ (x : ℕ). drop x (flags ws)) (sym z) ∙ open-flags ws k o (64 - o) n (omega arith) ∙ cc c;
        word = shr_lt (64 - o) o (rw u f);
        few = omega (arith, length-drop k ws, ap length e, r.0, r.1);
      }

-- ── The first marked line ──

sought : (bs : List Bool) (t : ℕ) → first_from (marks 0 bs) t ≡ head_of (marks t (drop t bs))
sought bs t = first-from 0 t t bs (omega arith)

-- the first of a word that has one
pub hit : (d w line : ℕ) (bs : List Bool) → w ≢ 0 → w < 2 ^ d → d ≤ 64 → line_of (head_of (marks line (bits d w ++ bs))) ≡ Some (line + count_trailing_zeros 64 w)
hit d w line bs h f m = ap (λ l. line_of (head_of l)) (walk_first d w (omega (arith, h)) f m line bs)

-- a word without one is passed
pub passed : (ws : List ℕ) (k line : ℕ) → k < length ws → get_or ws k 0 ≡ 0
    → head_of (marks (line + 64 * k) (flags (drop k ws))) ≡ head_of (marks (line + 64 * (k + 1)) (flags (drop (k + 1) ws)))
passed ws k line h e =
    let z : suc k ≡ k + 1 = omega arith in
    ap (λ b. head_of (marks (line + 64 * k) b)) (next-flags ws k h ∙ ap (λ (w : ℕ). bits 64 w ++ flags (drop (suc k) ws)) e)
    ∙ ap head_of (walk-zero 64 (line + 64 * k) (line + 64 * (k + 1)) (flags (drop (suc k) ws)) (omega arith))
    ∙ ap (λ (x : ℕ). head_of (marks (line + 64 * (k + 1)) (flags (drop x ws)))) z

module _ (bs : List Bool) (t : ℕ) where
  pub none_from : drop t bs ≡ [] → None ≡ line_of (first_from (marks 0 bs) t)
  none_from h = sym (ap line_of (sought bs t ∙ ap (λ b. head_of (marks t b)) h))

  module _ (w : ℕ) (later : List ℕ) (o : Opened (drop t bs) t w later) where
    here : first_from (marks 0 bs) t ≡ head_of (marks t (bits (64 - t % 64) w ++ flags later))
    here = sought bs t ∙ ap (λ b. head_of (marks t b)) o.are

    pub in-word : w ≢ 0 → Some (t + count_trailing_zeros 64 w) ≡ line_of (first_from (marks 0 bs) t)
    in-word h = sym (ap line_of here ∙ hit (64 - t % 64) w t (flags later) h o.word (omega arith))

    pub in_later : w ≡ 0 → line_of (head_of (marks (64 * (t / 64 + 1)) (flags later))) ≡ line_of (first_from (marks 0 bs) t)
    in_later h = sym (ap line_of (here ∙ ap (λ (x : ℕ). head_of (marks t (bits (64 - t % 64) x ++ flags later))) h
        ∙ ap head_of (walk-zero (64 - t % 64) t (64 * (t / 64 + 1)) (flags later) (omega arith))))
