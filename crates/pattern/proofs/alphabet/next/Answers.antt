-- `next`: the search in the list is resumed from row j on, a row a turn.
-- Assumes nothing.
use Rattle.std.proofs.Common.{◌≡◌, ℕ, ◌<◌, cond, Some, None, length, sym, ap, ◌∙◌, arith}
use lib.Dec.{eqb}
use borrow.Author.Tests.{eq-eqb, ne_eqb, lt-ltb}
use Rattle.pattern.specs.Kinds.{kinds, kind_in}
use Rattle.pattern.specs.Automaton.{letter_at, alike, continues, next}
use Rattle.pattern.specs.inner.Scanner.{row_found}
use Rattle.basics.proofs.Basics.{true-and, and-false, false-and}
use Rattle.pattern.proofs.KindLaws.{search-here, search-on, search-end}
use Rattle.pattern.proofs.Words.{alike-is}
use Rattle.pattern.proofs.alphabet.next.Goals as goal
use Rattle.pattern.proofs.alphabet.next.Goals.{else-alike-via-then-alike+else-letter-b, else-alike-via-else-alike}

-- a row that is one, and none
found : (r x : ℕ) → r < length kinds → r ≡ x → Some r ≡ row_found x
found r x h e = sym (ap row_found (sym e) ∙ ap (λ b. cond b (Some r) None) (lt-ltb r (length kinds) h))

missing : (x : ℕ) → length kinds ≡ x → None ≡ row_found x
missing x e = ap row_found e

pub returns-then-letter-b : goal.returns-then-letter-b
unfolding next
returns-then-letter-b c =
    let j = c.loop-j.j in
    let a = c.args in
    let w = (kind_in a.row).word in
    let v = (kind_in j).word in
    let e = search-here (continues w a.read a.b) j c.loop-j.invariant (omega arith)
    (true-and (alike a.read w v) (eqb (letter_at v a.read) a.b) (sym (alike-is _ a.read w v c.alike.ensures) ∙ c.if-alike.true) (eq-eqb (letter_at v a.read) a.b (sym c.letter.ensures ∙ c.if-letter-b.true))) in
    found j _ (omega arith) e

pub loop-j-preserved : goal.loop-j-preserved
loop-j-preserved c =
    let j = c.loop-j.j in
    let a = c.args in
    let w = (kind_in a.row).word in
    let v = (kind_in j).word in
    search-on (continues w a.read a.b) j c.loop-j.invariant (omega arith)
    (elim c.else-alike.branch [
      | else-alike-via-then-alike+else-letter-b x ↦ and-false (alike a.read w v) (eqb (letter_at v a.read) a.b) (ne_eqb (letter_at v a.read) a.b (λ e. x.if-letter-b.false (x.letter.ensures ∙ e)))
      | else-alike-via-else-alike x ↦ false-and (alike a.read w v) (eqb (letter_at v a.read) a.b) (sym (alike-is _ a.read w v c.alike.ensures) ∙ x.if-alike.false)
    ])

pub returns : goal.returns
unfolding next
returns c = missing _ (search-end (continues (kind_in c.args.row).word c.args.read c.args.b) c.loop-j.j c.loop-j.invariant (omega arith))
