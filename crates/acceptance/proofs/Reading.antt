-- What each return of `read_both` shows, and the list of an accepted pattern's table. Assumes nothing.
use Prim.Native.Nat.{ℕ, ◌≤◌, ◌<◌}
use mathlib.Core.Path.{◌≡◌, refl, sym, ap, ap₂, subst, ◌∙◌}
use mathlib.Core.Bool.{Bool, true, false, cond}
use mathlib.Core.List.{List, []}
use lib.ListN.{length, replicate}
use borrow.Author.Tests.{lt-ltb, le-ltb}
use native.Mathlib.Omega.{arith}
use Rattle.std.specs.Prelude.{Result, Ok, Err, IfOk}
use Rattle.std.specs.Result.{result_map_both}
use Rattle.stretches.specs.declared.Node.{Node}
use Rattle.stretches.specs.Table.{no_node}
use Rattle.pattern.specs.Answer as answer
use Rattle.pattern.specs.Reading.{Outcome, Accepts, Refuses, outcome_of, table_of, ReadGives}
use Rattle.pattern.specs.Pattern.{Pattern, nodes}
use Rattle.pattern.specs.Rows.{Tree}
use Rattle.pattern.specs.declared.Refusal as pattern
use Rattle.pattern.specs.declared.Refusal.TheVariants.{Long, Misspelt, Crowded, Deep}
use Rattle.pattern.specs.declared.Table.{Table}
use Rattle.pattern.proofs.Outcomes.{accepts-spells, read-accepts, read-refuses}
use Rattle.pattern.proofs.Rows.{table-tree}
use Rattle.meaning.specs.Meaning.{answers_in, table_in}
use Rattle.meaning.specs.declared.Refusal.{Refusal}
use Rattle.meaning.specs.declared.Refusal.TheVariants.{LongLog}
use Rattle.meaning.specs.Refusals.{Signal, refused, accepted, long_log, of_pattern, refusal}
use Rattle.meaning.specs.Finding.{list_of}
use Rattle.meaning.specs.Replies.{number_of, place_of, told, signal}
use Rattle.meaning.proofs.Finding.{long-log, bad-pattern, good-pattern, refused-list, accepted-list, accepted-number}
use Rattle.meaning.proofs.Replies.{some_number}
use Rattle.meaning.proofs.Table.{table-answers}
use Rattle.acceptance.specs.Readied.{rows_in}

-- a pattern's refusal keeps its number and place
told-number : (v : pattern.Refusal) → number_of (told v) ≡ answer.number_of v
told-number Long = refl
told-number (Misspelt n) = refl
told-number Crowded = refl
told-number Deep = refl

told-place : (v : pattern.Refusal) → place_of (told v) ≡ answer.place_of v
told-place Long = refl
told-place (Misspelt n) = refl
told-place Crowded = refl
told-place Deep = refl

module _ (text log : List ℕ) where
  pub read-refused : (v : pattern.Refusal) → length log ≤ 61440 → ReadGives text (Err v) → refused (number_of (told v)) (place_of (told v)) ≡ refusal text log
  read-refused v h g = sym (bad-pattern text log (number_of (told v)) (place_of (told v)) h (read-refuses text v g ∙ ap₂ Refuses (sym (told-number v)) (sym (told-place v))))

  -- the table of a log that is not too long
  rows_short : length log ≤ 61440 → (table_of (outcome_of text)).rows ≡ rows_in text log
  rows_short h = sym (ap (λ b. cond b (replicate 32 no_node) (table_of (outcome_of text)).rows) (le-ltb 61440 (length log) h))

  pub read-accepted : (t : Table) → length log ≤ 61440 → ReadGives text (Ok t) → accepted ≡ refusal text log
  read-accepted t h g = let a = read-accepts text t g in sym (good-pattern text log a.0 h a.1)

  -- of a log that is too long the refusal is 1, and the table zeros; of any other the answer is by what the text is read as, and so is the table
  pub read-long : 61440 < length log → (signal {A = List Node} (Err LongLog) ≡ refusal text log) × (replicate 32 no_node ≡ rows_in text log)
  read-long h = (sym (long-log text log h), sym (ap (λ b. cond b (replicate 32 no_node) (table_of (outcome_of text)).rows) (lt-ltb 61440 (length log) h)))

  -- the rows that an answer leaves: of a refusal zeros
  abbrev pub rows_read : Result Table pattern.Refusal → List Node
  rows_read (Ok t) = t.rows
  rows_read (Err v) = replicate 32 no_node

  pub read_short : (r : Result Table pattern.Refusal) → length log ≤ 61440 → ReadGives text r
      → (signal (result_map_both (λ (t : Table). t.rows) told r) ≡ refusal text log) × (rows_read r ≡ rows_in text log)
  read_short (Ok t) h g =
      let a = read-accepts text t g in
      (read-accepted t h g, ap (λ (t : Table). t.rows) a.2 ∙ (ap (λ (o : Outcome). (table_of o).rows) (sym a.1) ∙ rows_short h))
  read_short (Err v) h g = (read-refused v h g, ap (λ (o : Outcome). (table_of o).rows) (sym (read-refuses text v g)) ∙ rows_short h)

  -- what is promised of a reading, once it is known whether it was refused
  pub read-ok : {r : Result (List Node) Refusal} {rows : List Node} → r ≡ Ok rows → signal r ≡ refusal text log → IfOk r (λ x. x ≡ rows_in text log)
      → (accepted ≡ refusal text log) × (rows ≡ rows_in text log)
  read-ok e s k = (subst (λ (x : Result (List Node) Refusal). signal x ≡ refusal text log) e s, subst (λ (x : Result (List Node) Refusal). IfOk x (λ y. y ≡ rows_in text log)) e k)

  pub read-err : {r : Result (List Node) Refusal} {f : Refusal} → r ≡ Err f → signal r ≡ refusal text log → refused (number_of f) (place_of f) ≡ refusal text log
  read-err e s = subst (λ (x : Result (List Node) Refusal). signal x ≡ refusal text log) e s

  -- of an accepted call the log is not too long, the pattern stands in the table, and the list is the pattern's
  pub record AcceptedTree : Type 0 where
    pub brief : length log ≤ 61440
    pub tree : Pattern
    pub reads : outcome_of text ≡ Accepts tree
    pub stands : Tree (rows_in text log) 0 tree
    pub few : nodes tree ≤ 32
    pub list : list_of text log ≡ answers_in tree log

  pub accepted-tree : (refusal text log).number ≡ 0 → AcceptedTree
  accepted-tree e =
      let k = accepted-number text log e in
      let a = accepts-spells text k.tree k.reads in
      record {
        brief = k.brief;
        tree = k.tree;
        reads = k.reads;
        stands = subst (λ (r : List Node). Tree r 0 k.tree) (sym (ap (λ (o : Outcome). (table_of o).rows) k.reads) ∙ rows_short k.brief) (table-tree k.tree a.few);
        few = a.few;
        list = accepted-list text log k.tree k.brief k.reads;
      }

  -- the list of an accepted pattern's table is the pattern's
  pub table-list : (refusal text log).number ≡ 0 → table_in (rows_in text log) log ≡ list_of text log
  table-list e = let a = accepted-tree e in table-answers (rows_in text log) a.tree log a.stands a.few ∙ sym a.list

  -- of a refused call nothing is found
  pub refused-empty : (e : Refusal) → refused (number_of e) (place_of e) ≡ refusal text log → list_of text log ≡ []
  refused-empty e k = refused-list text log (refused (number_of e) (place_of e)) (sym k) (some_number e)

  -- and its table is zeros
  pub refused-rows : (e : Refusal) → refused (number_of e) (place_of e) ≡ refusal text log → rows_in text log ≡ replicate 32 no_node
  unfolding refusal
  refused-rows e k = go (long_log log) (outcome_of text) k
    where
      go : (b : Bool) (o : Outcome) → refused (number_of e) (place_of e) ≡ cond b (refused 1 0) (of_pattern o) → cond b (replicate 32 no_node) (table_of o).rows ≡ replicate 32 no_node
      go true o h = refl
      go false (Refuses n q) h = refl
      go false (Accepts p) h = absurd (omega (arith, some_number e, ap (λ (x : Signal). x.number) h))
