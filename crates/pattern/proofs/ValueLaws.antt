-- The value of every number of a pattern is the sum of its digits' entries in the chart.
-- Assumes nothing.
use Prim.Native.Nat.{ℕ}
use mathlib.Core.Path.{◌≡◌, refl, sym, ap, ap₂, ◌∙◌}
use mathlib.Core.Bool.{Bool, true, cond}
use mathlib.Core.List.{List, [], ◌∷◌, ◌++◌, map, append_assoc, map-append}
use lib.ListN.{get_or}
use native.Mathlib.Omega.{arith}
use Rattle.basics.specs.Decimal.{decimal}
use Rattle.basics.proofs.Decimals.{Plain, decimal-plain, decimal-first}
use Rattle.lines.specs.Lines.{cut}
use Rattle.lines.proofs.LinesLaws.{cut-front}
use Rattle.digits.specs.Chart.{digit, value}
use Rattle.digits.proofs.ChartLaws.{digit-within}
use Rattle.digits.proofs.NumberLaws.{sum-decimal, value-marked}
use Rattle.pattern.specs.Kinds.{Symbol, kind_of, numbers, word}
use Rattle.pattern.specs.Pattern.{Pattern, listed, spell_symbol, preorder, Spells, numerals, numbers_in}
use Rattle.pattern.proofs.KindLaws.{word-plain, word_first, Small, ranged-small}
use Rattle.pattern.proofs.Scanning.{afters, joined, AllRanged}
use Rattle.pattern.proofs.Trees.{spell-joined, ranged-preorder}

-- ── The pieces of a text ──

-- symbols, each with a comma after it
abbrev commas : List Symbol → List ℕ
commas [] = []
commas (h ∷ hs) = spell_symbol h ++ (44 ∷ commas hs)

after-commas : (h : Symbol) (hs : List Symbol) → (spell_symbol h ++ afters hs) ++ (44 ∷ []) ≡ commas (h ∷ hs)
after-commas h [] = append_assoc (spell_symbol h) [] (44 ∷ [])
after-commas h (g ∷ hs) = append_assoc (spell_symbol h) (afters (g ∷ hs)) (44 ∷ []) ∙ ap (λ (t : List ℕ). spell_symbol h ++ (44 ∷ t)) (after-commas g hs)

-- a text without commas, and a comma
cut-text : (t s : List ℕ) → Plain t → cut 44 (t ++ (44 ∷ s)) ≡ (t ++ (44 ∷ [])) ∷ cut 44 s
cut-text t s p = cut-front t (44 ∷ s) (44 ∷ []) (cut 44 s) p refl

-- a symbol's numbers, each with a comma
abbrev marked : List ℕ → List (List ℕ)
marked ns = map (λ n. decimal n ++ (44 ∷ [])) ns

cut-listed : (t ns s : List ℕ) → Plain t → cut 44 ((t ++ listed ns) ++ (44 ∷ s)) ≡ (t ++ (44 ∷ [])) ∷ (marked ns ++ cut 44 s)
cut-listed t [] s p = ap (cut 44) (append_assoc t [] (44 ∷ s)) ∙ cut-text t s p
cut-listed t (n ∷ ns) s p =
    ap (cut 44) (append_assoc t (listed (n ∷ ns)) (44 ∷ s)) ∙ cut-text t ((decimal n ++ listed ns) ++ (44 ∷ s)) p ∙ ap (λ (ps : List (List ℕ)). (t ++ (44 ∷ [])) ∷ ps) (cut-listed (decimal n) ns s (decimal-plain n))

-- the pieces of symbols
abbrev pieces : List Symbol → List (List ℕ)
pieces [] = []
pieces (h ∷ hs) = (word h ++ (44 ∷ [])) ∷ (marked (numbers h) ++ pieces hs)

cut-commas : (hs : List Symbol) → cut 44 (commas hs) ≡ pieces hs
unfolding spell_symbol
cut-commas [] = refl
cut-commas (h ∷ hs) = cut-listed (word h) (numbers h) (commas hs) (word-plain (kind_of h)) ∙ ap (λ (ps : List (List ℕ)). (word h ++ (44 ∷ [])) ∷ (marked (numbers h) ++ ps)) (cut-commas hs)

-- ── Those that are numbers ──

-- every piece with a decimal
numerals-marked : (ns : List ℕ) (ps : List (List ℕ)) → numerals (marked ns ++ ps) ≡ marked ns ++ numerals ps
numerals-marked [] ps = refl
numerals-marked (n ∷ ns) ps =
    let (b, t, e, h, k) = decimal-first n in
    let d : digit (get_or (decimal n ++ (44 ∷ [])) 0 0) ≡ true = ap (λ (u : List ℕ). digit (get_or (u ++ (44 ∷ [])) 0 0)) e ∙ digit-within b h k in
    ap (λ (c : Bool). cond c ((decimal n ++ (44 ∷ [])) ∷ numerals (marked ns ++ ps)) (numerals (marked ns ++ ps))) d ∙ ap (λ (us : List (List ℕ)). (decimal n ++ (44 ∷ [])) ∷ us) (numerals-marked ns ps)

-- and its number for value
marked-values : (ns : List ℕ) → Small ns → map value (marked ns) ≡ ns
marked-values [] s = refl
marked-values (n ∷ ns) (h, s) = ap₂ (λ (m : ℕ) (ms : List ℕ). m ∷ ms) (value-marked (decimal n) 44 ∙ sum-decimal n (omega arith)) (marked-values ns s)

-- of the pieces of symbols
pieces-values : (hs : List Symbol) → AllRanged hs → map value (numerals (pieces hs)) ≡ numbers_in hs
pieces-values [] r = refl
pieces-values (h ∷ hs) (q, r) =
    let ps = marked (numbers h) ++ pieces hs in
    ap (λ (c : Bool). map value (cond c ((word h ++ (44 ∷ [])) ∷ numerals ps) (numerals ps))) (word_first (kind_of h)) ∙ ap (map value) (numerals-marked (numbers h) (pieces hs)) ∙ map-append value (marked (numbers h)) (numerals (pieces hs)) ∙
    ap₂ (λ (ms ns : List ℕ). ms ++ ns) (marked-values (numbers h) (ranged-small (kind_of h) (numbers h) q)) (pieces-values hs r)

-- the numbers of a text that spells a pattern have those of the pattern's symbols for values; a comma is put after the text, so that each piece ends in one
pub text-values : (p : Pattern) (s : List ℕ) → Spells p s → map value (numerals (cut 44 (s ++ (44 ∷ [])))) ≡ numbers_in (preorder p)
text-values p s h =
    ap (λ (t : List ℕ). map value (numerals (cut 44 (t ++ (44 ∷ []))))) (sym h.spelt ∙ spell-joined p) ∙ go (preorder p) ∙ pieces-values (preorder p) (ranged-preorder p h.formed)
  where
    go : (hs : List Symbol) → map value (numerals (cut 44 (joined hs ++ (44 ∷ [])))) ≡ map value (numerals (pieces hs))
    go [] = refl
    go (h ∷ hs) = ap (λ (t : List ℕ). map value (numerals (cut 44 t))) (after-commas h hs) ∙ ap (λ (ps : List (List ℕ)). map value (numerals ps)) (cut-commas (h ∷ hs))
