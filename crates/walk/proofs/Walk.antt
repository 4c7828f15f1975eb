-- The walk over answers: steps pass over answers, and write them into cells. One law for each return and turn. Assumes nothing.
use mathlib.Core.Path.{◌≡◌, refl, sym, ap, subst, subst₂, ◌∙◌}
use mathlib.Core.Bool.{Bool, true, false}
use mathlib.Core.List.{List}
use Prim.Native.Nat.{ℕ, suc, ◌+◌, ◌*◌, ◌/◌, ◌≤◌, ◌<◌}
use native.Mathlib.Omega.{arith}
use lib.ListN.{length, set, take, drop, length-take, length-drop, drop_of_length-le}
use lib.Seq.{drop-drop, drop-set-lt}
use lib.Dec.{ltb}
use borrow.Author.Tests.{ltb-true, ltb-false, lt-ltb, le-ltb}
use Rattle.basics.proofs.Basics.{cases}
use Rattle.std.specs.Option.{is_some}
use Rattle.stretches.specs.declared.Node.{Node}
use Rattle.stretches.specs.declared.Stretch.{Stretch}
use Rattle.stretches.specs.Front.{Front, None, Some}
use Rattle.stretches.specs.Filling.{pairs_in, written, more_after}
use Rattle.stretches.proofs.Filling.{drop-step, Partly, partly_more, partly-done, partly-all}
use Rattle.seek.specs.declared.state.State.{State}
use Rattle.seek.specs.Source.{Source, Good}
use Rattle.seek.specs.First.{no_state, Ready, FirstOf}
use Rattle.seek.proofs.Keeping.{ready-none}
use Rattle.seek.proofs.Ahead.{rest, step-ready, step-none, step-some}
use Rattle.walk.specs.declared.Walked.{Walked}
use Rattle.walk.specs.Filling.{Filling, FillAll}
use Rattle.walk.specs.inner.Walks.{PassedOver, Put}

-- ── Answers passed over ──

pub over-start : {src : Source} {rows : List Node} {s : State} {t : ℕ} → PassedOver src rows s t 0 t s
over-start = record { ready = λ good rdy. rdy; rest = λ good rdy. refl }

module _ {src : Source} {rows : List Node} {s₀ s : State} {t₀ t n : ℕ} (inv : PassedOver src rows s₀ t₀ n t s) {r : Front} {s' : State} (g : FirstOf src rows s 0 t r s') where
  pub over-turn : {x : Stretch} → r ≡ Some x → PassedOver src rows s₀ t₀ (n + 1) (x.start + 1) s'
  over-turn {x} one = record {
    ready = λ good rdy. step-ready g good (inv.ready good rdy);
    rest = λ good rdy.
        let z : suc n ≡ n + 1 = omega arith in
        sym (drop-step n (rest src rows t₀) x (rest src rows (x.start + 1)) (sym (inv.rest good rdy) ∙ step-some g good (inv.ready good rdy) one)).0
        ∙ ap (λ (k : ℕ). drop k (rest src rows t₀)) z;
  }

  -- past the last answer it is the same for every number
  pub over-end : {m : ℕ} → r ≡ None → n ≤ m → PassedOver src rows s₀ t₀ m t s'
  over-end {m} no_more le = record {
    ready = λ good rdy. step-ready g good (inv.ready good rdy);
    rest = λ good rdy.
        let e = step-none g good (inv.ready good rdy) no_more in
        let few : length (rest src rows t₀) ≤ n = omega (arith, length-drop n (rest src rows t₀), ap length (sym (inv.rest good rdy) ∙ e)) in
        e ∙ sym (drop_of_length-le (rest src rows t₀) {i = m} (omega arith));
  }

pub over_done : {src : Source} {rows : List Node} {s₀ s : State} {t₀ t n m : ℕ} → PassedOver src rows s₀ t₀ n t s → n ≡ m → PassedOver src rows s₀ t₀ m t s
over_done {src} {rows} {s₀} {s} {t₀} {t} inv e = subst (λ (k : ℕ). PassedOver src rows s₀ t₀ k t s) e inv

-- ── Answers written into cells ──

-- n of the answers from line t₀ on are written, and the next is sought from line t
pub record PutInv (src : Source) (rows : List Node) (s₀ : State) (t₀ : ℕ) (cells₀ : List ℕ) (s : State) (t n : ℕ) (cells : List ℕ) : Type 0 where
  pub over : PassedOver src rows s₀ t₀ n t s
  pub partly : Good src rows → Ready src rows s₀ → Partly (rest src rows t₀) n cells₀ cells

pub put-start : {src : Source} {rows : List Node} {s : State} {t : ℕ} {cells : List ℕ} → PutInv src rows s t cells s t 0 cells
put-start = record { over = over-start; partly = λ good rdy. record { some = omega arith; wrote = refl } }

-- whatever is written lies before 2 n
pub kept-turn : (cells₀ cells : List ℕ) (n x y : ℕ) → drop (2 * n) cells ≡ drop (2 * n) cells₀ → drop (2 * (n + 1)) (set (set cells (2 * n) x) (2 * n + 1) y) ≡ drop (2 * (n + 1)) cells₀
kept-turn cells₀ cells n x y e =
    let z : 2 * n + 2 ≡ 2 * (n + 1) = omega arith in
    drop-set-lt (2 * (n + 1)) (set cells (2 * n) x) (2 * n + 1) y (omega arith)
    ∙ (drop-set-lt (2 * (n + 1)) cells (2 * n) x (omega arith)
    ∙ subst (λ (k : ℕ). drop k cells ≡ drop k cells₀) z (sym (drop-drop 2 (2 * n) cells) ∙ (ap (drop 2) e ∙ drop-drop 2 (2 * n) cells₀)))

module _ (l : List Stretch) (n : ℕ) (cells₀ cells : List ℕ) (p : Partly l n cells₀ cells) where
  filling-is : (more : Bool) → written l 0 cells₀ ≡ take n l → more ≡ ltb (0 + n) (length l) → Filling l 0 cells₀ (record { count = n; more = more }) cells
  filling-is more w e =
      let d = partly-done l n cells₀ cells p w in
      record { count = d.0; more = e ∙ ap (λ (k : ℕ). ltb (0 + k) (length l)) d.0; wrote = d.1 }

  filling-done : length l ≤ n → 2 * n ≤ length cells₀ → Filling l 0 cells₀ (record { count = n; more = false }) cells
  filling-done few room = filling-is false (partly-all l n cells₀ few room) (sym (le-ltb (0 + n) (length l) (omega arith)))

  filling-full : n < length l → n ≡ pairs_in cells₀ → Filling l 0 cells₀ (record { count = n; more = true }) cells
  filling-full more full = filling-is true (ap (λ (k : ℕ). take k l) (sym full)) (sym (lt-ltb (0 + n) (length l) (omega arith)))

module _ {src : Source} {rows : List Node} {s₀ : State} {t₀ : ℕ} {cells₀ : List ℕ} {s : State} {t n : ℕ} {cells : List ℕ} (inv : PutInv src rows s₀ t₀ cells₀ s t n cells)
    {r : Front} {s' : State} (g : FirstOf src rows s 0 t r s') where
  pub put-turn : {x : Stretch} → r ≡ Some x → 2 * n + 2 ≤ length cells₀ → PutInv src rows s₀ t₀ cells₀ s' (x.start + 1) (n + 1) (set (set cells (2 * n) x.start) (2 * n + 1) x.end)
  put-turn {x} one room = record {
    over = over-turn inv.over g one;
    partly = λ good rdy. partly_more (rest src rows t₀) n cells₀ cells (inv.partly good rdy) x (rest src rows (x.start + 1))
        (sym (inv.over.rest good rdy) ∙ step-some g good (inv.over.ready good rdy) one) room;
  }

  -- nothing is left
  pub put-done : r ≡ None → 2 * n ≤ length cells₀ → Put src rows s₀ t₀ cells₀ (record { count = n; more = false }) cells
  put-done no_more room = record {
    puts = λ good rdy.
        let k = sym (inv.over.rest good rdy) ∙ step-none g good (inv.over.ready good rdy) no_more in
        let few : length (rest src rows t₀) ≤ n = omega (arith, length-drop n (rest src rows t₀), ap length k) in
        filling-done (rest src rows t₀) n cells₀ cells (inv.partly good rdy) few room;
  }

  -- a further answer has no room
  put_full : {x : Stretch} → r ≡ Some x → n ≡ length cells₀ / 2 → Put src rows s₀ t₀ cells₀ (record { count = n; more = true }) cells
  put_full one full = record {
    puts = λ good rdy.
        let k = sym (inv.over.rest good rdy) ∙ step-some g good (inv.over.ready good rdy) one in
        let more : n < length (rest src rows t₀) = omega (arith, length-drop n (rest src rows t₀), ap length k) in
        filling-full (rest src rows t₀) n cells₀ cells (inv.partly good rdy) more full;
  }

  -- whether a further answer exists
  pub put-last : {k : ℕ} {b : Bool} → k ≡ n → b ≡ is_some r → n ≡ length cells₀ / 2 → Put src rows s₀ t₀ cells₀ (record { count = k; more = b }) cells
  put-last ek eb full = subst₂ (λ (k : ℕ) (b : Bool). Put src rows s₀ t₀ cells₀ (record { count = k; more = b }) cells) (sym ek) (sym eb) (by r refl)
    where
      by : (g : Front) → r ≡ g → Put src rows s₀ t₀ cells₀ (record { count = n; more = is_some g }) cells
      by None e = put-done e (omega arith)
      by (Some x) e = put_full e full

-- ── Both ──

more-after : (l : List Stretch) (f : ℕ) (cells : List ℕ) → more_after (drop f l) 0 cells ≡ more_after l f cells
more-after l f cells =
    let n : ℕ = length (written l f cells) in
    let d = length-drop f l in
    let t = length-take (pairs_in cells) (drop f l) in
    cases (ltb (f + length (written l f cells)) (length l)) (λ b. ltb (0 + length (written l f cells)) (length (drop f l)) ≡ b)
    (λ k. lt-ltb (0 + length (written l f cells)) (length (drop f l)) (omega (arith, ltb-true (f + length (written l f cells)) (length l) k)))
    (λ k. le-ltb (0 + length (written l f cells)) (length (drop f l)) (omega (arith, ltb-false (f + length (written l f cells)) (length l) k)))

pub filled-all : {src : Source} {rows : List Node} {line f t : ℕ} {s₀ s : State} {cells : List ℕ} {w : Walked} {cells' : List ℕ}
    → s₀ ≡ no_state → PassedOver src rows s₀ line f t s → Put src rows s t cells w cells' → FillAll src rows line f cells w cells'
filled-all {src} {rows} {line} {f} {t} {s₀} {s} {cells} {w} {cells'} e a b = record {
  fills = λ good.
      let rdy = subst (Ready src rows) (sym e) (ready-none src rows) in
      let h = subst (λ (l : List Stretch). Filling l 0 cells w cells') (a.rest good rdy) (b.puts good (a.ready good rdy)) in
      record { count = h.count; more = h.more ∙ more-after (rest src rows line) f cells; wrote = h.wrote };
}
