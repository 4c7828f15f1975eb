-- Fronts compared and stored, and looks, which are fronts or are passed over. Private contracts cite this. Assumes nothing.
use Rattle.std.specs.Prelude.{ℕ, ◌+◌, ◌≤◌, ◌<◌, Bool, cond, set, leb, ltb}
use Rattle.stretches.specs.declared.Stretch.{Stretch}
use Rattle.stretches.specs.Stretch.{st}
use Rattle.seek.specs.declared.state.Kept.{Kept}
use Rattle.seek.specs.declared.state.State.{State}
use Rattle.seek.specs.First.{gone, kept_at, passed_at}

-- the line after; past 65,536 there is none
unfoldable pub past_of : ℕ → ℕ
past_of n = cond (ltb n 65536) (n + 1) 65537

-- the least end; of equal ends, the greatest start
unfoldable pub better_of : Stretch → Stretch → Stretch
better_of a b = cond (ltb b.end a.end) b (cond (ltb a.end b.end) a (cond (ltb a.start b.start) b a))

-- ── Looks: a front, which is no good where it ends at line 65,536 ──

-- what starts at line s and is no good
abbrev pub bad_f : ℕ → Stretch
bad_f s = st s 65536

-- the front, if it passed a test
abbrev pub kept : Stretch → Bool → Stretch
kept f b = cond b f (bad_f f.start)

-- with a front, on; without, none
unfoldable pub go_f : Stretch → (Stretch → Stretch) → Stretch
go_f f k = cond (ltb f.start 65536) (k f) gone

-- ── The state ──

-- the state where that a seek of v to t found f is kept
abbrev pub put_at : State → ℕ → Stretch → ℕ → State
put_at s v f t = record { kept = set s.kept v (record { past = past_of f.start; end = f.end; asked = t; hint = (kept_at s v).hint }); passed = s.passed }

-- the state with v passed over up to line t, before which all ends before line e
abbrev pub pass_at : State → ℕ → ℕ → ℕ → State
pass_at s v t e = record { kept = s.kept; passed = set s.passed v (record { to = t; end = e }) }

-- the line from which v is sought for what ends at or after e: as far as it was passed over, if all before ends before e
abbrev pub resume_at : State → ℕ → ℕ → ℕ
resume_at s v e = cond (leb (passed_at s v).end e) (passed_at s v).to 0

-- what is kept is what is found from t too
pub record Serves (k : Kept) (t : ℕ) : Type 0 where
  pub asked : k.asked ≤ t
  pub live : t < k.past
