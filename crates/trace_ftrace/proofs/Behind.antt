-- The last mark that is not later than a time.
use Rattle.std.proofs.Common.{◌≡◌, ℕ, zero, suc, ◌<◌, ◌≤◌, ◌-◌, true, nat_le, List, [], ◌∷◌, length, drop, get_or, arith}
use Rattle.trace_ftrace.specs.Kept.{behind}
use Rattle.trace_ftrace.specs.declared.kept.Mark.{Mark}

-- it is where it is, when none behind it is one
behind_here : (time : ℕ) (ms : List Mark) (i : ℕ) (d : Mark) → i < length ms → behind time (drop (suc i) ms) ≡ 0
    → nat_le (get_or ms i d).at.time time ≡ true → behind time ms ≡ suc i
behind_here time [] i d h n q = absurd (omega arith)
behind_here time (m ∷ ms) zero d h n q = rw (n, q)
behind_here time (m ∷ ms) (suc i) d h n q = rw (behind_here time ms i d (omega arith) n q)

pub behind_at : (time : ℕ) (ms : List Mark) (at : ℕ) (d : Mark) → 0 < at → at ≤ length ms → behind time (drop at ms) ≡ 0
    → (get_or ms (at - 1) d).at.time ≤ time → behind time ms ≡ at
behind_at time ms zero d o h n q = absurd (omega arith)
behind_at time ms (suc i) d o h n q = behind_here time ms i d (omega arith) n (search (arith, q))
