-- The last step that is not later than a moment.
use Rattle.std.proofs.Common.{◌≡◌, ℕ, zero, suc, ◌<◌, ◌≤◌, ◌-◌, false, List, [], ◌∷◌, length, drop, get_or, subst, arith}
use Rattle.trace_ftrace.specs.Moments.{is_before}
use Rattle.trace_ftrace.specs.Placing.{behind_step}
use Rattle.trace_ftrace.specs.declared.moment.Moment.{Moment}
use Rattle.trace_ftrace.specs.declared.placing.Step.{Step}

-- it is where it is, when none behind it is one
behind_here : (at : Moment) (ms : List Step) (i : ℕ) (d : Step) → i < length ms → behind_step at (drop (suc i) ms) ≡ 0
    → is_before at (get_or ms i d).at ≡ false → behind_step at ms ≡ suc i
behind_here at [] i d h n q = absurd (omega arith)
behind_here at (m ∷ ms) zero d h n q = rw (n, q)
behind_here at (m ∷ ms) (suc i) d h n q = rw (behind_here at ms i d (omega arith) n q)

pub behind_at : (at : Moment) (ms : List Step) (place : ℕ) (d : Step) → 0 < place → place ≤ length ms
    → behind_step at (drop place ms) ≡ 0 → is_before at (get_or ms (place - 1) d).at ≡ false → behind_step at ms ≡ place
behind_at at ms zero d o h n q = absurd (omega arith)
behind_at at ms (suc i) d o h n q =
    let e : suc i - 1 ≡ i = omega arith in
    behind_here at ms i d (omega arith) n (subst (λ (k : ℕ). is_before at (get_or ms k d).at ≡ false) e q)
