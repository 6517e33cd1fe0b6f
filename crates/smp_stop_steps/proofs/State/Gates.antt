-- Who holds the gate, by its word.
use Rattle.std.proofs.Common.{◌≡◌, ℕ, ◌+◌, Option, Some, None, arith}
use Rattle.smp_stop_steps.specs.{gate_word}

pub gate_free : (g : Option ℕ) → gate_word g ≡ 0 → g ≡ None
gate_free g e = search arith

pub gate_mine : (me : ℕ) (g : Option ℕ) → gate_word g ≡ me + 1 → g ≡ Some me
gate_mine me g e = search arith
