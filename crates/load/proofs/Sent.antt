-- The calls that a CPU has sent, function by function.
use Rattle.std.proofs.Common.{◌≡◌, ℕ, ◌+◌, ◌%◌, ◌^◌, refl, add-one}
use Rattle.load.specs.declared.torture.report.Report.{Report}
use Rattle.load.specs.Counts.{total_at}
use Rattle.load.specs.Verdicts.{sent_below}

-- of no function there are none
pub sent_below_none : (r : Report) (t : ℕ) → sent_below r t 0 ≡ 0
unfolding sent_below
sent_below_none r t = refl

-- one function more adds its calls
pub sent_below_more : (r : Report) (t n : ℕ) → sent_below r t (n + 1) ≡ (sent_below r t n + (total_at r.sent.cells n t).count) % 2 ^ 64
unfolding sent_below
sent_below_more r t n = rw (add-one n) refl
