use Rattle.std.proofs.Common.{ℕ, ◌+◌, ◌<◌, true, ap, ◌∙◌, arith}
use Rattle.smp_words.specs.Size.{records_of_one}
use Rattle.smp_queue.specs.Cpu.{CpuValue, confirmed_at}
use Rattle.smp_calls.proofs.Steps.{set_here}
use Rattle.smp_calls.proofs.laws.own_calls_by_users.Goals as goal

small : (u : ℕ) → u < 2 → 10 + u < records_of_one
small u few = search arith

pub returns-clause-free : goal.returns-clause-free
returns-clause-free g c old new before after u func info sized few here = (
  ap (λ (x : CpuValue). x.steps) here.0,
  ap (λ (x : CpuValue). confirmed_at x (10 + u)) here.0 ∙ set_here old (10 + u) true sized (small u few),
)
