-- Answers for `State::switch`.
use Rattle.std.proofs.Common.{arith}
use Rattle.std.proofs.lemmas.Bool.Decides.{nat_tests}
use Rattle.trace_model.proofs.state.State.switch.Goals as goal

-- the phase is neither of the two
pub returns-else-phase-eq-EXIT : goal.returns-else-phase-eq-EXIT
returns-else-phase-eq-EXIT g c = search (nat_tests, arith)
