-- What a stop makes of itself is what its place makes of the state.
use Rattle.std.proofs.Common.{◌≡◌, ℕ, Result, Ok, Err, refl, ap}
use Rattle.smp_words.specs.FirstFault.{◌>>=◌}
use Rattle.trace_model.specs.declared.reason.Reason.{Reason}
use Rattle.trace_model.specs.declared.stop.Stop.{Stop}
use Rattle.trace_model.specs.Cpu.{Makes}
use Rattle.trace_model.specs.State.{StateValue, with_stop}
use Rattle.trace_model.specs.Stops.{on_stop}

pub made_on_stop : (r : Result (Unit {0}) Reason) (number : ℕ) (s : StateValue) (stop : Stop) (made : Result Stop Reason)
    → Makes r stop made → Makes r (with_stop number s stop) (on_stop number s made)
made_on_stop (Ok u) number s stop made e = ap (on_stop number s) e
made_on_stop (Err why) number s stop made e = ap (on_stop number s) e
