-- The records that are still to come lead to the same.
use Rattle.std.proofs.Common.{◌≡◌, drop, length}
use Rattle.trace_model.specs.Calls.{placed}
use Rattle.trace_model.proofs.calls.place_all.Given as goal

abbrev pub invariant-loop-call : goal.invariant-loop-call
invariant-loop-call l =
    (placed l.place (drop l.call-index l.calls) l.places ≡ placed l.fn.place l.calls l.initial.places) × (length l.places ≡ 65536)
