use Rattle.std.proofs.Common.{length, ap, ◌∙◌}
use Rattle.trace_model.proofs.Opened.{length_free}
use Rattle.trace_model.proofs.state.State.open_all.Goals as goal

pub invariant_of-result : goal.invariant_of-result
invariant_of-result g c = record {
  cpus_are = ap length c.in_ok-cpus.ensures;
  places_are = ap length c.in_ok-places.ensures ∙ length_free 65536;
  stops_are = ap length c.in_ok-stops.ensures;
}
