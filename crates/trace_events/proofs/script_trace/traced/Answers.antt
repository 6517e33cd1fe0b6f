use Rattle.std.proofs.Common.{refl}
use Rattle.smp_script.specs.MeaningOf.{meaning_of}
use Rattle.trace_events.proofs.script_trace.traced.Goals as goal

pub returns : goal.returns
returns g c = record {
  script = meaning_of c.in_ok-script.script;
  lawful = c.in_ok-script.ensures.value;
  traced = rw (
    c.in-Ok-trace.ensures,
    c.as_slice-2.ensures.value,
    c.in-Ok.ensures,
    c.as_slice.ensures.value,
    c.in_ok-rows.ensures.rows,
    c.is_some-has_labels.ensures,
  ) refl;
  ended = rw (c.ending.ensures, c.as_slice-3.ensures.value, c.in_ok-rows.ensures.rows) refl;
}
