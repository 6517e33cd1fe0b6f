use Rattle.std.proofs.Common.{refl}
use Rattle.smp_script.specs.MeaningOf.{meaning_of}
use Rattle.view.proofs.page.paged.Goals as goal

pub returns : goal.returns
returns g c = record {
  script = meaning_of c.in_ok-script.script;
  lawful = c.in_ok-script.ensures.value;
  page = rw (c.in-Ok.ensures, c.as_slice-2.ensures.value, c.in_ok-rows.ensures.rows) refl;
  ended = rw (c.ending-ended.ensures, c.as_slice.ensures.value, c.in_ok-rows.ensures.rows) refl;
}
