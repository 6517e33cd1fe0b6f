use Rattle.smp_script.specs.MeaningOf.{meaning_of}
use Rattle.smp_run.proofs.script.printed.Goals as goal

pub returns : goal.returns
returns g c = record {
  script = meaning_of c.in_ok-script.script;
  left = c.in_ok-ran.ran.left;
  lawful = c.in_ok-script.ensures.value;
  printed = rw c.into_bytes.ensures.value c.in_ok-ran.ensures.ran;
  ended = c.ending.ensures;
}
