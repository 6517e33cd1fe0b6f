-- The label law and the count law at running threads.
use Rattle.std.proofs.Common.{◌∙◌}
use Rattle.smp_labels.specs.declared.words.TheConstants.{MOST_KEYS}
use Rattle.smp_words.proofs.Zeros.{get_or-same}
use Rattle.smp_stop_steps.specs.State.{unmoved}
use Rattle.smp_multi.specs.Lives.{Lives}
use Rattle.smp_multi.specs.Cpu.{cpu_of}
use Rattle.smp_multi.specs.LabelLaws.{LabelsAreLawful, CountsAreSums}
use Rattle.smp_multi.specs.Seat.{SeatValue}
use Rattle.smp_multi.proofs.Showing.{HasNotGiven, is_shown}

pub labels_lawful : (d : SeatValue) → Lives d.known → HasNotGiven d.known.seat → LabelsAreLawful (cpu_of d)
labels_lawful d l free = let s = is_shown d l free in record {
  shown = s;
  lawful = s.laws.lawful;
  patchers = s.laws.patchers;
  alone = s.laws.patches;
}

pub counts_sums : (d : SeatValue) → Lives d.known → HasNotGiven d.known.seat → CountsAreSums (cpu_of d)
counts_sums d l free = let s = is_shown d l free in record {
  shown = s;
  sums = s.laws.counts;
  offline = λ cpu low off k few. (let part = (l.within.offline cpu low off).part_is in
      (part.nudged.each k few ∙ get_or-same unmoved MOST_KEYS k, part.patched.each k few ∙ get_or-same unmoved MOST_KEYS k));
  nudged = l.sees.part_is.nudged;
  patched = l.sees.part_is.patched;
}
