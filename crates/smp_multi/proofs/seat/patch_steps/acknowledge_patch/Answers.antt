use Rattle.std.proofs.Common.{subst, sym}
use Rattle.smp_stop_steps.specs.AnswerWords.{IsI32Word}
use Rattle.smp_multi.specs.Patches.{count_in}
use Rattle.smp_multi.specs.Places.{work_in}
use Rattle.smp_multi.proofs.Patching.{able_acknowledge_patch, patch_answer_fits}
use Rattle.smp_multi.proofs.seat.patch_steps.acknowledge_patch.Goals as goal

pub subtract_with-requires : goal.subtract_with-requires
subtract_with-requires c = record {
  ends = able_acknowledge_patch _ _ c.args.visit _ c.requires.at c.requires.whole c.requires.answer;
  fits = subst IsI32Word (sym c.requires.answer) (patch_answer_fits (work_in c.args.seat.now.known.seat) (count_in c.args.seat.now.known.seat));
}
