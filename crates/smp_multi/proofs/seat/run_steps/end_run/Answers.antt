use Rattle.smp_multi.specs.Names.{Multi}
use Rattle.smp_multi.proofs.Turning.{able_run}
use Rattle.smp_multi.proofs.seat.run_steps.end_run.Goals as goal

pub subtract_with-requires : goal.subtract_with-requires
subtract_with-requires c = record { ends = able_run _ _ c.args.visit Multi _ c.requires.at c.requires.calls; fits = c.word_of.ensures.fits }
