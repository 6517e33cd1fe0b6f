use Rattle.smp_multi.proofs.Completing.{able_give}
use Rattle.smp_multi.proofs.seat.run_steps.give.Goals as goal

pub store_any-requires : goal.store_any-requires
store_any-requires c =
    able_give _ _ c.args.slot c.args.acked c.args.answer c.requires.at (c.requires.calls c.if-answer-ne0.true) c.if-answer-ne0.true c.requires.fits
