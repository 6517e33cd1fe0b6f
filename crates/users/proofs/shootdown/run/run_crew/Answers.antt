use Rattle.std.proofs.Common.{refl}
use Rattle.users.proofs.Ending.{all_at, each_back}
use Rattle.users.proofs.Flushed.{flushed_handled}
use Rattle.users.proofs.shootdown.run.run_crew.Goals as goal

pub returns-clause-at : goal.returns-clause-at
returns-clause-at g c = all_at _ _ _ _ _ c.args.machine.now _ c.in_ok-back.back.items c.in_ok-back.ensures.back

pub returns-clause-flushed : goal.returns-clause-flushed
returns-clause-flushed g c =
    each_back _ _ _ c.in_ok-back.back.items c.in_ok-back.ensures.back (λ n p h. flushed_handled _ _ _ _ h.polled.handled (h.part refl))
