use Rattle.std.proofs.Common.{refl}
use Rattle.smp_calls_tests.proofs.tests.users.shoot_down.Goals as goal

pub returns-clause-ended : goal.returns-clause-ended
returns-clause-ended g c = c.call_many.ensures.ended refl
