use Rattle.smp_queue.specs.Out.{IsShownOut}
use Rattle.smp_queue.specs.ServingValue.{ServingValue}
use Rattle.std.proofs.Common.{subst}
use Rattle.smp_queue.proofs.Audits.Showing.{is_shown_out}
use Rattle.smp_queue.proofs.serving.Serving.is_shown.Goals as goal

pub returns : goal.returns
returns c =
    let s = c.self.invariant.0 in
    subst (λ (x : ServingValue). IsShownOut x) c.self.view_is (is_shown_out c.self.inside.cpu.seat c.self.inside.place.call c.self.inside.cpu.number s.out
    s.kept.number_is s.kept.online s.running_is)
