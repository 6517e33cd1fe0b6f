use Rattle.std.proofs.Common.{length, sym, ap, ◌∙◌}
use Rattle.std.proofs.lemmas.List.{length-map}
use Rattle.crossbeam_queue.specs.Passes.{view}
use Rattle.smp_machine.specs.Passes.{PassesValue, items_of, notes_of}
use Rattle.smp_machine.proofs.stoppers.Passes.has_all_queues.Goals as goal

pub returns-clause-put : goal.returns-clause-put
returns-clause-put g c =
    sym (ap (λ (p : PassesValue). length p.put) c.self.view_is)
    ∙ (length-map c.self.inside.to.items (λ p. items_of (view p)) ∙ c.self.invariant.sized)

pub returns-clause-noted : goal.returns-clause-noted
returns-clause-noted g c =
    sym (ap (λ (p : PassesValue). length p.noted) c.self.view_is)
    ∙ (length-map c.self.inside.to.items (λ p. notes_of (view p)) ∙ c.self.invariant.sized)
