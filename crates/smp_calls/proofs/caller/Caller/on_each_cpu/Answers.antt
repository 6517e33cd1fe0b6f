use Rattle.std.proofs.Common.{ℕ, ◌≡◌, true, ◌∙◌, subst, sym}
use Rattle.smp_mask.specs.Mask.{has}
use Rattle.smp_calls.specs.Targets.{is_target}
use Rattle.smp_calls.proofs.Names.{all_are_targets}
use Rattle.smp_calls.proofs.caller.Caller.on_each_cpu.Goals as goal

pub returns-clause-targets : goal.returns-clause-targets
returns-clause-targets g c =
    let online = c.args.self.now.table.now.online in let this = c.args.self.now.cpu.number in
    c.masks_are_sets.ensures _ _ (λ x. c.on_each_cpu_mask.ensures.targets x ∙ subst (λ (m : ℕ). is_target m online this true x ≡ has online x)
    (sym c.online-online.ensures.known) (all_are_targets online this x))
