use Rattle.std.proofs.Common.{ℕ, List, IfOk, string_bytes, subst}
use Rattle.smp_labels.specs.Labels.{Labels}
use Rattle.smp_script.specs.declared.directive.Directive.{Directive}
use Rattle.smp_run.specs.Runs.{Prints}
use Rattle.smp_run.proofs.run.run_machine.Goals as goal

pub returns : goal.returns
returns g c =
    let nr = c.requires.nr in let online = c.requires.online in let labels = c.labels_of.ensures in
    let first = c.first_of.ensures.value in let lines = c.as_slice-lines.ensures.value in
    subst (λ (x : ℕ × ℕ × Labels × ℕ × List Directive). IfOk c.finish.result (λ r. Prints x.0 x.1 x.2 x.3 x.4 (string_bytes r.text) r.left))
    (λ i. (nr i, online i, labels i, first i, lines i)) c.finish.ensures
