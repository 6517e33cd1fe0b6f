use Rattle.std.proofs.Common.{◌≡◌, sym}
use Rattle.smp_mask.specs.Mask.{members}
use Rattle.view.specs.Choice.{chosen_of}
use Rattle.view.proofs.Chosen.{all_chosen, both_members}
use Rattle.view.proofs.lanes.chosen_columns.Goals as goal

pub returns-in-Some : goal.returns-in-Some
returns-in-Some g c =
    let e : chosen_of c.args.choice.now c.args.online ≡ members c.and.result =
    rw c.in-Some.is (sym (both_members c.and.result c.args.online c.in-Some.cpus c.and.ensures)) in
    rw e c.columns.ensures

pub returns-in-None : goal.returns-in-None
returns-in-None g c =
    let e : chosen_of c.args.choice.now c.args.online ≡ members c.args.online = rw c.in-None.is (all_chosen (members c.args.online)) in
    rw e c.columns-in-None.ensures
