use Rattle.std.proofs.Common.{◌≤◌, length, refl, arith}
use Rattle.std.proofs.lemmas.Result.{err_from_is_err_and}
use Rattle.smp_tables_c.specs.Opens.{CanOpen}
use Rattle.smp_tables_c.proofs.Filling.{all_opened}
use Rattle.smp_tables_c.proofs.Refusals.{tables_refuse}
use Rattle.smp_tables_c.proofs.open.open_all.Goals as goal

pub returns : goal.returns
returns c =
    let o = c.in_ok-opening.opening in
    let m = c.in_ok-opening.ensures.made in
    let room : c.args.nr ≤ length c.args.cpus.now = search arith in
    let can : CanOpen c.args.nr c.args.online c.args.labels.now c.args.cpus.now =
    record { room = room; limits = c.in_ok-opening.ensures.limits; are_labels = c.requires } in
    all_opened o.calls.value o.stops.value c.args.nr c.args.online c.args.labels.now c.in_ok-seats.seats.items c.deref_mut.result.now c.args.cpus.now
    c.fill.new.cpus c.deref_mut.ensures.value c.in_ok-seats.ensures.seats c.fill.ensures can m.0 m.1 m.2 m.3

pub returns-in_err-opening : goal.returns-in_err-opening
returns-in_err-opening c =
    let room : c.args.nr ≤ length c.args.cpus.now = search arith in
    let p = err_from_is_err_and c.from_residual.result c.from_residual.ensures.1 in
    let e = c.in_err-opening.ensures in
    rw (p.1, p.2) (tables_refuse c.args.nr c.args.online c.args.labels.now c.args.cpus.now _ _ refl room c.requires e.only e.refused)
