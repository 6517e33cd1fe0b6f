use Rattle.std.proofs.Common.{rules, refl, subst}
use Rattle.std.proofs.lemmas.Int.{to_z-of_z}
use mir.Syntax.{w32}
use mir.Val.{SFits}
use Rattle.smp_tables_c.specs.Stops.{EnterBy, EntersStop}
use Rattle.smp_tables_c.specs.contracts.seat.OwnedSeat.{the_view}
use Rattle.smp_tables_c.proofs.Outside.{by_enter, seated}
use Rattle.smp_tables_c.proofs.seat.OwnedSeat.enter.Goals as goal

pub returns-in-Out : goal.returns-in-Out
returns-in-Out c =
    let s = the_view c.self.inside in
    let v = c.enter_by.result in
    let fits : SFits w32 v = search rules in
    let by = subst (λ x. EnterBy x c.args.slot c.in-Out.stop c.enter_by.new.stop c.self.inside.slot c.enter_by.new.kept v) c.deref.ensures
    c.enter_by.ensures.by in
    let done = by_enter s c.args.slot c.enter_by.new.kept c.in-Out.field-0 c.in-Out.stop c.enter_by.new.stop v c.in-Out.is by in
    seated (EntersStop c.args.slot) _ v s _ _ _ done (to_z-of_z w32 v fits) c.self.view_is refl
