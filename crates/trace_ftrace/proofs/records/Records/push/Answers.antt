use Rattle.std.proofs.Common.{◌≡◌, None, nat_eq, length, sym, ap, subst, ◌∙◌}
use Rattle.std.specs.HashMap.{get}
use Rattle.trace_ftrace.specs.Records.{record_place, AreNumbered}
use Rattle.trace_ftrace.proofs.RecordPlaces.{numbered_on, on_ok, pushed_ok}
use Rattle.trace_ftrace.proofs.records.Records.push.Goals as goal

pub invariant_of-self-else-is_err-2 : goal.invariant_of-self-else-is_err-2
invariant_of-self-else-is_err-2 g c =
    let pushed = pushed_ok c.push.result _ _ _ (sym c.is_err.ensures.value ∙ c.if-is_err.false) c.push.ensures.items in
    let updates = on_ok c.insert.result (sym c.is_err-2.ensures.value ∙ c.if-is_err-2.false) c.insert.ensures.updates in
    let new = subst (λ v. record_place 0 c.args.address v ≡ None) (sym c.self.view_is) c.requires in
    subst (AreNumbered (get nat_eq c.insert.new.self)) (sym pushed)
    (numbered_on (get nat_eq c.self.inside.numbers) (get nat_eq c.insert.new.self) c.args.address _ c.self.inside.list.items c.self.invariant new
    (ap length c.as_slice-number.ensures.value) updates.0)
