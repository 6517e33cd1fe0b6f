use Rattle.std.proofs.Common.{◌<◌, length, subst, ◌∙◌}
use Rattle.std.specs.Prelude.{IfSome}
use Rattle.trace_ftrace.proofs.RecordPlaces.{place_within}
use Rattle.trace_ftrace.proofs.records.Records.place.Goals as goal

pub returns-clause-within : goal.returns-clause-within
returns-clause-within g c =
    let found = c.copied.ensures ∙ c.get.ensures.value ∙ c.self.invariant c.args.address in
    subst (λ v. IfSome c.copied.result (λ i. i < length v)) c.self.view_is (place_within c.args.address c.self.inside.list.items c.copied.result found)
