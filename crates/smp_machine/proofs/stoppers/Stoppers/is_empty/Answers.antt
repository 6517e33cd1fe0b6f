use Rattle.smp_machine.proofs.stoppers.Stoppers.is_empty.Goals as goal

pub is_empty_as-requires-clause-rule : goal.is_empty_as-requires-clause-rule
is_empty_as-requires-clause-rule g c = λ items views h at. tt
