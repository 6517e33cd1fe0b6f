use Rattle.std.proofs.Common.{◌+◌, ap, ne_eqb}
use Rattle.smp_multi.proofs.Gates.{ready_gate, gate_held}
use Rattle.smp_multi.proofs.gate.take_gate.Goals as goal

pub exchange-requires : goal.exchange-requires
exchange-requires c = ready_gate _ _ c.args.number c.requires _ (ap (λ n. n + 1) c.from-own.ensures)

pub returns-clause-held : goal.returns-clause-held
returns-clause-held c = λ holds. ne_eqb c.exchange.result 0 (gate_held _ c.exchange.result c.exchange.ensures.then holds)
