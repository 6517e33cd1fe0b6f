use Rattle.std.proofs.Common.{ℕ, [], ◌∷◌, ap, ◌∙◌}
use Rattle.smp_multi.specs.Names.{ReadKey}
use Rattle.smp_machine.specs.MachineCpu.{MachineCpuValue}
use Rattle.smp_machine.proofs.KeyStops.{readings_are, stands_so, turns_key}
use Rattle.smp_machine.proofs.Served.{own_from, own_after}
use Rattle.smp_machine.proofs.key.set.Goals as goal

pub returns-clause-sets : goal.returns-clause-sets
returns-clause-sets g c =
    let r = c.stands.ensures.no c.if-stands.false in
    turns_key g.H.Handler.leads g.F.StopFunc.leads c.args.context.machine.now.stops c.args.key.k r.0 c.args.key.on c.args.key.work.now
    c.patch.result r.1 c.requires.patch c.take_gate.ensures.works r.2 c.patch.ensures.stopped

pub returns-clause-read : goal.returns-clause-read
returns-clause-read g c =
    let p = c.requires.patch in (
      [],
      [],
      c.patch.ensures.read ∙ (readings_are c.stands.new.me.stops.number c.args.key.work.now c.args.key.on p.kind p.arg_is
          ∙ ap (λ (k : ℕ). ReadKey k c.args.key.on ∷ []) p.func_is),
    )

pub returns-clause-last : goal.returns-clause-last
returns-clause-last g c _ =
    let r = c.stands.ensures.no c.if-stands.false in
    let w = c.take_gate.ensures.works in
    own_after c.args.me.now c.take_gate.new.me c.patch.new.me w.serves w.passes_number
    (own_from c.take_gate.new.me.passes c.stands.new.me.passes c.patch.new.me.passes (ap (λ (p : MachineCpuValue). p.passes) r.2) c.patch.ensures.last)

pub returns-then-stands-clause-sets : goal.returns-then-stands-clause-sets
returns-then-stands-clause-sets g c =
    let r = c.stands.ensures.yes c.if-stands.true in
    stands_so g.H.Handler.leads g.F.StopFunc.leads c.args.key.k r.0 c.args.key.on r.1 c.take_gate.ensures.works r.2
