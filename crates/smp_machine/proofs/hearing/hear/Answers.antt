use Rattle.std.proofs.Common.{◌≡◌, [], ◌∷◌, ◌++◌, ap, ◌∙◌, subst}
use Rattle.smp_queue.specs.Cpu.{CpuValue as CallCpuValue}
use Rattle.smp_machine.specs.MachineCpu.{MachineCpuValue, notes_looks}
use Rattle.smp_machine.specs.Works.{LooksOnce}
use Rattle.smp_machine.proofs.Turns.{looks_once, told_once}
use Rattle.smp_machine.proofs.hearing.hear.Goals as goal

pub returns-clause-looks : goal.returns-clause-looks
returns-clause-looks g c =
    let i = c.me.inside in
    let p : MachineCpuValue = record { calls = i.calls; stops = i.stops; passes = i.passes; heard_at = i.heard.at } in
    let calls = c.handle-found.new.me in
    let heard = c.noted-me-inside.result.at in
    let noted : heard ≡ notes_looks p.calls calls p.stops p.heard_at =
    c.noted-me-inside.ensures ∙ ap (λ (x : CallCpuValue). notes_looks x calls p.stops p.heard_at) c.of-before.ensures in
    subst (λ (x : MachineCpuValue). LooksOnce g.H.Handler.leads x c.args.handler.now (record p { calls = calls; heard_at = heard }) c.handle-found.new.handler)
    c.me.view_is (looks_once g.H.Handler.leads c.handle-found.result.interrupted p calls heard c.args.handler.now c.handle-found.new.handler noted
    (λ e. let t = c.handle-found.ensures.asked e in (t.0, t.1, t.2)) (λ e. let t = c.handle-found.ensures.idle e in (t.0, t.1)))

pub returns-clause-told : goal.returns-clause-told
returns-clause-told g c =
    let i = c.me.inside in
    let p : MachineCpuValue = record { calls = i.calls; stops = i.stops; passes = i.passes; heard_at = i.heard.at } in
    subst (λ (x : MachineCpuValue). c.handle-found.new.me.part.asked ≡ x.calls.part.asked ++ c.handle-found.result.interrupted ∷ []) c.me.view_is
    (told_once g.H.Handler.leads c.handle-found.result.interrupted p c.handle-found.new.me c.args.handler.now c.handle-found.new.handler
    (λ e. let t = c.handle-found.ensures.asked e in (t.0, t.1, t.2)) (λ e. let t = c.handle-found.ensures.idle e in (t.0, t.1)))
