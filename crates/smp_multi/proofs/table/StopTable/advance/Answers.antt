use Rattle.std.proofs.Common.{◌≢◌, Option, Ok, rules, ap, sym, subst, ◌∙◌}
use Rattle.smp_words.specs.declared.phase.TheConstants.{EXIT}
use Rattle.smp_stop_steps.specs.declared.stage.Visit.{Visit}
use Rattle.smp_multi.specs.Advance.{AdvanceAnswers}
use Rattle.smp_multi.specs.Cpu.{CpuValue, TableValue, IsKept, cpu_of}
use Rattle.smp_multi.specs.Names.{One}
use Rattle.smp_multi.proofs.Advancing.{advance_answers, advance_kept}
use Rattle.smp_multi.proofs.table.StopTable.advance.Goals as goal

pub invariant_of-me : goal.invariant_of-me
invariant_of-me g c =
    let d = c.me.inside.seat in
    let kept = subst (λ (x : Option Visit). IsKept d.known c.me.inside.number x c.me.inside.holds c.me.inside.is_open) c.in-Some.is c.me.invariant in
    let table = ap (λ (m : CpuValue). m.table) c.me.view_is ∙ (c.requires.table ∙
    (sym (ap (λ (t : TableValue). t.table) c.self.view_is) ∙ sym c.words.ensures.table)) in
    advance_kept g.F.StopFunc.leads _ d c.take_turn-turn.new.seat c.me.inside.number c.in-Some.visit c.take_turn-turn.result.0 c.me.inside.holds
    c.me.inside.is_open kept c.args.func.now c.take_turn-turn.new.func c.take_turn-turn.ensures.at table c.take_turn-turn.result.1
    c.take_turn-turn.ensures.answers c.take_turn-turn.ensures.lives

pub returns : goal.returns
returns g c =
    let leads = g.F.StopFunc.leads in
    let d = c.me.inside.seat in
    let e = c.take_turn-turn.new.seat in
    let x = c.take_turn-turn.result.0 in
    let turn = c.take_turn-turn.result.1 in
    let f = c.args.func.now in
    let h = c.take_turn-turn.new.func in
    let kept = subst (λ (x : Option Visit). IsKept d.known c.me.inside.number x c.me.inside.holds c.me.inside.is_open) c.in-Some.is c.me.invariant in
    let table = ap (λ (m : CpuValue). m.table) c.me.view_is ∙ (c.requires.table ∙
    (sym (ap (λ (t : TableValue). t.table) c.self.view_is) ∙ sym c.words.ensures.table)) in
    let several : c.in-Some.visit.kind ≢ One = search rules in
    let more : c.in-Some.visit.acked ≢ EXIT = search rules in
    subst (λ (m : CpuValue). AdvanceAnswers leads m (cpu_of e) f h (Ok turn))
    c.me.view_is
    (advance_answers leads _ d e c.me.inside.number c.in-Some.visit x c.me.inside.holds c.me.inside.is_open kept f h c.take_turn-turn.ensures.at table
    several more turn c.take_turn-turn.ensures.answers)
