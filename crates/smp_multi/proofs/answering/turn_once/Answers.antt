use Rattle.std.proofs.Common.{◌≢◌, Option, Ok, rules, ap, sym, subst, ◌∙◌}
use Rattle.smp_words.specs.declared.phase.TheConstants.{EXIT}
use Rattle.smp_stop_steps.specs.declared.stage.Visit.{Visit}
use Rattle.smp_multi.specs.AtCall.{Goes}
use Rattle.smp_multi.specs.ByValue.{TurnedAnswers, turned_so}
use Rattle.smp_multi.specs.Cpu.{CpuValue, IsKept, cpu_of}
use Rattle.smp_multi.specs.Names.{One}
use Rattle.smp_multi.specs.Turns.{no_call}
use Rattle.smp_multi.specs.declared.answering.Turned.{Turned}
use Rattle.smp_multi.specs.declared.answering.Turned.TheVariants as turned
use Rattle.smp_multi.specs.declared.turn.Go.{Go}
use Rattle.smp_multi.proofs.Advancing.{advance_answers, advance_kept}
use Rattle.smp_multi.proofs.Calls.{answering_at_run, call_answers, turned_answers}
use Rattle.smp_multi.proofs.answering.turn_once.Goals as goal

pub invariant_of-me : goal.invariant_of-me
invariant_of-me c =
    let d = c.me.inside.seat in
    let e = c.begin_turn.new.seat in
    let v = c.in-Some.visit in
    let kept = subst (λ (x : Option Visit). IsKept d.known c.me.inside.number x c.me.inside.holds c.me.inside.is_open) c.in-Some.is c.me.invariant in
    let table = ap (λ (m : CpuValue). m.table) c.me.view_is ∙ c.requires.table in
    let goes = subst (λ (r : Go). Goes c.args.words.shared.now.table_id d.known e v r) c.in-Over.is c.begin_turn.ensures.goes in
    advance_kept no_call _ d e c.me.inside.number v c.in-Over.visit c.me.inside.holds c.me.inside.is_open kept tt tt goes.0 table c.in-Over.turn goes.1
    c.begin_turn.ensures.lives

pub returns-in-Over : goal.returns-in-Over
returns-in-Over c =
    let d = c.me.inside.seat in
    let e = c.begin_turn.new.seat in
    let v = c.in-Some.visit in
    let kept = subst (λ (x : Option Visit). IsKept d.known c.me.inside.number x c.me.inside.holds c.me.inside.is_open) c.in-Some.is c.me.invariant in
    let table = ap (λ (m : CpuValue). m.table) c.me.view_is ∙ c.requires.table in
    let goes = subst (λ (r : Go). Goes c.args.words.shared.now.table_id d.known e v r) c.in-Over.is c.begin_turn.ensures.goes in
    let several : v.kind ≢ One = search rules in
    let more : v.acked ≢ EXIT = search rules in
    let answers = turned_answers (cpu_of d) (cpu_of e) c.in-Over.turn
    (advance_answers no_call _ d e c.me.inside.number v c.in-Over.visit c.me.inside.holds c.me.inside.is_open kept tt tt goes.0 table several more
    c.in-Over.turn goes.1) in
    subst (λ (r : Turned). TurnedAnswers c.args.me (Ok r)) (sym c.with_turn.ensures)
    (subst (λ (m : CpuValue). TurnedAnswers m (Ok (turned_so (cpu_of e) c.in-Over.turn))) c.me.view_is answers)

pub invariant_of-result : goal.invariant_of-result
invariant_of-result c =
    let d = c.me.inside.seat in
    let e = c.begin_turn.new.seat in
    let v = c.in-Some.visit in
    let kept = subst (λ (x : Option Visit). IsKept d.known c.me.inside.number x c.me.inside.holds c.me.inside.is_open) c.in-Some.is c.me.invariant in
    let table = ap (λ (m : CpuValue). m.table) c.me.view_is ∙ c.requires.table in
    let goes = subst (λ (r : Go). Goes c.args.words.shared.now.table_id d.known e v r) c.in-Call.is c.begin_turn.ensures.goes in
    answering_at_run d e c.me.inside.number v c.me.inside.holds c.me.inside.is_open kept (goes.0.at.table_is ∙ sym table) _ _ goes.2 _ goes.0 goes.1
    c.begin_turn.ensures.lives

pub returns-in-Call : goal.returns-in-Call
returns-in-Call c =
    let d = c.me.inside.seat in
    let e = c.begin_turn.new.seat in
    let v = c.in-Some.visit in
    let kept = subst (λ (x : Option Visit). IsKept d.known c.me.inside.number x c.me.inside.holds c.me.inside.is_open) c.in-Some.is c.me.invariant in
    let table = ap (λ (m : CpuValue). m.table) c.me.view_is ∙ c.requires.table in
    let goes = subst (λ (r : Go). Goes c.args.words.shared.now.table_id d.known e v r) c.in-Call.is c.begin_turn.ensures.goes in
    let several : v.kind ≢ One = search rules in
    let more : v.acked ≢ EXIT = search rules in
    subst (λ (m : CpuValue). TurnedAnswers m (Ok (turned.Call (record { cpu = cpu_of e; func = c.in-Call.func; arg = c.in-Call.arg })))) c.me.view_is
    (call_answers d e c.me.inside.number v c.me.inside.holds c.me.inside.is_open kept (goes.0.at.table_is ∙ sym table) _ _ goes.2 _ goes.0 goes.1 several
    more)
