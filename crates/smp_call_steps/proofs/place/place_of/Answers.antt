use Rattle.std.proofs.Common.{◌≢◌, ◌∙◌, sym, below_more, arith}
use Rattle.smp_words.specs.Layout.{number_in}
use Rattle.smp_call_steps.proofs.State.Places.{not_on, is_held, bare}
use Rattle.smp_call_steps.proofs.State.Whereabouts.{is_batched, is_elsewhere, is_queued, is_run, none_first, none_found, told_first, told_held}
use Rattle.smp_call_steps.specs.{Flags}
use Rattle.smp_call_steps.proofs.place.place_of.Goals as goal

pub loop-cpu-init : goal.loop-cpu-init
loop-cpu-init c = ((λ k l. absurd (omega (arith, l))), none_first c.args.words.now c.args.controls.now c.args.id)

pub loop-cpu-preserved : goal.loop-cpu-preserved
loop-cpu-preserved c =
    let on = below_more _ _ c.loop-cpu.invariant.0 (λ calls shown.
    not_on c.loop-cpu.cpu (calls.place c.args.id) c.is_queued.result c.is_in_batch.result c.is_running.result c.if-is_queued.false c.if-is_in_batch.false
    c.if-is_running.false
    (c.is_queued.ensures.calls calls shown).1 (c.is_in_batch.ensures.calls calls shown).1 (c.is_running.ensures.calls calls shown).1) in
    let here = is_elsewhere c.args.words.now c.args.controls.now c.args.id c.loop-cpu.cpu (sym c.is_queued.ensures.told ∙ c.if-is_queued.false)
    (sym c.is_in_batch.ensures.told ∙ c.if-is_in_batch.false) (sym c.is_running.ensures.told ∙ c.if-is_running.false) in
    (on, none_found c.args.words.now c.args.controls.now c.args.id c.loop-cpu.cpu c.loop-cpu.invariant.1 here)

pub returns-then-is_queued-clause-told : goal.returns-then-is_queued-clause-told
returns-then-is_queued-clause-told c =
    let here = is_queued c.args.words.now c.args.controls.now c.args.id c.loop-cpu.cpu (sym c.is_queued.ensures.told ∙ c.if-is_queued.true) in
    search (told_first, here, arith)

pub returns-then-is_in_batch-clause-told : goal.returns-then-is_in_batch-clause-told
returns-then-is_in_batch-clause-told c =
    let here = is_batched c.args.words.now c.args.controls.now c.args.id c.loop-cpu.cpu (sym c.is_queued.ensures.told ∙ c.if-is_queued.false)
    (sym c.is_in_batch.ensures.told ∙ c.if-is_in_batch.true) in
    search (told_first, here, arith)

pub returns-then-is_running-clause-told : goal.returns-then-is_running-clause-told
returns-then-is_running-clause-told c =
    let here = is_run c.args.words.now c.args.controls.now c.args.id c.loop-cpu.cpu (sym c.is_queued.ensures.told ∙ c.if-is_queued.false)
    (sym c.is_in_batch.ensures.told ∙ c.if-is_in_batch.false) (sym c.is_running.ensures.told ∙ c.if-is_running.true) in
    search (told_first, here, arith)

pub returns-clause-calls : goal.returns-clause-calls
returns-clause-calls c calls shown =
    let locked : number_in c.args.words.now (Flags c.args.id) ≢ 0 = λ e. c.if-read-eq0.false (c.read.ensures ∙ e) in
    is_held shown c.args.id (bare c.args.words.now c.args.controls.now c.requires.table.controls_sized) locked
    (λ k l. c.loop-cpu.invariant.0 k (omega arith) calls shown)

pub returns-clause-told : goal.returns-clause-told
returns-clause-told c = search (told_held, arith)
