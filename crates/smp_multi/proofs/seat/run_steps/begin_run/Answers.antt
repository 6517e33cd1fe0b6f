use Rattle.std.proofs.Common.{arith, ap, ◌∙◌, sym}
use Rattle.smp_stop_steps.specs.Threads.Known.{stepped}
use Rattle.smp_words.specs.declared.phase.TheConstants.{RUN}
use Rattle.smp_multi.specs.Names.{KnownStops, Multi, Rests}
use Rattle.smp_multi.specs.Names.field
use Rattle.smp_multi.specs.Places.{work_in}
use Rattle.smp_multi.specs.Running.{calls_now}
use Rattle.smp_multi.proofs.Counting.{then_steps}
use Rattle.smp_multi.proofs.Entering.{finds_func, finds_arg}
use Rattle.smp_multi.proofs.Running.{small_func}
use Rattle.smp_multi.proofs.Turning.{ready_func, ready_arg, known_arg, run_moved, run_alone}
use Rattle.smp_multi.proofs.seat.run_steps.begin_run.Goals as goal

pub load-number-requires : goal.load-number-requires
load-number-requires c = ready_func _ _ c.args.visit Multi c.requires

pub load-arg-requires : goal.load-arg-requires
load-arg-requires c = let same = c.load-number.ensures.known in
    ready_arg _ _ c.args.visit Multi (run_moved _ c.args.seat.now c.load-number.new.seat c.args.visit Multi c.requires c.load-number.ensures.table (ap
    (λ (v : KnownStops). v.number) same)
    (ap (λ (v : KnownStops). v.source) same) (ap (λ (v : KnownStops). v.seat) same))

pub overflow_cast-result : goal.overflow_cast-result
overflow_cast-result c =
    let a = c.requires.at in
    let is = finds_func _ c.args.visit.slot _ c.args.visit.acked RUN Rests a.seat_is c.load-number.result c.load-number.ensures.then in
    let low = small_func _ c.args.visit.slot _ c.args.visit.acked RUN Rests field.Func c.load-number.result a.seat_is c.load-number.ensures.then in
    omega arith

pub returns-clause-known : goal.returns-clause-known
returns-clause-known c =
    let same = c.load-number.ensures.known in
    let m = run_moved _ c.args.seat.now c.load-number.new.seat c.args.visit Multi c.requires c.load-number.ensures.table
    (ap (λ (v : KnownStops). v.number) same)
    (ap (λ (v : KnownStops). v.source) same) (ap (λ (v : KnownStops). v.seat) same) in
    let arg = finds_arg _ c.args.visit.slot _ c.args.visit.acked RUN Rests m.at.seat_is c.load-arg.result c.load-arg.ensures.then in
    let called = c.load-arg.ensures.known ∙ ap (stepped 1) (known_arg _ _ c.args.visit c.load-arg.result m arg) in
    then_steps 1 1 _ _ _ (ap calls_now same) called

pub returns-clause-at : goal.returns-clause-at
returns-clause-at c = let same = returns-clause-known c in
    run_moved _ _ _ c.args.visit Multi c.requires c.load-arg.ensures.table (ap (λ (v : KnownStops). v.number) same)
    (ap (λ (v : KnownStops). v.source) same) (ap (λ (v : KnownStops). v.seat) same)

pub returns-clause-alone : goal.returns-clause-alone
returns-clause-alone c = run_alone _ _ c.args.visit Multi (returns-clause-at c)

pub returns-clause-call : goal.returns-clause-call
returns-clause-call c =
    let a = c.requires.at in
    let same = c.load-number.ensures.known in
    let m = run_moved _ c.args.seat.now c.load-number.new.seat c.args.visit Multi c.requires c.load-number.ensures.table
    (ap (λ (v : KnownStops). v.number) same)
    (ap (λ (v : KnownStops). v.source) same) (ap (λ (v : KnownStops). v.seat) same) in
    let now = sym (returns-clause-known c) in
    let func = finds_func _ c.args.visit.slot _ c.args.visit.acked RUN Rests a.seat_is c.load-number.result c.load-number.ensures.then in
    let arg = finds_arg _ c.args.visit.slot _ c.args.visit.acked RUN Rests m.at.seat_is c.load-arg.result c.load-arg.ensures.then in (
      func ∙ ap (λ (v : KnownStops). (work_in v.seat).func) now,
      arg ∙ (ap (λ (v : KnownStops). (work_in v.seat).arg) same ∙ ap (λ (v : KnownStops). (work_in v.seat).arg) now),
    )
