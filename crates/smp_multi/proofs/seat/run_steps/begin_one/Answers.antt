use Rattle.std.proofs.Common.{arith, ap, ◌∙◌, sym}
use Rattle.smp_stop_steps.specs.Threads.Known.{stepped}
use Rattle.smp_multi.specs.Names.{KnownStops, Rests}
use Rattle.smp_multi.specs.Names.field
use Rattle.smp_multi.specs.Places.{work_in}
use Rattle.smp_multi.specs.Running.{calls_now}
use Rattle.smp_multi.proofs.Counting.{then_steps}
use Rattle.smp_multi.proofs.Entering.{finds_func, finds_arg}
use Rattle.smp_multi.proofs.Running.{ready_field, ready_arg, known_arg, one_moved, one_called, small_func}
use Rattle.smp_multi.proofs.seat.run_steps.begin_one.Goals as goal

pub load-number-requires : goal.load-number-requires
load-number-requires c = ready_field _ _ c.args.slot field.Func c.requires tt

pub load-arg-requires : goal.load-arg-requires
load-arg-requires c = ready_arg _ _ c.args.slot (one_moved _ _ _ c.args.slot 1 c.requires c.load-number.ensures.table c.load-number.ensures.known)

pub overflow_cast-result : goal.overflow_cast-result
overflow_cast-result c =
    let a = c.requires in
    let is = finds_func _ c.args.slot _ 0 0 Rests a.seat_is c.load-number.result c.load-number.ensures.then in
    let low = small_func _ c.args.slot _ 0 0 Rests field.Func c.load-number.result a.seat_is c.load-number.ensures.then in
    omega arith

pub returns-clause-known : goal.returns-clause-known
returns-clause-known c =
    let m = one_moved _ _ _ c.args.slot 1 c.requires c.load-number.ensures.table c.load-number.ensures.known in
    let arg = finds_arg _ c.args.slot _ 0 0 Rests m.seat_is c.load-arg.result c.load-arg.ensures.then in
    let called = c.load-arg.ensures.known ∙ ap (stepped 1) (known_arg _ _ c.args.slot c.load-arg.result m arg) in
    then_steps 1 1 _ _ _ (ap calls_now c.load-number.ensures.known) called

pub returns-clause-at : goal.returns-clause-at
returns-clause-at c = one_called _ _ _ c.args.slot 2 c.requires c.load-arg.ensures.table (returns-clause-known c)

pub returns-clause-call : goal.returns-clause-call
returns-clause-call c =
    let a = c.requires in
    let m = one_moved _ _ _ c.args.slot 1 c.requires c.load-number.ensures.table c.load-number.ensures.known in
    let same = sym (returns-clause-known c) in
    let func = finds_func _ c.args.slot _ 0 0 Rests a.seat_is c.load-number.result c.load-number.ensures.then in
    let arg = finds_arg _ c.args.slot _ 0 0 Rests m.seat_is c.load-arg.result c.load-arg.ensures.then in (
      func ∙ ap (λ (v : KnownStops). (work_in v.seat).func) same,
      arg ∙ (ap (λ (v : KnownStops). (work_in v.seat).arg) c.load-number.ensures.known ∙ ap (λ (v : KnownStops). (work_in v.seat).arg) same),
    )
