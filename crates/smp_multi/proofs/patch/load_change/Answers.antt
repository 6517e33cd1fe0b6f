use Rattle.std.proofs.Common.{ap, ◌∙◌}
use Rattle.smp_labels.specs.Keys.{change_of}
use Rattle.smp_stop_steps.specs.Threads.Known.{stepped}
use Rattle.smp_words.specs.declared.phase.TheConstants.{RUN}
use Rattle.smp_multi.specs.Names.{KnownStops, Patch, Rests}
use Rattle.smp_multi.specs.Places.{work_in}
use Rattle.smp_multi.proofs.Counting.{then_steps}
use Rattle.smp_multi.proofs.Entering.{finds_arg}
use Rattle.smp_multi.proofs.Patching.{change_known}
use Rattle.smp_multi.proofs.Turning.{ready_func, ready_arg, run_moved}
use Rattle.smp_multi.proofs.patch.load_change.Goals as goal

pub load-key-requires : goal.load-key-requires
load-key-requires c = ready_func _ _ c.args.visit Patch c.requires

pub load-change-requires : goal.load-change-requires
load-change-requires c = let same = c.load-key.ensures.known in
    ready_arg _ _ c.args.visit Patch (run_moved _ c.args.seat.now c.load-key.new.seat c.args.visit Patch c.requires c.load-key.ensures.table
    (ap (λ (v : KnownStops). v.number) same) (ap (λ (v : KnownStops). v.source) same) (ap (λ (v : KnownStops). v.seat) same))

pub returns-clause-known : goal.returns-clause-known
returns-clause-known c =
    let same = c.load-key.ensures.known in
    let m = run_moved _ c.args.seat.now c.load-key.new.seat c.args.visit Patch c.requires c.load-key.ensures.table (ap (λ (v : KnownStops). v.number) same)
    (ap (λ (v : KnownStops). v.source) same) (ap (λ (v : KnownStops). v.seat) same) in
    then_steps 1 1 _ _ _ same (c.load-change.ensures.known ∙ ap (stepped 1) (change_known _ c.load-key.new.seat c.args.visit m c.load-change.result))

pub returns-clause-at : goal.returns-clause-at
returns-clause-at c = let same = returns-clause-known c in
    run_moved _ c.args.seat.now c.load-change.new.seat c.args.visit Patch c.requires c.load-change.ensures.table (ap (λ (v : KnownStops). v.number) same)
    (ap (λ (v : KnownStops). v.source) same) (ap (λ (v : KnownStops). v.seat) same)

pub returns-clause-change : goal.returns-clause-change
returns-clause-change c =
    let same = c.load-key.ensures.known in
    let m = run_moved _ c.args.seat.now c.load-key.new.seat c.args.visit Patch c.requires c.load-key.ensures.table (ap (λ (v : KnownStops). v.number) same)
    (ap (λ (v : KnownStops). v.source) same) (ap (λ (v : KnownStops). v.seat) same) in
    let arg = finds_arg _ c.args.visit.slot _ c.args.visit.acked RUN Rests m.at.seat_is c.load-change.result c.load-change.ensures.then in
    c.from_word.ensures ∙ ap change_of (arg ∙ ap (λ (v : KnownStops). (work_in v.seat).arg) same)
