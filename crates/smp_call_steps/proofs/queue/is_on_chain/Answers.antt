use Rattle.std.proofs.Common.{◌-◌, sym, arith, rules}
use Rattle.std.proofs.lemmas.Bool.{eq-eqb, ne_eqb}
use Rattle.smp_words.specs.Layout.{number_in}
use Rattle.smp_call_steps.specs.{nexts_in}
use Rattle.smp_call_steps.proofs.State.Chains.{Seeks, passes, seeks_first, seeks_on, sought_here, not_sought, not_sought_by_count}
use Rattle.smp_call_steps.proofs.queue.is_on_chain.Goals as goal

pub loop-round-init : goal.loop-round-init
loop-round-init c = seeks_first (nexts_in (number_in c.args.words.now)) c.args.first c.args.id c.requires.chained

pub overflow_cast-here : goal.overflow_cast-here
overflow_cast-here c =
    let i = c.loop-round.invariant in
    let p = passes (nexts_in (number_in c.args.words.now)) c.args.first c.loop-round.link i.passed c.loop-round._round c.if-link-eq0.false i.follows in
    search (p, rules, arith)

pub loop-round-preserved : goal.loop-round-preserved
loop-round-preserved c =
    let nexts = nexts_in (number_in c.args.words.now) in
    rw c.read-link.ensures
    (seeks_on nexts c.args.first c.loop-round.link c.args.id c.loop-round._round (c.loop-round.link - 1) c.if-link-eq0.false (omega arith)
    (ne_eqb (c.loop-round.link - 1) c.args.id c.if-here-id.false) c.loop-round.invariant)

pub returns-then-link-eq0 : goal.returns-then-link-eq0
returns-then-link-eq0 c =
    let nexts = nexts_in (number_in c.args.words.now) in
    let here : Seeks nexts c.args.first 0 c.args.id c.loop-round._round = rw c.if-link-eq0.true at c.loop-round.invariant in
    sym (not_sought nexts c.args.first c.args.id c.loop-round._round here)

pub returns-then-here-id : goal.returns-then-here-id
returns-then-here-id c =
    sym (sought_here (nexts_in (number_in c.args.words.now)) c.args.first c.loop-round.link c.args.id c.loop-round._round
    (c.loop-round.link - 1) c.if-link-eq0.false (omega arith) (eq-eqb (c.loop-round.link - 1) c.args.id c.if-here-id.true) c.loop-round.invariant)

pub returns : goal.returns
returns c =
    sym (not_sought_by_count (nexts_in (number_in c.args.words.now)) c.args.first c.loop-round.link c.args.id c.loop-round._round
    (omega arith) c.loop-round.invariant)
