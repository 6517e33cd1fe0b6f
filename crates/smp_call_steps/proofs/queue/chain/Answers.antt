use mathlib.Core.List.{reverse}
use Rattle.std.proofs.Common.{◌≡◌, ℕ, ◌-◌, List, length, ap, ◌∙◌, arith, rules}
use Rattle.std.proofs.lemmas.List.{reverse-append, length-reverse}
use Rattle.smp_words.specs.Layout.{number_in}
use Rattle.smp_words.specs.Size.{records}
use Rattle.smp_call_steps.specs.{nexts_in, chain_in}
use Rattle.smp_call_steps.proofs.State.Chains.{Follows, follows_all, passes, ended, ended_by_count, refilled}
use Rattle.smp_call_steps.proofs.queue.chain.Goals.{else-loop-round-test, then-loop-round-test+then-link-eq0}
use Rattle.smp_call_steps.proofs.queue.chain.Goals as goal

pub loop-round-init : goal.loop-round-init
loop-round-init c = rw c.new-passed.ensures (follows_all (nexts_in (number_in c.args.words.now)) c.args.first c.requires.chained)

pub overflow_cast-id : goal.overflow_cast-id
overflow_cast-id c =
    let p = passes (nexts_in (number_in c.args.words.now)) c.args.first c.loop-round.link
    (reverse c.loop-round.passed.items) c.loop-round._round c.if-link-eq0.false c.loop-round.invariant in
    search (p, rules, arith)

pub loop-round-preserved : goal.loop-round-preserved
loop-round-preserved c = search (passes, reverse-append, arith)

pub returns : goal.returns
returns c =
    let nexts = nexts_in (number_in c.args.words.now) in
    let items : List ℕ = c.loop-round.passed.items in
    let turned : c.reverse.new.self ≡ reverse items = c.reverse.ensures.after ∙ ap reverse c.as_mut_slice.ensures.value in
    let same : length c.reverse.new.self ≡ length items = ap length turned ∙ length-reverse items in
    let whole : reverse items ≡ chain_in nexts records c.args.first = elim c.loop-round-test.branch [
      | else-loop-round-test w ↦ ended_by_count nexts c.args.first c.loop-round.link (reverse items) c.loop-round._round
          (let t = w.loop-round-test in omega arith) c.loop-round.invariant
      | then-loop-round-test+then-link-eq0 w ↦
          let here : Follows nexts c.args.first 0 (reverse items) c.loop-round._round = rw w.if-link-eq0.true at c.loop-round.invariant in
          ended nexts c.args.first (reverse items) c.loop-round._round (records - c.loop-round._round) (let t = w.loop-round-test in omega arith) here
    ] in
    refilled items c.reverse.new.self same ∙ (turned ∙ whole)
