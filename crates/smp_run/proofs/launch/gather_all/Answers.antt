use Rattle.std.proofs.Common.{rules, ◌≡◌, ◌≢◌, ℕ, List, length, sym, subst, ◌∙◌}
use Rattle.std.proofs.lemmas.List.{nil_from_length}
use Rattle.std.specs.Vec.Iter.{into_iter_items}
use Rattle.smp_mask.specs.Mask.{members}
use Rattle.smp_machine.specs.Members.{AreFor}
use Rattle.smp_run.specs.Answers.{Gathers}
use Rattle.smp_run.specs.Driven.{IsDriven}
use Rattle.smp_run.specs.declared.answer.Answer.{Answer}
use Rattle.smp_run.proofs.Joining.{gathered_none, gathered_more, gathered_all, gathered_next}
use Rattle.smp_run.proofs.launch.gather_all.Goals as goal

pub loop-played-init : goal.loop-played-init
loop-played-init g c =
    let m = c.args.machine.now in let lines = c.args.lines.now in
    let is : c.args.back.items ≡ into_iter_items c.into_iter-played-iterator.result = search rules in (
      c.requires.sized,
      gathered_none (λ n b. IsDriven m lines n b.handler.answers.items b.cpu) m lines c.args.answers.now _ c.requires.sized
          (subst (λ (xs : List _). AreFor (λ n b. IsDriven m lines n b.handler.answers.items b.cpu) (members m.calls.online) xs) is c.requires.back),
    )

pub gather-requires-clause-from : goal.gather-requires-clause-from
gather-requires-clause-from g c =
    let m = c.args.machine.now in let lines = c.args.lines.now in
    let next = gathered_next (λ n b. IsDriven m lines n b.handler.answers.items b.cpu) m lines c.loop-played.answers c.loop-played.last c.in-Some.played _ _
    c.in-Some.ensures.steps.0 c.loop-played.invariant.1 in
    subst (λ (xs : List Answer). length xs ≡ length lines) (sym c.as_slice.ensures.value) next.1.answered.sized

pub loop-played-preserved : goal.loop-played-preserved
loop-played-preserved g c =
    let m = c.args.machine.now in let lines = c.args.lines.now in let played = c.in-Some.played in let told = c.gather.ensures in
    let old = c.loop-played.answers in let new = c.gather.new.answers in let from = played.handler.answers.items in
    let number_is = c.number.ensures.number.0 in
    let own : Gathers (λ n. n ≡ played.cpu.calls.number) lines from new (length lines) =
    subst (λ (k : ℕ). Gathers (λ n. n ≡ k) lines from new (length lines)) number_is
    (subst (λ (xs : List Answer). Gathers (λ n. n ≡ c.number.result) lines xs new (length lines)) c.as_slice.ensures.value told.own) in
    let others : Gathers (λ n. n ≢ played.cpu.calls.number) lines old new (length lines) =
    subst (λ (k : ℕ). Gathers (λ n. n ≢ k) lines old new (length lines)) number_is told.others in (
      told.sized,
      gathered_more (λ n b. IsDriven m lines n b.handler.answers.items b.cpu) (λ b. b.cpu) (λ b. b.handler.answers.items) m lines (λ n b is. is) old new
          c.loop-played.last c.first_of.result played _ _ c.in-Some.ensures.steps.0 told.sized own others c.first_of.ensures c.loop-played.invariant.1,
    )

pub returns : goal.returns
returns g c =
    let m = c.args.machine.now in let lines = c.args.lines.now in let it = c.loop-played.played-iterator in
    let none = nil_from_length (into_iter_items it) (sym it.rest.ok.0 ∙ c.in-None.ensures.steps.0) in
    gathered_all (λ n b. IsDriven m lines n b.handler.answers.items b.cpu) m lines c.loop-played.answers c.loop-played.last _ c.requires.limits none
    c.loop-played.invariant.1
