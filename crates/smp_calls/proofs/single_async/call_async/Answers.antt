use Rattle.std.proofs.Common.{arith, ◌<◌, ℕ, false, rules, subst}
use Rattle.smp_words.specs.Size.{records_of_one}
use Rattle.smp_words.specs.declared.call.Class.TheVariants.{Async}
use Rattle.smp_calls.specs.Families.{IsSized, CallsBy}
use Rattle.smp_calls.proofs.Steps.{set_here, leaves_confirmed}
use Rattle.smp_calls.proofs.One.{calls_by}
use Rattle.smp_calls.proofs.single_async.call_async.Goals as goal

pub returns-then-dst-number-clause-here : goal.returns-then-dst-number-clause-here
returns-then-dst-number-clause-here g c e = search arith

pub queue_and_send-requires-clause-free : goal.queue_and_send-requires-clause-free
queue_and_send-requires-clause-free g c = search (set_here, rules)

pub returns-clause-queued : goal.returns-clause-queued
returns-clause-queued g c e =
    let sized : IsSized c.args.me.now = record { number = c.number-number.ensures.sized.0; records_are = c.number-number.ensures.sized.1 } in
    let small : c.user_record-k.result < records_of_one = search rules in
    let done =
    leaves_confirmed g.H.Handler.leads c.args.me.now c.is_done.new.me c.args.handler.now c.user_record-k.result sized small c.if-not-is_done.ensures.known
    in
    let made = calls_by g.H.Handler.leads c.user_record-k.result c.args.dst Async c.args.func c.args.info small sized done c.queue_and_send.ensures in (
      search rules,
      subst (λ (k : ℕ).
          CallsBy g.H.Handler.leads c.args.me.now c.args.handler.now c.queue_and_send.new.me c.args.handler.now k Async c.args.dst
          c.args.func c.args.info false)
          c.user_record-k.ensures made,
    )
