use Rattle.std.proofs.Common.{arith, ◌≡◌, ◌<◌, ℕ, Bool, List, true, false, None, length, refl, subst, rules}
use Rattle.smp_mask.specs.Mask.{has, members}
use Rattle.smp_mask.specs.declared.mask.TheConstants.{NR_CPUS}
use Rattle.smp_words.specs.declared.call.Class.{Class}
use Rattle.smp_queue.specs.Handling.{heard}
use Rattle.smp_calls.specs.Families.{CallsMany}
use Rattle.smp_calls.specs.Records.{class_for}
use Rattle.smp_calls.specs.Turns.{HasTurns}
use Rattle.smp_calls.proofs.Counted.{turns_many}
use Rattle.smp_calls.proofs.Ended.{many_ended}
use Rattle.smp_calls.proofs.Parts.{target_online, all_called, calls_waited_for}
use Rattle.smp_calls.proofs.many.call_many.Goals as goal

pub wait_all-requires-clause-online : goal.wait_all-requires-clause-online
wait_all-requires-clause-online g c x called = search (target_online, arith)

pub returns-clause-calls : goal.returns-clause-calls
returns-clause-calls g c =
    let picks = c.queue_all-called.ensures.picks in
    let every : (x : ℕ) → x < NR_CPUS → has c.targets-others.result x ≡ true → has c.queue_all-called.result x ≡ true = λ x l o. let said =
    picks.answered x l o in search rules in
    subst (λ (class : Class). CallsMany g.H.Handler.leads c.args.me.now c.args.handler.now c.wait_all.new.me c.wait_all.new.handler
    (members c.targets-others.result) class c.args.func c.args.info None c.args.wait) c.class_for-class.ensures
    (subst (λ (to : List ℕ). CallsMany g.H.Handler.leads c.args.me.now c.args.handler.now c.wait_all.new.me c.wait_all.new.handler to c.class_for-class.result
    c.args.func c.args.info None c.args.wait) (all_called c.targets-others.result c.queue_all-called.result picks.among every)
    (calls_waited_for g.H.Handler.leads c.args.me.now c.queue_all-called.new.me c.wait_all.new.me c.args.handler.now c.queue_all-called.new.handler
    c.wait_all.new.handler c.class_for-class.result c.args.func c.args.info
    (members c.queue_all-called.result) None c.args.wait c.queue_all-called.ensures.calls c.wait_all.ensures.waited))

pub returns-clause-ended : goal.returns-clause-ended
returns-clause-ended g c waited =
    many_ended g.H.Handler.leads c.args.me.now c.args.handler.now c.wait_all.new.me c.wait_all.new.handler c.targets-others.result c.args.func c.args.info None
    (subst (λ (b : Bool). CallsMany g.H.Handler.leads c.args.me.now c.args.handler.now c.wait_all.new.me c.wait_all.new.handler
    (members c.targets-others.result) (class_for b) c.args.func c.args.info None b) waited (returns-clause-calls g c))
    c.is_shown.ensures

pub returns-clause-turns : goal.returns-clause-turns
returns-clause-turns g c =
    let picks = c.queue_all-called.ensures.picks in
    let every : (x : ℕ) → x < NR_CPUS → has c.targets-others.result x ≡ true → has c.queue_all-called.result x ≡ true = λ x l o. let said =
    picks.answered x l o in search rules in
    let waited = c.wait_all.ensures.waited in
    subst (λ (to : List ℕ). HasTurns c.args.me.now c.wait_all.new.me (length to) c.args.wait)
    (all_called c.targets-others.result c.queue_all-called.result picks.among every)
    (turns_many c.args.me.now c.queue_all-called.new.me c.queue_all-called.new.me c.wait_all.new.me false c.args.wait (heard 0 0 0)
    (members c.queue_all-called.result) c.queue_all-called.ensures.turns c.queue_all-called.ensures.last refl c.wait_all.ensures.turns waited.log_is
    (waited.still refl))
