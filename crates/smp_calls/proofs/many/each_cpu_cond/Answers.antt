use Rattle.std.proofs.Common.{arith, ◌≡◌, ℕ, Bool, List, Option, true, false, cond, Some, None, length, refl, sym, ◌∙◌, subst}
use Rattle.smp_mask.specs.Mask.{has, members}
use Rattle.smp_words.specs.declared.call.Class.{Class}
use Rattle.smp_queue.specs.Handling.{heard}
use Rattle.smp_queue.specs.declared.handler.Heard.{Heard}
use Rattle.smp_calls.specs.Families.{CallsMany}
use Rattle.smp_calls.specs.Targets.{remote}
use Rattle.smp_calls.specs.Ended.{HaveEnded}
use Rattle.smp_calls.specs.Records.{class_for, many_call}
use Rattle.smp_calls.specs.Rounds.{HearsIf, noted_if}
use Rattle.smp_calls.specs.Turns.{HasTurns}
use Rattle.smp_words.specs.declared.call.Class.TheVariants.{Sync}
use Rattle.smp_calls.proofs.Counted.{turns_many}
use Rattle.smp_calls.proofs.Ended.{many_ended}
use Rattle.smp_calls.proofs.Parts.{target_online, not_called, picks_with, others_called, called_here, calls_then_here, calls_waited_for}
use Rattle.smp_calls.proofs.many.each_cpu_cond.Goals as goal

pub wait_all-requires-clause-online : goal.wait_all-requires-clause-online
wait_all-requires-clause-online g c x called = search (target_online, arith)

pub returns-clause-picks : goal.returns-clause-picks
returns-clause-picks g c =
    let says = λ (x : ℕ) (answer : Bool). g.C.Fn.post c.args.cond.now (x, (c.args.info, tt)) answer in
    let made =
    picks_with says c.args.mask c.online.result c.number-this.result c.targets-others.result c.queue_all-called.result c.with_if.result
    c.runs_here-here.result c.targets-others.ensures c.queue_all-called.ensures.picks c.with_if.ensures c.runs_here-here.ensures.member
    c.runs_here-here.ensures.answered in
    search (says, made, arith)

pub returns-clause-calls : goal.returns-clause-calls
returns-clause-calls g c =
    let this = c.number-this.result in
    let called = c.queue_all-called.result in
    let here = c.runs_here-here.result in
    let out : has called this ≡ false =
    not_called c.args.mask c.online.result this c.targets-others.result called c.targets-others.ensures c.queue_all-called.ensures.picks.among in
    let direct : Option Heard = cond here (Some (heard this c.args.func c.args.info)) None in
    let mine : c.queue_all-called.new.me.number ≡ this = c.queue_all-called.ensures.calls.2.number_is ∙ sym c.number-this.ensures.number in
    let heard_it = subst (λ (n : ℕ). HearsIf g.H.Handler.leads c.queue_all-called.new.handler (cond here (Some (heard n c.args.func c.args.info)) None)
    c.call_if.new.handler) mine c.call_if.ensures.called in
    let noted = subst (λ (n : ℕ). c.call_if.new.me ≡ noted_if (cond here (Some (heard n c.args.func c.args.info)) None) c.queue_all-called.new.me) mine
    c.call_if.ensures.noted in
    let made = calls_waited_for g.H.Handler.leads c.args.me.now c.call_if.new.me c.wait_all.new.me c.args.handler.now c.call_if.new.handler
    c.wait_all.new.handler c.class_for-class.result c.args.func c.args.info (members called) direct c.args.wait
    (calls_then_here g.H.Handler.leads c.args.me.now c.queue_all-called.new.me c.call_if.new.me c.args.handler.now c.queue_all-called.new.handler
    c.call_if.new.handler c.class_for-class.result c.args.func c.args.info
    (members called) direct c.queue_all-called.ensures.calls c.queue_all-called.ensures.last heard_it noted) c.wait_all.ensures.waited in
    let Made =
    λ (to : List ℕ) (class : Class) (heard : Option Heard). CallsMany g.H.Handler.leads c.args.me.now c.args.handler.now c.wait_all.new.me
    c.wait_all.new.handler to class c.args.func c.args.info heard c.args.wait in
    subst (λ (n : ℕ). Made (remote n c.with_if.result) (class_for c.args.wait) (cond (has c.with_if.result n) (Some (heard n c.args.func c.args.info)) None))
    c.number-this.ensures.number
    (subst (λ (class : Class). Made (remote this c.with_if.result) class (cond (has c.with_if.result this) (Some (heard this c.args.func c.args.info)) None))
    c.class_for-class.ensures
    (subst (λ (b : Bool). Made (remote this c.with_if.result) c.class_for-class.result (cond b (Some (heard this c.args.func c.args.info)) None))
    (sym (called_here this called c.with_if.result here c.with_if.ensures out))
    (subst (λ (to : List ℕ). Made to c.class_for-class.result direct) (others_called this called c.with_if.result here c.with_if.ensures out) made)))

pub returns-clause-ended : goal.returns-clause-ended
returns-clause-ended g c waited =
    let this = c.number-this.result in
    let called = c.queue_all-called.result in
    let out : has called this ≡ false =
    not_called c.args.mask c.online.result this c.targets-others.result called c.targets-others.ensures c.queue_all-called.ensures.picks.among in
    let me = c.args.me.now.number in
    let are = subst (λ (n : ℕ). members called ≡ remote n c.with_if.result) c.number-this.ensures.number
    (others_called this called c.with_if.result c.runs_here-here.result c.with_if.ensures out) in
    let Made = λ (to : List ℕ) (class : Class) (wait : Bool). CallsMany g.H.Handler.leads c.args.me.now c.args.handler.now c.wait_all.new.me
    c.wait_all.new.handler to class c.args.func c.args.info (cond (has c.with_if.result me) (Some (heard me c.args.func c.args.info)) None) wait in
    subst (λ (to : List ℕ). HaveEnded c.wait_all.new.me (many_call me Sync c.args.func c.args.info) to) are
    (many_ended g.H.Handler.leads c.args.me.now c.args.handler.now c.wait_all.new.me c.wait_all.new.handler called c.args.func c.args.info
    (cond (has c.with_if.result me) (Some (heard me c.args.func c.args.info)) None)
    (subst (λ (to : List ℕ). Made to Sync true) (sym are)
    (subst (λ (b : Bool). Made (remote me c.with_if.result) (class_for b) b) waited (returns-clause-calls g c))) c.is_shown.ensures)

pub returns-clause-turns : goal.returns-clause-turns
returns-clause-turns g c =
    let this = c.number-this.result in
    let called = c.queue_all-called.result in
    let here = c.runs_here-here.result in
    let out : has called this ≡ false =
    not_called c.args.mask c.online.result this c.targets-others.result called c.targets-others.ensures c.queue_all-called.ensures.picks.among in
    let waited = c.wait_all.ensures.waited in
    let made = turns_many c.args.me.now c.queue_all-called.new.me c.call_if.new.me c.wait_all.new.me here c.args.wait
    (heard c.queue_all-called.new.me.number c.args.func c.args.info) (members called) c.queue_all-called.ensures.turns c.queue_all-called.ensures.last
    c.call_if.ensures.noted c.wait_all.ensures.turns waited.log_is (waited.still refl) in
    let Made = λ (to : List ℕ). HasTurns c.args.me.now c.wait_all.new.me (length to) c.args.wait in
    subst (λ (n : ℕ). Made (remote n c.with_if.result)) c.number-this.ensures.number
    (subst Made (others_called this called c.with_if.result here c.with_if.ensures out) made)
