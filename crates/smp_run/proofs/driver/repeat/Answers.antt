use Rattle.std.proofs.Common.{rules, ◌≡◌, ℕ, suc, ◌*◌, [], ◌∷◌, ◌++◌, length, sym, subst, refl, arith}
use Rattle.std.proofs.lemmas.List.{length_push}
use Rattle.smp_run.specs.Sent.{HasCalled, repeated, request_calls, request_direct}
use Rattle.smp_run.proofs.Making.{made_more, made_same}
use Rattle.smp_run.proofs.Sending.{repeat_more, repeat_none}
use Rattle.smp_run.proofs.Stays.{stays_first, stays_on}
use Rattle.smp_run.proofs.driver.repeat.Goals as goal

pub loop-made-init : goal.loop-made-init
loop-made-init g c =
    let me = c.args.seat.now.cpu in
    (stays_first c.args.seat.now c.requires.rest, ([], refl, repeat_none me _ _, tt, made_same me me refl))

pub loop-made-preserved : goal.loop-made-preserved
loop-made-preserved g c =
    let was = c.loop-made.invariant in let same = was.0.same in let before = was.1 in let call = c.make in
    let first = c.args.seat.now in let now = c.loop-made.seat in let request = c.args.request.now in
    let made = made_more first.machine now.machine first.cpu now.cpu call.new.seat.cpu request call.result before.0
    same.machine_is same.number_is before.3 before.4 call.ensures.answer call.ensures.made in
    let grown : length (before.0 ++ made.last ∷ []) ≡ suc (length before.0) = omega (arith, length_push before.0 made.last) in (
      stays_on first now call.new.seat was.0 call.ensures.stays,
      (
        before.0 ++ made.last ∷ [],
        search (rules, arith),
        subst (λ (k : ℕ). HasCalled (repeated k (request_calls first.machine.calls.online first.cpu.calls.number request))
            (k * request_direct first.cpu.calls.number request) first.cpu call.new.seat.cpu)
            (sym grown)
            (repeat_more first.machine now.machine first.cpu now.cpu call.new.seat.cpu request (length before.0)
            same.machine_is same.number_is before.2 call.ensures.sent),
        made.each,
        made.stops,
      ),
    )

pub returns-clause-stays : goal.returns-clause-stays
returns-clause-stays g c = stays_on c.args.seat.now c.loop-made.seat c.make-2.new.seat c.loop-made.invariant.0 c.make-2.ensures.stays

pub returns-clause-sent : goal.returns-clause-sent
returns-clause-sent g c =
    let was = c.loop-made.invariant in let same = was.0.same in let before = was.1 in let first = c.args.seat.now in let request = c.args.request.now in
    let all : suc (length before.0) ≡ c.args.count =
    omega (arith, before.1, c.loop-made-test.false, c.loop-made.auto._made-end, c.requires.count) in
    subst (λ (k : ℕ). HasCalled (repeated k (request_calls first.machine.calls.online first.cpu.calls.number request))
    (k * request_direct first.cpu.calls.number request) first.cpu c.make-2.new.seat.cpu) all
    (repeat_more first.machine c.loop-made.seat.machine first.cpu c.loop-made.seat.cpu c.make-2.new.seat.cpu request (length before.0)
    same.machine_is same.number_is before.2 c.make-2.ensures.sent)

pub returns-clause-made : goal.returns-clause-made
returns-clause-made g c =
    let was = c.loop-made.invariant in let same = was.0.same in let before = was.1 in let first = c.args.seat.now in let call = c.make-2 in
    let now = c.loop-made.seat in
    let made = made_more first.machine now.machine first.cpu now.cpu call.new.seat.cpu c.args.request.now call.result before.0
    same.machine_is same.number_is before.3 before.4 call.ensures.answer call.ensures.made in
    let grown = length_push before.0 made.last in
    let all : length (before.0 ++ made.last ∷ []) ≡ c.args.count =
    omega (arith, grown, before.1, c.loop-made-test.false, c.loop-made.auto._made-end, c.requires.count) in (
      before.0 ++ made.last ∷ [],
      record {
        sized = all;
        each = made.each;
        before = before.0;
        last = made.last;
        makings_are = refl;
        answer_is = made.answer_is;
      },
      made.stops,
    )
