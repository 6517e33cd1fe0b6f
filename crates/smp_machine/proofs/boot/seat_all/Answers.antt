use Rattle.std.proofs.Common.{ℕ, sym, ap, ◌∙◌, subst}
use Rattle.smp_words.specs.Limits.{AreLimits}
use Rattle.smp_machine.specs.MachineCpu.{MachineValue, AreWaiting}
use Rattle.smp_mask.specs.Mask.{has}
use Rattle.smp_machine.proofs.Seating.{seated_none, seated_more, seats_wait, seats_left}
use Rattle.smp_machine.proofs.boot.seat_all.Goals as goal

pub loop-number-init : goal.loop-number-init
loop-number-init g c =
    seated_none c.args.machine.now c.args.calls c.args.stops c.args.passes.items c.in_ok-waiting.waiting.items
    (sym c.online-online.ensures.stops ∙ c.online-online.ensures.calls) c.requires.calls c.requires.stops c.requires.sized c.requires.passes
    c.in_ok-waiting.ensures.items

pub loop-number-preserved : goal.loop-number-preserved
loop-number-preserved g c =
    let n = c.loop-number.number in
    let is = c.contains-is_online.ensures.member ∙ ap (λ (mask : ℕ). has mask n) c.online-online.ensures.calls in
    seated_more c.args.machine.now n c.loop-number.calls c.seat_if-cpu.new.calls c.loop-number.stops c.seat_if-cpu.new.stops c.loop-number.passes.items
    c.remove-own.new.self.items c.loop-number.waiting.items c.push.new.self.items c.seat_if-cpu.result c.contains-is_online.result c.loop-number-test.true is
    c.loop-number.invariant c.seat_if-cpu.ensures.calls c.seat_if-cpu.ensures.stops c.remove-own.ensures.items c.seat_if-cpu.ensures.cpu
    c.in_ok-push.ensures.items

pub invariant_of-result : goal.invariant_of-result
invariant_of-result g c =
    let is = c.online-online.ensures.calls in
    subst (λ (m : MachineValue). AreWaiting m c.online-online.result c.loop-number.waiting.items) (sym c.of-machine.ensures)
    (seats_wait c.args.machine.now c.online-online.result c.loop-number.number c.loop-number.calls c.loop-number.stops c.loop-number.passes.items
    c.loop-number.waiting.items is (subst (λ (mask : ℕ). AreLimits c.args.machine.now.calls.nr mask) is c.online-online.ensures.limits)
    c.loop-number-test.false c.loop-number.invariant)

pub returns : goal.returns
returns g c =
    let is = c.online-online.ensures.calls in
    record {
      machine_is = c.of-machine.ensures;
      left_are = seats_left c.args.machine.now c.loop-number.number c.loop-number.calls c.loop-number.stops c.loop-number.passes.items
          c.loop-number.waiting.items (subst (λ (mask : ℕ). AreLimits c.args.machine.now.calls.nr mask) is c.online-online.ensures.limits)
          c.loop-number-test.false c.loop-number.invariant;
    }
