use Rattle.std.proofs.Common.{◌+◌, Some, None, cond, refl, sym, ap, subst, ◌∙◌}
use Rattle.smp_multi.specs.Cpu.{AreWaiting}
use Rattle.smp_multi.specs.Names.{StopSetting, Maker}
use Rattle.smp_multi.specs.Rule.{made_with}
use Rattle.smp_multi.specs.Seat.{fresh_seat}
use Rattle.smp_multi.proofs.Seating.{seat_kept, seats_more, seats_wait, seats_left}
use Rattle.smp_multi.proofs.table.build.Goals as goal

pub loop-number-preserved : goal.loop-number-preserved
loop-number-preserved g c =
    let table = c.in_ok-owner.owner.table.shared.table_id in
    let n = c.loop-number.number in
    let b = c.contains-is_online.result in
    let words = c.words.ensures in
    let key = words.key ∙ c.in_ok-owner.ensures.made.2 in
    let made = c.next_seat-seat.ensures in
    let seat = made.seat ∙ (λ i. cond b (Some (fresh_seat (words.table i) (key i) n)) None) in
    seats_more table _ _ _ _ c.args.setting n c.loop-number.waiting.items c.push.new.self.items c.cpu_if.result c.loop-number.invariant
    (made.maker.0 ∙ words.table)
    (made.maker.1 ∙ ap (Maker (n + 1)) key) c.in_ok-push.ensures.items
    (c.cpu_if.ensures ∙ seat_kept b table c.args.setting n c.contains-is_online.ensures.member c.next_seat-seat.result seat)

pub invariant_of-boot : goal.invariant_of-boot
invariant_of-boot g c =
    let s = c.loop-number.invariant in
    let wait = seats_wait _ _ _ c.args.nr c.args.setting c.loop-number.number c.loop-number.waiting.items c.requires c.loop-number-test.false s in
    subst (λ (k : StopSetting). AreWaiting c.loop-number.maker.raw.table_id k c.args.setting.online c.loop-number.waiting.items) (sym (ap made_with s.next))
    (subst (λ t. AreWaiting t c.args.setting c.args.setting.online c.loop-number.waiting.items) (sym s.maker_is) wait)

pub returns : goal.returns
returns g c =
    let s = c.loop-number.invariant in (
      refl,
      refl,
      record {
        table_is = s.maker_is;
        setting_is = ap made_with s.next;
        left_are = seats_left _ _ _ c.args.nr c.args.setting c.loop-number.number c.loop-number.waiting.items c.requires c.loop-number-test.false s;
      },
    )
