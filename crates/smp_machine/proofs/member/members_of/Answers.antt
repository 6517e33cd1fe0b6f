use Rattle.std.proofs.Common.{rules, ℕ, ◌≡◌, subst}
use Rattle.smp_mask.specs.Mask.{members_below}
use Rattle.smp_mask.specs.declared.mask.TheConstants.{NR_CPUS}
use Rattle.smp_machine.specs.Members.{AreMembers, IsMember}
use Rattle.smp_machine.proofs.Crews.{below_none, below_next}
use Rattle.smp_machine.proofs.member.members_of.Goals as goal

pub loop-number-init : goal.loop-number-init
loop-number-init g c =
    let m = c.args.machine.now in (
      record { machine_is = c.requires.machine_is; left = λ cpu low there. c.requires.left_are cpu there },
      below_none (λ n x. IsMember (g.C.Crew.begins c.args.crew.now) m n x) m.calls.online c.in_ok-all.all.items c.in_ok-all.ensures.items,
    )

pub loop-number-preserved : goal.loop-number-preserved
loop-number-preserved g c =
    let next = c.in_ok-next in (
      next.ensures.left,
      below_next (g.C.Crew.begins c.args.crew.now) c.args.machine.now c.loop-number.number c.loop-number.all.items c.push_if.new.all.items
          next.next next.ensures.member c.in_ok-push_if.ensures c.loop-number.invariant.1,
    )

pub returns : goal.returns
returns g c =
    let m = c.args.machine.now in let last : c.loop-number.number ≡ NR_CPUS = search rules in
    subst (λ (n : ℕ). AreMembers (g.C.Crew.begins c.args.crew.now) m (members_below m.calls.online n) c.loop-number.all.items) last c.loop-number.invariant.1
