use Rattle.smp_mask.specs.Mask.{members_below}
use Rattle.smp_machine.specs.Members.{AreLeftFrom, AreMembers}
use Rattle.smp_machine.proofs.member.members_of.Given as goal

abbrev pub invariant-loop-number : goal.invariant-loop-number
invariant-loop-number g l =
    AreLeftFrom l.machine l.boot l.number
    × AreMembers (g.C.Crew.begins l.crew) l.machine (members_below l.machine.calls.online l.number) l.all.items
