use Rattle.std.proofs.Common.{◌≡◌, ◌+◌, ◌≤◌, vec_len, vec_capacity}
use Rattle.std.specs.Vec.Iter.{into_iter_items, into_iter_len}
use Rattle.smp_mask.specs.Mask.{members}
use Rattle.smp_machine.specs.Members.{IsMember}
use Rattle.smp_machine.specs.Threads.{IsTaskOf}
use Rattle.smp_machine.proofs.Crews.{Moved}
use Rattle.smp_machine.proofs.threads.Run.start_all.Given as goal

abbrev pub invariant-loop-member : goal.invariant-loop-member
invariant-loop-member g l =
    let rest = l.member-iterator in let m = l.self.machine.now in let crew = l.self.crew.now in
    (vec_len l.handles + into_iter_len rest ≡ vec_len l.fn.all)
    × (vec_len l.fn.all ≤ vec_capacity l.handles)
    × Moved (λ n h. IsTaskOf m crew n h.promise) (λ n x. IsMember (g.C.Crew.begins crew) m n x) (members m.calls.online) l.handles.items (into_iter_items rest)
