use Rattle.std.proofs.Common.{◌≡◌, ◌+◌, ◌≤◌, vec_len, vec_capacity}
use Rattle.std.specs.Vec.Iter.{into_iter_items, into_iter_len}
use Rattle.smp_mask.specs.Mask.{members}
use Rattle.smp_machine.specs.Crews.{IsPlayed}
use Rattle.smp_machine.specs.Threads.{IsTaskOf}
use Rattle.smp_machine.proofs.Crews.{Moved}
use Rattle.smp_machine.proofs.threads.Run.join_all.Given as goal

abbrev pub invariant-loop-handle : goal.invariant-loop-handle
invariant-loop-handle g l =
    let rest = l.handle-iterator in let m = l.self.machine.now in let crew = l.self.crew.now in
    (vec_len l.back + into_iter_len rest ≡ vec_len l.fn.handles)
    × (vec_len l.fn.handles ≤ vec_capacity l.back)
    × Moved (λ n p. IsPlayed g.H.Handler.leads g.F.StopFunc.leads (g.C.Crew.begins crew) (g.C.Crew.plays crew) (g.C.Crew.leaves crew) m n p)
    (λ n h. IsTaskOf m crew n h.promise) (members m.calls.online) l.back.items (into_iter_items rest)
