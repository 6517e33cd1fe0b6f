use Rattle.std.proofs.Common.{rules, ℕ, ◌≡◌, List, sym, ◌∙◌, subst}
use Rattle.std.proofs.lemmas.List.{nil_from_length}
use Rattle.std.specs.Vec.Iter.{into_iter_items}
use Rattle.smp_mask.specs.Mask.{members}
use Rattle.smp_machine.specs.Crews.{IsPlayed}
use Rattle.smp_machine.specs.Members.{AreFor}
use Rattle.smp_machine.specs.MachineCpu.{MachineValue}
use Rattle.smp_machine.specs.Threads.{IsTaskOf}
use Rattle.smp_machine.proofs.Crews.{moved_none, moved_more, moved_all}
use Rattle.smp_machine.proofs.threads.Run.join_all.Goals as goal

pub loop-handle-preserved : goal.loop-handle-preserved
loop-handle-preserved g c =
    let m = c.args.self.now.machine.now in let crew = c.args.self.now.crew.now in let step = c.in-Some.ensures.steps in
    let hears = g.H.Handler.leads in let runs = g.F.StopFunc.leads in let h = c.in-Some.handle in let p = c.in_ok-played.played in (
      search rules,
      search rules,
      moved_more (λ n q. IsPlayed hears runs (g.C.Crew.begins crew) (g.C.Crew.plays crew) (g.C.Crew.leaves crew) m n q) (λ n t. IsTaskOf m crew n t.promise)
          (members m.calls.online) _ _ h _ _ p step.0 (search rules)
          (λ n is. subst (λ (i : ℕ). IsPlayed hears runs (g.C.Crew.begins crew) (g.C.Crew.plays crew) (g.C.Crew.leaves crew) m i p) is.number_is
          (subst (λ (x : MachineValue). IsPlayed hears runs (g.C.Crew.begins crew) (g.C.Crew.plays crew) (g.C.Crew.leaves crew)
          x h.promise.number p) is.machine_is
          (subst (λ (w : _). IsPlayed hears runs (g.C.Crew.begins w) (g.C.Crew.plays w) (g.C.Crew.leaves w) h.promise.machine.now h.promise.number p) is.crew_is
          c.in_ok-played.ensures)))
          c.loop-handle.invariant.2,
    )

pub loop-handle-init : goal.loop-handle-init
loop-handle-init g c =
    let m = c.args.self.now.machine.now in let crew = c.args.self.now.crew.now in let numbers = members m.calls.online in
    let is : c.args.handles.items ≡ into_iter_items c.into_iter-handle-iterator.result = search rules in (
      search rules,
      search rules,
      moved_none (λ n q. IsPlayed g.H.Handler.leads g.F.StopFunc.leads (g.C.Crew.begins crew) (g.C.Crew.plays crew) (g.C.Crew.leaves crew) m n q)
          (λ n t. IsTaskOf m crew n t.promise) numbers _ _ c.requires.none.1
          (subst (λ (xs : List _). AreFor (λ n t. IsTaskOf m crew n t.promise) numbers xs) is c.requires.started),
    )

pub returns : goal.returns
returns g c =
    let m = c.args.self.now.machine.now in let crew = c.args.self.now.crew.now in
    let it = c.loop-handle.handle-iterator in let none = nil_from_length (into_iter_items it) (sym it.rest.ok.0 ∙ c.in-None.ensures.steps.0) in
    moved_all (λ n q. IsPlayed g.H.Handler.leads g.F.StopFunc.leads (g.C.Crew.begins crew) (g.C.Crew.plays crew) (g.C.Crew.leaves crew) m n q)
    (λ n t. IsTaskOf m crew n t.promise) (members m.calls.online) _ _ none c.loop-handle.invariant.2
