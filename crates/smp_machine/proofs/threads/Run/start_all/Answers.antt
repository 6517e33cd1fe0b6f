use Rattle.std.proofs.Common.{rules, ℕ, ◌≡◌, List, ap, sym, ◌∙◌, subst}
use Rattle.std.proofs.lemmas.List.{nil_from_length}
use Rattle.std.specs.Vec.Iter.{into_iter_items}
use Rattle.smp_mask.specs.Mask.{members}
use Rattle.smp_machine.specs.MachineCpu.{MachineCpuValue}
use Rattle.smp_machine.specs.Members.{AreMembers, IsMember}
use Rattle.smp_machine.specs.Threads.{IsTaskOf}
use Rattle.smp_machine.proofs.Crews.{moved_none, moved_more, moved_next, moved_all, member_own}
use Rattle.smp_machine.proofs.threads.Run.start_all.Goals as goal

pub start-requires-clause-member : goal.start-requires-clause-member
start-requires-clause-member g c κs within =
    let m = c.args.self.now.machine.now in let crew = c.args.self.now.crew.now in let begins = g.C.Crew.begins crew in
    let next = moved_next (λ n h. IsTaskOf m crew n h.promise) (λ n x. IsMember begins m n x) (members m.calls.online) _ c.in-Some.member _ _
    c.in-Some.ensures.steps.0 c.loop-member.invariant.2 in
    member_own begins m next.0 c.in-Some.member next.1

pub loop-member-preserved : goal.loop-member-preserved
loop-member-preserved g c =
    let m = c.args.self.now.machine.now in let crew = c.args.self.now.crew.now in let step = c.in-Some.ensures.steps in let h = c.in-Some-start.handle in (
      search rules,
      search rules,
      moved_more (λ n t. IsTaskOf m crew n t.promise) (λ n x. IsMember (g.C.Crew.begins crew) m n x) (members m.calls.online) _ _ c.in-Some.member _ _ h
          step.0 (search rules)
          (λ n is. subst (λ (i : ℕ). IsTaskOf m crew i h.promise) (ap (λ (p : MachineCpuValue). p.calls.number) is.fresh) c.in-Some-start.ensures)
          c.loop-member.invariant.2,
    )

pub loop-member-init : goal.loop-member-init
loop-member-init g c =
    let m = c.args.self.now.machine.now in let crew = c.args.self.now.crew.now in let numbers = members m.calls.online in
    let begins = g.C.Crew.begins crew in let is : c.args.all.items ≡ into_iter_items c.into_iter-member-iterator.result = search rules in (
      search rules,
      search rules,
      moved_none (λ n t. IsTaskOf m crew n t.promise) (λ n x. IsMember begins m n x) numbers _ _ c.requires.none.1
          (subst (λ (xs : List _). AreMembers begins m numbers xs) is c.requires.members),
    )

pub returns-clause-started : goal.returns-clause-started
returns-clause-started g c =
    let m = c.args.self.now.machine.now in let crew = c.args.self.now.crew.now in let it = c.loop-member.member-iterator in
    let none = nil_from_length (into_iter_items it) (sym it.rest.ok.0 ∙ c.in-None.ensures.steps.0) in
    moved_all (λ n t. IsTaskOf m crew n t.promise) (λ n x. IsMember (g.C.Crew.begins crew) m n x) (members m.calls.online) _ _ none
    c.loop-member.invariant.2
