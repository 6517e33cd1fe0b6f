use Rattle.std.proofs.Common.{arith, ℕ, [], ◌++◌, ◌∷◌, ◌∙◌, sym, subst, rules}
use Rattle.smp_calls.proofs.Counted.{looks_none, looks_more}
use Rattle.smp_calls.proofs.Lawful.{has_online}
use Rattle.smp_calls.proofs.Steps.{sized_moved}
use Rattle.smp_calls.proofs.Passes.{Passed, passed_none, passed_more, passed_all, waits_none, waits_more}
use Rattle.smp_calls.proofs.each.wait_each.Goals as goal

pub loop-cpu-init : goal.loop-cpu-init
loop-cpu-init g c = (
  [],
  subst (λ (left : ℕ). Passed c.args.called left []) (sym (c.into_iter-cpu-iterator.ensures.into_iter_gives ∙ c.iter-cpu-items.ensures))
      (passed_none c.args.called),
  waits_none g.H.Handler.leads c.args.me.now c.args.handler.now,
  looks_none c.args.me.now,
)

pub wait_for-requires-clause-table : goal.wait_for-requires-clause-table
wait_for-requires-clause-table g c = c.loop-cpu.invariant.2.table_is ∙ c.requires.table

pub wait_for-requires-clause-sized : goal.wait_for-requires-clause-sized
wait_for-requires-clause-sized g c = search (sized_moved, arith)

pub wait_for-requires-clause-record : goal.wait_for-requires-clause-record
wait_for-requires-clause-record g c = search (has_online, arith)

pub loop-cpu-preserved : goal.loop-cpu-preserved
loop-cpu-preserved g c =
    let a = c.loop-cpu.invariant in
    let next = c.in-Some.ensures.steps in (
      a.0 ++ c.in-Some.cpu ∷ [],
      passed_more c.args.called c.loop-cpu.cpu-iterator c.next.new.self c.in-Some.cpu a.0 a.1 next.0,
      waits_more g.H.Handler.leads c.many_record.result c.in-Some.cpu a.0 c.many_record.ensures (search rules) a.2 c.wait_for.ensures.left,
      looks_more c.args.me.now c.loop-cpu.me c.wait_for.new.me c.in-Some.cpu a.0 a.3 c.wait_for.ensures.turns,
    )

pub returns-clause-waited : goal.returns-clause-waited
returns-clause-waited g c = search (passed_all, arith)

pub returns-clause-turns : goal.returns-clause-turns
returns-clause-turns g c = search (passed_all, arith)
