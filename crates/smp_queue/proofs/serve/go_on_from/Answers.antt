use Rattle.std.proofs.Common.{sym, refl, subst, ap, ◌∙◌}
use Rattle.smp_queue.specs.{CpuValue, cpu_of}
use Rattle.smp_queue.specs.Serving.{ends, goes_from}
use Rattle.smp_queue.specs.HandsOut.{NextIs}
use Rattle.smp_queue.specs.ServingValue.{ServingValue}
use Rattle.smp_queue.proofs.Handling.Passing.{at_cpu, at_stands, kept_by, ran_still, ended_is}
use Rattle.smp_queue.proofs.serve.go_on_from.Goals as goal

pub end_call-requires-clause-at : goal.end_call-requires-clause-at
end_call-requires-clause-at c =
    let s = c.serving.invariant.0 in
    record {
      table_is = ap (λ (s : ServingValue). s.cpu.table) c.serving.view_is ∙ c.requires.table;
      sized = c.requires.sized;
      stage_is = s.stage_is;
      lives = s.out.0.lives;
    }

pub next_of-requires-clause-kept : goal.next_of-requires-clause-kept
next_of-requires-clause-kept c =
    let s0 = c.serving.inside.cpu.seat in
    let s1 = c.end_call.new.seat in
    let place = c.serving.inside.place in
    let table = c.end_call.ensures.at.table_is ∙ sym (ap (λ (s : ServingValue). s.cpu.table) c.serving.view_is ∙ c.requires.table) in
    let now = at_cpu _ _ _ c.go_on-found.result c.go_on-found.ensures.at in
    let e = now ∙ ended_is s0 s1 (goes_from place) place.call table c.end_call.ensures.known in
    kept_by s0.known c.go_on-found.new.seat (ends place.call (cpu_of s0)) _ _ _ _ c.serving.invariant.0.kept e refl refl refl refl
    (ran_still _ s1.known c.go_on-found.new.seat.known c.end_call.ensures.counts (ap (λ (x : CpuValue). x.part.ran) now))

pub next_of-requires-clause-at : goal.next_of-requires-clause-at
next_of-requires-clause-at c = at_stands _ _ _ c.go_on-found.result c.go_on-found.ensures.at

pub returns : goal.returns
returns c =
    let s0 = c.serving.inside.cpu.seat in
    let s1 = c.end_call.new.seat in
    let place = c.serving.inside.place in
    let table = c.end_call.ensures.at.table_is ∙ sym (ap (λ (s : ServingValue). s.cpu.table) c.serving.view_is ∙ c.requires.table) in
    let e = at_cpu _ _ _ c.go_on-found.result c.go_on-found.ensures.at ∙ ended_is s0 s1 (goes_from place) place.call table c.end_call.ensures.known in
    subst (λ (s : ServingValue). NextIs (ends s.call s.cpu) c.next_of.result) c.serving.view_is
    (subst (λ (x : CpuValue). NextIs x c.next_of.result) e c.next_of.ensures)
