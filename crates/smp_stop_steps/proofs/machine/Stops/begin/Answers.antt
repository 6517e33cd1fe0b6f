use Rattle.std.proofs.Common.{◌≡◌, ◌<◌, None, List, length, sym, ◌∙◌, ap, subst, arith}
use Rattle.std.proofs.lemmas.List.{get_or_read, length-set}
use Rattle.std.specs.Prelude.{slice_set}
use Rattle.smp_stop_steps.specs.{StopState, StopControlValue, stop_goes, stop_outside, MayBeginAt, StopsValue, StopsShow, setup_of, stop_control_of}
use Rattle.smp_stop_steps.specs.{HasI32Answers}
use Rattle.smp_stop_steps.proofs.{TheMachine.Answered.answers_set, TheMachine.Begun.begun_value_shown}
use Rattle.smp_stop_steps.proofs.machine.Stops.begin.Goals as goal
use Rattle.smp_stop_steps.proofs.machine.Stops.begin.Given as given

-- the control of this CPU, once it is at the stage
here : (g : given.Over) (c : goal.After-self-1 g) → c.begin.new.self ≡ (stop_goes (stop_control_of c.self.inside.controls.items c.args.cpu)
    c.args.stage).control
here g c = let items = c.self.inside.controls.items in
    let sized = c.self.invariant.sized in
    let read : c.index_mut.result.now ≡ stop_control_of items c.args.cpu = get_or_read items c.args.cpu c.index_mut.result.now
    (omega (arith, c.requires.cpu)) c.index_mut.ensures.value stop_outside in
    rw (← read) c.begin.ensures

-- the half shows the stops that it showed
shown_after : (g : given.Over) (c : goal.After-self-1 g) (p : StopState) → StopsShow (setup_of c.self.inside.online c.self.inside.labels) p
    c.self.inside.table c.self.inside.controls.items →
    StopsShow (setup_of c.self.inside.online c.self.inside.labels) p c.self.inside.table (slice_set c.self.inside.controls.items c.args.cpu c.begin.new.self)
shown_after g c p shown = let items = c.self.inside.controls.items in
    let sized = c.self.invariant.sized in
    let kept : items ≡ c.args.self.now.controls = ap (λ (v : StopsValue). v.controls) c.self.view_is in
    let outside : (stop_control_of items c.args.cpu).stage ≡ None = ap (λ (x : List StopControlValue). (stop_control_of x c.args.cpu).stage) kept ∙
    c.requires.outside in
    let may : MayBeginAt record {
      nr = c.self.inside.nr;
      online = c.self.inside.online;
      labels = c.self.inside.labels;
      table = c.self.inside.table;
      controls = items;
    } c.args.cpu c.args.stage = subst (λ (v : StopsValue). MayBeginAt v c.args.cpu c.args.stage) (sym c.self.view_is) c.requires.may in
    rw (here g c) (begun_value_shown (setup_of c.self.inside.online c.self.inside.labels) p c.self.inside.table items shown c.args.cpu c.requires.cpu
    (omega (arith, c.requires.cpu)) c.args.stage outside may)

-- its answers are of i32s
long : (g : given.Over) (c : goal.After-self-1 g) → c.args.cpu < length c.self.inside.controls.items
long g c = let sized = c.self.invariant.sized in omega (arith, c.requires.cpu)

answers_here : (g : given.Over) (c : goal.After-self-1 g) → HasI32Answers c.begin.new.self
answers_here g c = rw (here g c) record { visit = (c.self.invariant.answers c.args.cpu).visit; stage = c.requires.answers }

pub invariant_of-self : goal.invariant_of-self
invariant_of-self g c = record {
  sized = length-set c.self.inside.controls.items c.args.cpu c.begin.new.self ∙ c.self.invariant.sized;
  table_is = c.self.invariant.table_is;
  phases = c.self.invariant.phases;
  results = c.self.invariant.results;
  answers = answers_set c.self.inside.controls.items c.args.cpu c.begin.new.self (long g c) c.self.invariant.answers (answers_here g c);
  stops = c.self.invariant.stops;
  shown = shown_after g c c.self.invariant.stops c.self.invariant.shown;
}

pub returns-clause-told : goal.returns-clause-told
returns-clause-told g c p shown = shown_after g c p (rw (← c.self.view_is) at shown)
