-- A stop is opened with a work of CPUs that are online.
use Rattle.trace_laws.proofs.Names.{APatch, Bool, Kind, Multi, None, Ok, One, Option, Setting, Some, StateValue}
use Rattle.trace_laws.proofs.Names.{Stop, Task, [], and_parts, arith, cases_Bool, cases_lt, eqb-true, false, false≢true, has, inl, inr, is_work}
use Rattle.trace_laws.proofs.Names.{leb-true, length, length-append, ltb-true, may_open, members, members_below, nat_le, nat_lt, not, offline_in, on_stop}
use Rattle.trace_laws.proofs.Names.{open_by, open_closed, opened, refl, stop_at, stop_goes, suc, subst, sym, true, unless_offline, with_stop, zero, ℕ}
use Rattle.trace_laws.proofs.Names.{◌&&◌, ◌++◌, ◌<◌, ◌==◌, ◌>>=◌, ◌∙◌, ◌≡◌}
use Rattle.trace_model.specs.declared.event.Event.TheVariants as event
use Rattle.trace_model.specs.declared.event.StopEvent.TheVariants as stops
use Rattle.trace_model.specs.declared.reason.Reason.TheVariants as reason
use Rattle.trace_model.specs.{Opened.opening as at_first, Stop.first_of, Stop.is_only, Stop.is_work_of, Stop.opening}
use Rattle.trace_laws.proofs.Calls.MadeSteps.{both_made, failed, passed}
use Rattle.trace_laws.proofs.Labels.PatchEvents.{only_one}
use Rattle.trace_laws.proofs.Labels.StoredWords.{first_is}
use Rattle.trace_laws.proofs.Stops.AtRun.{runs_last, setting_at_first, setting_runs}
use Rattle.trace_laws.proofs.Stops.Ends.{first_none}
use Rattle.trace_laws.specs.Phases.{IsAlone, IsOf, IsPatch, MayOpen, WorksAreOfOnline}

-- a mask that is not empty has a member
some_in : (mask k : ℕ) → 0 < length (members_below mask k) → (cpu : ℕ) × ((cpu < k) × (has mask cpu ≡ true))
unfolding members_below
some_in mask zero h = absurd (omega arith)
some_in mask (suc k) h = elim (cases_Bool (has mask k)) [
  | inl is ↦ (k, (omega arith, is))
  | inr out ↦
      (let g : 0 < length (members_below mask k ++ []) = rw out at h in
      let l = length-append (members_below mask k) [] in
      let r = some_in mask k (omega arith) in
      (r.0, (omega (arith, r.1.0), r.1.1)))
]

-- a mask of one member has it alone
alone_in : (mask cpu : ℕ) → cpu < 32 → has mask cpu ≡ true → length (members mask) ≡ 1 → IsAlone mask cpu
alone_in mask cpu low member one = record {
  below = low;
  member = member;
  alone = λ other below is. only_one mask other cpu 32 is member below low one;
}

one_in : (mask : ℕ) → length (members mask) ≡ 1 → (cpu : ℕ) × IsAlone mask cpu
one_in mask one = let s = some_in mask 32 (omega arith) in (s.0, alone_in mask s.0 s.1.0 s.1.1 one)

only_in : (mask : ℕ) (who : Option ℕ) → is_only mask who ≡ true → (cpu : ℕ) × ((who ≡ Some cpu) × ((length (members mask) ≡ 1) × (has mask cpu ≡ true)))
only_in mask None e = absurd cc
only_in mask (Some cpu) e =
    let b = and_parts (length (members mask) == 1) (has mask cpu) e in (cpu, (refl, (eqb-true (length (members mask)) 1 b.0, b.1)))

patch_is : (u : Setting) (task : Task) → is_work_of APatch u task ≡ true → IsPatch u task
patch_is u task e =
    let only = is_only task.active (first_of u.online) in
    let a = and_parts ((task.mask == u.online) && only && nat_lt task.func u.keys) (nat_le task.arg 3) e in
    let b = and_parts ((task.mask == u.online) && only) (nat_lt task.func u.keys) a.0 in
    let c = and_parts (task.mask == u.online) only b.0 in
    let o = only_in task.active (first_of u.online) c.1 in
    let f = first_is (λ n. has u.online n) 0 32 o.0 o.1.0 in
    record {
      mask_is = eqb-true task.mask u.online c.0;
      cpu = o.0;
      active = alone_in task.active o.0 (omega (arith, f.within)) o.1.1.1 o.1.1.0;
      online = f.passing;
      least = λ other is. elim (cases_lt other o.0) [
        | inl less ↦ absurd (false≢true (sym (f.first other (omega arith) less) ∙ is))
        | inr more ↦ more
      ];
      key = ltb-true task.func u.keys b.1;
      change = leb-true task.arg 3 a.1;
    }

work_of : (kind : Kind) (u : Setting) (task : Task) → is_work_of kind u task ≡ true → IsOf kind u task
work_of One u task e = one_in task.mask (eqb-true (length (members task.mask)) 1 e)
work_of Multi u task e = some_in task.mask 32 (ltb-true 0 (length (members task.mask)) e)
work_of APatch u task e = patch_is u task e

-- no CPU of a mask is not online
online_is : (mask online : Bool) → (mask && not online) ≡ false → mask ≡ true → online ≡ true
online_is mask online e m = search arith

offline_none : (who : Option ℕ) (stop to : Stop) → unless_offline who stop ≡ Ok to → who ≡ None
offline_none who stop to e = search arith

may_open_it : (u : Setting) (task : Task) (to : Stop) → opened u task ≡ Ok to → MayOpen u task
unfolding opened
may_open_it u task to e =
    let p = passed (is_work u task) (unless_offline (offline_in u task.mask) (opening task)) reason.NoSuchWork to e in
    let none = offline_none (offline_in u task.mask) (opening task) to p.1 in
    record {
      of = work_of task.kind u task p.0;
      online = λ cpu low member.
          online_is (has task.mask cpu) (has u.online cpu)
          (first_none (λ c. has task.mask c && not (has u.online c)) 0 32 none cpu (omega arith) (omega arith)) member;
    }

opens_work : (cpu number : ℕ) (task : Task) (s t : StateValue) → stop_goes cpu (stops.Open number task) s ≡ Ok t → MayOpen s.setting task
unfolding stop_goes open_by
opens_work cpu number task s t e =
    let next = on_stop number s (opened s.setting task) in
    let o = passed (nat_lt number 64) (open_closed cpu number task s) reason.NoSuchWork t e in
    let p = failed (stop_at s number).is_open (may_open s.setting.without.gate cpu s >>= λ u. next) (reason.StopOpen number) t o.1 in
    let m = both_made (may_open s.setting.without.gate cpu s) (λ u. next) t p.1 in
    let n = both_made (opened s.setting task) (λ x. Ok (with_stop number s x)) t m.1.1 in
    may_open_it s.setting task n.0 n.1.0

pub works_are_of_online : WorksAreOfOnline
works_are_of_online u words es t cpu number task run =
    let m = runs_last es (cpu, event.Stop (stops.Open number task)) (at_first u words) t run in
    let set : m.0.setting ≡ u = setting_runs es (at_first u words) m.0 m.1.0 ∙ setting_at_first u words in
    subst (λ (x : Setting). MayOpen x task) set (opens_work cpu number task m.0 t m.1.1)
