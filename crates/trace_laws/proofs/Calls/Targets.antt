-- What joins a queue goes to another CPU that is online, what a CPU does in a stop is of a CPU below 32, and the number of a stop is below 64.
use Rattle.trace_laws.proofs.Names.{Call, Class, Err, OtherNode, Reason, Result, Setting, StateValue, StopEvent, and_parts, arith, call_goes, collect_by}
use Rattle.trace_laws.proofs.Names.{collected, enter_by, enter_from, eq-eqb, freed, goes, if◌then◌else◌, inside_goes, is_online, joined, lt-ltb, ltb-true}
use Rattle.trace_laws.proofs.Names.{on_stop, open_by, open_closed, other_by, queue_by, stop_at, stop_goes, stop_of, ◌&&◌, ◌<◌, ◌>>=◌}
use Rattle.std.proofs.Common.{◌≡◌, ◌≢◌, ℕ, ◌==◌, nat_lt, true, Ok, sym, ap}
use Rattle.std.proofs.Common.{◌∙◌, inl, inr}
use Rattle.std.proofs.lemmas.Bool.{cases_lt, le-ltb}
use Rattle.trace_model.specs.declared.event.CallEvent.TheVariants as calls
use Rattle.trace_model.specs.declared.event.Event.TheVariants as event
use Rattle.trace_model.specs.declared.event.StopEvent.TheVariants as stops
use Rattle.trace_model.specs.declared.reason.Reason.TheVariants as reason
use Rattle.trace_model.specs.Calls.{other_joined}
use Rattle.trace_model.specs.Opened.{opening}
use Rattle.trace_laws.proofs.Calls.MadeSteps.{failed, low_event, passed}
use Rattle.trace_laws.proofs.Stops.AtRun.{runs_last, setting_at_first, setting_runs}
use Rattle.trace_laws.specs.Targets.{CallsHaveTargets, IsThere, NamesStop, OthersHaveTargets, StopsAreLow, StopsAreThere, is_inside}

pub is_there : (u : Setting) (cpu : ℕ) → is_online u cpu ≡ true → IsThere u cpu
is_there u cpu is = elim (cases_lt cpu 32) [
  | inl low ↦ inl (low, (rw (lt-ltb cpu 32 low) at is))
  | inr high ↦
      let both = and_parts (nat_lt cpu u.cpus) (nat_lt cpu 512) (rw (le-ltb cpu 32 high) at is) in
      inr (high, (ltb-true cpu u.cpus both.0, ltb-true cpu 512 both.1))
]

-- what joins a queue only so
pub joined_so : (s t : StateValue) (cpu to : ℕ) (made : Result StateValue Reason)
    → (if is_online s.setting to then (if to == cpu then Err (reason.IsCaller to) else made) else Err (reason.NotOnline to)) ≡ Ok t
    → (to ≢ cpu) × ((is_online s.setting to ≡ true) × (made ≡ Ok t))
joined_so s t cpu to made e =
    let p = passed (is_online s.setting to) (if to == cpu then Err (reason.IsCaller to) else made) (reason.NotOnline to) t e in
    let q = failed (to == cpu) made (reason.IsCaller to) t p.1 in
    ((λ same. let f = eq-eqb to cpu same in cc), (p.0, q.1))

-- a call
queued_so : (s t : StateValue) (cpu id to : ℕ) (class : Class) (func info : ℕ)
    → queue_by (record { source = cpu; id = id; class = class; func = func; info = info }) to s ≡ Ok t → (to ≢ cpu) × (is_online s.setting to ≡ true)
unfolding queue_by
queued_so s t cpu id to class func info made =
    let call : Call = record { source = cpu; id = id; class = class; func = func; info = info } in
    let so = joined_so s t cpu to (freed id s >>= λ m. Ok (joined call to m)) made in
    (so.0, so.1.0)

pub calls_have_targets : CallsHaveTargets
calls_have_targets u words es t cpu id to class func info run =
    let m = runs_last es (cpu, event.Call (calls.Queue id to class func info)) (opening u words) t run in
    let q = queued_so m.0 t cpu id to class func info m.1.1 in
    let set : m.0.setting ≡ u = setting_runs es (opening u words) m.0 m.1.0 ∙ setting_at_first u words in
    (q.0, is_there u to (ap (λ v. is_online v to) (sym set) ∙ q.1))

-- and what is no call
other_so : (s t : StateValue) (cpu to : ℕ) (node : OtherNode) → goes cpu (event.Call (calls.QueueOther to node)) s ≡ Ok t → (to ≢ cpu) ×
    (is_online s.setting to ≡ true)
unfolding call_goes other_by
other_so s t cpu to node made =
    let so = joined_so s t cpu to (Ok (if s.setting.without.order then s else other_joined cpu to s)) made in
    (so.0, so.1.0)

pub others_have_targets : OthersHaveTargets
others_have_targets u words es t cpu to node run =
    let m = runs_last es (cpu, event.Call (calls.QueueOther to node)) (opening u words) t run in
    let q = other_so m.0 t cpu to node m.1.1 in
    let set : m.0.setting ≡ u = setting_runs es (opening u words) m.0 m.1.0 ∙ setting_at_first u words in
    (q.0, is_there u to (ap (λ v. is_online v to) (sym set) ∙ q.1))

-- an event in a stop is made so
inside_is_low : (cpu : ℕ) (e : StopEvent) (s t : StateValue) → stop_goes cpu e s ≡ Ok t → is_inside e ≡ true → cpu < 32
unfolding stop_goes
inside_is_low cpu e s t made is = search (low_event, arith)

pub stops_are_low : StopsAreLow
stops_are_low u words es t cpu e run is =
    let m = runs_last es (cpu, event.Stop e) (opening u words) t run in
    inside_is_low cpu e m.0 t m.1.1 is

-- the stop that is entered is there
entered_there : (inside : Result ℕ Reason) (cpu number : ℕ) (s t : StateValue) → enter_from inside cpu number s ≡ Ok t → number < 64
entered_there inside cpu number s t e = search (passed, and_parts, ltb-true, arith)

names_stop : (cpu : ℕ) (e : StopEvent) (s t : StateValue) → stop_goes cpu e s ≡ Ok t → NamesStop e
unfolding stop_goes inside_goes open_by enter_by collect_by
names_stop cpu (stops.Open number task) s t e = ltb-true number 64 (passed (nat_lt number 64) (open_closed cpu number task s) reason.NoSuchWork t e).0
names_stop cpu (stops.Enter number) s t e = entered_there (stop_of cpu s) cpu number s t (low_event cpu _ t e).1
names_stop cpu (stops.Collect number answer) s t e =
    let p = passed (nat_lt number 64 && (stop_at s number).is_open) (on_stop number s (collected answer (stop_at s number))) (reason.StopNotOpen number) t e in
    ltb-true number 64 (and_parts (nat_lt number 64) (stop_at s number).is_open p.0).0
names_stop cpu _ s t e = tt

pub stops_are_there : StopsAreThere
stops_are_there u words es t cpu e run =
    let m = runs_last es (cpu, event.Stop e) (opening u words) t run in
    names_stop cpu e m.0 t m.1.1
