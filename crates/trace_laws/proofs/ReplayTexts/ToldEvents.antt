-- The events of a replay have numbers that a trace may tell.
use Rattle.trace_laws.proofs.Names.{AllByRecursion, Event, Labels, List, None, Option, Setting, Some, StateValue, [], ap, arith, cases_Bool, cases_eq, eq-eqb}
use Rattle.trace_laws.proofs.Names.{has, inl, inr, length, map, ne_eqb, refl, subst, sym, true, true≢false, ℕ, ◌++◌, ◌+◌, ◌<◌, ◌∙◌, ◌∷◌, ◌≡◌}
use Rattle.trace_laws.proofs.ReplayNames.{AreTold, ArgFits, BeginsOfCpus, CallState, Command, CoreValue, FitsCommand, FitsCpus, IsWhole, Past}
use Rattle.trace_laws.proofs.ReplayNames.{Replay, SLOT_WORDS, Seen, SmpError, Stage, StandsAt, StopControlValue, StopStage, StopState, Turned, after}
use Rattle.trace_laws.proofs.ReplayNames.{all_fresh, control_of, cpus, events_of, events_of_step, found_at, fresh, get_or-same, kept, new_core}
use Rattle.trace_laws.proofs.ReplayNames.{number_in, past_at, refusal_of, replay_from, replay_on, seen_at, share_of, slot_cell, start_below, start_turn}
use Rattle.trace_laws.proofs.ReplayNames.{started, step_at, step_turn, step_whole, stepped, stop_control_of, stop_first, stop_found_at, stop_number}
use Rattle.trace_laws.proofs.ReplayNames.{stop_outside, stop_seen_at, stop_step, stops_stepped, tells, zero_at}
use Rattle.smp_words.specs.declared.command.Event.TheVariants as turned
use Rattle.smp_words.specs.declared.field.Field.TheVariants as field
use Rattle.trace_laws.proofs.ReplayStops.BegunStops.{begun_else, begun_fits, begun_here, begun_labels, begun_table}
use Rattle.trace_laws.proofs.ReplayTexts.StopNumbers.{ArgsFit, BeginFits, WorkFits, stage_args, stage_begins}
use Rattle.trace_laws.proofs.ReplayTexts.ToldNumbers.{InRange, IsFit, PastFits, StepFits, after_fits, fresh_fits, told_fits}
use Rattle.trace_laws.proofs.WholeReplays.AllEvents.{StandsAll, below, by_name_stops, call_stands, here, named, reached, reached_stops, start_stands}
use Rattle.trace_laws.proofs.WholeReplays.AllEvents.{stop_below, stop_stands, told_stops}
use Rattle.trace_laws.proofs.{ReplayCalls.KeptPasts.past_else}
use Rattle.trace_laws.proofs.{ReplayCalls.KeptPasts.past_here, ReplayTexts.CallNumbers.call_fits, ReplayTexts.NoteNumbers.stop_fits}
use Rattle.trace_laws.proofs.{ReplayTexts.PhasesAndKeys.stage_ranged}

-- a trace is of this machine
pub record IsOfCore (u : Setting) (core : CoreValue) : Type 0 where
  pub online : u.online ≡ core.online
  pub keys : u.keys ≡ core.stops.labels.keys
  pub sites : u.sites ≡ length core.stops.labels.entries

-- the arguments of all slots, and of each stop that begins, are of 64 bits
pub record ArgsOfCore (core : CoreValue) : Type 0 where
  pub args : ArgsFit (stop_number core.stops.table)
  pub begins : (cpu : ℕ) → BeginFits (stop_control_of core.stops.controls cpu).stage

-- a new machine has none but zeros
pub new_args : (nr online : ℕ) (labels : Labels) → ArgsOfCore (new_core nr online labels)
new_args nr online labels = record {
  args = λ slot. rw (zero_at SLOT_WORDS (slot_cell slot field.Arg)) (omega arith);
  begins = λ cpu. rw (get_or-same stop_outside cpus cpu) tt;
}

-- what each CPU has kept fits
abbrev pub PastsFit : List Past → Type 0
PastsFit pasts = (cpu : ℕ) → PastFits (past_at pasts cpu)

pub fresh_pasts : PastsFit all_fresh
fresh_pasts cpu = rw (get_or-same fresh 32 cpu) fresh_fits

kept_pasts : (pasts : List Past) (x : Seen) → length pasts ≡ 32 → x.cpu < cpus → StepFits x → PastsFit pasts → PastsFit (kept pasts x)
kept_pasts pasts x sized below fits all cpu = elim (cases_eq cpu x.cpu) [
  | inl is ↦ rw (is, past_here pasts x.cpu (after (past_at pasts x.cpu) x) sized below) (after_fits (past_at pasts x.cpu) x (all x.cpu) fits)
  | inr ne ↦ rw (past_else pasts x.cpu (after (past_at pasts x.cpu) x) cpu ne) (all cpu)
]

module _ (u : Setting) where
  told_by_cpu : (cpu : ℕ) (events : List Event) → cpu < cpus → has u.online cpu ≡ true → AllByRecursion (IsFit u cpu) events
      → AreTold u (map (λ e. (cpu, e)) events)
  told_by_cpu cpu [] l on all = tt
  told_by_cpu cpu (e ∷ es) l on all = ((l, on, all.0.0, all.0.1), told_by_cpu cpu es l on all.1)

  told_both : (xs ys : List (ℕ × Event)) → AreTold u xs → AreTold u ys → AreTold u (xs ++ ys)
  told_both [] ys x y = y
  told_both (e ∷ xs) ys x y = (x.0, told_both xs ys x.1 y)

  -- the events of one step
  step_told : (pasts : List Past) (x : Seen) → x.cpu < cpus → has u.online x.cpu ≡ true → PastsFit pasts → StepFits x
      → InRange u (past_at pasts x.cpu) x.word x → AreTold u (events_of_step pasts x)
  step_told pasts x l on all fits range = search (told_by_cpu, told_fits, arith)

  abbrev TellsFit : List Past → Replay → Type 0
  TellsFit pasts r = AreTold u (events_of pasts r.seen)

  abbrev Rest : ℕ → List Turned → Type 0
  Rest position rest = (core : CoreValue) (a : CallState) (p : StopState) (pasts : List Past) (s : StateValue) → StandsAll core a p pasts s
      → IsOfCore u core → ArgsOfCore core → PastsFit pasts → TellsFit pasts (replay_from position core rest)

  start_args : (core : CoreValue) (cpu : ℕ) (c : Command) → length core.stops.controls ≡ cpus → cpu < cpus → WorkFits c → ArgsOfCore core
      → ArgsOfCore (started core cpu c)
  start_args core cpu c sized l fits k =
      let control = stop_control_of core.stops.controls cpu in
      let first = stop_first control c in
      record {
        args = rw (begun_table core.stops cpu first) k.args;
        begins = λ j. elim (cases_eq j cpu) [
          | inl is ↦ rw (is, begun_here core.stops cpu first sized l) (begun_fits BeginFits control first (k.begins cpu) (search arith))
          | inr ne ↦ rw (begun_else core.stops cpu first j sized l ne) (k.begins j)
        ];
      }

  started_tells : (position : ℕ) (rest : List Turned) → Rest (position + 1) rest → (core : CoreValue) (a : CallState) (p : StopState) (pasts : List Past)
      (s : StateValue) → StandsAll core a p pasts s → IsOfCore u core → ArgsOfCore core → PastsFit pasts → (cpu : ℕ) (c : Command) → FitsCommand c
      → BeginsOfCpus c → ArgFits (turned.Start cpu c) → (r : Option SmpError) → refusal_of core cpu c ≡ r
      → let turn = start_turn core (started core cpu c) r in
      TellsFit pasts (replay_on position turn.core turn.answer (replay_from (position + 1) turn.core rest))
  started_tells position rest on core a p pasts s k o args all cpu c fits plain arg (Some why) e = tt
  started_tells position rest on core a p pasts s k o args all cpu c fits plain arg None e =
      on (started core cpu c) a p pasts s (start_stands core a p pasts s k cpu c fits plain e) (search (begun_labels, arith))
      (start_args core cpu c k.whole.stops.sized (start_below core cpu c k.whole.sound.limits e) (search arith) args) all

  module _ (core : CoreValue) (a : CallState) (p : StopState) (pasts : List Past) (s : StateValue) (k : StandsAll core a p pasts s) (o : IsOfCore u core)
      (args : ArgsOfCore core) (all : PastsFit pasts) (cpu : ℕ) where
    -- a CPU inside a command is online
    call_online : (stage : Stage) → (control_of core.controls cpu).stage ≡ Some stage → has u.online cpu ≡ true
    call_online stage e = elim (cases_Bool (has core.online cpu)) [
      | inl on ↦ rw o.online on
      | inr off ↦ absurd (some_none stage (sym e ∙ k.whole.sound.apart.outside cpu off))
    ]
      where
        some_none : (x : Stage) → Some x ≡ None → ⊥
        some_none x z = absurd cc

    stop_online : (stage : StopStage) → (stop_control_of core.stops.controls cpu).stage ≡ Some stage → has u.online cpu ≡ true
    stop_online stage e = elim (cases_Bool (has core.stops.online cpu)) [
      | inl on ↦ rw (o.online, sym k.whole.sound.stops_online) on
      | inr off ↦ absurd (some_none stage (sym e ∙ ap (λ (c : StopControlValue). c.stage) (k.whole.sound.stops_apart.outside cpu off)))
    ]
      where
        some_none : (x : StopStage) → Some x ≡ None → ⊥
        some_none x z = absurd cc

    call_typed : (stage : Stage) → (control_of core.controls cpu).stage ≡ Some stage → StepFits (seen_at core cpu stage)
    call_typed stage e =
        let at = number_in core.words in
        let drain = (control_of core.controls cpu).drain in
        call_fits a at drain cpu (found_at core cpu stage) stage
        (subst (λ (x : Option Stage). StandsAt a.place at (share_of a cpu) drain cpu x) e (k.calls.stands cpu)) (k.calls.placed.batched cpu)

    call_told : (stage : Stage) → (control_of core.controls cpu).stage ≡ Some stage → AreTold u (events_of_step pasts (seen_at core cpu stage))
    call_told stage e = step_told pasts (seen_at core cpu stage) (below core a p pasts s k cpu stage e) (call_online stage e) all (call_typed stage e)
        (search (true≢false, arith))

    module _ (stage : StopStage) (e : (stop_control_of core.stops.controls cpu).stage ≡ Some stage) (out : (control_of core.controls cpu).stage ≡ None)
        (whole : IsWhole (stops_stepped core cpu stage)) where
      begins : BeginFits (Some stage)
      begins = subst (λ (x : Option StopStage). BeginFits x) e (args.begins cpu)

      stop_typed : StepFits (stop_seen_at core.stops cpu stage)
      stop_typed = stop_fits core.stops p k.stops k.whole.stops.sized k.whole.stops.table_is cpu (stop_below core a p pasts s k cpu stage e out whole) args.args
          stage e begins

      stop_told : AreTold u (events_of_step pasts (stop_seen_at core.stops cpu stage))
      stop_told =
          step_told pasts (stop_seen_at core.stops cpu stage) (stop_below core a p pasts s k cpu stage e out whole) (stop_online stage e) all stop_typed
          (stage_ranged (here core a p pasts s k cpu stage e out whole) u o.keys o.sites stage e)

      stop_args : ArgsOfCore (stops_stepped core cpu stage)
      stop_args = record {
        args = subst ArgsFit (sym (named core a p pasts s k cpu stage e out whole)) (stage_args (stop_number core.stops.table) cpu stage
            (stop_control_of core.stops.controls cpu).changes begins args.args);
        begins = λ j. elim (cases_eq j cpu) [
          | inl is ↦ rw (
            is,
            by_name_stops core a p pasts s k cpu stage e out whole cpu,
            eq-eqb cpu cpu refl,
          ) (stage_begins cpu (stop_control_of core.stops.controls cpu) stage (stop_found_at core.stops cpu stage) begins)
          | inr ne ↦ rw (by_name_stops core a p pasts s k cpu stage e out whole j, ne_eqb j cpu ne) (args.begins j)
        ];
      }

  stepped_tells : (position : ℕ) (rest : List Turned) → Rest (position + 1) rest → (core : CoreValue) (a : CallState) (p : StopState) (pasts : List Past)
      (s : StateValue) → StandsAll core a p pasts s → IsOfCore u core → ArgsOfCore core → PastsFit pasts → (cpu : ℕ) (x : Option Stage)
      (y : Option StopStage) → (control_of core.controls cpu).stage ≡ x → (stop_control_of core.stops.controls cpu).stage ≡ y
      → let turn = step_turn core (step_at core cpu x y) in
      TellsFit pasts (replay_on position turn.core turn.answer (replay_from (position + 1) turn.core rest))
  stepped_tells position rest on core a p pasts s k o args all cpu None None e f = tt
  stepped_tells position rest on core a p pasts s k o args all cpu (Some stage) y e f =
      let seen = seen_at core cpu stage in
      let r = replay_from (position + 1) (stepped core cpu stage) rest in
      told_both (events_of_step pasts seen) (events_of (kept pasts seen) r.seen) (call_told core a p pasts s k o args all cpu stage e)
      (on (stepped core cpu stage) (tells a seen) p (kept pasts seen) (reached core a p pasts s k cpu stage e).t (call_stands core a p pasts s k cpu stage e)
      (record { online = o.online; keys = o.keys; sites = o.sites }) (record { args = args.args; begins = args.begins })
      (kept_pasts pasts seen k.keeps.pasts_are (below core a p pasts s k cpu stage e) (call_typed core a p pasts s k o args all cpu stage e) all))
  stepped_tells position rest on core a p pasts s k o args all cpu None (Some stage) e f =
      let seen = stop_seen_at core.stops cpu stage in
      let whole : IsWhole (stops_stepped core cpu stage) = step_whole core cpu k.whole (stop_step core cpu stage) (rw (e, f) refl) in
      let m = reached_stops core a p pasts s k cpu stage f e whole in
      let r = replay_from (position + 1) (stops_stepped core cpu stage) rest in
      told_both (events_of_step pasts seen) (events_of (kept pasts seen) r.seen) (stop_told core a p pasts s k o args all cpu stage f e whole)
      (on (stops_stepped core cpu stage) (tells a seen) (told_stops core a p pasts s k cpu stage f e whole) (kept pasts seen) m.t
      (stop_stands core a p pasts s k cpu stage f e whole) (record { online = o.online; keys = o.keys; sites = o.sites })
      (stop_args core a p pasts s k o args all cpu stage f e whole)
      (kept_pasts pasts seen k.keeps.pasts_are (stop_below core a p pasts s k cpu stage f e whole)
      (stop_typed core a p pasts s k o args all cpu stage f e whole) all))

  pub replay_tells : (position : ℕ) (commands : List Turned) (core : CoreValue) (a : CallState) (p : StopState) (pasts : List Past) (s : StateValue)
      → StandsAll core a p pasts s → IsOfCore u core → ArgsOfCore core → PastsFit pasts → AllByRecursion FitsCpus commands
      → AllByRecursion ArgFits commands → TellsFit pasts (replay_from position core commands)
  replay_tells position [] core a p pasts s k o args all fits arg = tt
  replay_tells position (turned.Start cpu c ∷ rest) core a p pasts s k o args all fits arg =
      started_tells position rest (λ core' a' p' pasts' s' k' o' args' all'. replay_tells
      (position + 1) rest core' a' p' pasts' s' k' o' args' all' fits.1 arg.1)
      core a p pasts s k o args all cpu c fits.0.0 fits.0.1 arg.0 (refusal_of core cpu c) refl
  replay_tells position (turned.Step cpu ∷ rest) core a p pasts s k o args all fits arg =
      stepped_tells position rest (λ core' a' p' pasts' s' k' o' args' all'. replay_tells
      (position + 1) rest core' a' p' pasts' s' k' o' args' all' fits.1 arg.1)
      core a p pasts s k o args all cpu (control_of core.controls cpu).stage (stop_control_of core.stops.controls cpu).stage refl refl
