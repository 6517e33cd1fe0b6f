-- The steps of handle are accepted.
use Rattle.trace_laws.proofs.Names.{Bool, List, None, Option, Some, StateValue, [], arith, cpu_at, false, lt-ltb, refl, subst, true, ℕ, ◌+◌}
use Rattle.trace_laws.proofs.Names.{◌-◌, ◌<◌, ◌≡◌}
use Rattle.trace_laws.proofs.ReplayNames.{BegunIs, Call, CallState, ControlValue, Flags, Follows, Handle, HandleStage, Intr, IsPlaced, Nothing}
use Rattle.trace_laws.proofs.ReplayNames.{Past, Running, Shows, Walk, Word, accepts, cpus, ends_front, holds_nothing, link_to, of_intr, past_at, records}
use Rattle.trace_laws.proofs.ReplayNames.{stands_at, walks_front}
use Rattle.smp_words.specs.declared.seen.Act.TheVariants as act
use Rattle.smp_call_steps.proofs.State.Walks.{ends_async, same_record, walks_rest, walks_sync}
use Rattle.smp_call_steps.specs.declared.handle.HandleStage.TheVariants as handle
use Rattle.smp_call_steps.specs.declared.place.RecPlace.TheVariants as machine
use Rattle.smp_call_steps.specs.{Words.bit}
use Rattle.trace_laws.proofs.ReplayCalls.StepEvents.{Reaches, accepts_told, begins_async_told, begins_sync_told, by, ends_async_told, ends_sync_told, id_told}
use Rattle.trace_laws.proofs.ReplayCalls.StepEvents.{idles_told, loads, rests_told, still, takes_told, unlocks_told}
use Rattle.trace_laws.proofs.{ReplayCalls.PostSteps.Accepted, ReplayCalls.PostSteps.links_quiet}

module _ (online : ℕ) (a : CallState) (at : Word → ℕ) (control : ℕ → ControlValue) (shown : Shows a at control) (me : ℕ) (below : me < cpus)
    (pasts : List Past)
    (s : StateValue) (f : Follows online a s) (on : (cpu_at s me).irq ≡ true) (begun : BegunIs (a.running me) (past_at pasts me)) where
  abbrev Made : HandleStage → Type 0
  Made stage = Accepted online a at control shown me below pasts s f (Handle stage)

  abbrev At : HandleStage → Type 0
  At stage = (control me).stage ≡ Some (Handle stage)

  abbrev In : Call → Type 0
  In call = IsPlaced a.place (machine.Batch me) call

  -- an interrupt is taken where one is pending
  takes_interrupt : (pending : Bool) (n : ℕ) → a.pending me ≡ pending → n ≡ bit pending → a.running me ≡ Nothing → a.batch me ≡ [] → a.accepted me ≡ false
      → Reaches online (accepts a me) s (by me (of_intr me act.Swap
      (record { cpu = me; act = act.Swap; word = Intr me; found = Some n; put = Some 0; note = None })))
  takes_interrupt pending n e is r b x = search (accepts_told, rests_told, idles_told, arith)

  -- a call that has returned is the one that the CPU last began
  begun_is : (r : Running) → a.running me ≡ r → BegunIs r (past_at pasts me)
  begun_is r e = subst (λ (x : Running). BegunIs x (past_at pasts me)) e begun

  -- a record of the batch is one that there is
  loads_flags : (walk : Walk) (id : ℕ) (next : Option ℕ) → At (handle.LoadFlags walk id next) → id < records
  loads_flags walk id next e =
      let k = stands_at me shown (handle.LoadFlags walk id next) e in
      subst (λ (n : ℕ). n < records) (same_record id k.1.0 k.1.2.leads_on.0) (walks_rest In k.1.2 (shown.placed.batched me)).0.is_call.in_range

  sync_begins : (walk : Walk) (call : Call) (next : Option ℕ) → At (handle.BeginSync walk call next) → Made (handle.BeginSync walk call next)
  sync_begins walk call next e =
      let k = stands_at me shown (handle.BeginSync walk call next) e in
      let all = walks_front In k.1.1 (shown.placed.batched me) in
      let two : (call.id + 2) - 2 ≡ call.id = omega arith in
      let l = all.0.is_call.in_range in
      rw (two, id_told call.id l, lt-ltb 1 (call.id + 2) (omega arith), k.1.1.batch)
      (begins_sync_told online a s f me below call _ k.1.1.batch k.1.1.running_is (walks_sync k.1.1) all.0.placed l on)

  async_begins : (call : Call) (next : Option ℕ) → At (handle.BeginAsync call next) → Made (handle.BeginAsync call next)
  async_begins call next e =
      let k = stands_at me shown (handle.BeginAsync call next) e in
      let all = ends_front In k.1.1 (shown.placed.batched me) in
      let l = all.0.is_call.in_range in
      rw (id_told call.id l, holds_nothing me shown (handle.BeginAsync call next) e, k.1.1.running_is, k.1.1.batch)
      (begins_async_told online a s f me below call _ k.1.1.batch k.1.1.running_is (ends_async k.1.1) all.0.placed l on)

  sync_ends : (walk : Walk) (call : Call) (next : Option ℕ) → At (handle.CountSync walk call next) → Made (handle.CountSync walk call next)
  sync_ends walk call next h1 = search (stands_at, begun_is, ends_sync_told, arith)

  async_ends : (call : Call) (next : Option ℕ) → At (handle.CountAsync call next) → Made (handle.CountAsync call next)
  async_ends call next h1 = search (stands_at, begun_is, ends_async_told, arith)

  sync_unlocks : (walk : Walk) (call : Call) (next : Option ℕ) → At (handle.EndSync walk call next) → Made (handle.EndSync walk call next)
  sync_unlocks walk call next h1 = search (stands_at, id_told, holds_nothing, unlocks_told, arith)

  pub handles_step : (stage : HandleStage) → At stage → Made stage
  handles_step handle.Accept e =
      let k = stands_at me shown handle.Accept e in
      takes_interrupt (a.pending me) (at (Intr me)) refl (shown.noticed.words me) k.1.running k.1.batch k.1.accepted
  handles_step handle.Take e =
      let k = stands_at me shown handle.Take e in takes_told online a s f me below shown.placed k.1.2 k.1.0 k.1.1 on
  handles_step (handle.ReverseStore newer id older) e = links_quiet online a s f me (link_to newer) (a.held me)
  handles_step (handle.LoadFlags walk id next) e =
      loads online a s f me below id (at (Flags id)) (a.place id) refl (shown.written.locks id) (λ _. loads_flags walk id next e)
  handles_step (handle.Unlink walk last call next) e = links_quiet online a s f me (link_to next) (a.held me)
  handles_step (handle.BeginSync walk call next) e = sync_begins walk call next e
  handles_step (handle.CountSync walk call next) e = sync_ends walk call next e
  handles_step (handle.EndSync walk call next) e = sync_unlocks walk call next e
  handles_step (handle.BeginAsync call next) e = async_begins call next e
  handles_step (handle.CountAsync call next) e = async_ends call next e
  handles_step _ e = still online a s f
