-- A CPU that enters handle, takes its queue, and leaves.
use Rattle.std.proofs.Common.{◌≡◌, ℕ, ◌<◌, Option, Some, None, List, [], ◌∷◌, ◌++◌, length, sym, refl, ap, ◌∙◌, subst}
use Rattle.atomic_table.specs.Seated.{TableId}
use Rattle.smp_words.specs.Size.{cpus}
use Rattle.smp_queue.specs.{Call, Intr, Hand, Store, Swap, KnownCalls, CallSetting, HandleStage, Handle, CpuValue, cpu_of}
use Rattle.smp_queue.specs.{SeatValue, Ready, InHandle, IsOutside}
use Rattle.smp_queue.specs.Serving.{IsAt, takes}
use Rattle.smp_queue.specs.declared.run.Place.{Place}
use Rattle.smp_call_steps.specs.Words.{last_batch}
use Rattle.smp_call_steps.specs.Drains.{first_on}
use Rattle.smp_call_steps.specs.Threads.Parts.{part_taken}
use Rattle.smp_call_steps.specs.Threads.Known.{known_told, Lives}
use Rattle.smp_call_steps.specs.Threads.Handling.{handling, taken_known, IsLeaving}
use Rattle.smp_call_steps.proofs.Knows.Handling.{lives_stands, entered_is}
use Rattle.smp_call_steps.proofs.Steps.Taking.{last_batch-push}
use Rattle.smp_queue.proofs.TheRule.Cells.{has_cell}
use Rattle.smp_queue.proofs.Handling.Handles.{in_handle_ready, in_handle_then}
use Rattle.smp_queue.specs.act
use Rattle.smp_queue.specs.handle

module _ (t : TableId) (d d' : SeatValue) (number : ℕ) where
  pub enter_ready : {k : CallSetting} → IsOutside t d number → Ready t k d (Store (Hand number) 1)
  enter_ready o = record {
    table_is = o.table_is;
    sized = o.sized;
    can =
        record {
          stage = Handle handle.Enter;
          aims = (o.stage_is, subst (λ (n : ℕ). n < cpus) (sym o.number_is) o.below);
          is_access = ap (λ (n : ℕ). Store (Hand n) 1) o.number_is;
        };
    apart = tt;
    reaches = tt;
    cell = has_cell (Hand number) o.below;
  }

  module _ (o : IsOutside t d number) (table : d'.table ≡ t) (lives : Lives d'.known)
      (known : d'.known ≡ known_told d.known act.Store (Hand number) None (Some 1)) where
    pub entered_known : d'.known ≡ handling handle.Accept d.known.drain d.known
    entered_known = known ∙ entered_is d.known number o.stage_is

    pub entered : InHandle t d' handle.Accept
    entered = in_handle_then t d' handle.Accept (handling handle.Accept d.known.drain d.known) o.sized table lives entered_known refl

    pub accept_ready : {k : CallSetting} → Ready t k d' (Swap (Intr number) 0)
    accept_ready = in_handle_ready entered (Swap (Intr number) 0) tt
        (ap (λ (n : ℕ). Swap (Intr n) 0) (ap (λ (u : KnownCalls). u.number) entered_known ∙ o.number_is))

  pub leave_ready : {k : CallSetting} (stage : HandleStage) → InHandle t d stage → IsLeaving stage → d.known.number ≡ number
      → Ready t k d (Store (Hand number) 0)
  leave_ready handle.LeaveIdle h l e = in_handle_ready h (Store (Hand number) 0) tt (ap (λ (n : ℕ). Store (Hand n) 0) e)
  leave_ready handle.Leave h l e = in_handle_ready h (Store (Hand number) 0) tt (ap (λ (n : ℕ). Store (Hand n) 0) e)
  leave_ready _ h l e = absurd l

-- a batch that was reversed has as many calls as its drain has counted
counted_at : {t : TableId} {d : SeatValue} (oldest : Option ℕ) → InHandle t d (first_on (record { first = oldest; last = None }) oldest)
    → d.known.drain.calls ≡ length (last_batch d.known.part.taken)
counted_at None h = let k = lives_stands h.lives handle.Leave h.stage_is in k.1
counted_at (Some id) h = let k = lives_stands h.lives (handle.LoadNext (record { first = Some id; last = None }) id) h.stage_is in k.2.counted

-- a CPU has taken its queue and reversed it, and has gone on to its first call
pub has_taken_batch : (t : TableId) (s1 s2 s3 s4 : SeatValue) (queue : List Call) (newest oldest : Option ℕ) (first : Option Place)
    → InHandle t s1 handle.Take → s2.table ≡ t → s2.known ≡ taken_known queue newest s1.known
    → InHandle t s3 (first_on (record { first = oldest; last = None }) oldest)
    → s3.known ≡ record (s2.known) { stage = s3.known.stage; drain = s3.known.drain } → IsAt t (cpu_of s3) s4 first
    → (s3.known.drain.calls ≡ length queue) × IsAt t (takes queue (cpu_of s1)) s4 first
has_taken_batch t s1 s2 s3 s4 queue newest oldest first h1 t2 k2 h3 k3 at =
    let c2 : cpu_of s2 ≡ record (cpu_of s1) { part = part_taken queue s1.known.part } =
    λ i. cpu_of (record { table = (t2 ∙ sym h1.table_is) i; known = k2 i }) in
    let c3 : cpu_of s3 ≡ cpu_of s2 = λ i. cpu_of (record { table = (h3.table_is ∙ sym t2) i; known = k3 i }) in
    let taking = lives_stands h1.lives handle.Take h1.stage_is in
    let c : cpu_of s3 ≡ takes queue (cpu_of s1) =
    c3 ∙ (c2 ∙ (λ i. record (cpu_of s1) { part = record (part_taken queue s1.known.part) { running = taking.1 i } })) in
    let taken : s3.known.part.taken ≡ s1.known.part.taken ++ queue ∷ [] = ap (λ (v : CpuValue). v.part.taken) (c3 ∙ c2) in (
      counted_at oldest h3 ∙ ap length (ap last_batch taken ∙ last_batch-push s1.known.part.taken queue),
      subst (λ (x : CpuValue). IsAt t x s4 first) c at,
    )
