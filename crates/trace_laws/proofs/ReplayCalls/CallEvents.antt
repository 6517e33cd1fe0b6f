-- What events of calls make of a state that leaves nothing out, where their premises hold.
use Rattle.trace_laws.proofs.Names.{Async, Batch, Bool, Call, Class, CpuState, Current, Ended, Free, List, None, Ok, Option, Reason, Run, StateValue, Sync}
use Rattle.trace_laws.proofs.Names.{Unlocked, [], accept_by, accepted, and_right, ap, arith, at_call, begin_by, begun, counted, cpu_at, end_by, ended, eq-eqb}
use Rattle.trace_laws.proofs.Names.{false, freed, handles_nothing, has, idle_by, interrupted, joined, left_batch, length, lt-ltb, may_take, moved, ne_eqb}
use Rattle.trace_laws.proofs.Names.{place_at, queue_by, refl, send_by, sent, take_by, taken, true, unlock_by, unlocked, with_cpu, with_place, ℕ, ◌<◌, ◌∷◌, ◌≡◌}
use Rattle.trace_laws.proofs.Names.{◌≢◌}
use Rattle.trace_laws.proofs.ReplayNames.{Runs, Without, cpus, nothing_left_out}
use Rattle.trace_laws.proofs.ReplayCalls.ChangedStates.{cpu_here}

-- a CPU that handles nothing
pub record Rests (c : CpuState) : Type 0 where
  pub current : c.current ≡ None
  pub batch : c.batch ≡ []
  pub accepted : c.accepted ≡ false
  pub irq : c.irq ≡ true

-- a CPU with this call at the front of its batch, and none that runs
pub record IsNext (c : CpuState) (x : Call) (xs : List Call) : Type 0 where
  pub current : c.current ≡ None
  pub batch : c.batch ≡ x ∷ xs
  pub irq : c.irq ≡ true

rests_quiet : (c : CpuState) → Rests c → handles_nothing c ≡ Ok tt
rests_quiet c k = rw (k.current, k.batch, k.accepted) refl

may_accept : (c : CpuState) → Rests c → c.pending ≡ true → accepted c ≡ Ok (record c { pending = false; accepted = true })
may_accept c k e = rw (k.irq, rests_quiet c k, e) refl

takes : (c : CpuState) → c.irq ≡ true → c.current ≡ None → c.batch ≡ [] → c.accepted ≡ true → may_take true c ≡ Ok tt
takes c i n b a = rw (i, n, b, a) refl

-- the record of a call at the front of the batch is unlocked
unlocks_front : (x : Call) (xs : List Call) (c : CpuState) (elsewhere : Reason) → IsNext c x xs → x.class ≡ Async
    → unlocked x.id true elsewhere c ≡ Ok (left_batch Unlocked x c)
unlocks_front x xs c elsewhere k a = rw (k.current, k.batch, eq-eqb x.id x.id refl, a) refl

-- and that of a SYNC call that has returned
unlocks_ended : (x : Call) (c : CpuState) (here : Bool) (elsewhere : Reason) → c.current ≡ at_call Ended x
    → unlocked x.id here elsewhere c ≡ Ok (record c { current = None })
unlocks_ended x c here elsewhere k = rw (k, eq-eqb x.id x.id refl) refl

begins_front : (x : Call) (xs : List Call) (c : CpuState) (elsewhere : Reason) → IsNext c x xs → x.class ≡ Sync
    → begun (record { id = x.id; func = x.func; info = x.info }) true elsewhere true c ≡ Ok (left_batch Runs x c)
begins_front x xs c elsewhere k a = search (eq-eqb, arith)

begins_unlocked : (x : Call) (c : CpuState) (here : Bool) (elsewhere : Reason) → c.irq ≡ true → c.current ≡ at_call Unlocked x
    → begun (record { id = x.id; func = x.func; info = x.info }) here elsewhere true c ≡ Ok (record c { current = at_call Runs x })
begins_unlocked x c here elsewhere i k = rw (i, k, eq-eqb x.id x.id refl, eq-eqb x.func x.func refl, eq-eqb x.info x.info refl) refl

-- what becomes of the call that has returned
abbrev pub after : Class → Call → Option Current
after Sync x = at_call Ended x
after Async x = None

ends_running : (x : Call) (class : Class) (c : CpuState) → c.current ≡ at_call Runs x → x.class ≡ class
    → ended x.id true c ≡ Ok (record c { ran = counted x.source c.ran; current = after class x })
ends_running x class c k e = search (eq-eqb, arith)

module _ (s : StateValue) (me : ℕ) (whole : s.setting.without ≡ nothing_left_out) where
  pub accepts : Rests (cpu_at s me) → (cpu_at s me).pending ≡ true
      → accept_by me s ≡ Ok (with_cpu me s (record (cpu_at s me) { pending = false; accepted = true }))
  accepts k e = rw (may_accept (cpu_at s me) k e) refl

  pub idles : Rests (cpu_at s me) → (cpu_at s me).pending ≡ false → idle_by me s ≡ Ok tt
  idles k e = rw (k.irq, rests_quiet (cpu_at s me) k, e) refl

  pub takes_queue : (cpu_at s me).irq ≡ true → (cpu_at s me).current ≡ None → (cpu_at s me).batch ≡ [] → (cpu_at s me).accepted ≡ true
      → take_by me s ≡ Ok (with_cpu me (moved me s) (taken (cpu_at s me)))
  unfolding take_by
  takes_queue i n b a = rw (ap (λ (w : Without). w.interrupts) whole, takes (cpu_at s me) i n b a) refl

  pub sends_to : (to : ℕ) → to < cpus → has s.setting.online to ≡ true
      → let t = with_cpu to s (interrupted (cpu_at s to)) in send_by me to s ≡ Ok (with_cpu me t (sent to (cpu_at t me)))
  unfolding send_by
  sends_to to l e = rw (lt-ltb to 32 (omega (arith, l)), e) refl

  pub sees_free : (id : ℕ) → place_at s id ≡ Free → freed id s ≡ Ok s
  sees_free id e = rw e refl

  pub queues_call : (call : Call) (to : ℕ) → to < cpus → has s.setting.online to ≡ true → to ≢ call.source → place_at s call.id ≡ Free
      → queue_by call to s ≡ Ok (joined call to s)
  unfolding queue_by
  queues_call call to l e ne free = rw (lt-ltb to 32 (omega (arith, l)), e, ne_eqb to call.source ne, sees_free call.id free) refl

  -- an ASYNC call is unlocked, before its function is entered
  pub unlocks_async : (x : Call) (xs : List Call) → IsNext (cpu_at s me) x xs → x.class ≡ Async → place_at s x.id ≡ Batch me
      → unlock_by me x.id s ≡ Ok (with_place x.id Free (with_cpu me s (left_batch Unlocked x (cpu_at s me))))
  unfolding unlock_by
  unlocks_async x xs k a at = rw (at, eq-eqb me me refl, unlocks_front x xs (cpu_at s me) _ k a) refl

  -- a SYNC call is unlocked, after its function has returned
  pub unlocks_sync : (x : Call) → (cpu_at s me).current ≡ at_call Ended x
      → unlock_by me x.id s ≡ Ok (with_place x.id Free (with_cpu me s (record (cpu_at s me) { current = None })))
  unfolding unlock_by
  unlocks_sync x k = rw (unlocks_ended x (cpu_at s me) _ _ k) refl

  pub begins_async : (x : Call) → (cpu_at s me).irq ≡ true → (cpu_at s me).current ≡ at_call Unlocked x
      → begin_by me (record { id = x.id; func = x.func; info = x.info }) s ≡ Ok (with_cpu me s (record (cpu_at s me) { current = at_call Runs x }))
  unfolding begin_by
  begins_async x i k = search (begins_unlocked, arith)

  pub ends_call : (x : Call) (class : Class) → (cpu_at s me).current ≡ at_call Runs x → x.class ≡ class
      → end_by me x.id s ≡ Ok (with_cpu me s (record (cpu_at s me) { ran = counted x.source (cpu_at s me).ran; current = after class x }))
  unfolding end_by
  ends_call x class k e = rw (ap (λ (w : Without). w.unlocks) whole, ends_running x class (cpu_at s me) k e, and_right _ false refl) refl

  -- a SYNC call is entered, and its record stays locked
  pub begins_sync : (x : Call) (xs : List Call) → IsNext (cpu_at s me) x xs → x.class ≡ Sync → place_at s x.id ≡ Batch me → length s.cpus ≡ 512 → me < cpus
      → begin_by me (record { id = x.id; func = x.func; info = x.info }) s ≡ Ok (with_place x.id (Run me) (with_cpu me s (left_batch Runs x (cpu_at s me))))
  unfolding begin_by
  begins_sync x xs k a at l below =
      rw (
        ap (λ (w : Without). w.order) whole,
        ap (λ (w : Without). w.unlocks) whole,
        at,
        eq-eqb me me refl,
        begins_front x xs (cpu_at s me) _ k a,
        k.current,
        cpu_here s me (left_batch Runs x (cpu_at s me)) l below,
        a,
      ) refl
