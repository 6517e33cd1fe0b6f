-- A CPU inside handle, between two calls and while one is out.
use Rattle.std.proofs.Common.{◌≡◌, ℕ, ◌+◌, ◌%◌, ◌^◌, true, Option, Some, None, List, length, sym, refl, ap, ◌∙◌, subst}
use Rattle.std.specs.List.{AllByRecursion}
use Rattle.atomic_table.specs.Seated.{TableId}
use Rattle.smp_mask.specs.Mask.{has}
use Rattle.smp_words.specs.Flags.{flags_of}
use Rattle.smp_call_steps.specs.declared.known.Running.{Running}
use Rattle.smp_call_steps.specs.declared.known.Running.TheVariants.{SyncCall}
use Rattle.smp_call_steps.specs.Drains.{first_on}
use Rattle.smp_call_steps.specs.Threads.Handling.{ended_call, begun_sync, begun_async, runs_next}
use Rattle.smp_call_steps.specs.Histories.{sent_to, calls_from}
use Rattle.smp_call_steps.specs.Places.{locked_by}
use Rattle.smp_call_steps.specs.Words.{IsWrittenIn}
use Rattle.smp_queue.specs.{Call, Class, Sync, Async, Hand, Flags, KnownCalls, CallSetting, Walk, HandleStage, Handle}
use Rattle.smp_queue.specs.{SeatInvariant, SeatValue, InHandle, CpuValue, cpu_of}
use Rattle.smp_queue.specs.{IsKept, AreRan, CallPart}
use Rattle.smp_queue.specs.handle
use Rattle.smp_queue.specs.Serving.{ShowsOut, IsOut, Gives, IsAt, IsKeptInside, IsServing, StandsNow, running_by, begins_at, gives, serves, ends}
use Rattle.smp_queue.specs.declared.run.Pass.TheVariants.{First, Second}
use Rattle.smp_queue.specs.declared.run.Place.{Place}

-- between two records of its first pass
pub record Passing (t : TableId) (before d : SeatValue) (walk : Walk) (here : Option ℕ) : Type 0 where
  pub at : InHandle t d (first_on walk here)
  pub known_is : d.known ≡ record (before.known) { stage = d.known.stage }

-- a CPU at a call that is to begin, or outside
module _ (t : TableId) (c : CpuValue) (d : SeatValue) where
  pub at_cpu : (found : Option Place) → IsAt t c d found → cpu_of d ≡ c
  at_cpu (Some p) h = h.1
  at_cpu None h = h.4

  pub at_own : (found : Option Place) → IsAt t c d found → IsAt t (cpu_of d) d found
  at_own found h = subst (λ (x : CpuValue). IsAt t x d found) (sym (at_cpu found h)) h

  pub at_stands : (found : Option Place) → IsAt t c d found → StandsNow t d found
  at_stands (Some p) h = h.0
  at_stands None h = (h.2, ap (λ (x : CpuValue). x.part.batch) h.4 ∙ h.3)

-- the counts, after steps that run no call
pub ran_still : (counts : List ℕ) (v w : KnownCalls) → AreRan counts v → w.part.ran ≡ v.part.ran → AreRan counts w
ran_still counts v w a e = record { sized = a.sized; are = λ source low. a.are source low ∙ ap (λ xs. length (calls_from source xs) % 2 ^ 64) (sym e) }

-- what a CPU keeps inside handle, from outside
pub kept_inside : (v : KnownCalls) (number : ℕ) (queued ran : List ℕ) → IsKept v number queued ran → IsKeptInside v number queued ran
kept_inside v number queued ran k = record {
  number_is = k.number_is;
  below = k.below;
  online = k.online;
  records_sized = k.records_sized;
  queued_sized = k.queued_sized;
  queued_are = k.queued_are;
  ran_are = record { sized = k.ran_sized; are = k.ran_are };
}

-- what it keeps, after steps that change none of that, as contracts see it
pub kept_by : (v : KnownCalls) (d : SeatValue) (c : CpuValue) (number : ℕ) (queued ran ran' : List ℕ) → IsKeptInside v number queued ran → cpu_of d ≡ c
    → c.number ≡ v.number → c.setting ≡ v.setting → c.part.confirmed ≡ v.part.confirmed → c.part.sent ≡ v.part.sent → AreRan ran' d.known
    → IsKeptInside d.known number queued ran'
kept_by v d c number queued ran ran' k e n s f t a = record {
  number_is = ap (λ (x : CpuValue). x.number) e ∙ (n ∙ k.number_is);
  below = k.below;
  online = subst (λ (x : CallSetting). has x.online number ≡ true) (sym (ap (λ (x : CpuValue). x.setting) e ∙ s)) k.online;
  records_sized = ap length (ap (λ (x : CpuValue). x.part.confirmed) e ∙ f) ∙ k.records_sized;
  queued_sized = k.queued_sized;
  queued_are = λ to low. k.queued_are to low ∙ ap (λ xs. length (sent_to to xs) % 2 ^ 64) (sym (ap (λ (x : CpuValue). x.part.sent) e ∙ t));
  ran_are = a;
}

-- a call that has begun, as its class has it

pub begun_as_sync : (walk : Walk) (call : Call) (next : Option ℕ) (v : KnownCalls) → call.class ≡ Sync
    → begun_sync walk call next v ≡ gives (record { pass = First walk; call = call; next = next }) v
begun_as_sync walk call next v e =
    ap (λ (k : Class). record v { stage = Some (Handle (handle.CountSync walk call next)); part = runs_next (running_by k call) v.part }) (sym e)

pub begun_as_async : (call : Call) (next : Option ℕ) (v : KnownCalls) → call.class ≡ Async
    → begun_async call next v ≡ gives (record { pass = Second; call = call; next = next }) v
begun_as_async call next v e =
    ap (λ (k : Class). record v { stage = Some (Handle (handle.CountAsync call next)); part = runs_next (running_by k call) v.part }) (sym e)

-- the words of a call that is out

out_by : (class : Class) (v : KnownCalls) (call : Call) (s : SeatInvariant v) → call.class ≡ class → ShowsOut class s.lives.at v.number call → IsOut v call
out_by class v call s e h = (s, subst (λ (k : Class). ShowsOut k s.lives.at v.number call) (sym e) h)

pub sync_out : (v : KnownCalls) (call : Call) (number : ℕ) (s : SeatInvariant v) → call.class ≡ Sync → v.number ≡ number → v.part.running ≡ SyncCall call
    → s.lives.at (Hand number) ≡ call.id + 2 → IsOut v call
sync_out v call number s e n r named =
    let l = s.lives in
    let same : l.calls.running v.number ≡ SyncCall call = ap (λ (p : CallPart). p.running) l.sees.part ∙ r in
    let written = subst (λ (x : Running). AllByRecursion (IsWrittenIn l.at) (locked_by x)) same (l.shown.written.runs v.number) in
    let flags = written.0.flags_are ∙ ap flags_of e in
    out_by Sync v call s e (ap (λ (k : ℕ). k % 2) flags, ap (λ (k : ℕ). l.at (Hand k)) n ∙ named)

pub async_out : (v : KnownCalls) (call : Call) (s : SeatInvariant v) → call.class ≡ Async → s.lives.at (Flags call.id) ≡ 0 → IsOut v call
async_out v call s e free = out_by Async v call s e free

-- a CPU whose call is out, as contracts see it
pub given_is : (t : TableId) (d d' : SeatValue) (p : Place) → d.table ≡ t → Gives t d d' p → cpu_of d' ≡ serves p.call d'.known.part.batch (cpu_of d)
given_is t d d' p e g =
    (λ i. cpu_of (record { table = (g.at.table_is ∙ sym e) i; known = g.known i }))
    ∙ ap (λ (rest : List Call). serves p.call rest (cpu_of d)) (sym (ap (λ (u : KnownCalls). u.part.batch) g.known))

pub serves_now : (t : TableId) (d d' : SeatValue) (p : Place) (number : ℕ) (queued ran : List ℕ) → d.table ≡ t → IsKeptInside d.known number queued ran
    → Gives t d d' p → IsServing d'.known number queued ran p
serves_now t d d' p number queued ran e k g = record {
  kept = kept_by d.known d' (serves p.call d'.known.part.batch (cpu_of d)) number queued ran ran k (given_is t d d' p e g) refl refl refl refl
      (ran_still ran d.known d'.known k.ran_are (ap (λ (u : KnownCalls). u.part.ran) g.known));
  stage_is = g.at.stage_is;
  running_is = ap (λ (u : KnownCalls). u.part.running) g.known;
  in_range = g.in_range;
  out = g.out;
}

-- a CPU whose call has ended
pub ended_is : (d d' : SeatValue) (stage : HandleStage) (call : Call) → d'.table ≡ d.table → d'.known ≡ ended_call stage call d.known
    → cpu_of d' ≡ ends call (cpu_of d)
ended_is d d' stage call t k = λ i. cpu_of (record { table = t i; known = k i })
