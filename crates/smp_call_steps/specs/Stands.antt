-- What holds of a CPU at each stage.
use Rattle.std.specs.Prelude.{◌≡◌, ◌≢◌, ℕ, ◌+◌, ◌<◌, Bool, true, false, Option, Some, None, List, [], ◌∷◌, ◌++◌, length}
use Rattle.std.specs.List.{AllByRecursion}
use Rattle.smp_words.specs.Size.{cpus, records, owner}
use Rattle.smp_words.specs.Flags.{flags_of}
use Rattle.smp_call_steps.specs.Order.{sync_calls, async_calls, order}
use Rattle.smp_call_steps.specs.Calls.{CallState, Holding, Running, Nothing, SyncCall, CountedCall, AsyncCall}
use Rattle.smp_call_steps.specs.Drains.{DrainValue, link_to}
use Rattle.smp_call_steps.specs.Stages.{ControlValue}
use Rattle.smp_call_steps.specs.Words.{Leads, Path, last_batch, IsWritten, flags_in, funcs_in, infos_in, nexts_in}
use Rattle.smp_call_steps.specs.Places.{IsApart, IsCall}
use Rattle.smp_call_steps.specs.Names.{Call, Sync, Async, Word, Flags, Func, Next, RecPlace, Posting, PostStage, Walk, HandleStage, Stage, Send, Done, Post}
use Rattle.smp_call_steps.specs.Names.{Handle}
use Rattle.smp_call_steps.specs.Names.place
use Rattle.smp_call_steps.specs.Names.post
use Rattle.smp_call_steps.specs.Names.handle

-- what a post has stored of its call, and whether it is counted
abbrev pub holding : Posting → ℕ → ℕ → ℕ → Bool → Holding
holding p func info to counted = record { call = record { id = p.id; class = p.class; func = func; info = info }; to = to; is_counted = counted }

abbrev pub held_of_post : Posting → PostStage → Option Holding
held_of_post p post.LoadFlags = None
held_of_post p post.Lock = None
held_of_post p post.StoreFunc = Some (holding p 0 0 0 false)
held_of_post p post.StoreInfo = Some (holding p p.func 0 0 false)
held_of_post p post.Count = Some (holding p p.func p.info 0 false)
held_of_post p post.LoadHead = Some (holding p p.func p.info p.to true)
held_of_post p (post.StoreNext link tries) = Some (holding p p.func p.info p.to true)
held_of_post p (post.Exchange link tries) = Some (holding p p.func p.info p.to true)
held_of_post p post.Uncount = Some (holding p p.func p.info p.to true)
held_of_post p post.Release = Some (holding p p.func p.info p.to false)

-- the call that a CPU holds at this stage
abbrev pub held_of : Option Stage → Option Holding
held_of (Some (Post p stage)) = held_of_post p stage
held_of _ = None

-- the call that a post is queueing
abbrev pub posted : Posting → Call
posted p = record { id = p.id; class = p.class; func = p.func; info = p.info }

-- what a post knows of its record's words
abbrev pub PostKnows : (ℕ → RecPlace) → (Word → ℕ) → Posting → PostStage → Type 0
PostKnows places at p post.LoadFlags = Unit {0}
PostKnows places at p post.Lock = places p.id ≡ place.Free
PostKnows places at p post.StoreFunc = (places p.id ≡ place.Held) × (at (Flags p.id) ≡ flags_of p.class)
PostKnows places at p post.StoreInfo = (places p.id ≡ place.Held) × (at (Flags p.id) ≡ flags_of p.class) × (at (Func p.id) ≡ p.func)
PostKnows places at p (post.Exchange link tries) =
    (places p.id ≡ place.Held) × (IsWritten (flags_in at) (funcs_in at) (infos_in at) (posted p)) × (at (Next p.id) ≡ link)
PostKnows places at p _ = (places p.id ≡ place.Held) × (IsWritten (flags_in at) (funcs_in at) (infos_in at) (posted p))

-- where the call goes, once that is known to be a CPU
abbrev pub PostGoes : Posting → PostStage → Type 0
PostGoes p post.LoadFlags = p.is_online ≡ true → p.to < cpus
PostGoes p _ = p.to < cpus

pub record PostStands (places : ℕ → RecPlace) (at : Word → ℕ) (me : ℕ) (p : Posting) (stage : PostStage) : Type 0 where
  pub owned : owner p.id ≡ me
  pub is_call : IsCall (posted p)
  pub me_in_range : me < cpus
  pub goes : PostGoes p stage
  pub knows : PostKnows places at p stage

-- what is a CPU's own of the drain: the batch that it took last, what is left of it, the call that it runs, whether it has accepted
pub record Share : Type 0 where
  pub last : List Call
  pub batch : List Call
  pub running : Running
  pub accepted : Bool

abbrev pub share_of : CallState → ℕ → Share
share_of a cpu = record { last = last_batch (a.taken cpu); batch = a.batch cpu; running = a.running cpu; accepted = a.accepted cpu }

-- nothing is taken, and nothing runs
pub record Rests (s : Share) : Type 0 where
  pub batch : s.batch ≡ []
  pub running : s.running ≡ Nothing
  pub accepted : s.accepted ≡ false

abbrev pub IsAsync : Call → Type 0
IsAsync call = call.class ≡ Async

-- The chain of the batch is being reversed, and this call is next: the link to what is older leads down as it did in
-- the queue, and the link to what is newer leads up, from the oldest of it to the newest.
pub record Reverses (nexts : ℕ → ℕ) (s : Share) (d : DrainValue) (up down : ℕ) (call : Call) : Type 0 where
  pub older : List Call
  pub newer : List Call
  pub whole : s.last ≡ older ++ call ∷ newer
  pub leads_down : Leads nexts down older 0
  pub leads_up : Path nexts up newer 0
  pub apart : IsApart s.last
  pub counted : d.calls ≡ length newer
  pub batch : s.batch ≡ order s.last
  pub running : s.running ≡ Nothing
  pub accepted : s.accepted ≡ false

-- these calls end with this record, and are none where there is none
abbrev pub EndsAt : Option ℕ → List Call → Type 0
EndsAt None calls = calls ≡ []
EndsAt (Some id) calls = (front : List Call) × (newest : Call) × (calls ≡ front ++ newest ∷ []) × (newest.id ≡ id)

-- The first pass: the rest of the batch is ahead, from this link on. Of what it has passed, the ASYNC calls are left in
-- the chain, and they lead to what is ahead; the SYNC calls have left it, and have begun but for the front ones.
pub record Walks (nexts : ℕ → ℕ) (s : Share) (d : DrainValue) (walk : Walk) (here : ℕ) (front rest : List Call) (running : Running) : Type 0 where
  pub passed : List Call
  pub begun : List Call
  pub whole : s.last ≡ passed ++ rest
  pub begun_are : sync_calls passed ≡ begun ++ front
  pub leads_here : Path nexts (link_to walk.first) (async_calls passed) here
  pub ends_at : EndsAt walk.last (async_calls passed)
  pub leads_on : Path nexts here rest 0
  pub apart : IsApart s.last
  pub counted : d.calls ≡ length s.last
  pub batch : s.batch ≡ front ++ (sync_calls rest ++ async_calls s.last)
  pub running_is : s.running ≡ running
  pub accepted : s.accepted ≡ false

-- The second pass: the ASYNC calls of the batch have begun, but for the front ones and the rest, which is ahead, from
-- this link on.
pub record Ends (nexts : ℕ → ℕ) (s : Share) (d : DrainValue) (here : ℕ) (front rest : List Call) (running : Running) : Type 0 where
  pub begun : List Call
  pub whole : async_calls s.last ≡ begun ++ (front ++ rest)
  pub leads_on : Path nexts here rest 0
  pub apart : IsApart s.last
  pub asyncs : AllByRecursion IsAsync rest
  pub counted : d.calls ≡ length s.last
  pub batch : s.batch ≡ front ++ rest
  pub running_is : s.running ≡ running
  pub accepted : s.accepted ≡ false

-- what holds inside handle
abbrev pub HandleStands : (ℕ → ℕ) → Share → DrainValue → HandleStage → Type 0
HandleStands nexts s d handle.Enter = Rests s
HandleStands nexts s d handle.Accept = Rests s
HandleStands nexts s d handle.LeaveIdle = Rests s
HandleStands nexts s d handle.Take = (s.batch ≡ []) × (s.running ≡ Nothing) × (s.accepted ≡ true)
HandleStands nexts s d (handle.ReverseLoad newer id) = (call : Call) × Reverses nexts s d (link_to newer) (nexts id) call × (call.id ≡ id)
HandleStands nexts s d (handle.ReverseStore newer id older) =
    (call : Call) × Reverses nexts s d (link_to newer) (link_to older) call × (call.id ≡ id) × (nexts id ≡ link_to older)
HandleStands nexts s d (handle.LoadNext walk id) = (call : Call) × (rest : List Call) × Walks nexts s d walk (id + 1) [] (call ∷ rest) Nothing
HandleStands nexts s d (handle.LoadFlags walk id next) =
    (call : Call) × (rest : List Call) × Walks nexts s d walk (id + 1) [] (call ∷ rest) Nothing × (nexts id ≡ link_to next)
HandleStands nexts s d (handle.LoadFunc walk id next) =
    (call : Call) × (rest : List Call) × Walks nexts s d walk (id + 1) [] (call ∷ rest) Nothing × (nexts id ≡ link_to next) × (call.class ≡ Sync)
HandleStands nexts s d (handle.LoadInfo walk id next func) =
    (call : Call) × (rest : List Call) × Walks nexts s d walk (id + 1) [] (call ∷ rest) Nothing ×
    (nexts id ≡ link_to next) × (call.class ≡ Sync) × (call.func ≡ func)
HandleStands nexts s d (handle.Unlink walk last call next) =
    (rest : List Call) × Walks nexts s d walk (call.id + 1) [] (call ∷ rest) Nothing ×
    (nexts call.id ≡ link_to next) × (call.class ≡ Sync) × (walk.last ≡ Some last)
HandleStands nexts s d (handle.BeginSync walk call next) =
    (rest : List Call) × Walks nexts s d walk (link_to next) (call ∷ []) rest Nothing × (nexts call.id ≡ link_to next)
HandleStands nexts s d (handle.CountSync walk call next) = (rest : List Call) × Walks nexts s d walk (link_to next) [] rest (SyncCall call)
    × (call.class ≡ Sync)
HandleStands nexts s d (handle.EndSync walk call next) = (rest : List Call) × Walks nexts s d walk (link_to next) [] rest (CountedCall call)
    × (call.class ≡ Sync)
HandleStands nexts s d (handle.AsyncNext id) = (call : Call) × (rest : List Call) × Ends nexts s d (id + 1) [] (call ∷ rest) Nothing
HandleStands nexts s d (handle.AsyncFunc id next) =
    (call : Call) × (rest : List Call) × Ends nexts s d (id + 1) [] (call ∷ rest) Nothing × (nexts id ≡ link_to next)
HandleStands nexts s d (handle.AsyncInfo id next func) =
    (call : Call) × (rest : List Call) × Ends nexts s d (id + 1) [] (call ∷ rest) Nothing × (nexts id ≡ link_to next) × (call.func ≡ func)
HandleStands nexts s d (handle.BeginAsync call next) =
    (rest : List Call) × Ends nexts s d (link_to next) (call ∷ []) rest Nothing × (nexts call.id ≡ link_to next)
HandleStands nexts s d (handle.CountAsync call next) = (rest : List Call) × Ends nexts s d (link_to next) [] rest (AsyncCall call) × IsCall call
    × (call.class ≡ Async)
HandleStands nexts s d handle.Leave = Rests s × (d.calls ≡ length s.last)

-- what holds of a CPU at this stage, and outside
abbrev pub StandsAt : (ℕ → RecPlace) → (Word → ℕ) → Share → DrainValue → ℕ → Option Stage → Type 0
StandsAt places at s d me None = Rests s
StandsAt places at s d me (Some (Send to)) = Rests s × (to < cpus) × (me < cpus)
StandsAt places at s d me (Some (Done id)) = Rests s × (owner id ≡ me) × (id < records)
StandsAt places at s d me (Some (Post p stage)) = Rests s × PostStands places at me p stage
StandsAt places at s d me (Some (Handle stage)) = (me < cpus) × HandleStands (nexts_in at) s d stage

abbrev pub CallStands : (ℕ → RecPlace) → (Word → ℕ) → Share → ℕ → ControlValue → Type 0
CallStands places at s me c = StandsAt places at s c.drain me c.stage

-- the handling word: 0 exactly outside handle, and the record of a running SYNC call + 2
abbrev pub HandIs : Option Stage → ℕ → Type 0
HandIs (Some (Handle handle.Enter)) hand = hand ≡ 0
HandIs (Some (Handle (handle.CountSync walk call next))) hand = hand ≡ call.id + 2
HandIs (Some (Handle (handle.EndSync walk call next))) hand = hand ≡ call.id + 2
HandIs (Some (Handle _)) hand = hand ≢ 0
HandIs _ hand = hand ≡ 0
