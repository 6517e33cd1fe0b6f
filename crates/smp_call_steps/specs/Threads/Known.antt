-- What a CPU knows of the calls: where it is, as far as its steps have told, and its own part of the call state.
use Rattle.std.specs.Prelude.{◌≡◌, ◌≢◌, ℕ, ◌+◌, ◌*◌, ◌%◌, ◌^◌, ◌<◌, Bool, true, false, ◌==◌, if◌then◌else◌, Option, Some, None, List, [], ◌∷◌, ◌++◌, length}
use Rattle.std.specs.Prelude.{slice_index_or}
use Rattle.smp_words.specs.Size.{cpus, records, owner}
use Rattle.smp_words.specs.Flags.{class_of}
use Rattle.smp_call_steps.specs.Posts.{post_access}
use Rattle.smp_call_steps.specs.Drains.{DrainValue, no_drain, handle_access, handle_outcome, drain_after, source_at}
use Rattle.smp_call_steps.specs.Stages.{ControlValue}
use Rattle.smp_call_steps.specs.Calls.{CallState, Holding, no_calls, tells}
use Rattle.smp_call_steps.specs.Threads.Parts.{CallPart, part_of, part_confirmed, part_queued, part_after, number_or_zero}
use Rattle.smp_call_steps.specs.Places.{IsCall}
use Rattle.smp_call_steps.specs.Histories.{sent_to, calls_from, one_held, counted_call}
use Rattle.smp_call_steps.specs.Stands.{held_of, held_of_post, posted, PostGoes}
use Rattle.smp_call_steps.specs.Reached.{IsReached}
use Rattle.smp_call_steps.specs.Shows.{Shows}
use Rattle.smp_call_steps.specs.Names.{Call, Class, Word, Head, Intr, Hand, Queued, Flags, Func, Info, Next, Access, Load, Store, Seen, Act, Posting, PostStage}
use Rattle.smp_call_steps.specs.Names.{HandleStage, Stage, Send, Done, Post, Handle, Logged, HeadSeen}
use Rattle.smp_call_steps.specs.Names.act
use Rattle.smp_call_steps.specs.Names.post
use Rattle.smp_call_steps.specs.Names.handle
use Rattle.smp_call_steps.specs.Names.logged
use Rattle.smp_call_steps.specs.Names.head
use Rattle.smp_call_steps.specs.Threads.Heads.{Found, times_lost, heads_with}
use Rattle.smp_call_steps.specs.declared.known.KnownCalls.{KnownCalls}
use Rattle.smp_call_steps.specs.declared.known.CallSetting.{CallSetting}

-- what the steps so far have told of a post: the rest is put as zero
abbrev pub told_so : Posting → ℕ → ℕ → ℕ → Posting
told_so p func info to = record { id = p.id; to = to; is_online = true; class = p.class; func = func; info = info; tries = 0 }

abbrev pub told_post : Posting → PostStage → Option Stage
told_post p post.LoadFlags = None
told_post p post.Lock = None
told_post p post.StoreFunc = Some (Post (told_so p 0 0 0) post.StoreFunc)
told_post p post.StoreInfo = Some (Post (told_so p p.func 0 0) post.StoreInfo)
told_post p post.Count = Some (Post (told_so p p.func p.info 0) post.Count)
told_post p post.LoadHead = Some (Post (told_so p p.func p.info p.to) post.LoadHead)
told_post p (post.StoreNext link tries) = Some (Post (told_so p p.func p.info p.to) post.LoadHead)
told_post p (post.Exchange link tries) = Some (Post (told_so p p.func p.info p.to) (post.Exchange link 0))
told_post p post.Uncount = Some (Post (told_so p p.func p.info p.to) post.LoadHead)
told_post p post.Release = Some (Post (told_so p p.func p.info p.to) post.Release)

abbrev pub told_handle : HandleStage → Option Stage
told_handle handle.Enter = None
told_handle stage = Some (Handle stage)

-- where a CPU is, as far as its steps have told: one that has made no step of its command yet is outside
abbrev pub told_stage : Option Stage → Option Stage
told_stage None = None
told_stage (Some (Send to)) = None
told_stage (Some (Done id)) = None
told_stage (Some (Post p stage)) = told_post p stage
told_stage (Some (Handle stage)) = told_handle stage

-- what a CPU knows of these calls
pub record Sees (a : CallState) (control : ℕ → ControlValue) (v : KnownCalls) : Type 0 where
  pub stage : told_stage (control v.number).stage ≡ v.stage
  pub drain : (control v.number).drain ≡ v.drain
  pub part : part_of a v.number ≡ v.part

-- a CPU that has done nothing yet
abbrev pub fresh : CallSetting → ℕ → KnownCalls
fresh k me = record {
  setting = k;
  number = me;
  stage = None;
  drain = no_drain;
  part = part_of no_calls me;
  tried = 0;
  heads = [];
  log = [];
  direct = [];
  steps = 0;
  sent_at = 0;
  asked_at = 0;
  asked_after = [];
}

-- what follows a step of a post, as the step tells it

abbrev pub stage_of_flags : ℕ → ℕ → Option Stage
stage_of_flags id flags =
    if flags == 0 then None
    else Some (Post (record { id = id; to = 0; is_online = true; class = class_of flags; func = 0; info = 0; tries = 0 }) post.StoreFunc)

abbrev pub stage_of_func : ℕ → Option Stage → Option Stage
stage_of_func n (Some (Post p stage)) = Some (Post (record p { func = n }) post.StoreInfo)
stage_of_func n s = s

abbrev pub stage_of_info : ℕ → Option Stage → Option Stage
stage_of_info n (Some (Post p stage)) = Some (Post (record p { info = n }) post.Count)
stage_of_info n s = s

abbrev pub stage_of_count : ℕ → Option Stage → Option Stage
stage_of_count to (Some (Post p post.Count)) = Some (Post (record p { to = to }) post.LoadHead)
stage_of_count to (Some (Post p post.LoadHead)) = Some (Post p post.Release)
stage_of_count to s = s

abbrev pub stage_of_next : ℕ → Option Stage → Option Stage
stage_of_next link (Some (Post p stage)) = Some (Post p (post.Exchange link 0))
stage_of_next link s = s

abbrev pub stage_of_exchange : Option ℕ → Option Stage → Option Stage
stage_of_exchange (Some n) s = None
stage_of_exchange None (Some (Post p stage)) = Some (Post p post.LoadHead)
stage_of_exchange None s = s

abbrev pub stage_of_store : Word → ℕ → Option Stage → Option Stage
stage_of_store (Flags id) n s = stage_of_flags id n
stage_of_store (Func id) n s = stage_of_func n s
stage_of_store (Info id) n s = stage_of_info n s
stage_of_store (Next id) n s = stage_of_next n s
stage_of_store (Queued from to) n s = stage_of_count to s
stage_of_store (Hand cpu) n s = Some (Handle handle.Accept)
stage_of_store _ n s = s

abbrev pub stage_outside : Act → Word → Option ℕ → Option Stage → Option Stage
stage_outside act.Store w (Some n) s = stage_of_store w n s
stage_outside act.Cas w put s = stage_of_exchange put s
stage_outside _ w put s = s

-- where a CPU is after a step of its own: inside handle by the step table, else by what the step told
abbrev pub stage_after : Option Stage → DrainValue → Act → Word → Option ℕ → Option ℕ → Option Stage
stage_after (Some (Handle stage)) d act w found put = (handle_outcome d stage (number_or_zero found)).next
stage_after (Some (Post p stage)) d act w found put = stage_outside act w put (Some (Post p stage))
stage_after (Some (Send to)) d act w found put = stage_outside act w put (Some (Send to))
stage_after (Some (Done id)) d act w found put = stage_outside act w put (Some (Done id))
stage_after None d act w found put = stage_outside act w put None

-- what it has loaded after it
abbrev pub drain_then : Option Stage → DrainValue → Option ℕ → DrainValue
drain_then (Some (Handle stage)) d found = drain_after d stage (number_or_zero found)
drain_then _ d found = d

-- how many compare-exchanges it has made after it
abbrev pub tried_after : Act → ℕ → ℕ
tried_after act.Cas n = n + 1
tried_after _ n = n

-- what it has seen of heads after it: an exchange expects what the record was linked to
abbrev pub heads_after : Act → Word → Option ℕ → Option Stage → List HeadSeen → List HeadSeen
heads_after act.Load (Head to) (Some n) s heads = heads ++ head.Loaded n ∷ []
heads_after act.Cas (Head to) (Some n) (Some (Post p (post.Exchange link tries))) heads = heads ++ head.Exchanged link n ∷ []
heads_after _ w found s heads = heads

-- what it has sent after it: a compare-exchange that puts its record into a head queues a call
abbrev pub log_after : Act → Word → Option ℕ → List Logged → List Logged
log_after act.Cas (Head to) (Some n) log = log ++ logged.Queued to ∷ []
log_after act.Store (Intr to) put log = log ++ logged.Interrupted to ∷ []
log_after _ w put log = log

-- how many steps it has made outside handle after it: the steps of handle are those of its own step table
abbrev pub steps_after : Option Stage → Word → ℕ → ℕ
steps_after (Some (Handle stage)) w n = n
steps_after s (Hand cpu) n = n
steps_after s w n = n + 1

-- what it counted when it last sent something, after a step by which it counts this now
abbrev pub sent_after : Act → Word → Option ℕ → ℕ → ℕ → ℕ
sent_after act.Cas (Head to) (Some n) now before = now
sent_after act.Store (Intr to) put now before = now
sent_after _ w put now before = before

-- how many steps outside handle it had made at each take of its interrupt word, after it
abbrev pub asked_then : Act → Word → ℕ → List ℕ → List ℕ
asked_then act.Swap (Intr cpu) steps asked = asked ++ steps ∷ []
asked_then _ w steps asked = asked

-- what a CPU knows after a step of its own; a swap of the head takes this queue
abbrev pub known_taking : List Call → KnownCalls → Act → Word → Option ℕ → Option ℕ → KnownCalls
known_taking queue v act w found put = record v {
  stage = stage_after v.stage v.drain act w found put;
  drain = drain_then v.stage v.drain found;
  part = part_after queue (held_of v.stage) act w found put v.part;
  tried = tried_after act v.tried;
  heads = heads_after act w found v.stage v.heads;
  log = log_after act w put v.log;
  steps = steps_after v.stage w v.steps;
  sent_at = sent_after act w put (steps_after v.stage w v.steps) v.sent_at;
  asked_at = sent_after act w put (length v.part.asked) v.asked_at;
  asked_after = asked_then act w v.steps v.asked_after;
}

-- the same of a step that takes no queue
abbrev pub known_told : KnownCalls → Act → Word → Option ℕ → Option ℕ → KnownCalls
known_told v act w found put = known_taking [] v act w found put

abbrev pub known_tells : List Call → KnownCalls → Seen → KnownCalls
known_tells queue v seen = known_taking queue v seen.act seen.word seen.found seen.put

-- to lock, a CPU has to know that the record is free
abbrev pub IsLockable : KnownCalls → ℕ → PostStage → Type 0
IsLockable v id post.Lock = slice_index_or v.part.confirmed id false ≡ true
IsLockable v id _ = Unit {0}

-- a CPU that knows v may make the step of this stage
pub record MayPost (v : KnownCalls) (p : Posting) (stage : PostStage) : Type 0 where
  pub told : told_post p stage ≡ v.stage
  pub owned : owner p.id ≡ v.number
  pub is_call : IsCall (posted p)
  pub me_in_range : v.number < cpus
  pub goes : PostGoes p stage
  pub ready : IsLockable v p.id stage

abbrev pub MayStep : KnownCalls → Stage → Type 0
MayStep v (Send to) = (v.stage ≡ None) × (to < cpus) × (v.number < cpus)
MayStep v (Done id) = (v.stage ≡ None) × (owner id ≡ v.number) × (id < records)
MayStep v (Post p stage) = MayPost v p stage
MayStep v (Handle stage) = (v.stage ≡ told_handle stage) × (v.number < cpus)

-- the number in a CPU's tally word of the calls queued for a destination
abbrev pub queued_tally : CallPart → Option Holding → ℕ → ℕ
queued_tally p held to = (length (sent_to to p.sent) + one_held held to) % 2 ^ 64

-- the number in a CPU's tally word of the calls run from a source
abbrev pub ran_tally : CallPart → ℕ → ℕ
ran_tally p source = length (calls_from source (p.ran ++ counted_call p.running)) % 2 ^ 64

-- the access of this stage, by what the CPU knows
abbrev pub known_access : KnownCalls → Stage → Access
known_access v (Send to) = Store (Intr to) 1
known_access v (Done id) = Load (Flags id)
known_access v (Post p stage) = post_access p v.number stage (queued_tally v.part (held_of_post p stage) p.to)
known_access v (Handle stage) = handle_access v.number stage (ran_tally v.part (source_at stage))

-- some words show some calls, which are reached with them, of which a CPU that knows v knows its part
pub record Lives (v : KnownCalls) : Type 0 where
  pub calls : CallState
  pub at : Word → ℕ
  pub reached : IsReached calls at
  pub controls : ℕ → ControlValue
  pub shown : Shows calls at controls
  pub sees : Sees calls controls v

-- the table at some time: this CPU knows v, and this number is in the word
pub record CallMoment (v : KnownCalls) (word : Word) (number : ℕ) : Type 0 where
  pub lives : Lives v
  pub number_is : number ≡ lives.at word

-- the table goes on from these words to those by a step of this CPU, after which it knows w; from calls that are reached it leads
-- to calls that are reached
pub record GoesOn (a : CallState) (before : Word → ℕ) (control : ℕ → ControlValue) (me : ℕ) (at : Word → ℕ) (w : KnownCalls) : Type 0 where
  pub seen : Seen
  pub calls : CallState
  pub told : calls ≡ tells a seen
  pub reached : IsReached a before → IsReached calls at
  pub controls : ℕ → ControlValue
  pub shown : Shows calls at controls
  pub mine : Sees calls controls w
  pub number_is : w.number ≡ me
  pub others : (o : KnownCalls) → o.number ≢ me → Sees a control o → Sees calls controls o

-- the call that a post is queueing, once all is told of it
abbrev pub posting_of : ℕ → Class → ℕ → ℕ → ℕ → Posting
posting_of id class func info to = record { id = id; to = to; is_online = true; class = class; func = func; info = info; tries = 0 }

-- a CPU that is at this step of a post
abbrev pub standing : Posting → PostStage → KnownCalls → KnownCalls
standing p stage v = record v { stage = Some (Post p stage) }

-- a CPU outside a command
abbrev pub outside_known : KnownCalls → KnownCalls
outside_known v = record v { stage = None }

-- a CPU that has seen its record confirmed
abbrev pub confirmed_known : ℕ → KnownCalls → KnownCalls
confirmed_known id v = record v { part = part_confirmed id v.part }

-- a CPU that has made this number of steps more outside handle
abbrev pub stepped : ℕ → KnownCalls → KnownCalls
stepped n v = record v { steps = v.steps + n }

-- a CPU that has counted a call, and then has loaded a head and found this number
abbrev pub looked_known : ℕ → KnownCalls → KnownCalls
looked_known n v = record v { heads = v.heads ++ head.Loaded n ∷ []; steps = v.steps + 2 }

-- a CPU that has linked its record, and has made a compare-exchange in vain: it expected one number and found the other
abbrev pub lost_one : ℕ → ℕ → KnownCalls → KnownCalls
lost_one expected found v = record v { tried = v.tried + 1; heads = v.heads ++ head.Exchanged expected found ∷ []; steps = v.steps + 2 }

-- a CPU that has counted a call and found these numbers in a head, and so has made its compare-exchanges in vain
abbrev pub lost_tries : Found → KnownCalls → KnownCalls
lost_tries f v = record v { tried = v.tried + times_lost f; heads = heads_with v.heads f; steps = v.steps + (2 + 2 * times_lost f) }

-- a CPU that has linked its record and queued this call, by a compare-exchange that expected this number and found it
abbrev pub queued_known : Call → ℕ → Bool → ℕ → KnownCalls → KnownCalls
queued_known call to first link v = record v {
  stage = None;
  part = part_queued call to first v.part;
  tried = v.tried + 1;
  heads = v.heads ++ head.Exchanged link link ∷ [];
  log = v.log ++ logged.Queued to ∷ [];
  steps = v.steps + 2;
  sent_at = v.steps + 2;
  asked_at = length v.part.asked;
}

-- a CPU that has noted a direct call, by no step
abbrev pub noted_known : KnownCalls → KnownCalls
noted_known v = record v { direct = v.direct ++ record { steps = v.steps; asked = length v.part.asked; logged = length v.log } ∷ [] }

-- whether it has seen its record confirmed
abbrev pub is_confirmed : KnownCalls → ℕ → Bool
is_confirmed v id = slice_index_or v.part.confirmed id false
