-- A CPU inside handle: what holds of it by the laws, and what it knows after each of its steps.
use Rattle.std.proofs.Common.{◌≡◌, ℕ, ◌%◌, ◌<◌, Option, Some, None, List, [], ◌∷◌, length, sym, subst, ap, ◌∙◌, arith}
use Rattle.std.proofs.lemmas.Bool.{eq-eqb}
use Rattle.smp_words.specs.Size.{cpus, records}
use Rattle.smp_words.specs.Access.{word_of}
use Rattle.smp_call_steps.specs.{CountedCall, DrainValue, first_on, IsPlaced, AllPlaced}
use Rattle.smp_call_steps.specs.{nexts_in, last_batch, access_of, FitsStage, Share, share_of}
use Rattle.smp_call_steps.specs.{HandleStands, held_of, CallPart}
use Rattle.smp_call_steps.specs.{part_after, told_stage, told_handle, known_told, known_taking, stage_after}
use Rattle.smp_call_steps.specs.{drain_then, tried_after, heads_after, log_after, steps_after, sent_after, asked_then, MayStep, known_access}
use Rattle.smp_call_steps.specs.{Lives, handling, goes_known}
use Rattle.smp_call_steps.specs.{ended_call, Call, Word, Hand, Flags, Func, Info, Next, Access, Act, Walk}
use Rattle.smp_call_steps.specs.{HandleStage, Stage, Handle}
use Rattle.smp_words.proofs.Links.{HasIndex}
use Rattle.smp_call_steps.proofs.Machine.Accesses.{access_in_table}
use Rattle.smp_call_steps.proofs.State.Walks.{walks_rest, same_record}
use Rattle.smp_call_steps.proofs.Machine.Fits.{found_fits}
use Rattle.smp_call_steps.proofs.Knows.Restages.{access_known}
use Rattle.smp_call_steps.specs.declared.known.KnownCalls.{KnownCalls}
use Rattle.smp_call_steps.specs.place
use Rattle.smp_call_steps.specs.act
use Rattle.smp_call_steps.specs.handle

-- who is told to be at a step of handle is there
told_there : (s : Option Stage) (h : HandleStage) → told_stage s ≡ Some (Handle h) → s ≡ Some (Handle h)
told_there x h e = search arith

-- what is a CPU's own of the drain, as it knows it
abbrev pub share_in : CallPart → Share
share_in p = record { last = last_batch p.taken; batch = p.batch; running = p.running; accepted = p.accepted }

module _ {v : KnownCalls} (l : Lives v) where
  same_share : share_of l.calls v.number ≡ share_in v.part
  same_share = ap share_in l.sees.part

  module _ (h : HandleStage) (e : v.stage ≡ Some (Handle h)) where
    told : told_stage (l.controls v.number).stage ≡ Some (Handle h)
    told = l.sees.stage ∙ e

    at_stage : (l.controls v.number).stage ≡ Some (Handle h)
    at_stage = told_there (l.controls v.number).stage h told

    stands_there : (v.number < cpus) × HandleStands (nexts_in l.at) (share_in v.part) v.drain h
    stands_there = search (same_share, arith)

    pub lives_below : v.number < cpus
    lives_below = stands_there.0

    pub lives_stands : HandleStands (nexts_in l.at) (share_in v.part) v.drain h
    lives_stands = stands_there.1

    pub lives_told : v.stage ≡ told_handle h
    lives_told = e ∙ (sym told ∙ ap told_stage at_stage)

    pub lives_aims : MayStep v (Handle h)
    lives_aims = (lives_told, lives_below)

    same_access : access_of l.at v.number (Handle h) ≡ known_access v (Handle h)
    same_access = access_known l.shown l.sees (Handle h) lives_aims

    -- the word of its next access is in the table
    pub lives_in_table : HasIndex (word_of (known_access v (Handle h)))
    lives_in_table = subst (λ (x : Access). HasIndex (word_of x)) same_access (access_in_table l.calls l.at l.controls v.number l.shown (Handle h) at_stage)

    -- what that access finds fits, and there is room for it
    pub lives_fits : FitsStage v.drain (Handle h) (l.at (word_of (known_access v (Handle h))))
    lives_fits = subst (λ (d : DrainValue). FitsStage d (Handle h) (l.at (word_of (known_access v (Handle h))))) l.sees.drain
        (subst (λ (x : Access). FitsStage (l.controls v.number).drain (Handle h) (l.at (word_of x))) same_access
        (found_fits l.calls l.at l.controls v.number l.shown (Handle h) at_stage))

    batched : AllPlaced l.calls.place (place.Batch v.number) (share_in v.part).batch
    batched = subst (λ (s : Share). AllPlaced l.calls.place (place.Batch v.number) s.batch) same_share (l.shown.placed.batched v.number)

  -- a record of the batch that is loaded is locked
  lives_placed : (id : ℕ) (call : Call) → call.id ≡ id → IsPlaced l.calls.place (place.Batch v.number) call → (id < records) × (l.at (Flags id) % 2 ≡ 1)
  lives_placed id call e q = search arith

  pub lives_locked : (walk : Walk) (id : ℕ) (next : Option ℕ) → v.stage ≡ Some (Handle (handle.LoadFlags walk id next)) → l.at (Flags id) % 2 ≡ 1
  lives_locked walk id next e =
      let k = lives_stands (handle.LoadFlags walk id next) e in
      let all = walks_rest (IsPlaced l.calls.place (place.Batch v.number)) k.2 (batched (handle.LoadFlags walk id next) e) in
      (lives_placed id k.0 (same_record id k.0 k.2.leads_on.0) all.0).1

  -- the front of the batch is by a record
  pub lives_front : (call : Call) (rest : List Call) → v.part.batch ≡ call ∷ rest → call.id < records
  lives_front call rest e = search (same_share, arith)

-- what a CPU that is here knows after a step
pub told_at : (queue : List Call) (v : KnownCalls) (s : Option Stage) (act : Act) (w : Word) (found put : Option ℕ) → v.stage ≡ s →
    known_taking queue v act w found put
    ≡ record v {
      stage = stage_after s v.drain act w found put;
      drain = drain_then s v.drain found;
      part = part_after queue (held_of s) act w found put v.part;
      tried = tried_after act v.tried;
      heads = heads_after act w found s v.heads;
      log = log_after act w put v.log;
      steps = steps_after s w v.steps;
      sent_at = sent_after act w put (steps_after s w v.steps) v.sent_at;
      asked_at = sent_after act w put (length v.part.asked) v.asked_at;
      asked_after = asked_then act w v.steps v.asked_after;
    }
told_at queue v s act w found put e = search arith

pub entered_is : (v : KnownCalls) (cpu : ℕ) → v.stage ≡ None → known_told v act.Store (Hand cpu) None (Some 1) ≡ handling handle.Accept v.drain v
entered_is v cpu e = told_at [] v None act.Store (Hand cpu) None (Some 1) e

-- steps that tell nothing

pub next_found_is : (v : KnownCalls) (h : HandleStage) (id n : ℕ) → v.stage ≡ Some (Handle h) → known_told v act.Load (Next id) (Some n) None ≡ goes_known h n v
next_found_is v h id n e = told_at [] v (Some (Handle h)) act.Load (Next id) (Some n) None e

pub func_found_is : (v : KnownCalls) (h : HandleStage) (id n : ℕ) → v.stage ≡ Some (Handle h) → known_told v act.Load (Func id) (Some n) None ≡ goes_known h n v
func_found_is v h id n e = told_at [] v (Some (Handle h)) act.Load (Func id) (Some n) None e

pub info_found_is : (v : KnownCalls) (h : HandleStage) (id n : ℕ) → v.stage ≡ Some (Handle h) → known_told v act.Load (Info id) (Some n) None ≡ goes_known h n v
info_found_is v h id n e = told_at [] v (Some (Handle h)) act.Load (Info id) (Some n) None e

pub next_stored_is : (v : KnownCalls) (h : HandleStage) (id n : ℕ) → v.stage ≡ Some (Handle h)
    → known_told v act.Store (Next id) None (Some n) ≡ goes_known h 0 v
next_stored_is v h id n e = told_at [] v (Some (Handle h)) act.Store (Next id) None (Some n) e

pub flags_found_is : (v : KnownCalls) (h : HandleStage) (id n : ℕ) → v.stage ≡ Some (Handle h) → n % 2 ≡ 1
    → known_told v act.Load (Flags id) (Some n) None ≡ goes_known h n v
flags_found_is v h id n e odd = search (told_at, eq-eqb, arith)

-- steps that begin, count and end a call

pub ended_sync_is : (v : KnownCalls) (walk : Walk) (call : Call) (next : Option ℕ) → v.stage ≡ Some (Handle (handle.EndSync walk call next))
    → v.part.running ≡ CountedCall call →
    known_told v act.Store (Flags call.id) None (Some 0) ≡ ended_call (first_on walk next) call v
ended_sync_is v walk call next e r = search (told_at, arith)
