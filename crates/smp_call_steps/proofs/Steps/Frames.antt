-- What a step leaves to another CPU: a CPU is where it was.
use Rattle.std.proofs.Common.{arith, ◌≡◌, ◌≢◌, ℕ, ◌+◌, Option, List, [], ◌∷◌, subst, refl, ◌∙◌}
use Rattle.std.specs.List.{AllByRecursion}
use Rattle.smp_words.specs.Size.{owner}
use Rattle.smp_call_steps.specs.{DrainValue, link_to, async_calls, Running, Nothing, SyncCall, CountedCall, AsyncCall, ControlValue, IsPlaced, AllPlaced}
use Rattle.smp_call_steps.specs.{Leads, nexts_in, Share, StandsAt, HandleStands, Reverses, Walks, Ends, PostKnows, Call, Word, Flags}
use Rattle.smp_call_steps.specs.{Func, Info, Next, RecPlace, Posting, PostStage, Walk, HandleStage, Stage}
use Rattle.smp_call_steps.specs.Stands.{CallStands}
use Rattle.smp_call_steps.proofs.Basics.Alls.{every_left, every_right}
use Rattle.smp_call_steps.proofs.State.Walks.{Path-kept, reverses_all, walks_front, walks_passed, walks_rest, ends_front, ends_rest, same_record}
use Rattle.smp_call_steps.specs.place
use Rattle.smp_call_steps.specs.handle

-- the CPU that alone changes a record at this place
abbrev pub Minds : ℕ → ℕ → RecPlace → Type 0
Minds cpu id place.Free = owner id ≡ cpu
Minds cpu id place.Held = owner id ≡ cpu
Minds cpu id (place.Queued c) = ⊥
Minds cpu id (place.Batch c) = c ≡ cpu
Minds cpu id (place.Running c) = c ≡ cpu

-- one CPU alone does
pub one_minds : (me cpu id : ℕ) (p : RecPlace) → Minds me id p → Minds cpu id p → cpu ≡ me
one_minds me cpu id x h k = search arith

-- the records that the CPU minds keep their place and words
pub record LeavesTo (cpu : ℕ) (places places' : ℕ → RecPlace) (at at' : Word → ℕ) : Type 0 where
  pub place_stays : (id : ℕ) → Minds cpu id (places id) → places' id ≡ places id
  pub flags : (id : ℕ) → Minds cpu id (places id) → at' (Flags id) ≡ at (Flags id)
  pub func : (id : ℕ) → Minds cpu id (places id) → at' (Func id) ≡ at (Func id)
  pub info : (id : ℕ) → Minds cpu id (places id) → at' (Info id) ≡ at (Info id)
  pub next : (id : ℕ) → Minds cpu id (places id) → at' (Next id) ≡ at (Next id)

-- a step that touches no other record than this one, if any
pub record Touches (id : ℕ) (places places' : ℕ → RecPlace) (at at' : Word → ℕ) : Type 0 where
  pub place_stays : (u : ℕ) → u ≢ id → places' u ≡ places u
  pub flags : (u : ℕ) → u ≢ id → at' (Flags u) ≡ at (Flags u)
  pub func : (u : ℕ) → u ≢ id → at' (Func u) ≡ at (Func u)
  pub info : (u : ℕ) → u ≢ id → at' (Info u) ≡ at (Info u)
  pub next : (u : ℕ) → u ≢ id → at' (Next u) ≡ at (Next u)

-- a step on a record that I mind leaves the others alone
pub leaves_others : (me id : ℕ) (places places' : ℕ → RecPlace) (at at' : Word → ℕ) → Minds me id (places id) → Touches id places places' at at' → (cpu : ℕ)
    → cpu ≢ me → LeavesTo cpu places places' at at'
leaves_others me id places places' at at' mine t cpu ne = search (one_minds, arith)

-- a step on words of CPUs alone
pub leaves_all : (places : ℕ → RecPlace) (at at' : Word → ℕ) → ((id : ℕ) → at' (Flags id) ≡ at (Flags id)) → ((id : ℕ) → at' (Func id) ≡ at (Func id))
    → ((id : ℕ) → at' (Info id) ≡ at (Info id)) → ((id : ℕ) → at' (Next id) ≡ at (Next id)) →
    (cpu : ℕ) → LeavesTo cpu places places at at'
leaves_all places at at' flags func info next cpu = search arith

-- where the next words of these calls stay, so does the chain
pub Leads-kept : (nexts nexts' : ℕ → ℕ) (P : Call → Type 0) → ((call : Call) → P call → nexts' call.id ≡ nexts call.id) →
    (link : ℕ) (calls : List Call) (below : ℕ) → AllByRecursion P calls → Leads nexts link calls below → Leads nexts' link calls below
Leads-kept nexts nexts' P same link [] below h l = l
Leads-kept nexts nexts' P same link (call ∷ rest) below h l = (same call h.0 ∙ l.0, Leads-kept nexts nexts' P same link rest (call.id + 1) h.1 l.1)

module _ {cpu : ℕ} {places places' : ℕ → RecPlace} {at at' : Word → ℕ} (l : LeavesTo cpu places places' at at') where
  PostKnows-kept : (p : Posting) (stage : PostStage) → owner p.id ≡ cpu → PostKnows places at p stage → PostKnows places' at' p stage
  PostKnows-kept p x o k = search arith

  same_next : (call : Call) → IsPlaced places (place.Batch cpu) call → at' (Next call.id) ≡ at (Next call.id)
  same_next call q = l.next call.id (rw q.placed refl)

  next_of : (id : ℕ) (call : Call) → call.id ≡ id → IsPlaced places (place.Batch cpu) call → at' (Next id) ≡ at (Next id)
  next_of id call e q = subst (λ (k : ℕ). at' (Next k) ≡ at (Next k)) e (same_next call q)

  Reverses-kept : (s : Share) (d : DrainValue) (up down : ℕ) (call : Call) → AllPlaced places (place.Batch cpu) s.batch
      → Reverses (nexts_in at) s d up down call → Reverses (nexts_in at') s d up down call
  Reverses-kept s d up down call b h =
      let all = reverses_all (IsPlaced places (place.Batch cpu)) h b in
      search (every_right, all, Leads-kept, same_next, every_left, Path-kept, arith)

  reversed_next : (s : Share) (d : DrainValue) (up down : ℕ) (call : Call) (id : ℕ) → call.id ≡ id → AllPlaced places (place.Batch cpu) s.batch
      → Reverses (nexts_in at) s d up down call → at' (Next id) ≡ at (Next id)
  reversed_next s d up down call id e b h =
      let all = reverses_all (IsPlaced places (place.Batch cpu)) h b in
      search (every_right, all, next_of, arith)

  Walks-kept : (s : Share) (d : DrainValue) (walk : Walk) (here : ℕ) (front rest : List Call) (running : Running) → AllPlaced places (place.Batch cpu) s.batch
      → Walks (nexts_in at) s d walk here front rest running → Walks (nexts_in at') s d walk here front rest running
  Walks-kept s d walk here front rest running b h =
      let leads_here = Path-kept (nexts_in at) (nexts_in at') (IsPlaced places (place.Batch cpu)) same_next (link_to walk.first) (async_calls h.passed) here
      (walks_passed (IsPlaced places (place.Batch cpu)) h b) h.leads_here in
      let leads_on = Path-kept (nexts_in at) (nexts_in at') (IsPlaced places (place.Batch cpu)) same_next here rest 0
      (walks_rest (IsPlaced places (place.Batch cpu)) h b) h.leads_on in
      search (leads_here, leads_on, arith)

  walked_next : (s : Share) (d : DrainValue) (walk : Walk) (id : ℕ) (call : Call) (rest : List Call) → AllPlaced places (place.Batch cpu) s.batch
      → Walks (nexts_in at) s d walk (id + 1) [] (call ∷ rest) Nothing → at' (Next id) ≡ at (Next id)
  walked_next s d walk id call rest b h =
      let all = walks_rest (IsPlaced places (place.Batch cpu)) h b in
      next_of id call (same_record id call h.leads_on.0) all.0

  Ends-kept : (s : Share) (d : DrainValue) (here : ℕ) (front rest : List Call) (running : Running) → AllPlaced places (place.Batch cpu) s.batch
      → Ends (nexts_in at) s d here front rest running → Ends (nexts_in at') s d here front rest running
  Ends-kept s d here front rest running b h =
      let leads_on = Path-kept (nexts_in at) (nexts_in at') (IsPlaced places (place.Batch cpu)) same_next here rest 0
      (ends_rest (IsPlaced places (place.Batch cpu)) h b) h.leads_on in
      search (leads_on, arith)

  ended_next : (s : Share) (d : DrainValue) (id : ℕ) (call : Call) (rest : List Call) → AllPlaced places (place.Batch cpu) s.batch
      → Ends (nexts_in at) s d (id + 1) [] (call ∷ rest) Nothing → at' (Next id) ≡ at (Next id)
  ended_next s d id call rest b h = search (ends_rest, next_of, same_record, arith)

  ruleset batch_kept = (Reverses-kept, reversed_next, Walks-kept, walks_front, walked_next, Ends-kept, ends_front, ended_next, same_next)

  HandleStands-kept : (s : Share) (d : DrainValue) (stage : HandleStage) → AllPlaced places (place.Batch cpu) s.batch → HandleStands (nexts_in at) s d stage
      → HandleStands (nexts_in at') s d stage
  HandleStands-kept s d (handle.ReverseStore newer id older) b h =
      (h.0, Reverses-kept s d (link_to newer) (link_to older) h.0 b h.1, h.2, reversed_next s d (link_to newer) (link_to older) h.0 id h.2 b h.1 ∙ h.3)
  HandleStands-kept s d (handle.LoadNext walk id) b h = (h.0, h.1, Walks-kept s d walk (id + 1) [] (h.0 ∷ h.1) Nothing b h.2)
  HandleStands-kept s d (handle.LoadFlags walk id next) b h =
      (h.0, h.1, Walks-kept s d walk (id + 1) [] (h.0 ∷ h.1) Nothing b h.2, walked_next s d walk id h.0 h.1 b h.2 ∙ h.3)
  HandleStands-kept s d (handle.CountSync walk call next) b h = (h.0, Walks-kept s d walk (link_to next) [] h.0 (SyncCall call) b h.1, h.2)
  HandleStands-kept s d (handle.EndSync walk call next) b h = (h.0, Walks-kept s d walk (link_to next) [] h.0 (CountedCall call) b h.1, h.2)
  HandleStands-kept s d (handle.AsyncNext id) b h = (h.0, h.1, Ends-kept s d (id + 1) [] (h.0 ∷ h.1) Nothing b h.2)
  HandleStands-kept s d (handle.AsyncFunc id next) b h = (h.0, h.1, Ends-kept s d (id + 1) [] (h.0 ∷ h.1) Nothing b h.2, ended_next s d id h.0 h.1 b h.2 ∙ h.3)
  HandleStands-kept s d (handle.CountAsync call next) b h = (h.0, Ends-kept s d (link_to next) [] h.0 (AsyncCall call) b h.1, h.2, h.3)
  HandleStands-kept s d _ b h = search (batch_kept, arith)

  StandsAt-kept : (s : Share) (d : DrainValue) (stage : Option Stage) → AllPlaced places (place.Batch cpu) s.batch → StandsAt places at s d cpu stage
      → StandsAt places' at' s d cpu stage
  StandsAt-kept s d x b h = search (PostKnows-kept, HandleStands-kept, arith)

  -- a CPU to which a step leaves its records is where it was
  pub CallStands-kept : (s : Share) (c : ControlValue) → AllPlaced places (place.Batch cpu) s.batch → CallStands places at s cpu c
      → CallStands places' at' s cpu c
  CallStands-kept s c b h = StandsAt-kept s c.drain c.stage b h
