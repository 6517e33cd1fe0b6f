-- What a step finds fits the types of the machine, and there is room for what it loads.
use Rattle.std.proofs.Common.{◌≡◌, ℕ, ◌+◌, ◌^◌, ◌<◌, ◌≤◌, Option, Some, List, [], ◌∷◌, ◌++◌, length-append, sym, subst, arith}
use Rattle.std.specs.List.{AllByRecursion}
use Rattle.smp_words.specs.Size.{records}
use Rattle.smp_words.specs.Access.{word_of}
use Rattle.smp_call_steps.specs.{CallState, ControlValue, FitsStage, access_of, IsApart, IsPlaced, Leads, Path, nexts_in, Call, Word, Head, Func, Next, Walk}
use Rattle.smp_call_steps.specs.{HandleStage, Stage, Handle}
use Rattle.smp_call_steps.specs.Shows.{Shows}
use Rattle.smp_words.specs.declared.size.TheConstants.{MOST_CALLS}
use Rattle.smp_call_steps.proofs.Basics.Alls.{every, every_left}
use Rattle.smp_call_steps.proofs.Basics.Short.{length-apart}
use Rattle.smp_call_steps.proofs.Steps.Turns.{stands_at}
use Rattle.smp_call_steps.proofs.Steps.Loading.{walked_words, ended_words}
use Rattle.smp_call_steps.proofs.State.Walks.{reverses_all, walks_rest, ends_rest, same_record}
use Rattle.smp_call_steps.specs.place
use Rattle.smp_call_steps.specs.handle

abbrev IsRecord : Call → Type 0
IsRecord call = call.id < records

records_fit : (id : ℕ) → id < records → id + 1 ≤ 2 ^ 32
records_fit id l = omega arith

-- a link of a chain is a record and one, or none
link_fits : (nexts : ℕ → ℕ) (link : ℕ) (calls : List Call) (below : ℕ) → below ≤ 2 ^ 32 → AllByRecursion IsRecord calls → Leads nexts link calls below
    → link ≤ 2 ^ 32
link_fits nexts link [] below b h l = subst (λ (k : ℕ). k ≤ 2 ^ 32) (sym l) b
link_fits nexts link (x ∷ xs) below b h l = link_fits nexts link xs (x.id + 1) (records_fit x.id h.0) h.1 l.1

chain_fits : (nexts : ℕ → ℕ) (link : ℕ) (calls : List Call) → AllByRecursion IsRecord calls → Leads nexts link calls 0 → link ≤ 2 ^ 32
chain_fits nexts link calls h l = link_fits nexts link calls 0 (omega arith) h l

path_fits : (nexts : ℕ → ℕ) (link : ℕ) (calls : List Call) → AllByRecursion IsRecord calls → Path nexts link calls 0 → link ≤ 2 ^ 32
path_fits nexts link [] h l = omega (arith, l)
path_fits nexts link (call ∷ rest) h l = subst (λ (k : ℕ). k ≤ 2 ^ 32) (sym l.0) (records_fit call.id h.0)

module _ {a : CallState} {at : Word → ℕ} {control : ℕ → ControlValue} (me : ℕ) (s : Shows a at control) where
  queued_records : AllByRecursion IsRecord (a.queue me)
  queued_records = every (IsPlaced a.place (place.Queued me)) IsRecord (λ call h. h.is_call.in_range) (a.queue me) (s.placed.queued me)

  batched_records : AllByRecursion IsRecord (a.batch me)
  batched_records = every (IsPlaced a.place (place.Batch me)) IsRecord (λ call h. h.is_call.in_range) (a.batch me) (s.placed.batched me)

  func_fits : (walk : Walk) (id : ℕ) (next : Option ℕ) → (control me).stage ≡ Some (Handle (handle.LoadFunc walk id next)) → at (Func id) < 2 ^ 16
  func_fits walk id next e = search (stands_at, walked_words, walks_rest, same_record, arith)

  async_fits : (id : ℕ) (next : Option ℕ) → (control me).stage ≡ Some (Handle (handle.AsyncFunc id next)) → at (Func id) < 2 ^ 16
  async_fits id next e = search (stands_at, ended_words, ends_rest, same_record, arith)

  down_fits : (newer : Option ℕ) (id : ℕ) → (control me).stage ≡ Some (Handle (handle.ReverseLoad newer id)) → at (Next id) ≤ 2 ^ 32
  down_fits newer id e =
      let was = stands_at me s (handle.ReverseLoad newer id) e in
      let h = was.1.1 in
      let all = reverses_all IsRecord h batched_records in
      chain_fits (nexts_in at) (at (Next id)) h.older (every_left IsRecord h.older (was.1.0 ∷ h.newer) all) h.leads_down

  next_fits : (walk : Walk) (id : ℕ) → (control me).stage ≡ Some (Handle (handle.LoadNext walk id)) → at (Next id) ≤ 2 ^ 32
  next_fits walk id e =
      let was = stands_at me s (handle.LoadNext walk id) e in
      let k = was.1 in
      let all = walks_rest IsRecord k.2 batched_records in
      subst (λ (n : ℕ). at (Next n) ≤ 2 ^ 32) (same_record id k.0 k.2.leads_on.0) (path_fits (nexts_in at) (at (Next k.0.id)) k.1 all.1 k.2.leads_on.1)

  async_next_fits : (id : ℕ) → (control me).stage ≡ Some (Handle (handle.AsyncNext id)) → at (Next id) ≤ 2 ^ 32
  async_next_fits id e = search (stands_at, ends_rest, batched_records, same_record, path_fits, arith)

  -- a batch has no more calls than there are records
  room_fits : (newer : Option ℕ) (id : ℕ) (older : Option ℕ) → (control me).stage ≡ Some (Handle (handle.ReverseStore newer id older))
      → (control me).drain.calls < MOST_CALLS
  room_fits newer id older e =
      let was = stands_at me s (handle.ReverseStore newer id older) e in
      let h = was.1.1 in
      let all = reverses_all IsRecord h batched_records in
      let short = length-apart records (h.older ++ was.1.0 ∷ h.newer) (subst IsApart h.whole h.apart) all in
      search (length-append, h, was, arith)

  ruleset loads_fit = (down_fits, room_fits, next_fits, func_fits, async_next_fits, async_fits)

  handle_fits : (stage : HandleStage) → (control me).stage ≡ Some (Handle stage)
      → FitsStage (control me).drain (Handle stage) (at (word_of (access_of at me (Handle stage))))
  handle_fits handle.Take e = (chain_fits (nexts_in at) (at (Head me)) (a.queue me) queued_records (s.chained.chain me), tt)
  handle_fits _ e = search (loads_fit, arith)

-- the number that a step finds, and the room for it
pub found_fits : (a : CallState) (at : Word → ℕ) (control : ℕ → ControlValue) (me : ℕ) → Shows a at control → (stage : Stage) → (control me).stage ≡ Some stage
    →
    FitsStage (control me).drain stage (at (word_of (access_of at me stage)))
found_fits a at control me s x e = search (handle_fits, arith)
