-- The steps of handle that load a word of a record of its batch.
use Rattle.std.proofs.Common.{arith, ◌≡◌, ℕ, ◌+◌, ◌%◌, ◌==◌, Bool, true, if◌then◌else◌, Option, Some, None, List, [], ◌∷◌, ◌++◌, sym, subst, refl, ap, ◌∙◌}
use Rattle.smp_call_steps.proofs.Basics.Alls.{class_of-flags_of}
use Rattle.smp_words.specs.Put.{put}
use Rattle.smp_words.specs.Flags.{flags_of, class_of}
use Rattle.smp_call_steps.specs.{CallState, Nothing, confirms, link_to, record_at, by_class, unlink_after, ControlValue, Path, flags_in, funcs_in, infos_in}
use Rattle.smp_call_steps.specs.{nexts_in, hands_in, IsWrittenIn, share_of, Reverses, Walks, Ends, HandIs, held_of, Call, Class, Sync, Async, Word, Hand}
use Rattle.smp_call_steps.specs.{Flags, Func, Info, Next, Walk, Handle}
use Rattle.smp_call_steps.specs.Stands.{CallStands}
use Rattle.smp_call_steps.specs.Shows.{Shows}
use Rattle.smp_call_steps.proofs.Steps.Frames.{leaves_all}
use Rattle.smp_call_steps.proofs.Steps.Turns.{holds_nothing, stands_at, hand_at, held_after, stands_after, hands_after}
use Rattle.smp_call_steps.proofs.State.Walks.{link_back, same_record, walks_rest, ends_rest, hand_of_first}
use Rattle.smp_call_steps.proofs.Steps.Passing.{flags_lead, info_leads}
use Rattle.smp_call_steps.proofs.Steps.StepShows.{StepShows}
use Rattle.smp_call_steps.specs.handle

-- the flags of a call have LOCK
flags_locked : (class : Class) → (flags_of class % 2 == 1) ≡ true
flags_locked x = search arith

call_of_parts : (call : Call) (id : ℕ) (class : Class) (func info : ℕ) → call.id ≡ id → call.class ≡ class → call.func ≡ func → call.info ≡ info →
    call ≡ record { id = id; class = class; func = func; info = info }
call_of_parts call id class func info p q r t = λ i. record { id = p i; class = q i; func = r i; info = t i }

hand_of_class : (class : Class) (walk : Walk) (id : ℕ) (next : Option ℕ) (at : Word → ℕ) (me : ℕ) → (at (Hand me) ≡ 0 → ⊥)
    → HandIs (Some (Handle (by_class class walk id next))) (at (Hand me))
hand_of_class x walk id next at me ne = search (hand_of_first, arith)

hand_of_info : (last : Option ℕ) (walk : Walk) (call : Call) (next : Option ℕ) (at : Word → ℕ) (me : ℕ) → (at (Hand me) ≡ 0 → ⊥)
    → HandIs (Some (Handle (unlink_after last walk call next))) (at (Hand me))
hand_of_info x walk call next at me ne = search arith

module _ {a : CallState} {at : Word → ℕ} {control : ℕ → ControlValue} (me : ℕ) (s : Shows a at control) where
  -- a step that stores nothing
  goes_on : (c : ControlValue) → a.held me ≡ held_of c.stage → CallStands a.place at (share_of a me) me c → HandIs c.stage (hands_in at me)
      → Shows a at (put control me c)
  goes_on c held stands hand = record {
    held = held_after me s c held;
    stands = search (stands_after, leaves_all, arith);
    hands = hands_after me s c hand;
    placed = s.placed;
    written = s.written;
    chained = s.chained;
    links = s.links;
    noticed = s.noticed;
    recorded = s.recorded;
    tallied = s.tallied;
  }

  -- the words of the call that is loaded now
  pub walked_words : (walk : Walk) (id : ℕ) (call : Call) (rest : List Call)
      → Walks (nexts_in at) (share_of a me) (control me).drain walk (id + 1) [] (call ∷ rest) Nothing → IsWrittenIn at call
  walked_words walk id call rest h = let all = walks_rest (IsWrittenIn at) h (s.written.batched me) in all.0

  pub ended_words : (id : ℕ) (call : Call) (rest : List Call) → Ends (nexts_in at) (share_of a me) (control me).drain (id + 1) [] (call ∷ rest) Nothing
      → IsWrittenIn at call
  ended_words id call rest h = let all = ends_rest (IsWrittenIn at) h (s.written.batched me) in all.0

  -- a load of a next word tells nothing

  pub reverse_load_step : (newer : Option ℕ) (id : ℕ) → (control me).stage ≡ Some (Handle (handle.ReverseLoad newer id))
      → StepShows a at control me (Handle (handle.ReverseLoad newer id))
  reverse_load_step newer id e =
      let was = stands_at me s (handle.ReverseLoad newer id) e in
      let k = was.1 in
      let held = holds_nothing me s (handle.ReverseLoad newer id) e in
      let c : ControlValue = record { stage = Some (Handle (handle.ReverseStore newer id (record_at (at (Next id))))); drain = (control me).drain } in
      goes_on c held (
        was.0,
        (
          k.0,
          subst (λ (n : ℕ). Reverses (nexts_in at) (share_of a me) (control me).drain (link_to newer) n k.0)
              (sym (link_back (at (Next id)))) k.1,
          k.2,
          sym (link_back (at (Next id))),
        ),
      )
      (hand_at me s (handle.ReverseLoad newer id) e)

  pub load_next_step : (walk : Walk) (id : ℕ) → (control me).stage ≡ Some (Handle (handle.LoadNext walk id))
      → StepShows a at control me (Handle (handle.LoadNext walk id))
  load_next_step walk id e =
      let was = stands_at me s (handle.LoadNext walk id) e in
      let k = was.1 in
      let held = holds_nothing me s (handle.LoadNext walk id) e in
      let c : ControlValue = record { stage = Some (Handle (handle.LoadFlags walk id (record_at (at (Next id))))); drain = (control me).drain } in
      goes_on c held (was.0, (k.0, k.1, k.2, sym (link_back (at (Next id))))) (hand_at me s (handle.LoadNext walk id) e)

  pub load_flags_step : (walk : Walk) (id : ℕ) (next : Option ℕ) → (control me).stage ≡ Some (Handle (handle.LoadFlags walk id next))
      → StepShows a at control me (Handle (handle.LoadFlags walk id next))
  load_flags_step walk id next e =
      let was = stands_at me s (handle.LoadFlags walk id next) e in
      let k = was.1 in
      let call : Call = k.0 in
      let w = walked_words walk id call k.1 k.2 in
      let flags : at (Flags id) ≡ flags_of call.class = ap (flags_in at) (sym (same_record id call k.2.leads_on.0)) ∙ w.flags_are in
      let locked : (at (Flags id) % 2 == 1) ≡ true = ap (λ (n : ℕ). n % 2 == 1) flags ∙ flags_locked call.class in
      let class : call.class ≡ class_of (at (Flags id)) = sym (class_of-flags_of call.class) ∙ ap class_of (sym flags) in
      let c : ControlValue = record { stage = Some (Handle (by_class (class_of (at (Flags id))) walk id next)); drain = (control me).drain } in
      subst (λ (b : Bool). Shows (if b then a else confirms a me id) at (put control me c)) (sym locked)
      (goes_on c (holds_none (class_of (at (Flags id))) walk id next (holds_nothing me s (handle.LoadFlags walk id next) e))
      (was.0, flags_lead (nexts_in at) (share_of a me) (control me).drain walk id next call k.1 k.2 k.3 (class_of (at (Flags id))) class)
      (hand_of_class (class_of (at (Flags id))) walk id next at me (hand_at me s (handle.LoadFlags walk id next) e)))
    where
      holds_none : (class : Class) (walk : Walk) (id : ℕ) (next : Option ℕ) → a.held me ≡ None
          → a.held me ≡ held_of (Some (Handle (by_class class walk id next)))
      holds_none class walk id next h = h

  pub load_func_step : (walk : Walk) (id : ℕ) (next : Option ℕ) → (control me).stage ≡ Some (Handle (handle.LoadFunc walk id next))
      → StepShows a at control me (Handle (handle.LoadFunc walk id next))
  load_func_step walk id next e =
      let was = stands_at me s (handle.LoadFunc walk id next) e in
      let k = was.1 in
      let w = walked_words walk id k.0 k.1 k.2 in
      let func : k.0.func ≡ at (Func id) = sym w.func_is ∙ ap (funcs_in at) (same_record id k.0 k.2.leads_on.0) in
      goes_on (record { stage = Some (Handle (handle.LoadInfo walk id next (at (Func id)))); drain = (control me).drain })
      (holds_nothing me s (handle.LoadFunc walk id next) e)
      (was.0, (k.0, k.1, k.2, k.3, k.4, func)) (hand_at me s (handle.LoadFunc walk id next) e)

  pub load_info_step : (walk : Walk) (id : ℕ) (next : Option ℕ) (func : ℕ) → (control me).stage ≡ Some (Handle (handle.LoadInfo walk id next func))
      → StepShows a at control me (Handle (handle.LoadInfo walk id next func))
  load_info_step walk id next func e =
      let was = stands_at me s (handle.LoadInfo walk id next func) e in
      let k = was.1 in
      let w = walked_words walk id k.0 k.1 k.2 in
      let same = same_record id k.0 k.2.leads_on.0 in
      let info : k.0.info ≡ at (Info id) = sym w.info_is ∙ ap (infos_in at) same in
      let call : Call = record { id = id; class = Sync; func = func; info = at (Info id) } in
      let is : k.0 ≡ record { id = id; class = Sync; func = func; info = at (Info id) } = call_of_parts k.0 id Sync func (at (Info id)) same k.4 k.5 info in
      let c : ControlValue = record { stage = Some (Handle (unlink_after walk.last walk call next)); drain = (control me).drain } in
      goes_on c (holds_nothing me s (handle.LoadInfo walk id next func) e) (
        was.0,
        info_leads (nexts_in at) (share_of a me) (control me).drain walk next call k.1
            (subst (λ (x : Call). Walks (nexts_in at) (share_of a me) (control me).drain walk (id + 1) [] (x ∷ k.1) Nothing) is k.2) k.3 refl walk.last refl,
      )
      (hand_of_info walk.last walk call next at me (hand_at me s (handle.LoadInfo walk id next func) e))

  pub async_next_step : (id : ℕ) → (control me).stage ≡ Some (Handle (handle.AsyncNext id)) → StepShows a at control me (Handle (handle.AsyncNext id))
  async_next_step id e =
      let was = stands_at me s (handle.AsyncNext id) e in
      let k = was.1 in
      let held = holds_nothing me s (handle.AsyncNext id) e in
      let c : ControlValue = record { stage = Some (Handle (handle.AsyncFunc id (record_at (at (Next id))))); drain = (control me).drain } in
      goes_on c held (was.0, (k.0, k.1, k.2, sym (link_back (at (Next id))))) (hand_at me s (handle.AsyncNext id) e)

  pub async_func_step : (id : ℕ) (next : Option ℕ) → (control me).stage ≡ Some (Handle (handle.AsyncFunc id next))
      → StepShows a at control me (Handle (handle.AsyncFunc id next))
  async_func_step id next e =
      let was = stands_at me s (handle.AsyncFunc id next) e in
      let k = was.1 in
      let w = ended_words id k.0 k.1 k.2 in
      let func : k.0.func ≡ at (Func id) = sym w.func_is ∙ ap (funcs_in at) (same_record id k.0 k.2.leads_on.0) in
      goes_on (record { stage = Some (Handle (handle.AsyncInfo id next (at (Func id)))); drain = (control me).drain })
      (holds_nothing me s (handle.AsyncFunc id next) e)
      (was.0, (k.0, k.1, k.2, k.3, func)) (hand_at me s (handle.AsyncFunc id next) e)

  pub async_info_step : (id : ℕ) (next : Option ℕ) (func : ℕ) → (control me).stage ≡ Some (Handle (handle.AsyncInfo id next func))
      → StepShows a at control me (Handle (handle.AsyncInfo id next func))
  async_info_step id next func e =
      let was = stands_at me s (handle.AsyncInfo id next func) e in
      let k = was.1 in
      let h = k.2 in
      let w = ended_words id k.0 k.1 k.2 in
      let same = same_record id k.0 h.leads_on.0 in
      let info : k.0.info ≡ at (Info id) = sym w.info_is ∙ ap (infos_in at) same in
      let call : Call = record { id = id; class = Async; func = func; info = at (Info id) } in
      let is : k.0 ≡ record { id = id; class = Async; func = func; info = at (Info id) } =
      call_of_parts k.0 id Async func (at (Info id)) same h.asyncs.0 k.4 info in
      let c : ControlValue = record { stage = Some (Handle (handle.BeginAsync call next)); drain = (control me).drain } in
      goes_on c (holds_nothing me s (handle.AsyncInfo id next func) e) (
        was.0,
        (
          k.1,
          record {
            begun = h.begun;
            whole = h.whole ∙ ap (λ (x : Call). h.begun ++ x ∷ k.1) is;
            apart = h.apart;
            leads_on = subst (λ (n : ℕ). Path (nexts_in at) n k.1 0) (ap (nexts_in at) same ∙ k.3) h.leads_on.1;
            asyncs = h.asyncs.1;
            counted = h.counted;
            batch = h.batch ∙ ap (λ (x : Call). x ∷ k.1) is;
            running_is = h.running_is;
            accepted = h.accepted;
          },
          k.3,
        ),
      )
      (hand_at me s (handle.AsyncInfo id next func) e)
