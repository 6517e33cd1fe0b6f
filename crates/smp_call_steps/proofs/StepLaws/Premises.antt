-- Who may make which step: what holds of the calls and the words before it.
use Rattle.std.proofs.Common.{◌≡◌, ◌≢◌, ℕ, ◌+◌, ◌<◌, Bool, cond, inl, inr, Option, Some, None}
use Rattle.std.proofs.Common.{List, [], ◌∷◌, sym, subst, refl, ap, ◌∙◌, arith}
use Rattle.smp_words.specs.Access.{word_of, found_by, seen_of}
use Rattle.smp_words.specs.Size.{cpus}
use Rattle.smp_call_steps.specs.{CallState, Holding, Running, Nothing, runs_as, IsPlaced, HandlesNothing, IsAtRest}
use Rattle.smp_call_steps.specs.{LeadsTo, MaySee, ControlValue, access_of, Rests, StandsAt, share_of, held_of, Reverses, Walks, Ends}
use Rattle.smp_call_steps.specs.{IsFound, FitsWords, MayMake, HandIs, Hand, Access, seen_then}
use Rattle.smp_call_steps.specs.{nexts_in, Call, Class, Word}
use Rattle.smp_call_steps.specs.{Posting, PostStage, Walk, HandleStage, Stage, Post, Handle, HandleStands, PostStands, held_of_post}
use Rattle.smp_call_steps.specs.Shows.{Shows}
use Rattle.smp_call_steps.proofs.Basics.Alls.{every_right}
use Rattle.smp_call_steps.proofs.State.Walks.{reverses_all, walks_rest, walks_last, walks_sync, ends_rest, ends_async, same_record}
use Rattle.smp_call_steps.proofs.Steps.Turns.{stands_at}
use Rattle.smp_call_steps.specs.place
use Rattle.smp_call_steps.specs.handle

module _ (a : CallState) (at : Word → ℕ) (control : ℕ → ControlValue) (s : Shows a at control) (me : ℕ) where
  abbrev pub Premise : Stage → Type 0
  Premise stage =
      let access = access_of at me stage in
      let seen = seen_of me access (at (word_of access)) None in
      MaySee a me seen.act seen.word seen.found seen.put

  -- what holds of the CPU at its stage, and what it holds there
  stands : (stage : Stage) → (control me).stage ≡ Some stage → StandsAt a.place at (share_of a me) (control me).drain me (Some stage)
  stands stage e = subst (λ (x : Option Stage). StandsAt a.place at (share_of a me) (control me).drain me x) e (s.stands me)

  -- so what holds of the call that the stage says holds of the one that is held
  holds : (P : Option Holding → Type 0) (stage : Stage) → (control me).stage ≡ Some stage → P (held_of (Some stage)) → P (a.held me)
  holds P stage e p = subst P (sym (s.held me ∙ ap held_of e)) p

  pub rests : Rests (share_of a me) → HandlesNothing a me
  rests k = record { batch = k.batch; idle = k.running; accepted = k.accepted }

  -- a CPU that holds nothing by its stage is at rest, where it has nothing taken
  at_rest : (stage : Stage) → (control me).stage ≡ Some stage → held_of (Some stage) ≡ None → Rests (share_of a me) → IsAtRest a me
  at_rest stage e none k = record { none = s.held me ∙ (ap held_of e ∙ none); rests = rests k }

  wins : (b : Bool) (h : Holding) → LeadsTo (Some h) (cond b (Some (h.call.id + 1)) None)
  wins x h = search arith

  ruleset may_win = (wins, rests)

  may_hold : (p : Posting) (stage : PostStage) → Rests (share_of a me) × PostStands a.place at me p stage → a.held me ≡ held_of_post p stage
      → Premise (Post p stage)
  may_hold p x k held = search (rests, arith)

  -- a record of what is left of the batch
  placed : (id : ℕ) (call : Call) → call.id ≡ id → IsPlaced a.place (place.Batch me) call → a.place id ≡ place.Batch me
  placed id call e p = subst (λ (n : ℕ). a.place n ≡ place.Batch me) e p.placed

  abbrev In : Call → Type 0
  In call = IsPlaced a.place (place.Batch me) call

  reversed : (up down id : ℕ) (call : Call) → Reverses (nexts_in at) (share_of a me) (control me).drain up down call → call.id ≡ id
      → a.place id ≡ place.Batch me
  reversed up down id call k e =
      let all = every_right In k.older (call ∷ k.newer) (reverses_all In k (s.placed.batched me)) in placed id call e all.0

  walked : (walk : Walk) (id : ℕ) (call : Call) (rest : List Call)
      → Walks (nexts_in at) (share_of a me) (control me).drain walk (id + 1) [] (call ∷ rest) Nothing → a.place id ≡ place.Batch me
  walked walk id call rest k = let all = walks_rest In k (s.placed.batched me) in placed id call (same_record id call k.leads_on.0) all.0

  ended : (id : ℕ) (call : Call) (rest : List Call) → Ends (nexts_in at) (share_of a me) (control me).drain (id + 1) [] (call ∷ rest) Nothing
      → a.place id ≡ place.Batch me
  ended id call rest k = let all = ends_rest In k (s.placed.batched me) in placed id call (same_record id call k.leads_on.0) all.0

  runs : (r : Running) (class : Class) (call : Call) → a.running me ≡ r → call.class ≡ class → r ≡ runs_as class call → a.running me ≡ runs_as call.class call
  runs r class call e c is = e ∙ (is ∙ ap (λ (x : Class). runs_as x call) (sym c))

  ruleset may_be = (inl, inr, rests, reversed, walked, ended, runs)

  may_stand : (stage : HandleStage) → (me < cpus) × HandleStands (nexts_in at) (share_of a me) (control me).drain stage → a.held me ≡ None
      → Premise (Handle stage)
  may_stand handle.Accept k none = (refl, record { rests = record { none = none; rests = rests k.1 }; finds = s.noticed.words me; clears = refl })
  may_stand (handle.LoadFlags walk id next) k none = (inr (walked walk id k.1.0 k.1.1 k.1.2), s.written.locks id)
  may_stand (handle.Unlink walk last call next) k none =
      let l = walks_last In (nexts_in at) (share_of a me) (control me).drain walk last (call.id + 1) (call ∷ k.1.0) k.1.1 k.1.4 (s.placed.batched me) in
      inr (placed last l.0 l.1 l.2, k.1.1.running_is)
  may_stand (handle.BeginSync walk call next) k none =
      (refl, inr (call, refl, record { rest = _; front = k.1.1.batch; idle = k.1.1.running_is; class_is = walks_sync k.1.1 }))
  may_stand (handle.EndSync walk call next) k none = inr (inl (none, (call, refl, k.1.1.running_is, k.1.2)))
  may_stand (handle.BeginAsync call next) k none =
      inr (inr (none, (call, refl, record { rest = _; front = k.1.1.batch; idle = k.1.1.running_is; class_is = ends_async k.1.1 })))
  may_stand _ k none = search (may_be, arith)

  pub may_see : (stage : Stage) → (control me).stage ≡ Some stage → Premise stage
  may_see x e = search (stands, at_rest, may_hold, may_stand, stands_at, arith)

  -- a load finds what is in its word, and a store finds nothing
  found : (x : Access) → IsFound at (word_of x) (found_by x (at (word_of x)))
  found x = search arith

  abbrev Fits : Stage → Type 0
  Fits stage =
      let access = access_of at me stage in
      let seen = seen_of me access (at (word_of access)) None in
      FitsWords a at me seen.act seen.word seen.put

  -- a CPU that may accept is inside handle
  inside : (control me).stage ≡ Some (Handle handle.Accept) → at (Hand me) ≢ 0
  inside e = subst (λ (x : Option Stage). HandIs x (at (Hand me))) e (s.hands me)

  fits : (stage : Stage) → (control me).stage ≡ Some stage → Fits stage
  fits x e = search (holds, inside, arith)

  pub may_make : (stage : Stage) → (control me).stage ≡ Some stage → MayMake a at (seen_then at (control me).drain me stage)
  may_make stage e = record { may = may_see stage e; finds = found (access_of at me stage); fits = fits stage e }
