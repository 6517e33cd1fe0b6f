-- A CPU may be at any stage that its steps so far leave open.
use Rattle.std.proofs.Common.{arith, ◌≡◌, ℕ, ◌%◌, ◌<◌, true, false, ◌==◌, Option, Some, None, sym, subst, ap, ◌∙◌, ◌⊎◌}
use Rattle.smp_words.specs.Put.{put}
use Rattle.smp_words.specs.Size.{records, owner}
use Rattle.smp_call_steps.specs.{CallState, DrainValue, ControlValue, access_of, Rests, StandsAt, PostKnows, share_of, held_of}
use Rattle.smp_call_steps.specs.{HandIs, told_post, told_handle, told_stage, Sees, MayStep, MayPost, CallMoment, known_access, is_confirmed, Word}
use Rattle.smp_call_steps.specs.{Hand, Flags, RecPlace, Posting, PostStage, HandleStage, Stage, Post, Handle}
use Rattle.smp_call_steps.specs.Shows.{Shows}
use Rattle.smp_call_steps.proofs.Basics.Rows.{row-at}
use Rattle.smp_call_steps.proofs.Steps.Sending.{stands_on}
use Rattle.smp_call_steps.specs.declared.known.KnownCalls.{KnownCalls}
use Rattle.smp_call_steps.specs.place
use Rattle.smp_call_steps.specs.post
use Rattle.smp_call_steps.specs.handle

-- what is held was told
pub held_told : (s : Option Stage) → held_of (told_stage s) ≡ held_of s
held_told x = search arith

-- what a CPU knows of its record's words
abbrev Knows : (ℕ → RecPlace) → (Word → ℕ) → Option Stage → Type 0
Knows places at (Some (Post p stage)) = PostKnows places at p stage
Knows places at _ = Unit {0}

abbrev IsFreeAt : (ℕ → RecPlace) → ℕ → PostStage → Type 0
IsFreeAt places id post.Lock = places id ≡ place.Free
IsFreeAt places id _ = Unit {0}

told_knows : (places : ℕ → RecPlace) (at : Word → ℕ) (p : Posting) (stage : PostStage) → Knows places at (told_post p stage) → IsFreeAt places p.id stage
    → PostKnows places at p stage
told_knows places at p x k f = search arith

-- a CPU that may be outside, or at a step of a post: it has nothing taken and nothing loaded, and its handling word is 0
pub record Idle (a : CallState) (at : Word → ℕ) (d : DrainValue) (me : ℕ) : Type 0 where
  pub rests : Rests (share_of a me)
  pub hand : at (Hand me) ≡ 0

-- no stage of a post is told of handle, and none of handle of a post
abbrev IsNoHandle : Option Stage → Type 0
IsNoHandle (Some (Handle stage)) = ⊥
IsNoHandle _ = Unit {0}

post_no_handle : (p : Posting) (st : PostStage) → IsNoHandle (told_post p st)
post_no_handle p x = search arith

module _ (a : CallState) (at : Word → ℕ) (me : ℕ) (d : DrainValue) where
  idle_handle : (h : HandleStage) → StandsAt a.place at (share_of a me) d me (Some (Handle h)) → HandIs (Some (Handle h)) (at (Hand me))
      → IsNoHandle (told_handle h) → Idle a at d me
  idle_handle handle.Enter k hand n = record { rests = k.1; hand = hand }
  idle_handle _ k hand n = absurd n

  -- a CPU whose steps have told of no handle is idle
  idle_told : (stage : Option Stage) → StandsAt a.place at (share_of a me) d me stage → HandIs stage (at (Hand me)) → IsNoHandle (told_stage stage)
      → Idle a at d me
  idle_told None k hand n = record { rests = k; hand = hand }
  idle_told (Some (Handle h)) k hand n = idle_handle h k hand n
  idle_told _ k hand n = record { rests = k.0; hand = hand }

  knows_told : (stage : Option Stage) → StandsAt a.place at (share_of a me) d me stage → Knows a.place at (told_stage stage)
  knows_told x k = search arith

-- of a stage of handle beyond the first, all is told
abbrev IsBeyond : HandleStage → Type 0
IsBeyond handle.Enter = ⊥
IsBeyond _ = Unit {0}

stage_is : (h : HandleStage) (stage : Option Stage) → told_stage stage ≡ Some (Handle h) → stage ≡ Some (Handle h)
stage_is h x e = search arith

told_beyond : (h : HandleStage) → IsBeyond h → told_handle h ≡ Some (Handle h)
told_beyond x b = search arith

enters : (h : HandleStage) → IsBeyond h ⊎ (h ≡ handle.Enter)
enters x = search arith

module _ {a : CallState} {at : Word → ℕ} {control : ℕ → ControlValue} {v : KnownCalls} (s : Shows a at control) (sees : Sees a control v) where
  abbrev me : ℕ
  me = v.number

  -- it holds what its stage says, as far as it knows that
  pub known_held : a.held me ≡ held_of v.stage
  known_held = s.held me ∙ (sym (held_told (control me).stage) ∙ ap held_of sees.stage)

  -- a confirmed record is free, where its source is outside
  pub free_outside : (id : ℕ) → owner id ≡ me → id < records → v.stage ≡ None → is_confirmed v id ≡ true → a.place id ≡ place.Free
  free_outside id own small out conf = search (known_held, row-at, arith)

  pub aims_told : (st : Stage) → MayStep v st → told_stage (Some st) ≡ v.stage
  aims_told x aims = search arith

  idle : IsNoHandle v.stage → Idle a at (control me).drain me
  idle n = idle_told a at me (control me).drain (control me).stage (s.stands me) (s.hands me) (subst IsNoHandle (sym sees.stage) n)

  outside_idle : v.stage ≡ None → Idle a at (control me).drain me
  outside_idle e = idle (subst IsNoHandle (sym e) tt)

  free_at : (p : Posting) (st : PostStage) → MayPost v p st → IsFreeAt a.place p.id st
  free_at p x aims = search (free_outside, arith)

  abbrev here : Option Stage → ControlValue
  here stage = record { stage = stage; drain = (control me).drain }

  handle_same : (h : HandleStage) → IsBeyond h → v.stage ≡ told_handle h → (control me).stage ≡ Some (Handle h)
  handle_same h b e = stage_is h (control me).stage (sees.stage ∙ (e ∙ told_beyond h b))

  aims_stands : (st : Stage) → MayStep v st → StandsAt a.place at (share_of a me) (control me).drain me (Some st)
  aims_stands x aims = search (idle, post_no_handle, told_knows, knows_told, free_at, enters, handle_same, outside_idle, arith)

  aims_hand : (st : Stage) → MayStep v st → HandIs (Some st) (at (Hand me))
  aims_hand x aims = search (idle, post_no_handle, enters, handle_same, outside_idle, arith)

  pub aims_held : (st : Stage) → MayStep v st → a.held me ≡ held_of (Some st)
  aims_held st aims = known_held ∙ (ap held_of (sym (aims_told st aims)) ∙ held_told (Some st))

  -- the CPU may be there, and it knows what it knew
  pub restages : (st : Stage) → MayStep v st → Shows a at (put control me (record { stage = Some st; drain = v.drain }))
  restages st aims =
      subst (λ (d : DrainValue). Shows a at (put control me (record { stage = Some st; drain = d }))) sees.drain
      (stands_on a at control me (record { stage = Some st; drain = (control me).drain }) s (aims_held st aims) (aims_stands st aims) (aims_hand st aims))

  -- the access is the one that the CPU knows
  pub access_known : (st : Stage) → MayStep v st → access_of at me st ≡ known_access v st
  access_known x aims = search (aims_held, arith)

-- where a CPU is outside, its confirmed records are unlocked
pub confirmed_unlocked : (v : KnownCalls) (id n : ℕ) → CallMoment v (Flags id) n → v.stage ≡ None → owner id ≡ v.number → id < records
    → is_confirmed v id ≡ true
    → (n % 2 == 1) ≡ false
confirmed_unlocked v id n m out own small conf = search (free_outside, arith)
