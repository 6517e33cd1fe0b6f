-- What a step of one CPU leaves to all CPUs: what they hold, where they are, and their handling words.
use Rattle.std.proofs.Common.{◌≡◌, ◌≢◌, ℕ, ◌<◌, Option, Some, None, sym, subst, ap, ◌∙◌}
use Rattle.smp_words.specs.Size.{cpus}
use Rattle.smp_words.specs.Put.{put}
use Rattle.smp_call_steps.specs.{CallState, ControlValue, nexts_in, hands_in, Share, share_of, StandsAt, HandleStands, HandIs, held_of, Word, RecPlace}
use Rattle.smp_call_steps.specs.{HandleStage, Stage, Handle}
use Rattle.smp_call_steps.specs.Stands.{CallStands}
use Rattle.smp_call_steps.specs.Shows.{Shows}
use Rattle.smp_words.proofs.Puts.{put_all, put_both}
use Rattle.smp_call_steps.proofs.Steps.Frames.{LeavesTo, CallStands-kept}

module _ {a : CallState} {at : Word → ℕ} {control : ℕ → ControlValue} (me : ℕ) (s : Shows a at control) where
  -- inside handle a CPU holds nothing
  pub holds_nothing : (stage : HandleStage) → (control me).stage ≡ Some (Handle stage) → a.held me ≡ None
  holds_nothing stage e = s.held me ∙ ap held_of e

  -- what holds of a CPU at a stage of handle
  pub stands_at : (stage : HandleStage) → (control me).stage ≡ Some (Handle stage)
      → (me < cpus) × HandleStands (nexts_in at) (share_of a me) (control me).drain stage
  stands_at stage e = subst (λ (x : Option Stage). StandsAt a.place at (share_of a me) (control me).drain me x) e (s.stands me)

  pub hand_at : (stage : HandleStage) → (control me).stage ≡ Some (Handle stage) → HandIs (Some (Handle stage)) (hands_in at me)
  hand_at stage e = subst (λ (x : Option Stage). HandIs x (hands_in at me)) e (s.hands me)

  -- each CPU holds what it held
  pub held_after : (c : ControlValue) → a.held me ≡ held_of c.stage → (cpu : ℕ) → a.held cpu ≡ held_of (put control me c cpu).stage
  held_after c here = put_all (λ cpu x. a.held cpu ≡ held_of x.stage) control me c here (λ cpu _. s.held cpu)

  -- the others are where they were
  pub stands_after : (at' : Word → ℕ) (place' : ℕ → RecPlace) (share' : ℕ → Share) (c : ControlValue) →
      ((cpu : ℕ) → cpu ≢ me → share' cpu ≡ share_of a cpu) → ((cpu : ℕ) → cpu ≢ me → LeavesTo cpu a.place place' at at')
      → CallStands place' at' (share' me) me c →
      (cpu : ℕ) → CallStands place' at' (share' cpu) cpu (put control me c cpu)
  stands_after at' place' share' c same leaves here =
      put_all (λ cpu x. CallStands place' at' (share' cpu) cpu x) control me c here
      (λ cpu ne. subst (λ (x : Share). CallStands place' at' x cpu (control cpu)) (sym (same cpu ne))
      (CallStands-kept (leaves cpu ne) (share_of a cpu) (control cpu) (s.placed.batched cpu) (s.stands cpu)))

  -- a step that stores no handling word
  pub hands_after : (c : ControlValue) → HandIs c.stage (hands_in at me) → (cpu : ℕ) → HandIs (put control me c cpu).stage (hands_in at cpu)
  hands_after c here = put_all (λ cpu x. HandIs x.stage (hands_in at cpu)) control me c here (λ cpu _. s.hands cpu)

  -- a step that stores this CPU's own
  pub hands_stored : (c : ControlValue) (n : ℕ) → HandIs c.stage n → (cpu : ℕ) → HandIs (put control me c cpu).stage (put (hands_in at) me n cpu)
  hands_stored c n here = put_both (λ cpu x hand. HandIs x.stage hand) control (hands_in at) me c n here (λ cpu _. s.hands cpu)
