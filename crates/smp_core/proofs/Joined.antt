-- What joins the two halves of a core: each step and the beginning of each command keep it.
use Rattle.std.proofs.Common.{◌≡◌, ◌≢◌, ◌⊎◌, ℕ, ◌<◌, Bool, true, false, cond, Option, Some, None, List, length, replicate, inl, inr}
use Rattle.std.proofs.Common.{refl, sym, subst, ap, ◌∙◌, arith}
use Rattle.std.proofs.lemmas.Bool.{cases_eq}
use Rattle.std.proofs.lemmas.List.{get_or-set_other}
use Rattle.std.specs.Prelude.{slice_set}
use Rattle.smp_mask.specs.declared.error.SmpError.{SmpError}
use Rattle.smp_words.specs.Layout.{number_in}
use Rattle.smp_words.specs.Put.{put}
use Rattle.smp_words.specs.Size.{cpus}
use Rattle.smp_words.specs.declared.command.Command.{Command}
use Rattle.smp_words.specs.declared.word.Word.TheVariants.{Hand}
use Rattle.smp_words.proofs.Puts.{put_all}
use Rattle.smp_words.proofs.Zeros.{get_or-same}
use Rattle.smp_call_steps.specs.Calls.{CallState}
use Rattle.smp_call_steps.specs.Drains.{DrainValue, handle_outcome}
use Rattle.smp_call_steps.specs.Posts.{post_outcome}
use Rattle.smp_call_steps.specs.Stages.{ControlValue, control_after, outcome_of}
use Rattle.smp_call_steps.specs.Stands.{HandIs}
use Rattle.smp_call_steps.specs.Start.{control_at, first_stage}
use Rattle.smp_call_steps.specs.Value.{ValuesShow, control_of, outside}
use Rattle.smp_call_steps.specs.declared.handle.HandleStage.{HandleStage}
use Rattle.smp_call_steps.specs.declared.post.PostStage.{PostStage}
use Rattle.smp_call_steps.specs.declared.post.Posting.{Posting}
use Rattle.smp_call_steps.specs.declared.stage.CallOutcome.{CallOutcome}
use Rattle.smp_call_steps.specs.declared.stage.Stage.{Stage}
use Rattle.smp_call_steps.specs.declared.stage.Stage.TheVariants.{Handle}
use Rattle.smp_call_steps.proofs.Machine.Cores.{controls_by_cpu, inside_below}
use Rattle.smp_stop_steps.specs.Stages.{StopControlValue, stop_outside}
use Rattle.smp_stop_steps.specs.Start.{refusal_on, stop_begun_if, stop_first, stop_refusal, stop_started, terms_of, unless}
use Rattle.smp_stop_steps.specs.State.{StopState}
use Rattle.smp_stop_steps.specs.Value.{StopShown, StopsValue, stop_control_of}
use Rattle.smp_stop_steps.specs.declared.stage.StopStage.{StopStage}
use Rattle.smp_stop_steps.specs.declared.start.Terms.{Terms}
use Rattle.smp_core.specs.Joined.{AreJoined, HandlesWithOn, IsInOneHalf}
use Rattle.smp_core.proofs.Insides.{calls_begun}

-- a CPU handles still, with its interrupts on
handles_if : (b : Bool) (on : Bool) (x y : CallOutcome) → HandlesWithOn x.next on → HandlesWithOn y.next on → HandlesWithOn (cond b x y).next on
handles_if true on x y k l = k
handles_if false on x y k l = l

posts_handle : (q : Posting) (stage : PostStage) (found : ℕ) (on : Bool) → HandlesWithOn (post_outcome q stage found).next on
posts_handle q stage found on = search (handles_if, arith)

handles_on : (d : DrainValue) (stage : HandleStage) (found : ℕ) (on : Bool) → on ≡ true → HandlesWithOn (handle_outcome d stage found).next on
handles_on d stage found on h1 = search (handles_if, arith)

step_handles : (d : DrainValue) (stage : Stage) (found : ℕ) (on : Bool) → HandlesWithOn (Some stage) on → HandlesWithOn (outcome_of d stage found).next on
step_handles d stage found on h1 = search (posts_handle, handles_on, arith)

-- and begins to only where they are on
unless_none : (b : Bool) (e : SmpError) → unless b e ≡ None → b ≡ true
unless_none true e x = refl
unless_none false e x = absurd cc

first_handles : (online cpu : ℕ) (t : Terms) (x : StopControlValue) (y : Command) → refusal_on t x y ≡ None
    → HandlesWithOn (first_stage online cpu y) x.interrupts
first_handles online cpu t x y h1 = search (unless_none, arith)

-- a command begins in one half
first_apart : (online cpu : ℕ) (x : StopControlValue) (y : Command) → (first_stage online cpu y ≡ None) ⊎ (stop_first x y ≡ None)
first_apart online cpu x y = search arith

none_or : {A B : Type 0} (x : A) (o : Option A) → o ≡ Some x → (o ≡ None) ⊎ B → B
none_or x o e h = search arith

or_none : {A B : Type 0} (x : A) (o : Option A) → o ≡ Some x → B ⊎ (o ≡ None) → B
or_none x o e h = search arith

module _ (controls : List ControlValue) (cpu : ℕ) (sized : length controls ≡ cpus) where
  -- one CPU goes on in the call half
  call_joined : (stops : List StopControlValue) (c : ControlValue) → cpu < cpus → HandlesWithOn c.stage (stop_control_of stops cpu).interrupts →
      (c.stage ≡ None) ⊎ ((stop_control_of stops cpu).stage ≡ None) → AreJoined controls stops → AreJoined (slice_set controls cpu c) stops
  call_joined stops c low handles in_one j = record {
    handles = subst (λ (f : ℕ → ControlValue). (k : ℕ) → HandlesWithOn (f k).stage (stop_control_of stops k).interrupts) (sym by_name)
        (put_all (λ k (x : ControlValue). HandlesWithOn x.stage (stop_control_of stops k).interrupts) (control_of controls) cpu c handles
        (λ k ne. j.handles k));
    in_one = subst (λ (f : ℕ → ControlValue). (k : ℕ) → ((f k).stage ≡ None) ⊎ ((stop_control_of stops k).stage ≡ None)) (sym by_name)
        (put_all (λ k (x : ControlValue). (x.stage ≡ None) ⊎ ((stop_control_of stops k).stage ≡ None)) (control_of controls) cpu c in_one
        (λ k ne. j.in_one k));
  }
    where
      by_name : control_of (slice_set controls cpu c) ≡ put (control_of controls) cpu c
      by_name = controls_by_cpu controls cpu c sized low

  -- a step of the call half
  pub joined_stepped : (stops : List StopControlValue) (stage : Stage) (found : ℕ) → (control_of controls cpu).stage ≡ Some stage → AreJoined controls stops →
      AreJoined (slice_set controls cpu (control_after (control_of controls cpu) stage found)) stops
  joined_stepped stops stage found e j = call_joined stops (control_after (control_of controls cpu) stage found) (inside_below controls cpu stage sized e)
      (step_handles (control_of controls cpu).drain stage found (stop_control_of stops cpu).interrupts
      (subst (λ (x : Option Stage). HandlesWithOn x (stop_control_of stops cpu).interrupts) e (j.handles cpu)))
      (inr (none_or stage (control_of controls cpu).stage e (j.in_one cpu))) j

-- one CPU goes on in the stop half, outside a command of the call half
stop_joined : (controls : List ControlValue) (stops : List StopControlValue) (cpu : ℕ) (c : StopControlValue) → (control_of controls cpu).stage ≡ None →
    AreJoined controls stops → AreJoined controls (slice_set stops cpu c)
stop_joined controls stops cpu c none j = record { handles = λ k. (at k (cases_eq k cpu)).0; in_one = λ k. (at k (cases_eq k cpu)).1 }
  where
    at : (k : ℕ) → (k ≡ cpu) ⊎ (k ≢ cpu) → HandlesWithOn (control_of controls k).stage (stop_control_of (slice_set stops cpu c) k).interrupts
        × IsInOneHalf controls (slice_set stops cpu c) k
    at k (inl is) = rw (is, none) (tt, inl refl)
    at k (inr ne) = rw (get_or-set_other stops cpu k c stop_outside ne) (j.handles k, j.in_one k)

-- a step of the stop half
pub joined_stop_stepped : (controls : List ControlValue) (stops : List StopControlValue) (cpu : ℕ) (stage : StopStage) (c : StopControlValue) →
    (stop_control_of stops cpu).stage ≡ Some stage → AreJoined controls stops → AreJoined controls (slice_set stops cpu c)
joined_stop_stepped controls stops cpu stage c e j = stop_joined controls stops cpu c (or_none stage (stop_control_of stops cpu).stage e (j.in_one cpu)) j

-- the beginning of a command

module _ (controls : List ControlValue) (v : StopsValue) (cpu online : ℕ) (c : Command) (sized : length controls ≡ cpus) (low : cpu < cpus)
    (out : (stop_control_of v.controls cpu).stage ≡ None) (allowed : stop_refusal v cpu c ≡ None) (j : AreJoined controls v.controls) where
  abbrev pub begun_at : ControlValue
  begun_at = control_at (control_of controls cpu) (first_stage online cpu c)

  begun : AreJoined (slice_set controls cpu begun_at) v.controls
  begun = call_joined controls cpu sized v.controls begun_at low (first_handles online cpu (terms_of v cpu) (stop_control_of v.controls cpu) c allowed)
      (inr out) j

  begins : (o : Option StopStage) → stop_first (stop_control_of v.controls cpu) c ≡ o →
      AreJoined (slice_set controls cpu begun_at) (stop_begun_if v cpu o).controls
  begins None e = begun
  begins (Some stage) e = stop_joined (slice_set controls cpu begun_at) v.controls cpu _ (calls_begun controls cpu (first_stage online cpu c)
      (omega (arith, low, sized)) ∙ or_none stage (stop_first (stop_control_of v.controls cpu) c) e
      (first_apart online cpu (stop_control_of v.controls cpu) c)) begun

  pub joined_started : AreJoined (slice_set controls cpu (control_at (control_of controls cpu) (first_stage online cpu c))) (stop_started v cpu c).controls
  joined_started = begins (stop_first (stop_control_of v.controls cpu) c) refl

-- a new core
pub new_joined : (controls : List ControlValue) (stops : List StopControlValue) → controls ≡ replicate cpus outside → AreJoined controls stops
new_joined controls stops e = record {
  handles = λ cpu. rw (at_first cpu) tt;
  in_one = λ cpu. inl (ap (λ (x : ControlValue). x.stage) (at_first cpu));
}
  where
    at_first : (cpu : ℕ) → control_of controls cpu ≡ outside
    at_first cpu = rw e (get_or-same outside cpus cpu)

-- what that says of the stops that a core shows

module _ (controls : List ControlValue) (v : StopsValue) (sized : length controls ≡ cpus) (j : AreJoined controls v.controls)
    (p : StopState) (shown : StopShown p v) (cpu : ℕ) where
  on_at : (x : Option Stage) → (control_of controls cpu).stage ≡ x → HandlesWithOn x (stop_control_of v.controls cpu).interrupts →
      HandlesWithOn x (p.now.irq cpu)
  on_at (Some (Handle stage)) e h =
      (shown.shows.present.irq cpu ∙ sym (shown.sits cpu (inside_below controls cpu (Handle stage) sized e)).irq) ∙ h
  on_at _ e h = tt

  pub handles_shown : HandlesWithOn (control_of controls cpu).stage (p.now.irq cpu)
  handles_shown = on_at (control_of controls cpu).stage refl (j.handles cpu)

  hand_on : (x : Option Stage) (hand : ℕ) → HandIs x hand → HandlesWithOn x (p.now.irq cpu) → hand ≢ 0 → p.now.irq cpu ≡ true
  hand_on (Some (Handle stage)) hand is h ne = h
  hand_on _ hand is h ne = absurd (ne is)

  pub hand_shown : (a : CallState) (words : List ℕ) → ValuesShow a words controls → number_in words (Hand cpu) ≢ 0 → p.now.irq cpu ≡ true
  hand_shown a words calls ne = hand_on (control_of controls cpu).stage (number_in words (Hand cpu)) (calls.hands cpu) handles_shown ne
