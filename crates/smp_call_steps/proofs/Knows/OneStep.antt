-- One step of a CPU that knows v: what holds after it, and what each CPU knows then.
use Rattle.std.proofs.Common.{arith, ◌≡◌, ◌≢◌, ℕ, ◌-◌, Bool, cond, Option, Some, None, refl, ap, ◌∙◌}
use Rattle.smp_words.proofs.Puts.{put_same, put_other}
use Rattle.smp_words.specs.Put.{put}
use Rattle.smp_call_steps.specs.{CallState, ends, goes_to, DrainValue, handle_goes, second_on, first_on, reverse_on, by_class, unlink_after, Call}
use Rattle.smp_call_steps.specs.{Class, Word, Head, Access, Seen, Note, Posting, Walk, CallOutcome, Stage, Handle, ControlValue}
use Rattle.smp_call_steps.specs.{access_of, outcome_of, drain_of, control_after, part_after, told_post, told_handle, told_stage, Sees, known_tells}
use Rattle.smp_call_steps.specs.{stage_after, drain_then, MayStep, known_access, GoesOn}
use Rattle.smp_words.specs.Access.{word_of, at_after, seen_of}
use Rattle.smp_call_steps.specs.Premises.{MayMake}
use Rattle.smp_call_steps.specs.Shows.{Shows}
use Rattle.smp_call_steps.proofs.Steps.Every.{step_shown}
use Rattle.smp_call_steps.proofs.Knows.Restages.{known_held, restages, access_known, aims_told}
use Rattle.smp_call_steps.proofs.Knows.Parts.{ToldCalls, part_mine, part_else}
use Rattle.smp_call_steps.proofs.Knows.Reached.{steps_in_range, reach_more}
use Rattle.smp_call_steps.proofs.StepLaws.Keeps.{known_steps_keep_laws}
use Rattle.smp_call_steps.specs.declared.known.KnownCalls.{KnownCalls}
use Rattle.smp_call_steps.specs.act
use Rattle.smp_call_steps.specs.note
use Rattle.smp_call_steps.specs.post
use Rattle.smp_call_steps.specs.handle

-- the stage that follows, as the step tells it
abbrev Follows : (Word → ℕ) → ℕ → DrainValue → Stage → Type 0
Follows at me d st =
    let access = access_of at me st in
    let seen = seen_of me access (at (word_of access)) None in
    told_stage (outcome_of d st (at (word_of access))).next ≡ stage_after (told_stage (Some st)) d seen.act seen.word seen.found seen.put

-- what has been loaded then
abbrev Leaves : (Word → ℕ) → ℕ → DrainValue → Stage → Type 0
Leaves at me d st =
    let access = access_of at me st in
    let seen = seen_of me access (at (word_of access)) None in
    drain_of d st (at (word_of access)) ≡ drain_then (told_stage (Some st)) d seen.found

flags_follow : (b c : Bool) (p : Posting) → told_stage (cond b (ends note.Busy) (cond c (goes_to p post.Lock) (ends note.NoCpu))).next ≡ None
flags_follow x c p = search arith

exchange_follow : (p : Posting) (link tries n : ℕ) (b c : Bool) (won : Note) (me : ℕ) (d : DrainValue) (found : ℕ) →
    told_stage (cond b (ends won) (cond c (goes_to p (post.StoreNext found (tries - 1))) (goes_to p post.Uncount))).next
    ≡ stage_after (told_post p (post.Exchange link tries)) d act.Cas (Head p.to) (Some found) (cond b (Some n) None)
exchange_follow p link tries n y c won me d found = search arith

-- what is told of the stages of handle that follow
second_told : (next : Option ℕ) → told_handle (second_on next) ≡ Some (Handle (second_on next))
second_told x = search arith

first_told : (walk : Walk) (next : Option ℕ) → told_handle (first_on walk next) ≡ Some (Handle (first_on walk next))
first_told walk x = search (second_told, arith)

reverse_told : (here next : Option ℕ) → told_handle (reverse_on here next) ≡ Some (Handle (reverse_on here next))
reverse_told here x = search (first_told, arith)

class_told : (class : Class) (walk : Walk) (id : ℕ) (next : Option ℕ) → told_handle (by_class class walk id next) ≡ Some (Handle (by_class class walk id next))
class_told x walk id next = search (first_told, arith)

info_told : (last : Option ℕ) (walk : Walk) (call : Call) (next : Option ℕ)
    → told_handle (unlink_after last walk call next) ≡ Some (Handle (unlink_after last walk call next))
info_told x walk call next = search arith

accept_told : (b : Bool) → told_stage (cond {A = CallOutcome} b (handle_goes handle.LeaveIdle) (handle_goes handle.Take)).next
    ≡ (cond {A = CallOutcome} b (handle_goes handle.LeaveIdle) (handle_goes handle.Take)).next
accept_told x = search arith

ruleset stages_follow = (flags_follow, exchange_follow, accept_told, reverse_told, class_told, info_told, first_told, second_told)

follows : (at : Word → ℕ) (me : ℕ) (d : DrainValue) (st : Stage) → Follows at me d st
follows at me d x = search arith

leaves : (at : Word → ℕ) (me : ℕ) (d : DrainValue) (st : Stage) → Leaves at me d st
leaves at me d x = search arith

-- the CPU that knows this, and that may make the step of this stage, makes it
module _ {a : CallState} {at : Word → ℕ} {control : ℕ → ControlValue} {v : KnownCalls} (s : Shows a at control) (sees : Sees a control v) (st : Stage)
    (aims : MayStep v st) where
  abbrev me : ℕ
  me = v.number

  abbrev found : ℕ
  found = at (word_of (access_of at me st))

  -- the step, as this CPU sees it
  abbrev seen : Seen
  seen = seen_of me (access_of at me st) found None

  abbrev standing : ControlValue
  standing = record { stage = Some st; drain = v.drain }

  abbrev controls : ℕ → ControlValue
  controls = put control me standing

  abbrev after : ControlValue
  after = control_after standing st found

  here : controls me ≡ standing
  here = put_same control me standing

  shown : Shows (ToldCalls a at me v.drain st) (at_after at (access_of at me st)) (put controls me after)
  shown = rw here at (step_shown a at controls me (restages s sees st aims) st (ap (λ (c : ControlValue). c.stage) here))

  there : put controls me after me ≡ after
  there = put_same controls me after

  told_here : told_stage (Some st) ≡ v.stage
  told_here = aims_told s sees st aims

  mine : Sees (ToldCalls a at me v.drain st) (put controls me after) (known_tells (a.queue me) v seen)
  mine = record {
    stage = search (there, follows, told_here, arith);
    drain = ap (λ (c : ControlValue). c.drain) there ∙ (leaves at me v.drain st ∙ ap (λ (x : Option Stage). drain_then x v.drain seen.found) told_here);
    part = part_mine me v.drain s st ∙ (λ i. part_after (a.queue me) (known_held s sees i) seen.act seen.word seen.found seen.put (sees.part i));
  }

  others : (o : KnownCalls) → o.number ≢ me → Sees a control o → Sees (ToldCalls a at me v.drain st) (put controls me after) o
  others o ne k =
      let there : put controls me after o.number ≡ control o.number = put_other controls me after o.number ne ∙ put_other control me standing o.number ne in
      let part = part_else me v.drain s st o.number ne ∙ k.part in
      search (there, part, arith)

  -- the step with its note, which the CPU may make
  abbrev told_step : Seen
  told_step = seen_of me (access_of at me st) found (outcome_of v.drain st found).note

  premise : MayMake a at told_step
  premise = let k = known_steps_keep_laws a at control v s sees st aims in k.premise

  one_step : GoesOn a at control me (at_after at (access_of at me st)) (known_tells (a.queue me) v seen)
  one_step = record {
    seen = told_step;
    calls = ToldCalls a at me v.drain st;
    told = refl;
    reached = reach_more a at told_step (steps_in_range v st aims, premise);
    controls = put controls me after;
    shown = shown;
    mine = mine;
    number_is = refl;
    others = others;
  }

  -- the same, by what the CPU knows of its access
  pub known_step : (access : Access) → known_access v st ≡ access
      → GoesOn a at control me (at_after at access) (known_tells (a.queue me) v (seen_of me access (at (word_of access)) None))
  known_step access is = search (access_known, one_step, arith)
