-- How a replay goes on.
use Rattle.std.proofs.Common.{◌≡◌, ℕ, zero, suc, ◌+◌, ◌<◌, ◌≤◌, List, [], ◌∷◌, ◌++◌, take, drop, length, get_or, true, false, Result, Option, refl, sym, ap}
use Rattle.std.proofs.Common.{◌∙◌, inl, inr, arith, add-one, sum_by}
use Rattle.std.proofs.lemmas.Bool.{cases_lt}
use Rattle.std.proofs.lemmas.List.{take_more, take-append-drop}
use Rattle.std.proofs.lemmas.List.Sums.{sum_by-append}
use Rattle.smp_mask.specs.declared.error.SmpError.{SmpError}
use Rattle.smp_core.specs.Value.{CoreValue}
use Rattle.smp_core.specs.Replay.{turn_of}
use Rattle.smp_words.specs.declared.seen.Seen.{Seen}
use Rattle.smp_words.specs.declared.command.Event.{Event}
use Rattle.smp_words.specs.declared.command.Event.TheVariants as event
use Rattle.smp_script.specs.declared.directive.Directive.{Directive}
use Rattle.smp_script.specs.declared.directive.Directive.TheVariants.{Start, Step, Show, Do}
use Rattle.smp_script.specs.Script.{events_of}
use Rattle.smp_replay.specs.Output.{Progress, after_answer, event_after, steps_after, directive_after, replay_after}

-- an event by its answer
pub after_event : (core next : CoreValue) (position : ℕ) (text : List ℕ) (e : Event) (answer : Result (Option Seen) SmpError) → answer ≡ (turn_of core e).answer
    → next ≡ (turn_of core e).core
    → after_answer next position text answer ≡ event_after (record { core = core; position = position; text = text; stopped = false }) e
unfolding event_after
after_event core next position text e answer a c = rw (a, c) refl

-- a replay that has ended goes on no more
event_stays : (p : Progress) (e : Event) → p.stopped ≡ true → event_after p e ≡ p
unfolding event_after
event_stays p e h = rw h refl

steps_stay : (p : Progress) (cpu n : ℕ) → p.stopped ≡ true → steps_after p cpu n ≡ p
unfolding steps_after
steps_stay p cpu zero h = refl
steps_stay p cpu (suc n) h = ap (λ q. event_after q (event.Step cpu)) (steps_stay p cpu n h) ∙ event_stays p (event.Step cpu) h

directive_stays : (p : Progress) (d : Directive) → p.stopped ≡ true → directive_after p d ≡ p
directive_stays p (Start cpu command) h = event_stays p (event.Start cpu command) h
directive_stays p (Step cpu count) h = steps_stay p cpu count h
directive_stays p Show h = rw h refl
directive_stays p (Do cpu count request) h = refl

replay_stays : (p : Progress) (ds : List Directive) → p.stopped ≡ true → replay_after p ds ≡ p
unfolding replay_after
replay_stays p [] h = refl
replay_stays p (d ∷ ds) h = ap (λ q. replay_after q ds) (directive_stays p d h) ∙ replay_stays p ds h

pub steps_none : (p : Progress) (cpu : ℕ) → p ≡ steps_after p cpu 0
unfolding steps_after
steps_none p cpu = refl

-- one step more
pub steps_more : (p q r : Progress) (cpu n : ℕ) → q ≡ steps_after p cpu n → r ≡ event_after q (event.Step cpu) → r ≡ steps_after p cpu (n + 1)
unfolding steps_after
steps_more p q r cpu n e f = rw add-one (f ∙ ap (λ x. event_after x (event.Step cpu)) e)

steps_kept : (p : Progress) (cpu k n : ℕ) → (steps_after p cpu k).stopped ≡ true → k ≤ n → steps_after p cpu k ≡ steps_after p cpu n
unfolding steps_after
steps_kept p cpu k zero h le = let e : k ≡ 0 = omega arith in rw e refl
steps_kept p cpu k (suc n) h le = elim (cases_lt n k) [
  | inl past ↦ let e : k ≡ suc n = omega arith in rw e refl
  | inr before ↦
      let same : steps_after p cpu k ≡ steps_after p cpu n = steps_kept p cpu k n h before in
      let ended : (steps_after p cpu n).stopped ≡ true = rw (← same) h in
      same ∙ sym (event_stays (steps_after p cpu n) (event.Step cpu) ended)
]

-- a replay that ended after k steps is as it is after all
pub steps_end : (p r : Progress) (cpu k n : ℕ) → r ≡ steps_after p cpu k → r.stopped ≡ true → k ≤ n → r ≡ steps_after p cpu n
steps_end p r cpu k n e h le =
    let ended : (steps_after p cpu k).stopped ≡ true = rw (← e) h in
    e ∙ steps_kept p cpu k n ended le

pub replay_none : (p : Progress) → p ≡ replay_after p []
unfolding replay_after
replay_none p = refl

replay-append : (p : Progress) (xs ys : List Directive) → replay_after p (xs ++ ys) ≡ replay_after (replay_after p xs) ys
unfolding replay_after
replay-append p [] ys = refl
replay-append p (x ∷ xs) ys = replay-append (directive_after p x) xs ys

replay_one : (p : Progress) (d : Directive) → replay_after p (d ∷ []) ≡ directive_after p d
unfolding replay_after
replay_one p d = refl

-- one line more
pub replay_more : (p q r : Progress) (ds : List Directive) (i : ℕ) (d : Directive) → i < length ds → q ≡ replay_after p (take i ds)
    → r ≡ directive_after q (get_or ds i d) → r ≡ replay_after p (take (i + 1) ds)
replay_more p q r ds i d h e f =
    f ∙ ap (λ x. directive_after x (get_or ds i d)) e ∙ sym (replay_one (replay_after p (take i ds)) (get_or ds i d))
    ∙ sym (replay-append p (take i ds) (get_or ds i d ∷ [])) ∙ ap (λ xs. replay_after p xs) (sym (take_more ds i d h))

-- a replay that ended after i lines is as it is after all
pub replay_end : (p r : Progress) (ds : List Directive) (i : ℕ) → r ≡ replay_after p (take i ds) → r.stopped ≡ true → r ≡ replay_after p ds
replay_end p r ds i e h =
    let ended : (replay_after p (take i ds)).stopped ≡ true = rw (← e) h in
    e ∙ sym (replay_stays (replay_after p (take i ds)) (drop i ds) ended) ∙ sym (replay-append p (take i ds) (drop i ds))
    ∙ ap (λ xs. replay_after p xs) (take-append-drop i ds)

-- one line more, and no more events than it has
pub goes_on : (p q r : Progress) (ds : List Directive) (i : ℕ) (d : Directive) → i < length ds → q ≡ replay_after p (take i ds)
    → r ≡ directive_after q (get_or ds i d)
    → q.position ≤ p.position + sum_by events_of (take i ds) → r.position ≤ q.position + events_of (get_or ds i d)
    → (r ≡ replay_after p (take (i + 1) ds)) × (r.position ≤ p.position + sum_by events_of (take (i + 1) ds))
goes_on p q r ds i d h e f before more =
    let total : sum_by events_of (take (i + 1) ds) ≡ sum_by events_of (take i ds) + events_of (get_or ds i d) =
    rw (take_more ds i d h) (omega (arith, sum_by-append events_of (take i ds) (get_or ds i d ∷ []))) in
    (replay_more p q r ds i d h e f, omega arith)
