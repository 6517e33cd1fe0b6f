-- CPUs that are not online stay as they are, by each step and by the beginning of each command.
use Rattle.std.proofs.Common.{◌≡◌, ◌≢◌, ◌⊎◌, ℕ, ◌<◌, Bool, true, false, cond, Option, Some, None}
use Rattle.std.proofs.Common.{List, [], length, replicate, get_or, refl, sym, ap}
use Rattle.std.proofs.Common.{◌∙◌, subst, inl, inr, true≢false, arith}
use Rattle.std.proofs.lemmas.Bool.{true_from_ne_false}
use Rattle.std.specs.Prelude.{slice_set}
use Rattle.smp_mask.specs.Mask.{has}
use Rattle.smp_words.specs.Access.{at_after, put_if, seen_of, word_of, words_after}
use Rattle.smp_words.specs.Layout.{index_of, number_in}
use Rattle.smp_words.specs.Put.{put_word}
use Rattle.smp_words.specs.Size.{cpus, table_size}
use Rattle.smp_words.specs.declared.access.Access.{Access}
use Rattle.smp_words.specs.declared.access.Access.TheVariants.{Load}
use Rattle.smp_words.specs.declared.command.Command.{Command}
use Rattle.smp_words.specs.declared.call.Call.{Call}
use Rattle.smp_words.specs.declared.seen.Note.TheVariants as note
use Rattle.smp_words.specs.declared.word.Word.{Word}
use Rattle.smp_words.specs.declared.word.Word.TheVariants.{Head, Intr}
use Rattle.smp_words.proofs.Puts.{put_all, test_else}
use Rattle.smp_words.proofs.Zeros.{get_or-same, zero_at}
use Rattle.smp_call_steps.specs.Calls.{CallState, no_calls, tells}
use Rattle.smp_call_steps.specs.Drains.{DrainValue}
use Rattle.smp_call_steps.specs.Threads.Parts.{part_of}
use Rattle.smp_call_steps.specs.declared.known.CallPart.{CallPart}
use Rattle.smp_call_steps.specs.Posts.{ends, goes_to}
use Rattle.smp_call_steps.specs.Stands.{held_of}
use Rattle.smp_call_steps.specs.Start.{command_refusal, control_at, first_stage}
use Rattle.smp_call_steps.specs.Stages.{ControlValue, access_of, control_after, outcome_of}
use Rattle.smp_call_steps.specs.Value.{ValuesShow, control_of, outside}
use Rattle.smp_call_steps.specs.Words.{IsEmpty, IsNoticed, is_pending, is_accepted, is_owed, bit, nexts_in}
use Rattle.smp_call_steps.specs.declared.post.PostStage.TheVariants as post
use Rattle.smp_call_steps.specs.declared.post.Posting.{Posting}
use Rattle.smp_call_steps.specs.declared.stage.CallOutcome.{CallOutcome}
use Rattle.smp_call_steps.specs.declared.stage.Stage.{Stage}
use Rattle.smp_call_steps.proofs.Basics.Rows.{row-at}
use Rattle.smp_call_steps.proofs.Knows.Parts.{part_else}
use Rattle.smp_call_steps.proofs.Machine.Accesses.{access_in_table}
use Rattle.smp_call_steps.proofs.Machine.Cores.{controls_by_cpu, inside_below, made_shown, words_by_name}
use Rattle.smp_call_steps.proofs.Machine.Starts.{else_none, new_shown}
use Rattle.smp_call_steps.proofs.State.Batches.{no_chain}
use Rattle.smp_core.specs.Offline.{AimsOnline, AreIdle, IsApart, HasDoneNothing, IsSeenTo, LeavesOffline}

-- where a CPU aims at CPUs that are online, so does it after its step

module _ (online : ℕ) where
  free_or_not : (p : Posting) (locked on : Bool) → p.is_online ≡ on → (p.is_online ≡ true → has online p.to ≡ true)
      → AimsOnline online (cond locked (ends note.Busy) (cond on (goes_to p post.Lock) (ends note.NoCpu))).next
  free_or_not p true on e h = tt
  free_or_not p false true e h = h e
  free_or_not p false false e h = tt

  aims_if : (b : Bool) (x y : CallOutcome) → AimsOnline online x.next → AimsOnline online y.next → AimsOnline online (cond b x y).next
  aims_if true x y k l = k
  aims_if false x y k l = l

  after_step : (d : DrainValue) (stage : Stage) (found : ℕ) → AimsOnline online (Some stage) → AimsOnline online (outcome_of d stage found).next
  after_step d stage found h = search (free_or_not, aims_if, arith)

  after_start : (nr cpu : ℕ) (c : Command) → command_refusal nr online cpu c ≡ None → AimsOnline online (first_stage online cpu c)
  after_start nr cpu c e = search (else_none, arith)

  -- an access of such a CPU leaves the head and the interrupt word of a CPU that is not online

  abbrev IsQuiet : (Word → ℕ) → ℕ → Type 0
  IsQuiet at cpu = (at (Head cpu) ≡ 0) × (at (Intr cpu) ≡ 0)

  -- a head or an interrupt word is that of a CPU that is online
  abbrev OnlineAt : Word → Type 0
  OnlineAt (Head to) = has online to ≡ true
  OnlineAt (Intr to) = has online to ≡ true
  OnlineAt _ = Unit {0}

  abbrev ReachesOnline : Access → Type 0
  ReachesOnline (Load w) = Unit {0}
  ReachesOnline access = OnlineAt (word_of access)

  pub apart : (to cpu : ℕ) → has online to ≡ true → has online cpu ≡ false → cpu ≢ to
  apart to cpu on off e = true≢false (sym on ∙ (ap (has online) (sym e) ∙ off))

  quiet_put : (at : Word → ℕ) (w : Word) (x cpu : ℕ) → OnlineAt w → has online cpu ≡ false → IsQuiet at cpu → IsQuiet (put_word at w x) cpu
  quiet_put at (Head to) x cpu on off q = (test_else cpu to x (at (Head cpu)) (apart to cpu on off) ∙ q.0, q.1)
  quiet_put at (Intr to) x cpu on off q = (q.0, test_else cpu to x (at (Intr cpu)) (apart to cpu on off) ∙ q.1)
  quiet_put at _ x cpu on off q = q

  quiet_if : (at : Word → ℕ) (w : Word) (o : Option ℕ) (cpu : ℕ) → OnlineAt w → has online cpu ≡ false → IsQuiet at cpu
      → IsQuiet (put_if put_word at w o) cpu
  quiet_if at w (Some x) cpu on off q = quiet_put at w x cpu on off q
  quiet_if at w None cpu on off q = q

  quiet_after : (at : Word → ℕ) (access : Access) (cpu : ℕ) → ReachesOnline access → has online cpu ≡ false → IsQuiet at cpu
      → IsQuiet (at_after at access) cpu
  quiet_after at access cpu r off q = search (quiet_put, quiet_if, arith)

  stage_reaches : (at : Word → ℕ) (me : ℕ) (stage : Stage) → AimsOnline online (Some stage) → has online me ≡ true → ReachesOnline (access_of at me stage)
  stage_reaches at me stage h on = search arith

  module _ (words : List ℕ) (controls : List ControlValue) (cpu : ℕ) (sized : length controls ≡ cpus) (before : IsApart online words controls) where
    -- a CPU inside a command is online
    pub inside_online : (stage : Stage) → (control_of controls cpu).stage ≡ Some stage → has online cpu ≡ true
    inside_online stage e = true_from_ne_false (has online cpu) (λ off. let none : None ≡ Some stage = sym (before.outside cpu off) ∙ e in cc)

    -- a CPU that is online comes to be elsewhere
    stands_apart : (words' : List ℕ) (b : CallState) (c : ControlValue) → cpu < cpus → has online cpu ≡ true → AimsOnline online c.stage
        → ValuesShow b words' (slice_set controls cpu c)
        → ((j : ℕ) → has online j ≡ false → IsQuiet (number_in words') j) → ((j : ℕ) → has online j ≡ false → part_of b j ≡ part_of no_calls j)
        → IsApart online words' (slice_set controls cpu c)
    stands_apart words' b c small on aims shown quiet idle = record {
      calls = b;
      shown = shown;
      aims = λ j. subst (λ (f : ℕ → ControlValue). AimsOnline online (f j).stage) (sym (controls_by_cpu controls cpu c sized small))
          (put_all (λ i (x : ControlValue). AimsOnline online x.stage) (control_of controls) cpu c aims (λ i ne. before.aims i) j);
      outside = λ j. subst (λ (f : ℕ → ControlValue). has online j ≡ false → (f j).stage ≡ None) (sym (controls_by_cpu controls cpu c sized small))
          (put_all (λ i (x : ControlValue). has online i ≡ false → x.stage ≡ None) (control_of controls) cpu c
          (λ off. absurd (true≢false (sym on ∙ off))) (λ i ne. before.outside i) j);
      quiet = quiet;
      idle = idle;
    }

    -- a step
    pub step_apart : (stage : Stage) → length words ≡ table_size → (control_of controls cpu).stage ≡ Some stage →
        let access = access_of (number_in words) cpu stage in
        let found = number_in words (word_of access) in
        IsApart online (words_after words access) (slice_set controls cpu (control_after (control_of controls cpu) stage found))
    step_apart stage wide e =
        let at = number_in words in
        let access = access_of at cpu stage in
        let found = at (word_of access) in
        let seen = seen_of cpu access found (outcome_of (control_of controls cpu).drain stage found).note in
        let after = control_after (control_of controls cpu) stage found in
        let on = inside_online stage e in
        let aims : AimsOnline online (Some stage) = subst (AimsOnline online) e (before.aims cpu) in
        stands_apart (words_after words access) (tells before.calls seen) after (inside_below controls cpu stage sized e) on
        (after_step (control_of controls cpu).drain stage found aims)
        (made_shown before.calls words controls cpu stage access found seen (words_after words access) after
        record { at_stage = e; is_access = refl; is_found = refl; is_words = refl; is_control = refl; is_seen = refl } wide sized before.shown)
        (λ j off. subst (λ (f : Word → ℕ). IsQuiet f j)
        (sym (words_by_name words access wide (access_in_table before.calls at (control_of controls) cpu before.shown stage e)))
        (quiet_after at access j (stage_reaches at cpu stage aims on) off (before.quiet j off)))
        (λ j off. part_else cpu (control_of controls cpu).drain before.shown stage j (apart cpu j on off) ∙ before.idle j off)

    -- the beginning of a command, which shows the same calls
    pub start_apart : (nr : ℕ) (c : Command) → cpu < cpus → has online cpu ≡ true → command_refusal nr online cpu c ≡ None
        → ValuesShow before.calls words (slice_set controls cpu (control_at (control_of controls cpu) (first_stage online cpu c)))
        → IsApart online words (slice_set controls cpu (control_at (control_of controls cpu) (first_stage online cpu c)))
    start_apart nr c small on allowed shown = stands_apart words before.calls (control_at (control_of controls cpu) (first_stage online cpu c)) small on
        (after_start nr cpu c allowed) shown before.quiet before.idle

  -- a new core
  pub new_apart : (words : List ℕ) (controls : List ControlValue) → words ≡ replicate table_size 0 → controls ≡ replicate cpus outside
      → IsApart online words controls
  new_apart words controls e f = record {
    calls = no_calls;
    shown = new_shown words controls e f;
    aims = λ cpu. subst (λ (x : ControlValue). AimsOnline online x.stage) (sym (at_first cpu)) tt;
    outside = λ cpu _. ap (λ (x : ControlValue). x.stage) (at_first cpu);
    quiet = λ cpu _. (rw e (zero_at table_size (index_of (Head cpu))), rw e (zero_at table_size (index_of (Intr cpu))));
    idle = λ cpu _. refl;
  }
    where
      at_first : (cpu : ℕ) → control_of controls cpu ≡ outside
      at_first cpu = rw f (get_or-same outside cpus cpu)

not_pending : (b : Bool) → 0 ≡ bit b → b ≡ false
not_pending b e = search arith

empty_is : (calls : List Call) → IsEmpty calls → calls ≡ []
empty_is calls e = search arith

-- in no calls nothing is done
none_idle : (cpu : ℕ) → HasDoneNothing no_calls cpu
none_idle cpu = search arith

-- what that says of the calls
module _ (online : ℕ) (words : List ℕ) (controls : List ControlValue) (h : IsApart online words controls) where
  -- calls that are shown there, in which a CPU that is not online has the part that it has in others, in which it has done nothing
  pub still_idle : (a b : CallState) → ValuesShow b words controls → (cpu : ℕ) → has online cpu ≡ false → part_of b cpu ≡ part_of a cpu →
      HasDoneNothing a cpu → HasDoneNothing b cpu
  still_idle a b s cpu off e n = record {
    queue = no_chain (nexts_in (number_in words)) (number_in words (Head cpu)) (b.queue cpu) (h.quiet cpu off).0 (s.chained.chain cpu);
    pending = not_pending (b.pending cpu) (sym (h.quiet cpu off).1 ∙ s.noticed.words cpu);
    accepted = ap (λ (p : CallPart). p.accepted) e ∙ n.accepted;
    held = s.held cpu ∙ ap held_of (h.outside cpu off);
    taken = ap (λ (p : CallPart). p.taken) e ∙ n.taken;
    batch = ap (λ (p : CallPart). p.batch) e ∙ n.batch;
    running = ap (λ (p : CallPart). p.running) e ∙ n.running;
    ran = ap (λ (p : CallPart). p.ran) e ∙ n.ran;
    sent = ap (λ (p : CallPart). p.sent) e ∙ n.sent;
    asked = ap (λ (p : CallPart). p.asked) e ∙ n.asked;
    owes = λ to small. sym (row-at cpus to (b.owes cpu) false small)
        ∙ (ap (λ (p : CallPart). get_or p.owes to false) e ∙ (row-at cpus to (a.owes cpu) false small ∙ n.owes to small));
  }

  abbrev a : CallState
  a = h.calls

  done_nothing : AreIdle online a
  done_nothing cpu off = still_idle no_calls a h.shown cpu off (h.idle cpu off) (none_idle cpu)

  seen_to : (cpu : ℕ) → cpu < cpus → IsEmpty (a.queue cpu) ⊎ IsNoticed a.pending a.accepted a.owes cpu → IsSeenTo online a cpu
  seen_to cpu small (inl e) = inl (empty_is (a.queue cpu) e)
  seen_to cpu small (inr (is_pending e)) = inr (inl e)
  seen_to cpu small (inr (is_accepted e)) = inr (inr (inl e))
  seen_to cpu small (inr (is_owed source e)) =
      let on = true_from_ne_false (has online source) (λ off. true≢false (sym e ∙ (done_nothing source off).owes cpu small)) in
      inr (inr (inr (source, on, e)))

  pub leaves_offline : LeavesOffline online words controls
  leaves_offline = record { calls = a; shown = h.shown; nothing = done_nothing; seen_to = λ cpu small. seen_to cpu small (h.shown.noticed.noticed cpu) }
