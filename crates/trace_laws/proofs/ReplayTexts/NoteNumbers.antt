-- What is seen of a step of stops has numbers of its types, where the arguments of all slots have.
use Rattle.trace_laws.proofs.Names.{cases_lt, nat_tests}
use Rattle.trace_laws.proofs.Names.{Bool, Option, Some, arith, cond, length, refl, subst, unwrap_or, ℕ, ◌<◌, ◌^◌}
use Rattle.trace_laws.proofs.Names.{◌≡◌}
use Rattle.trace_laws.proofs.ReplayNames.{Advance, Complete, Field, Rests, SitsAt, StopControlValue}
use Rattle.trace_laws.proofs.ReplayNames.{StopOutcome, StopShown, StopStage, StopState, StopsValue, Visit, Word, Work, begun_next, cpus, key_on, nudge_on}
use Rattle.trace_laws.proofs.ReplayNames.{put_by, setup_of, stop_access, stop_control_of, stop_found_at, stop_number, stop_outcome}
use Rattle.trace_laws.proofs.ReplayNames.{stop_seen_at, stop_word_named, word_of}
use Rattle.smp_stop_steps.proofs.{TheMachine.Named.work_in, TheMachine.Tables.IsStopWord}
use Rattle.smp_stop_steps.specs.declared.stage.CompletionStage.TheVariants as completion
use Rattle.smp_stop_steps.specs.declared.stage.RoundStage.TheVariants as round
use Rattle.smp_stop_steps.specs.Value.{IsStopTable}
use Rattle.trace_laws.proofs.ReplayTexts.ToldNumbers.{NoteFits, PutFits, StepFits, WordFits}
use Rattle.trace_laws.proofs.{ReplayTexts.StopNumbers.ArgsFit, ReplayTexts.StopNumbers.BeginFits}
use Rattle.smp_words.specs.declared.phase.TheConstants.{DISABLE_IRQ, RUN}

-- the number in the name of a word of the stop table
named_fits : (w : Word) → IsStopWord w → WordFits w
named_fits w h1 = search arith

note_if : (b : Bool) (x y : StopOutcome) → NoteFits x.note → NoteFits y.note → NoteFits (cond b x y).note
note_if b x y k l = search arith

key_fits : (c : StopControlValue) (x : Visit) (key found : ℕ) (o : Option ℕ) → NoteFits (key_on c x key found o).note
key_fits c x key found o = search (note_if, arith)

nudge_fits : (c : StopControlValue) (key found : ℕ) (o : Option ℕ) → NoteFits (nudge_on c key found o).note
nudge_fits c key found o = search (note_if, arith)

begun_fits : (c : StopControlValue) (w : Work) (g : Field) → NoteFits (begun_next c w g).note
begun_fits c w g = search arith

module _ (v : StopsValue) (p : StopState) (shown : StopShown p v) (sized : length v.controls ≡ cpus) (is : IsStopTable v.table) (me : ℕ) (below : me < cpus)
    (args : ArgsFit (stop_number v.table)) where
  abbrev C : StopControlValue
  C = stop_control_of v.controls me

  abbrev At : Word → ℕ
  At = stop_number v.table

  seated : (stage : StopStage) → C.stage ≡ Some stage → SitsAt (setup_of v.online v.labels) me C (Some stage) (shown.seat me)
  seated stage e = subst (λ (x : Option StopStage). SitsAt (setup_of v.online v.labels) me C x (shown.seat me)) e (shown.sits me below).seat

  -- the function that is called is of 16 bits
  round_func : (x : Visit) (answer func : ℕ) → C.stage ≡ Some (Advance x (round.LoadArg answer func)) → func < 2 ^ 16
  round_func x answer func e =
      let k = (seated (Advance x (round.LoadArg answer func)) e).1.1 in
      let same : func ≡ k.0.func = k.2 in
      let in_stop = work_in (setup_of v.online v.labels) p At shown.seat shown.source shown.shows refl shown.shut me x.slot k.0 DISABLE_IRQ RUN Rests k.1.3 in
      omega (arith, in_stop.func, same)

  completion_func : (x : Visit) (answer func : ℕ) → C.stage ≡ Some (Complete x (completion.LoadArg answer func)) → func < 2 ^ 16
  completion_func x answer func e =
      let k = (seated (Complete x (completion.LoadArg answer func)) e).1.1 in
      let w = work_in (setup_of v.online v.labels) p At shown.seat shown.source shown.shows refl shown.shut me x.slot k.0 x.acked x.acked Rests k.2 in
      let same : func ≡ k.0.func = k.3 in
      omega (arith, w.func, same)

  abbrev Noted : StopStage → Type 0
  Noted stage = NoteFits (stop_outcome me C stage (stop_found_at v me stage)).note

  stage_notes : (stage : StopStage) → C.stage ≡ Some stage → Noted stage
  stage_notes stage h1 = search (begun_fits, note_if, round_func, key_fits, completion_func, cases_lt, nat_tests, nudge_fits, arith)

  abbrev Puts : StopStage → Type 0
  Puts stage = let access = stop_access cpus me C.changes stage in PutFits (word_of access) (unwrap_or (put_by access (At (word_of access))) 0)

  stage_puts : (stage : StopStage) → BeginFits (Some stage) → Puts stage
  stage_puts stage h1 = search arith

  -- what is seen of a step of stops
  pub stop_fits : (stage : StopStage) → C.stage ≡ Some stage → BeginFits (Some stage) → StepFits (stop_seen_at v me stage)
  stop_fits stage e k = record {
    word = named_fits (word_of (stop_access cpus me C.changes stage))
        (stop_word_named (setup_of v.online v.labels) refl p v.table v.controls shown sized is me stage e);
    put = stage_puts stage k;
    note = stage_notes stage e;
  }
