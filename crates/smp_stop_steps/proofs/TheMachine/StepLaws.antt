-- What each step that a stop half may make next keeps.
use Rattle.std.proofs.Common.{◌≡◌, ℕ, ◌<◌, List, Option, Some, length, arith}
use Rattle.smp_stop_steps.specs.{word_of, Note, Change, NoteFits, StopNoteFits, stop_access, store_of, note_then, state_after, StopStage, cpus, StopState}
use Rattle.smp_stop_steps.specs.{StepsKeepLaws, StopNoteTold, stop_number, StopsValue, StopShown, setup_of, stop_control_of, AreSoundStops}
use Rattle.smp_stop_steps.proofs.{Steps.AnswerWords.keeps_answers, Steps.CallSteps.call_step, Steps.NoteSteps.note_fits, Promises.Patchers.stores_patch}
use Rattle.smp_stop_steps.proofs.{Promises.Premises.may_see, TheMachine.Values.stop_inside_below}

pub steps_keep_laws : (v : StopsValue) (p : StopState) → AreSoundStops v.online v.labels v.table v.controls → StopShown p v → StepsKeepLaws v p
steps_keep_laws v p sound shown cpu stage e = let u = setup_of v.online v.labels in
    let at = stop_number v.table in
    let c = stop_control_of v.controls cpu in
    let below : cpu < cpus = let low = stop_inside_below v.controls cpu stage e in omega arith in
    let s = shown.sits cpu below in
    record {
      premise = may_see u p at shown.seat shown.source shown.shows c cpu s stage e;
      functions = (call_step u p at shown.seat shown.source shown.shows c cpu s (shown.carries cpu below) stage e).goes;
      labels = λ change is. stores_patch u p at shown.seat shown.source shown.shows c cpu s stage e change is;
      notes = note_fits u p at shown.seat shown.source shown.shows c cpu s (shown.carries cpu below) stage e;
      answers = keeps_answers u at sound.results c cpu (sound.answers cpu) stage e;
    }

-- the word of a step of the stop half is one of its table
patch_noted : (p q : StopState) (me : ℕ) (said : Option Note) (x : Change) → NoteFits p q me said → StopNoteFits p q me (word_of (store_of x)) said
patch_noted p q me said x f = search arith

noted : (p q : StopState) (me : ℕ) (said : Option Note) (n : ℕ) (changes : List Change) (stage : StopStage) → NoteFits p q me said →
    StopNoteFits p q me (word_of (stop_access n me changes stage)) said
noted p q me said n changes stage f = search (patch_noted, arith)

pub note_told : (v : StopsValue) (cpu : ℕ) (stage : StopStage) → length v.controls ≡ cpus → (stop_control_of v.controls cpu).stage ≡ Some stage →
    StopNoteTold v cpu stage
note_told v cpu stage sized e p shown = let u = setup_of v.online v.labels in
    let c = stop_control_of v.controls cpu in
    let below : cpu < cpus = let low = stop_inside_below v.controls cpu stage e in omega arith in
    let fits = note_fits u p (stop_number v.table) shown.seat shown.source shown.shows c cpu (shown.sits cpu below) (shown.carries cpu below) stage e in
    noted p (state_after u p (stop_number v.table) c cpu stage) cpu (note_then u (stop_number v.table) c cpu stage) u.cpus c.changes stage fits
