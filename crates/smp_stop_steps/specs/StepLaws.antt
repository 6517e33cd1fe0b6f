-- What each step that a stop half may make next keeps, beside the stops that it tells.
use Rattle.std.specs.Prelude.{◌≡◌, ℕ, Some, None}
use Rattle.smp_stop_steps.specs.{Names.word_of, Names.seen_of, Names.StopStage, Names.Word, AnswerWords.KeepsAnswers, Labels.Change, Machine.stop_seen_at}
use Rattle.smp_stop_steps.specs.{Notes.NoteFits, Notes.StopNoteFits, Patchers.IsNextOfPatch, Patchers.label_stored, Premises.MaySee, Promises.OfEachCpu}
use Rattle.smp_stop_steps.specs.{Stages.StopControlValue, Stages.answer_at, Stages.stop_access, State.Setup, State.StopState, Steps.FunctionGoes}
use Rattle.smp_stop_steps.specs.{Steps.note_then, Steps.state_after, Table.stop_number, Tells.tells, Value.StopsValue, Value.StopShown}
use Rattle.smp_stop_steps.specs.{Value.setup_of, Value.stop_control_of}

-- what holds before each step of a command
abbrev pub StepsArePremised : Type 0
StepsArePremised = OfEachCpu (λ u p at c me.
    (stage : StopStage) → c.stage ≡ Some stage →
    let access = stop_access u.cpus me c.changes stage in
    let seen = seen_of me access (at (word_of access)) None in
    MaySee p me seen.act seen.word seen.found seen.put)

-- of the step of a CPU at this stage: who may make it, what it does of functions, that a store to a label is one of a patch,
-- that its note says what it has changed, and that answers and results stay those of i32s
pub record KeepsStepLaws (u : Setup) (p : StopState) (at : Word → ℕ) (c : StopControlValue) (me : ℕ) (stage : StopStage) : Type 0 where
  pub premise :
      let access = stop_access u.cpus me c.changes stage in
      let seen = seen_of me access (at (word_of access)) None in
      MaySee p me seen.act seen.word seen.found seen.put
  pub functions : FunctionGoes p (state_after u p at c me stage) me (note_then u at c me stage) (answer_at stage)
  pub labels : (change : Change) → label_stored (stop_access u.cpus me c.changes stage) ≡ Some change → IsNextOfPatch p me change
  pub notes : NoteFits p (state_after u p at c me stage) me (note_then u at c me stage)
  pub answers : KeepsAnswers u at c me stage

-- the same of a stop half, of each CPU that is inside a command
abbrev pub StepsKeepLaws : StopsValue → StopState → Type 0
StepsKeepLaws v p = (cpu : ℕ) (stage : StopStage) → (stop_control_of v.controls cpu).stage ≡ Some stage →
    KeepsStepLaws (setup_of v.online v.labels) p (stop_number v.table) (stop_control_of v.controls cpu) cpu stage

-- whatever stops the half shows, the note of this step says what it has changed of them
abbrev pub StopNoteTold : StopsValue → ℕ → StopStage → Type 0
StopNoteTold v cpu stage = let seen = stop_seen_at v cpu stage in
    (p : StopState) → StopShown p v → StopNoteFits p (tells (setup_of v.online v.labels) p seen (answer_at stage)) seen.cpu seen.word seen.note
