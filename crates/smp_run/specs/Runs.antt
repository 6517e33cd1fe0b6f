-- A run as a whole, and what a call of `run_script` reads and writes.
use Rattle.std.specs.Prelude.{◌≡◌, ℕ, ◌<◌, ◌%◌, ◌^◌, ◌==◌, Bool, true, false, List, [], ◌++◌, filter, length, slice_index_or, Option, Some, None, Ok}
use Rattle.smp_labels.specs.Labels.{Labels}
use Rattle.smp_labels.specs.declared.kinds.SiteKind.{SiteKind}
use Rattle.smp_machine.specs.MachineCpu.{MachineValue, MachineCpuValue}
use Rattle.smp_mask.specs.Mask.{has, IsLeast}
use Rattle.smp_multi.specs.Names.{Reading}
use Rattle.smp_queue.specs.Audit.{Audited, IfDrained, AreEqual, tally_at}
use Rattle.smp_queue.specs.declared.audit.Tally.{Tally}
use Rattle.smp_queue.specs.declared.audit.Audit.{Audit}
use Rattle.smp_queue.specs.declared.audit.Audit.TheVariants as audit
use Rattle.smp_script.specs.declared.directive.Directive.{Directive}
use Rattle.smp_script.specs.declared.mode.Mode.{Mode}
use Rattle.smp_script.specs.declared.mode.Mode.TheVariants.{Replay, Run}
use Rattle.smp_script.specs.declared.outcome.Outcome.{Outcome}
use Rattle.smp_script.specs.declared.outcome.Outcome.TheVariants.{Done, Left}
use Rattle.smp_script.specs.Script.{Script, first_line, script_of}
use Rattle.smp_script.specs.Transforms.{HasFault, Transforming, Transforms}
use Rattle.smp_words.specs.Size.{cpus}
use Rattle.smp_replay.specs.Replays.{Replays}
use Rattle.smp_run.specs.Answers.{IsLineAnswer}
use Rattle.smp_run.specs.Driven.{HasRunLines, IsBack}
use Rattle.smp_run.specs.Readings.{HaveKinds, keys_read, sites_read}
use Rattle.smp_run.specs.Sent.{script_calls}
use Rattle.smp_run.specs.Text.{ending_text, line_text, numbered}
use Rattle.smp_run.specs.declared.answer.Answer.{Answer}

abbrev pub is_left : Audit → Bool
is_left (audit.Drained t) = false
is_left (audit.Left left) = true

-- one answer for each line, in order, and it is that line's
pub record AreAnswers (online keys : ℕ) (lines : List Directive) (answers : List Answer) : Type 0 where
  pub sized : length answers ≡ length lines
  pub each : (i : ℕ) (l : Directive) (a : Answer) → i < length lines → IsLineAnswer online keys (slice_index_or lines i l) (slice_index_or answers i a)

-- the calls that a tally has from this CPU to each other are those that its lines ask for
abbrev pub HasAsked : ℕ → ℕ → List Directive → Tally → Type 0
HasAsked online this lines t = (to : ℕ) → to < cpus
    → tally_at t.queued this to ≡ length (filter (λ s. s.to == to) (script_calls online this lines)) % 2 ^ 64

-- What a run prints: a line for each, in order, with its answer, of which the first is of this number; then, where the
-- audit is Drained, each pair of CPUs with as many calls run as queued; the keys and the sites; and how the audit ended.
-- Each CPU online was given back by its thread once it has made its lines. The audit is by the lowest of them, which has then
-- read the keys and the sites.
pub record Prints (nr online : ℕ) (labels : Labels) (first : ℕ) (lines : List Directive) (text : List ℕ) (left : Bool) : Type 0 where
  pub answers : List Answer
  pub answered : AreAnswers online labels.keys lines answers
  pub keys : List Bool
  pub sites : List SiteKind
  pub kinds : HaveKinds labels keys sites
  pub machine : MachineValue
  pub last : MachineCpuValue
  pub ending : Audit
  pub sizes : (machine.calls.nr ≡ nr) × (machine.calls.online ≡ online)
  pub lowest : IsLeast (λ c. has online c) last.calls.number
  pub run : HasRunLines machine lines answers last
  pub back : (cpu : ℕ) → has online cpu ≡ true → IsBack machine lines answers cpu
  pub before : List Reading
  pub read : last.stops.part.readings ≡ before ++ (keys_read keys ++ sites_read sites)
  pub audited : Audited machine.calls last.calls ending
  pub equal : IfDrained ending AreEqual
  pub asked : IfDrained ending (HasAsked online last.calls.number lines)
  pub left_is : left ≡ is_left ending
  pub text_is : text ≡ numbered line_text first answers ++ ending_text online keys sites ending

-- the labels of a script: none where it has no labels line
abbrev pub labels_of : Option Labels → Labels
labels_of None = record { keys = 0; entries = [] }
labels_of (Some labels) = labels

-- what the run of a script prints, and whether calls are left
abbrev pub Printed : Script → List ℕ → Bool → Type 0
Printed s text left = Prints s.nr s.online (labels_of s.labels) (first_line s.labels) s.directives text left

-- how a run ended
abbrev pub outcome_of : Bool → Outcome
outcome_of true = Left
outcome_of false = Done

-- The text is a lawful script, a run of it prints this, and calls are left or none.
pub record IsRun (text out : List ℕ) (ending : Outcome) : Type 0 where
  pub script : Script
  pub left : Bool
  pub lawful : script_of Run text ≡ Ok script
  pub printed : Printed script out left
  pub ended : ending ≡ outcome_of left

-- What a call of `run_script` did, by its answer: what was read is a script, and what was written is what a run of it prints.
abbrev pub Runs : Transforming Outcome
Runs = Transforms 65536 IsRun (HasFault Run)

-- What a call did that was asked for a script of this kind, by its answer.
abbrev pub Executes : Mode → Transforming Outcome
Executes Replay = Replays
Executes Run = Runs
