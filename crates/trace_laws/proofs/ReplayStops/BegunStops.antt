-- What a command of the stop half begins with, and what its CPU keeps of the stop that it begins.
use Rattle.trace_laws.proofs.Names.{None, Option, Some, arith, length, refl, ℕ, ◌<◌, ◌∙◌, ◌≡◌}
use Rattle.trace_laws.proofs.Names.{◌≢◌}
use Rattle.trace_laws.proofs.ReplayNames.{BeginsOfCpus, Command, Draft, Drafts, Past}
use Rattle.trace_laws.proofs.ReplayNames.{StopControlValue, StopStage, StopsValue, after}
use Rattle.trace_laws.proofs.ReplayNames.{cpus, nudge_on, put_other}
use Rattle.trace_laws.proofs.ReplayNames.{put_same, seen_of, stop_access, stop_control_of, stop_controls_by_cpu, stop_first}
use Rattle.trace_laws.proofs.ReplayNames.{stop_outcome}
use Rattle.smp_stop_steps.specs.{Start.stop_begun_if}

pub nudge_drafts : (c : StopControlValue) (key found : ℕ) (o : Option ℕ) (d : Draft) → Drafts (nudge_on c key found o).control.stage d
nudge_drafts c key found o d = search arith

pub stage_drafts : (me : ℕ) (c : StopControlValue) (past : Past) (stage : StopStage) (found : ℕ) → Drafts (Some stage) past.draft
    → Drafts (stop_outcome me c stage found).control.stage (after past (seen_of me (stop_access cpus me c.changes stage) found
    (stop_outcome me c stage found).note)).draft
stage_drafts me c past stage found h1 = search (nudge_drafts, arith)

pub first_drafts : (x : StopControlValue) (y : Command) → BeginsOfCpus y → (d : Draft) → Drafts (stop_first x y) d
first_drafts x y h1 d = search arith

-- where a CPU is in the stop half once a command has begun
pub begun_at : StopControlValue → Option StopStage → StopControlValue
begun_at x None = x
begun_at x (Some stage) = record x { stage = Some stage }

pub begun_table : (v : StopsValue) (cpu : ℕ) (o : Option StopStage) → (stop_begun_if v cpu o).table ≡ v.table
begun_table v cpu None = refl
begun_table v cpu (Some stage) = refl

pub begun_labels : (v : StopsValue) (cpu : ℕ) (o : Option StopStage) → (stop_begun_if v cpu o).labels ≡ v.labels
begun_labels v cpu None = refl
begun_labels v cpu (Some stage) = refl

pub begun_here : (v : StopsValue) (cpu : ℕ) (o : Option StopStage) → length v.controls ≡ cpus → cpu < cpus
    → stop_control_of (stop_begun_if v cpu o).controls cpu ≡ begun_at (stop_control_of v.controls cpu) o
unfolding begun_at
begun_here v cpu None l b = refl
begun_here v cpu (Some stage) l b = stop_controls_by_cpu v.controls cpu cpu (record (stop_control_of v.controls cpu) { stage = Some stage }) (omega
    (arith, l, b))
    ∙ put_same (stop_control_of v.controls) cpu (record (stop_control_of v.controls cpu) { stage = Some stage })

pub begun_else : (v : StopsValue) (cpu : ℕ) (o : Option StopStage) (c : ℕ) → length v.controls ≡ cpus → cpu < cpus → c ≢ cpu
    → stop_control_of (stop_begun_if v cpu o).controls c ≡ stop_control_of v.controls c
begun_else v cpu o c h1 h2 h3 = search (stop_controls_by_cpu, put_other, arith)

pub begun_drafts : (x : StopControlValue) (o : Option StopStage) (d : Draft) → x.stage ≡ None → Drafts o d → Drafts (begun_at x o).stage d
unfolding begun_at
begun_drafts x o d e k = search arith

pub begun_fits : (P : Option StopStage → Type 0) (x : StopControlValue) (o : Option StopStage) → P x.stage → P o → P (begun_at x o).stage
unfolding begun_at
begun_fits P x o k l = search arith
