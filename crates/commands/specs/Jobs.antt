-- The texts of jobs.
use Rattle.std.specs.Prelude.{Option, Some, None}
use Rattle.view.specs.declared.text_kind.TextKind.{TextKind}
use Rattle.view.specs.declared.text_kind.TextKind.TheVariants as kinds
use Rattle.commands.specs.declared.arguments.Job.{Job}
use Rattle.commands.specs.declared.arguments.Job.TheVariants as jobs

-- the kind of text that a job takes; none where it takes each
abbrev pub kind_taken : Job → Option TextKind
kind_taken (jobs.Show _ _) = Some kinds.Replay
kind_taken jobs.Events = Some kinds.Replay
kind_taken (jobs.Check _) = Some kinds.Replay
kind_taken (jobs.Explore _ _) = Some kinds.Exploration
kind_taken (jobs.Outcomes _ _) = Some kinds.Exploration
kind_taken (jobs.Write _) = Some kinds.Exploration
kind_taken jobs.Judge = Some kinds.Trace
kind_taken (jobs.JudgeKernel _) = None
kind_taken jobs.PageTrace = Some kinds.Trace
kind_taken (jobs.PageKernel _) = None
kind_taken (jobs.JsonKernel _) = None
kind_taken (jobs.DrawKernel _ _) = None
kind_taken (jobs.PrintKernel _) = None
kind_taken jobs.Explain = None
