-- One stop of the model.
use Rattle.std.specs.Prelude.{◌≡◌, ℕ, zero, suc, ◌+◌, ◌-◌, ◌^◌, ℤ, pos, Bool, true, false, not, ◌&&◌, ◌||◌, ◌==◌, nat_le, nat_lt, min, if◌then◌else◌}
use Rattle.std.specs.Prelude.{List, [], ◌∷◌, length, replicate}
use Rattle.std.specs.Prelude.{slice_index_or, slice_set, Option, Some, None, is_none, is_some, unwrap_or, Result, Ok, Err}
use Rattle.std.specs.Ordering.{int_eq}
use Rattle.smp_words.specs.FirstFault.{◌>>=◌}
use Rattle.smp_mask.specs.Mask.{has, members}
use Rattle.smp_words.specs.declared.work.Kind.{Kind}
use Rattle.smp_words.specs.declared.work.Kind.TheVariants.{One, Multi, Patch as APatch}
use Rattle.trace_model.specs.declared.reason.Reason.{Reason}
use Rattle.trace_model.specs.declared.reason.Reason.TheVariants as reason
use Rattle.trace_model.specs.declared.stop.Stop.{Stop}
use Rattle.trace_model.specs.declared.stop.Task.{Task}
use Rattle.trace_model.specs.declared.stop.Patch.{Patch}
use Rattle.trace_model.specs.declared.without.Setting.{Setting}
use Rattle.smp_words.specs.declared.phase.TheConstants.{PREPARE, RUN, EXIT}

-- the first number from c on that passes, of this number of them
unfoldable pub first_from : (ℕ → Bool) → ℕ → ℕ → Option ℕ
first_from passes c zero = None
first_from passes c (suc more) = if passes c then Some c else first_from passes (c + 1) more

-- the least CPU that passes
abbrev pub least : (ℕ → Bool) → Option ℕ
least passes = first_from passes 0 32

-- the least member of a mask
abbrev pub first_of : ℕ → Option ℕ
first_of mask = least (λ c. has mask c)

-- a mask has this member alone
abbrev pub is_only : ℕ → Option ℕ → Bool
is_only mask None = false
is_only mask (Some cpu) = (length (members mask) == 1) && has mask cpu

-- there is such a work: some CPU, one alone of a stop of one CPU; a patch is of all CPUs online, the least of them is active,
-- and there are its key and its change
abbrev pub is_work_of : Kind → Setting → Task → Bool
is_work_of One u t = length (members t.mask) == 1
is_work_of Multi u t = nat_lt 0 (length (members t.mask))
is_work_of APatch u t = (t.mask == u.online) && is_only t.active (first_of u.online) && nat_lt t.func u.keys && nat_le t.arg 3

abbrev pub is_work : Setting → Task → Bool
is_work u t = is_work_of t.kind u t

abbrev pub is_kind : Kind → Kind → Bool
is_kind One One = true
is_kind Multi Multi = true
is_kind APatch APatch = true
is_kind _ _ = false

-- a stop that is not open, of this mask
abbrev pub closed : ℕ → Stop
closed mask = record {
  is_open = false;
  task = record { kind = One; mask = mask; active = mask; func = 0; arg = 0 };
  phase = 0;
  raiser = None;
  entered = replicate 32 false;
  acked = replicate 32 0;
  ran = replicate 32 false;
  answers = replicate 32 None;
  patch = None;
}

-- the phase that a stop opens at
abbrev pub first_phase : Kind → ℕ
first_phase One = 0
first_phase _ = PREPARE

-- a stop that is open, of all of whose mask nobody has entered
abbrev pub opening : Task → Stop
opening t = record (closed t.mask) { is_open = true; task = t; phase = first_phase t.kind }

-- the least CPU of a mask that is not online
abbrev pub offline_in : Setting → ℕ → Option ℕ
offline_in u mask = least (λ c. has mask c && not (has u.online c))

abbrev pub unless_offline : Option ℕ → Stop → Result Stop Reason
unless_offline None stop = Ok stop
unless_offline (Some c) stop = Err (reason.NotOnline c)

-- a stop opens with such a work of CPUs that are online
unfoldable pub opened : Setting → Task → Result Stop Reason
opened u t = if is_work u t then unless_offline (offline_in u t.mask) (opening t) else Err reason.NoSuchWork

-- the last phase that a CPU has acknowledged
abbrev pub acked_by : Stop → ℕ → ℕ
acked_by stop cpu = slice_index_or stop.acked cpu 0

-- the least CPU of the mask that has not acknowledged a phase
abbrev pub late : Stop → ℕ → Option ℕ
late stop phase = least (λ c. has stop.task.mask c && nat_lt (acked_by stop c) phase)

-- who is to acknowledge it, or the phase where nobody is
abbrev pub waits_for : Option ℕ → ℕ → ℕ → Reason
waits_for (Some c) before phase = reason.NotAcknowledged c before
waits_for None before phase = reason.PhaseIs phase

-- a CPU may act on a phase: it is that phase, and the CPU has not acknowledged it
abbrev pub at_phase : Stop → ℕ → ℕ → Result (Unit {0}) Reason
at_phase stop cpu phase =
    if nat_le phase (acked_by stop cpu) then Err (reason.Acknowledged cpu phase)
    else if stop.phase == phase then Ok tt
    else if nat_lt (acked_by stop cpu) (phase - 1) then Err (reason.NotAcknowledged cpu (phase - 1))
    else Err (waits_for (late stop (phase - 1)) (phase - 1) stop.phase)

abbrev pub is_cpu : Option ℕ → ℕ → Bool
is_cpu None cpu = false
is_cpu (Some c) cpu = c == cpu

-- a CPU has acknowledged EXIT, and is not to raise it
abbrev pub through : Stop → ℕ → Result (Unit {0}) Reason
through stop cpu =
    if nat_lt (acked_by stop cpu) EXIT then Err (reason.NotAcknowledged cpu EXIT)
    else if is_cpu stop.raiser cpu then Err (reason.PhaseIs stop.phase) else Ok tt

-- a CPU is called: it is of the mask, and has not entered
abbrev pub is_called : Stop → ℕ → Bool
is_called stop cpu = has stop.task.mask cpu && not (slice_index_or stop.entered cpu false)

-- it enters
unfoldable pub entered : ℕ → Stop → Result Stop Reason
entered cpu stop = if is_called stop cpu then Ok (record stop { entered = slice_set stop.entered cpu true }) else Err (reason.NotCalled cpu)

-- a CPU has acknowledged a phase
abbrev pub with_acked : ℕ → ℕ → Stop → Stop
with_acked cpu phase stop = record stop { acked = slice_set stop.acked cpu phase }

-- the last has done so: it is to raise the phase, or has, where that is left out
abbrev pub at_last : Option ℕ → ℕ → Bool → Stop → Stop
at_last (Some other) cpu raises stop = stop
at_last None cpu true stop = record stop { raiser = Some cpu }
at_last None cpu false stop = record stop { phase = min (stop.phase + 1) (2 ^ 32 - 1) }

unfoldable pub acknowledged : ℕ → ℕ → Bool → Stop → Stop
acknowledged cpu phase raises stop = at_last (late (with_acked cpu phase stop) phase) cpu raises (with_acked cpu phase stop)

-- the last to acknowledge raises the phase
abbrev pub raised_by : Option ℕ → ℕ → ℕ → Stop → Result Stop Reason
raised_by None cpu phase stop = Err (reason.NotAcknowledged (unwrap_or (late stop (phase - 1)) cpu) (phase - 1))
raised_by (Some last) cpu phase stop = if last == cpu then Ok (record stop { phase = phase; raiser = None }) else Err (reason.AcknowledgedLast last)

unfoldable pub raised : ℕ → ℕ → Stop → Result Stop Reason
raised cpu phase stop = if stop.phase == phase - 1 then raised_by stop.raiser cpu phase stop else Err (reason.PhaseIs stop.phase)

-- a CPU of a rendezvous may call the function: it is active, and at RUN
abbrev pub may_run : Kind → ℕ → Stop → Result (Unit {0}) Reason
may_run Multi cpu stop = if has stop.task.active cpu then at_phase stop cpu RUN else Err (reason.NotActive cpu)
may_run _ cpu stop = Ok tt

abbrev pub has_run : Stop → ℕ → Bool
has_run stop cpu = slice_index_or stop.ran cpu false

-- it enters the function, once, with the argument that was opened
unfoldable pub ran_function : ℕ → ℕ → ℕ → Stop → Result Stop Reason
ran_function cpu func arg stop = may_run stop.task.kind cpu stop >>= λ u.
    if has_run stop cpu then Err reason.FunctionHasRun
    else if (stop.task.func == func) && (stop.task.arg == arg) then Ok (record stop { ran = slice_set stop.ran cpu true })
    else Err (reason.CallIs stop.task.func stop.task.arg)

-- the answer of a CPU whose function has not run: 1 of the one that patches, where its key stood at the end of its range
abbrev pub answer_by : Option Patch → Bool → ℤ
answer_by (Some patch) true = if patch.at_edge then pos 1 else pos 0
answer_by _ _ = pos 0

abbrev pub answer_wanted : Stop → ℕ → ℤ
answer_wanted stop cpu = answer_by stop.patch (has stop.task.active cpu)

-- a CPU may complete: its function has run, or it is through with its interrupts on
abbrev pub may_complete : Kind → ℕ → Bool → Stop → Result (Unit {0}) Reason
may_complete One cpu irq stop = if has_run stop cpu then Ok tt else Err reason.FunctionHasNotRun
may_complete _ cpu irq stop = through stop cpu >>= λ u. if irq then Ok tt else Err reason.InterruptsOff

-- with this answer
unfoldable pub completed : ℕ → ℤ → Bool → Stop → Result Stop Reason
completed cpu answer irq stop = may_complete stop.task.kind cpu irq stop >>= λ u.
    if not (has_run stop cpu) && not (int_eq answer (answer_wanted stop cpu)) then Err (reason.AnswerIs (answer_wanted stop cpu))
    else Ok (record stop { answers = slice_set stop.answers cpu (Some answer) })

abbrev pub answer_of : Stop → ℕ → Option ℤ
answer_of stop cpu = slice_index_or stop.answers cpu None

abbrev pub is_answer : Option ℤ → ℤ → Bool
is_answer None answer = false
is_answer (Some given) answer = int_eq given answer

-- two truth values are the same
abbrev pub is_same : Bool → Bool → Bool
is_same true b = b
is_same false b = not b

-- the least CPU of the mask that has given this answer, or another one
abbrev pub giver : Stop → ℤ → Bool → Option ℕ
giver stop answer same = least (λ c. has stop.task.mask c && is_same (is_answer (answer_of stop c) answer) same)

-- the answers give this result: one of those that are not 0, or 0 where all are
abbrev pub gives : Stop → ℤ → Bool
gives stop answer = if int_eq answer (pos 0) then is_none (giver stop (pos 0) false) else is_some (giver stop answer true)

-- the least CPU of the mask that has not completed
abbrev pub unfinished : Stop → Option ℕ
unfinished stop = least (λ c. has stop.task.mask c && is_none (answer_of stop c))

abbrev pub collected_with : Option ℕ → ℤ → Stop → Result Stop Reason
collected_with (Some c) answer stop = Err (reason.NotCompleted c)
collected_with None answer stop = if gives stop answer then Ok (record stop { is_open = false }) else Err (reason.AnswersDoNotGive answer)

-- the result is collected, and the stop is closed
unfoldable pub collected : ℤ → Stop → Result Stop Reason
collected answer stop = collected_with (unfinished stop) answer stop
