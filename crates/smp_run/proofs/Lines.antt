-- Lines of a run.
use Rattle.std.proofs.Common.{◌≡◌, ℕ, zero, suc, ◌<◌, true, List, [], ◌∷◌, length, slice_index_or, sym, subst, arith}
use Rattle.std.specs.List.{AllByRecursion}
use Rattle.smp_mask.specs.Mask.{has}
use Rattle.smp_machine.specs.MachineCpu.{MachineValue}
use Rattle.smp_script.specs.declared.directive.Directive.{Directive}
use Rattle.smp_script.specs.declared.directive.Directive.TheVariants.{Start, Step, Show, Do}
use Rattle.smp_run.specs.Answers.{Answered, cpu_of}
use Rattle.smp_run.specs.Runs.{AreAnswers}
use Rattle.smp_run.specs.Seats.{AreLines, IsRunLine}
use Rattle.smp_run.specs.declared.answer.Answer.{Answer}

-- what holds of all elements holds of each
pub all_at : {X : Type 0} (P : X → Type 0) (xs : List X) (i : ℕ) (d : X) → i < length xs → AllByRecursion P xs → P (slice_index_or xs i d)
all_at P [] i d below all = absurd (omega arith)
all_at P (x ∷ xs) zero d below all = all.0
all_at P (x ∷ xs) (suc i) d below all = all_at P xs i d (omega arith) all.1

-- a line that was read, of the same machine
pub line_at : (m new : MachineValue) (lines : List Directive) (i : ℕ) (line : Directive) → new ≡ m → AreLines m.calls.online lines → i < length lines
    → line ≡ slice_index_or lines i line → IsRunLine new.calls.online line
line_at m new lines i line same lawful below is =
    subst (λ (x : MachineValue). IsRunLine x.calls.online line) (sym same)
    (subst (λ (x : Directive). IsRunLine m.calls.online x) (sym is) (all_at (IsRunLine m.calls.online) lines i line below lawful))

-- the CPU of a line is online
is_online : (online : ℕ) (line : Directive) → IsRunLine online line → has online (cpu_of line) ≡ true
is_online online (Do cpu count request) fits = fits.1
is_online online (Start cpu command) fits = absurd fits
is_online online (Step cpu count) fits = absurd fits
is_online online Show fits = absurd fits

-- the answers of the CPUs that are online are those of all lines
pub all_answered : (online keys : ℕ) (lines : List Directive) (answers : List Answer) → AreLines online lines
    → Answered online keys (λ c. has online c ≡ true) lines answers → AreAnswers online keys lines answers
all_answered online keys lines answers lawful answered = record {
  sized = answered.sized;
  each = λ i l a below.
      answered.each i l a below (is_online online (slice_index_or lines i l) (all_at (IsRunLine online) lines i l below lawful));
}
