-- What it means that no tables were opened.
use Rattle.std.proofs.Common.{◌≡◌, ◌≤◌, ◌⊎◌, ◌↔◌, ℕ, List, length, Result, Ok, Err, inl, inr, refl, sym, ap, subst, ◌∙◌}
use Rattle.std.specs.Prelude.{IsErrOf}
use Rattle.smp_labels.specs.Labels.{AreLabels, Labels}
use Rattle.smp_mask.specs.declared.error.SmpError.{SmpError}
use Rattle.smp_mask.specs.declared.error.SmpError.TheVariants as error
use Rattle.smp_words.specs.Limits.{AreLimits}
use Rattle.smp_tables_c.specs.Opens.{CanOpen, OpenAnswers, RefusesOpen}
use Rattle.smp_tables_c.specs.declared.handle.SmpCpu.{SmpCpu}

abbrev error_or : {T : Type 0} → Result T SmpError → SmpError
error_or (Ok x) = error.NoMemory
error_or (Err e) = e

no_tables : {T : Type 0} (nr online : ℕ) (labels : Labels) (old : List SmpCpu) (r : Result T SmpError) (e : SmpError) → r ≡ Err e
    → nr ≤ length old → AreLabels labels.keys labels.entries → (e ≡ error.BadArgument) ⊎ (e ≡ error.NoMemory)
    → (IsErrOf r error.BadArgument ↔ (¬ (AreLimits nr online))) → RefusesOpen nr online labels old e
no_tables nr online labels old r e at room are (inl is) bad =
    subst (λ (x : SmpError). RefusesOpen nr online labels old x) (sym is) (λ can. bad.0 (at ∙ ap Err is) can.limits)
no_tables nr online labels old r e at room are (inr is) bad =
    subst (λ (x : SmpError). RefusesOpen nr online labels old x) (sym is)
    (λ no. let told : r ≡ Err error.BadArgument = bad.1 (λ limits. no (record { room = room; limits = limits; are_labels = are })) in
    let clash : error.NoMemory ≡ error.BadArgument = sym is ∙ ap error_or (sym at ∙ told) in cc)

-- the tables themselves have refused
pub tables_refuse : {T : Type 0} (nr online : ℕ) (labels : Labels) (old : List SmpCpu) (r : Result T SmpError) (e : SmpError) → r ≡ Err e
    → nr ≤ length old → AreLabels labels.keys labels.entries → (e ≡ error.BadArgument) ⊎ (e ≡ error.NoMemory)
    → (IsErrOf r error.BadArgument ↔ (¬ (AreLimits nr online))) → OpenAnswers nr online labels old old (Err e)
tables_refuse nr online labels old r e at room are only bad = (no_tables nr online labels old r e at room are only bad, refl)
