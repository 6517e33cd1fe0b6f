-- What is printed of a verdict.
use Rattle.std.proofs.Common.{◌≡◌, ℕ, Bool, true, false, if◌then◌else◌, Option, Some, None, Result, Ok, Err, Vec, refl}
use Rattle.smp_words.specs.FirstFault.{◌>>=◌}
use Rattle.trace_model.specs.State.{StateValue}
use Rattle.trace_judge.specs.declared.early_end.EarlyEnd.{EarlyEnd}
use Rattle.trace_judge.specs.declared.early_end.EarlyEnd.TheVariants as early_end
use Rattle.trace_judge.specs.declared.trace.Ruling.{Ruling}
use Rattle.trace_judge.specs.declared.verdict.Verdict.{Verdict}
use Rattle.trace_judge.specs.declared.verdict.Verdict.TheVariants.{Lawful, Broken}
use Rattle.trace_ftrace.specs.declared.wrong.Refusal.{Refusal}
use Rattle.trace_ftrace.specs.declared.wrong.Refusal.TheVariants as refusal
use Rattle.trace_ftrace.specs.declared.wrong.Wrong.TheVariants as wrong
use Rattle.trace_ftrace.specs.Offline.{hidden_by, is_hidden, made_of, unless_hidden}
use Rattle.trace_ftrace.specs.Text.{SourceValue, ruling_of, shown_text, verdict_text, PrintsRuling, PrintsSeen, PrintsVerdict}
use Rattle.trace_ftrace.specs.Verdict.{Rules}

shown_if : {X : Type 0} (hidden : Bool) (off : ℕ) (seen : X) (why : Refusal) → (if hidden then Some off else None) ≡ None
    → (if hidden then Err why else Ok seen) ≡ Ok seen
shown_if true off seen why h = absurd (let bad : Some off ≡ None = h in cc)
shown_if false off seen why h = refl

hidden_if : {X : Type 0} (hidden : Bool) (off line : ℕ) (seen : X) → (if hidden then Some off else None) ≡ Some line
    → (if hidden then Err (refusal.Wrong off wrong.Offline) else Ok seen) ≡ Err (refusal.Wrong line wrong.Offline)
hidden_if true off line seen h = let same : Some off ≡ Some line = h in cc
hidden_if false off line seen h = absurd (let bad : None ≡ Some line = h in cc)

-- a verdict that no line hides stands
pub stands : {A : Type 0} (offline : Option ℕ) (v : Verdict A) → hidden_by offline v ≡ None → unless_hidden offline (made_of v) ≡ Ok (made_of v)
stands None (Lawful events state) h = refl
stands None (Broken line cpu event why) h = refl
stands (Some off) (Lawful events state) h = refl
stands (Some off) (Broken line cpu event why) h =
    shown_if (is_hidden off line why) off (Err (early_end.Broken line cpu event why)) (refusal.Wrong off wrong.Offline) h

-- one that this line hides is none
pub falls : {A : Type 0} (offline : Option ℕ) (v : Verdict A) (line : ℕ) → hidden_by offline v ≡ Some line
    → unless_hidden offline (made_of v) ≡ Err (refusal.Wrong line wrong.Offline)
falls None (Lawful events state) line h = absurd (let bad : None ≡ Some line = h in cc)
falls None (Broken at cpu event why) line h = absurd (let bad : None ≡ Some line = h in cc)
falls (Some off) (Lawful events state) line h = absurd (let bad : None ≡ Some line = h in cc)
falls (Some off) (Broken at cpu event why) line h =
    hidden_if (is_hidden off at why) off line (Err (early_end.Broken at cpu event why)) h

-- a verdict that was answered was made
answered : {A : Type 0} (v : Verdict A) (m : Result (Result (ℕ × StateValue) EarlyEnd) Refusal) → Rules (Ok v) m → m ≡ Ok (made_of v)
answered (Lawful events state) m r = r
answered (Broken line cpu event why) m r = r

printed : {A : Type 0} (x : SourceValue) (out : Vec ℕ A) (ruling : Ruling) (v : Verdict A) → out.items ≡ shown_text x v → ruling ≡ ruling_of v
    → PrintsVerdict out.items ruling x (Ok (made_of v))
unfolding shown_text verdict_text
printed x out ruling (Lawful events state) o u = (o, u)
printed x out ruling (Broken line cpu event why) o u = (o, u)

-- what is printed of one that no line hides
pub prints_seen : {A : Type 0} (x : SourceValue) (out : Vec ℕ A) (ruling : Ruling) (v : Verdict A) → hidden_by x.offline v ≡ None
    → out.items ≡ shown_text x v → ruling ≡ ruling_of v → PrintsVerdict out.items ruling x (unless_hidden x.offline (made_of v))
prints_seen x out ruling v h o u = rw (stands x.offline v h) (printed x out ruling v o u)

-- what is printed of a verdict on the events that lines tell
pub prints_of : {A : Type 0} (answer : Result (Vec ℕ A × Ruling) Refusal) (x : SourceValue) (v : Verdict A)
    (m : Result (Result (ℕ × StateValue) EarlyEnd) Refusal) → Rules (Ok v) m → PrintsSeen answer x (unless_hidden x.offline (made_of v))
    → PrintsRuling answer x (m >>= unless_hidden x.offline)
prints_of (Ok (out, ruling)) x v m r p = rw (answered v m r) p
prints_of (Err refusal.NoMemory) x v m r p = tt
prints_of (Err refusal.TooLong) x v m r p = absurd p
prints_of (Err refusal.LongTrace) x v m r p = absurd p
prints_of (Err refusal.Unplaced) x v m r p = absurd p
prints_of (Err (refusal.Wrong line wrong.Form)) x v m r p = absurd p
prints_of (Err (refusal.Wrong line wrong.Lost)) x v m r p = absurd p
prints_of (Err (refusal.Wrong line wrong.Time)) x v m r p = absurd p
prints_of (Err (refusal.Wrong line wrong.Field)) x v m r p = absurd p
prints_of (Err (refusal.Wrong line wrong.Cpu)) x v m r p = absurd p
prints_of (Err (refusal.Wrong line wrong.Class)) x v m r p = absurd p
prints_of (Err (refusal.Wrong line wrong.Records)) x v m r p = absurd p
prints_of (Err (refusal.Wrong line wrong.Stops)) x v m r p = absurd p
prints_of (Err (refusal.Wrong line wrong.Offline)) x v m r p = rw (answered v m r) p

-- and where there is none
pub fails_of : (A : Type 0) (why : Refusal) (x : SourceValue) (m : Result (Result (ℕ × StateValue) EarlyEnd) Refusal) → Rules {A = A} (Err why) m
    → PrintsRuling {A = A} (Err why) x (m >>= unless_hidden x.offline)
fails_of A refusal.NoMemory x m r = tt
fails_of A refusal.TooLong x m r = rw r refl
fails_of A refusal.LongTrace x m r = rw r refl
fails_of A refusal.Unplaced x m r = rw r refl
fails_of A (refusal.Wrong line why) x m r = rw r refl
