-- Whether every CPU heard what was sent to it, and what the program answers.
use Rattle.std.specs.Prelude.{◌≡◌, ℕ, zero, suc, ◌+◌, ◌%◌, ◌^◌, ◌<◌, ◌==◌, if◌then◌else◌, List, [], All, fold, slice_index_or}
use Rattle.smp_queue.specs.declared.audit.Audit.{Audit}
use Rattle.smp_queue.specs.declared.audit.Audit.TheVariants.{Drained, Left}
use Rattle.smp_queue.specs.declared.audit.Tally.{Tally}
use Rattle.load.specs.declared.torture.call_totals.CallTotal.{CallTotal}
use Rattle.load.specs.declared.torture.answers.Answers.{Answers}
use Rattle.load.specs.declared.torture.report.Report.{Report}
use Rattle.load.specs.Counts.{total_at, total_sum, no_answers, answers_of, answers_sum}
use Rattle.load.specs.Kinds.{all_kinds, index_of}

-- what a CPU has heard of a function from another, by its handler and by its stop function
abbrev pub heard_from : Report → ℕ → ℕ → CallTotal
heard_from target func source = total_sum (total_at target.heard.cells func source) (total_at target.ran.cells func source)

-- that is what the other has sent to it
abbrev pub IsHeard : ℕ → Report → Report → Type 0
IsHeard func source target = total_at source.sent.cells func target.number ≡ heard_from target func source.number

-- and so it is of all pairs
abbrev pub AreHeard : ℕ → List Report → Type 0
AreHeard func reports = All (λ source. All (λ target. IsHeard func source target) reports) reports

-- each CPU's calls of a kind were answered as they should be
abbrev pub AreAnswered : ℕ → List Report → Type 0
AreAnswered index reports = All (λ r. (answers_of r.made index).wrong ≡ 0) reports

-- what all CPUs have made of a kind
abbrev pub all_answers : ℕ → List Report → Answers
all_answers index reports = fold (λ m r. answers_sum m (answers_of r.made index)) no_answers reports

-- no CPU has heard or made a call of a function or a CPU that does not exist
abbrev pub AreNoStrays : List Report → Type 0
AreNoStrays reports = All (λ r. (r.sent.strays ≡ 0) × (r.heard.strays ≡ 0) × (r.ran.strays ≡ 0)) reports

-- each call with wait saw what its source had stored before
abbrev pub AreSeen : List Report → Type 0
AreSeen reports = All (λ r. r.unseen ≡ 0) reports

-- the calls of the first n functions that a CPU has made to another, modulo 2^64
unfoldable pub sent_below : Report → ℕ → ℕ → ℕ
sent_below r target zero = 0
sent_below r target (suc n) = (sent_below r target n + (total_at r.sent.cells n target).count) % 2 ^ 64

-- the calls that a CPU has queued for a CPU: those to itself run at once, and stops from number 9 on are none
abbrev pub queued_for : Report → ℕ → ℕ
queued_for r target = if target == r.number then 0 else sent_below r target 9

-- the tally words say the same of a CPU and of each target
abbrev pub IsTalliedBy : Tally → Report → Type 0
IsTalliedBy tally r = (t : ℕ) → t < 32 → slice_index_or (slice_index_or tally.queued r.number []) t 0 ≡ queued_for r t

-- and so they do of each CPU
abbrev pub AreTallied : Tally → List Report → Type 0
AreTallied tally reports = All (λ r. IsTalliedBy tally r) reports

-- a kind was heard as it was sent, and answered as it should be
unfoldable pub IsRightOf : ℕ → List Report → Type 0
IsRightOf index reports = AreHeard index reports × AreAnswered index reports

-- all calls have run, and all that was noted beside the kinds is right
abbrev pub IsDrainedOf : Audit → List Report → Type 0
IsDrainedOf (Drained tally) reports = AreTallied tally reports × AreNoStrays reports × AreSeen reports
IsDrainedOf (Left left) reports = ⊥

-- so it is of all kinds
abbrev pub AreAllRight : List Report → Type 0
AreAllRight reports = All (λ k. IsRightOf (index_of k) reports) all_kinds
