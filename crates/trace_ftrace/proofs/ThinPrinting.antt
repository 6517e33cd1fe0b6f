-- What is printed of a verdict with the lines of a thin text, and where order is asked for.
use Rattle.std.proofs.Common.{◌≡◌, ℕ, Bool, true, false, ◌==◌, ◌||◌, if◌then◌else◌, List, [], ◌∷◌, ◌++◌, Option, Some, None, Result, Ok, Err, Vec}
use Rattle.std.proofs.Common.{refl, sym, ap, arith, subst}
use Rattle.std.proofs.lemmas.Bool.Decides.{nat_tests}
use Rattle.smp_script.specs.Lines.{lines_of}
use Rattle.trace_model.specs.declared.event.Event.{Event}
use Rattle.trace_model.specs.declared.reason.Reason.{Reason}
use Rattle.trace_judge.specs.declared.early_end.EarlyEnd.TheVariants as early_end
use Rattle.trace_judge.specs.declared.trace.Ruling.{Ruling}
use Rattle.trace_judge.specs.declared.verdict.Verdict.{Verdict}
use Rattle.trace_judge.specs.declared.verdict.Verdict.TheVariants.{Lawful, Broken}
use Rattle.trace_ftrace.specs.Asked.{order_judged, order_shown, PrintsWith, RulesBy}
use Rattle.trace_ftrace.specs.Bounds.{shows_order}
use Rattle.trace_ftrace.specs.Kept.{KeptValue}
use Rattle.trace_ftrace.specs.Offline.{is_hidden, made_of, unless_hidden}
use Rattle.trace_ftrace.specs.Telling.{TellingValue}
use Rattle.trace_ftrace.specs.Reading.{Reads}
use Rattle.trace_ftrace.specs.Text.{asked_of, broken_lines, broken_of, broken_record, line_behind, line_from, queue_of, queued_text, source_text}
use Rattle.trace_ftrace.specs.Text.{PrintsSeen, PrintsShown, PrintsVerdict, SourceValue}
use Rattle.trace_ftrace.specs.ThinText.{is_shown, lines_shown, ShowSame}
use Rattle.trace_ftrace.specs.Verdict.{ruling_of as ruling_of_told}
use Rattle.trace_ftrace.specs.declared.told.Told.{Told}
use Rattle.trace_ftrace.specs.declared.verdict_text.OrderJudged.{OrderJudged}
use Rattle.trace_ftrace.specs.declared.verdict_text.OrderJudged.TheVariants as order
use Rattle.trace_ftrace.specs.declared.wrong.Refusal.{Refusal}
use Rattle.trace_ftrace.specs.declared.wrong.Refusal.TheVariants as refusal
use Rattle.trace_ftrace.specs.declared.wrong.Wrong.TheVariants as wrong
use Rattle.trace_ftrace.proofs.Orders.{fails_run, prints_run}
use Rattle.trace_ftrace.proofs.Printing.{fails_of, prints_of}

-- both lines are shown
or_true : (a b : Bool) → b ≡ true → (a || b) ≡ true
or_true true b h = refl
or_true false b h = h

same_number : (n : ℕ) → (n == n) ≡ true
same_number n = search (arith, nat_tests)

refused_shown : (line : ℕ) (queued : Option ℕ) → is_shown (record { refused = line; queued = queued }) line ≡ true
refused_shown line queued = rw (same_number line) refl

queued_shown : (line at : ℕ) → is_shown (record { refused = line; queued = Some at }) at ≡ true
queued_shown line at = or_true (at == line) (at == at) (same_number at)

-- what is printed of them
behind_same : (text thin : List ℕ) (line : ℕ) → line_from 1 line (lines_of text) ≡ line_from 1 line (lines_of thin)
    → line_behind text line ≡ line_behind thin line
behind_same text thin line e = ap (λ (x : List ℕ). x ++ 10 ∷ []) e

queued_same : (text thin : List ℕ) (line : ℕ) (queued : Option ℕ) → ShowSame (Some (record { refused = line; queued = queued })) text thin
    → queued_text text queued ≡ queued_text thin queued
queued_same text thin line None h = refl
queued_same text thin line (Some at) h = rw (behind_same text thin at (h at (queued_shown line at))) refl

source_same : (text thin : List ℕ) (told : List Told) (line : ℕ) (record_of : Option ℕ)
    → ShowSame (Some (record { refused = line; queued = queue_of record_of line told })) text thin
    → source_text text told line record_of ≡ source_text thin told line record_of
unfolding source_text
source_same text thin told line record_of h =
    rw (
      behind_same text thin line (h line (refused_shown line (queue_of record_of line told))),
      queued_same text thin line (queue_of record_of line told) h,
    ) refl

broken_same : (o : OrderJudged) (text thin : List ℕ) (slow : ℕ) (k : KeptValue) (t : TellingValue) (line cpu unshown : ℕ) (e : Event) (why : Reason)
    → ShowSame (Some (record { refused = line; queued = queue_of (broken_record e why) line t.told })) text thin
    → broken_lines (asked_of o thin slow k t) (broken_of line cpu e why) unshown ≡ broken_lines (asked_of o text slow k t) (broken_of line cpu e why) unshown
unfolding broken_lines
broken_same o text thin slow k t line cpu unshown e why h = rw (source_same text thin t.told line (broken_record e why) h) refl

-- a verdict that is printed with one text is printed with the other
verdict_same : (out : List ℕ) (ruling : Ruling) (hidden : Bool) (off : ℕ) (o : OrderJudged) (text thin : List ℕ) (slow : ℕ) (k : KeptValue) (t : TellingValue)
    (line cpu : ℕ) (e : Event) (why : Reason)
    → ShowSame (Some (record { refused = line; queued = queue_of (broken_record e why) line t.told })) text thin
    → PrintsVerdict out ruling (asked_of o thin slow k t)
    (if hidden then Err (refusal.Wrong off wrong.Offline) else Ok (Err (early_end.Broken line cpu e why)))
    → PrintsVerdict out ruling (asked_of o text slow k t)
    (if hidden then Err (refusal.Wrong off wrong.Offline) else Ok (Err (early_end.Broken line cpu e why)))
verdict_same out ruling true off o text thin slow k t line cpu e why h p = p
verdict_same out ruling false off o text thin slow k t line cpu e why h p =
    (rw (← broken_same o text thin slow k t line cpu _ e why h) p.0, p.1)

printed_same : {A : Type 0} (out : List ℕ) (ruling : Ruling) (offline : Option ℕ) (o : OrderJudged) (text thin : List ℕ)
    (slow : ℕ) (k : KeptValue) (t : TellingValue) (v : Verdict A) → ShowSame (lines_shown t.told v) text thin
    → PrintsVerdict out ruling (asked_of o thin slow k t) (unless_hidden offline (made_of v))
    → PrintsVerdict out ruling (asked_of o text slow k t) (unless_hidden offline (made_of v))
printed_same out ruling None o text thin slow k t (Lawful events state) h p = p
printed_same out ruling (Some off) o text thin slow k t (Lawful events state) h p = p
printed_same out ruling None o text thin slow k t (Broken line cpu e why) h p = verdict_same out ruling false 0 o text thin slow k t line cpu e why h p
printed_same out ruling (Some off) o text thin slow k t (Broken line cpu e why) h p =
    verdict_same out ruling (is_hidden off line why) off o text thin slow k t line cpu e why h p

seen_same : {A : Type 0} (answer : Result (Vec ℕ A × Ruling) Refusal) (o : OrderJudged) (text thin : List ℕ) (slow : ℕ) (k : KeptValue) (t : TellingValue)
    (v : Verdict A) → ShowSame (lines_shown t.told v) text thin
    → PrintsSeen answer (asked_of o thin slow k t) (unless_hidden k.offline (made_of v))
    → PrintsSeen answer (asked_of o text slow k t) (unless_hidden k.offline (made_of v))
seen_same (Ok (out, ruling)) o text thin slow k t v h p = printed_same out.items ruling k.offline o text thin slow k t v h p
seen_same (Err refusal.NoMemory) o text thin slow k t v h p = tt
seen_same (Err refusal.TooLong) o text thin slow k t v h p = absurd p
seen_same (Err refusal.LongTrace) o text thin slow k t v h p = absurd p
seen_same (Err refusal.Unplaced) o text thin slow k t v h p = absurd p
seen_same (Err (refusal.Wrong line wrong.Form)) o text thin slow k t v h p = absurd p
seen_same (Err (refusal.Wrong line wrong.Lost)) o text thin slow k t v h p = absurd p
seen_same (Err (refusal.Wrong line wrong.Time)) o text thin slow k t v h p = absurd p
seen_same (Err (refusal.Wrong line wrong.Field)) o text thin slow k t v h p = absurd p
seen_same (Err (refusal.Wrong line wrong.Cpu)) o text thin slow k t v h p = absurd p
seen_same (Err (refusal.Wrong line wrong.Class)) o text thin slow k t v h p = absurd p
seen_same (Err (refusal.Wrong line wrong.Records)) o text thin slow k t v h p = absurd p
seen_same (Err (refusal.Wrong line wrong.Stops)) o text thin slow k t v h p = absurd p
seen_same (Err (refusal.Wrong line wrong.Offline)) o text thin slow k t v h p = p

-- what is printed of the verdict on what was read, where order is asked for or not
seen_shown : {A : Type 0} (answer : Result (Vec ℕ A × Ruling) Refusal) (shows : Bool) (text : List ℕ) (slow : ℕ) (k : KeptValue) (t : TellingValue)
    (v : Verdict A) → RulesBy (Ok v) (order_shown shows) k.marks t.told
    → PrintsSeen answer (asked_of (order_shown shows) text slow k t) (unless_hidden k.offline (made_of v)) → PrintsShown answer shows text slow k t
seen_shown answer true text slow k t v r p = prints_run answer (asked_of order.Judged text slow k t) v r p
seen_shown answer false text slow k t v r p = prints_of answer (asked_of order.Hidden text slow k t) v (ruling_of_told t.told) r p

seen_with : {A : Type 0} (answer : Result (Vec ℕ A × Ruling) Refusal) (asked : Bool) (text : List ℕ) (slow : ℕ) (k : KeptValue) (t : TellingValue)
    (v : Verdict A) → RulesBy (Ok v) (order_judged asked k.marks) k.marks t.told
    → PrintsSeen answer (asked_of (order_judged asked k.marks) text slow k t) (unless_hidden k.offline (made_of v))
    → PrintsWith answer asked text slow (Ok (k, t))
seen_with answer true text slow k t v r p = seen_shown answer (shows_order k.marks) text slow k t v r p
seen_with answer false text slow k t v r p = prints_of answer (asked_of order.Unasked text slow k t) v (ruling_of_told t.told) r p

pub prints_thin : {A : Type 0} (answer : Result (Vec ℕ A × Ruling) Refusal) (x : SourceValue) (asked : Bool) (text thin : List ℕ) (slow : ℕ)
    (k : KeptValue) (t : TellingValue) (v : Verdict A) → x ≡ asked_of (order_judged asked k.marks) thin slow k t
    → RulesBy (Ok v) (order_judged asked k.marks) k.marks t.told → ShowSame (lines_shown t.told v) text thin
    → PrintsSeen answer x (unless_hidden x.offline (made_of v)) → PrintsWith answer asked text slow (Ok (k, t))
prints_thin answer x asked text thin slow k t v e r h p =
    seen_with answer asked text slow k t v r (seen_same answer (order_judged asked k.marks) text thin slow k t v h
    (subst (λ (y : SourceValue). PrintsSeen answer y (unless_hidden y.offline (made_of v))) e p))

-- and where there is none
fails_shown : (A : Type 0) (why : Refusal) (shows : Bool) (text : List ℕ) (slow : ℕ) (k : KeptValue) (t : TellingValue)
    → RulesBy {A = A} (Err why) (order_shown shows) k.marks t.told → PrintsShown {A = A} (Err why) shows text slow k t
fails_shown A why true text slow k t r = fails_run A why (asked_of order.Judged text slow k t) r
fails_shown A why false text slow k t r = fails_of A why (asked_of order.Hidden text slow k t) (ruling_of_told t.told) r

pub fails_with : (A : Type 0) (why : Refusal) (asked : Bool) (text : List ℕ) (slow : ℕ) (k : KeptValue) (t : TellingValue)
    → RulesBy {A = A} (Err why) (order_judged asked k.marks) k.marks t.told → PrintsWith {A = A} (Err why) asked text slow (Ok (k, t))
fails_with A why true text slow k t r = fails_shown A why (shows_order k.marks) text slow k t r
fails_with A why false text slow k t r = fails_of A why (asked_of order.Unasked text slow k t) (ruling_of_told t.told) r

-- and where the text is not read, or memory runs out
unread : (A : Type 0) (why : Refusal) (asked : Bool) (text : List ℕ) (slow : ℕ) → PrintsWith {A = A} (Err why) asked text slow (Err why)
unread A refusal.NoMemory true text slow = tt
unread A refusal.TooLong true text slow = refl
unread A refusal.LongTrace true text slow = refl
unread A refusal.Unplaced true text slow = refl
unread A (refusal.Wrong line why) true text slow = refl
unread A refusal.NoMemory false text slow = tt
unread A refusal.TooLong false text slow = refl
unread A refusal.LongTrace false text slow = refl
unread A refusal.Unplaced false text slow = refl
unread A (refusal.Wrong line why) false text slow = refl

no_memory_shown : (A : Type 0) (shows : Bool) (text : List ℕ) (slow : ℕ) (k : KeptValue) (t : TellingValue)
    → PrintsShown {A = A} (Err refusal.NoMemory) shows text slow k t
no_memory_shown A true text slow k t = tt
no_memory_shown A false text slow k t = tt

no_memory : (A : Type 0) (asked : Bool) (text : List ℕ) (slow : ℕ) (m : Result (KeptValue × TellingValue) Refusal)
    → PrintsWith {A = A} (Err refusal.NoMemory) asked text slow m
no_memory A true text slow (Ok (k, t)) = no_memory_shown A (shows_order k.marks) text slow k t
no_memory A true text slow (Err why) = tt
no_memory A false text slow (Ok (k, t)) = tt
no_memory A false text slow (Err why) = tt

same_fault : (A : Type 0) (why : Refusal) (asked : Bool) (text : List ℕ) (slow : ℕ) (m : Result (KeptValue × TellingValue) Refusal) → m ≡ Err why
    → PrintsWith {A = A} (Err why) asked text slow m
same_fault A why asked text slow m e = subst (λ x. PrintsWith {A = A} (Err why) asked text slow x) (sym e) (unread A why asked text slow)

pub fails_read : (A : Type 0) (why : Refusal) (asked : Bool) (text : List ℕ) (slow : ℕ) (m : Result (KeptValue × TellingValue) Refusal)
    → Reads {A = A} (Err why) m → PrintsWith {A = A} (Err why) asked text slow m
fails_read A refusal.NoMemory asked text slow m r = no_memory A asked text slow m
fails_read A refusal.TooLong asked text slow m r = same_fault A refusal.TooLong asked text slow m r
fails_read A refusal.LongTrace asked text slow m r = same_fault A refusal.LongTrace asked text slow m r
fails_read A refusal.Unplaced asked text slow m r = same_fault A refusal.Unplaced asked text slow m r
fails_read A (refusal.Wrong line why) asked text slow m r = same_fault A (refusal.Wrong line why) asked text slow m r

-- a text has the lines of its own
pub same_lines : {A : Type 0} (told : List Told) (v : Verdict A) (text : List ℕ) → ShowSame (lines_shown told v) text text
same_lines told (Lawful events state) text = tt
same_lines told (Broken line cpu e why) text = λ at shown. refl
