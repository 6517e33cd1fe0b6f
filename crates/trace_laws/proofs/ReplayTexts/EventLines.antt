-- The lines of events tell them.
use Rattle.trace_laws.proofs.Names.{EarlyEnd, Event, List, Ok, Result, Setting, Some, [], ap, append_assoc, arith, decimal, false, fields_of, has}
use Rattle.trace_laws.proofs.Names.{join_with_byte, length, length-append, lines_of, list_all, lt-ltb, nat_tests, refl, subst, suc, true, used_after, ℕ, ◌++◌}
use Rattle.trace_laws.proofs.Names.{◌+◌, ◌<◌, ◌∙◌, ◌∷◌, ◌≡◌, ◌≤◌}
use Rattle.trace_laws.proofs.ReplayNames.{AreReadable, AreTold, IsTold, OwnStop, fields_join, is_field, is_field-decimal, line_before, line_text, lines_of-line}
use Rattle.trace_laws.proofs.ReplayNames.{lines_text}
use Rattle.smp_script.proofs.{Texts.Decimals.decimal_lacks, Texts.Decimals.number_in-decimal, Texts.Joins.whole_fields}
use Rattle.smp_script.specs.Spelling.{lacks}
use Rattle.trace_judge.specs.{Judged.event_on, Judged.is_comment, Reading.is_low, Reading.online_of, Reading.own_stop, Runs.Told, Runs.told_by}
use Rattle.trace_laws.proofs.ReplayTexts.EventWords.{TakesAll, joined_words, words_of, words_read}

-- what is behind the CPU of a line
abbrev pub event_words : Event → List (List ℕ)
event_words e = (words_of e).name ∷ (words_of e).arguments

-- a line, with no line feed
abbrev pub told_line : ℕ → Event → List ℕ
told_line cpu e = join_with_byte 32 (decimal cpu ∷ event_words e)

-- the line of an event is its words
pub line_is : (cpu : ℕ) (e : Event) (rest : List ℕ) → line_text cpu e ++ rest ≡ line_before (decimal cpu ∷ event_words e) rest
unfolding line_before
line_is cpu e rest = rw (joined_words e) (search (append_assoc, arith))

-- what is known of an event that is told
pub line_fields : (u : Setting) (cpu : ℕ) (e : Event) → TakesAll u → IsTold u (cpu, e) → list_all is_field (decimal cpu ∷ event_words e) ≡ true
line_fields u cpu e all (small, online, fits, own) =
    rw (is_field-decimal cpu (omega (arith, small)), (words_read u e all.second all.whole all.keys all.sites fits).fields) refl

-- its line is the first
pub first_line : (u : Setting) (cpu : ℕ) (e : Event) (rest : List ℕ) → TakesAll u → IsTold u (cpu, e)
    → lines_of (line_text cpu e ++ rest) ≡ record { text = told_line cpu e; ended = true } ∷ lines_of rest
first_line u cpu e rest all told =
    ap lines_of (line_is cpu e rest) ∙ lines_of-line (decimal cpu ∷ event_words e) rest (line_fields u cpu e all told)

-- its fields are its words
pub line_words : (u : Setting) (cpu : ℕ) (e : Event) → TakesAll u → IsTold u (cpu, e) → fields_of (told_line cpu e) ≡ decimal cpu ∷ event_words e
line_words u cpu e all told = fields_join (decimal cpu) (event_words e) (line_fields u cpu e all told)

-- a line that begins with a number is no comment
no_comment : (t rest : List ℕ) → is_field t ≡ true → lacks 35 t ≡ true → is_comment (t ++ rest) ≡ false
no_comment [] rest f l = cc
no_comment (b ∷ bs) rest f l = grind (arith, l)

-- its CPU is read, and may have the event
online_told : (u : Setting) (cpu : ℕ) → cpu < 32 → has u.online cpu ≡ true → online_of u (decimal cpu) ≡ Ok cpu
online_told u cpu small on =
    let read = number_in-decimal 0 4294967295 cpu (omega arith) (omega (arith, small)) (omega (arith, small)) in
    rw (read, lt-ltb cpu 32 small, on) refl

low_told : (cpu : ℕ) (e : Event) → cpu < 32 → is_low cpu (own_stop 0 e) ≡ true
low_told cpu e small = search (lt-ltb, arith)

-- its stop has the CPU's number
own_told : (cpu : ℕ) (e : Event) → OwnStop cpu e → own_stop cpu (own_stop 0 e) ≡ e
own_told cpu e own = search arith

-- the line tells the event
pub line_tells : (u : Setting) (n cpu : ℕ) (e : Event) → TakesAll u → IsTold u (cpu, e) → event_on u n (told_line cpu e) ≡ Ok (Some (cpu, e))
unfolding event_on
line_tells u n cpu e all (small, online, fits, own) =
    let told : IsTold u (cpu, e) = (small, online, fits, own) in
    let plain : is_comment (told_line cpu e) ≡ false = no_comment (decimal cpu) (32 ∷ join_with_byte 32 (event_words e))
    (is_field-decimal cpu (omega (arith, small))) (decimal_lacks 35 cpu refl (omega (arith, small))) in
    let reads = words_read u e all.second all.whole all.keys all.sites fits in
    let whole = whole_fields (decimal cpu ∷ event_words e) (line_fields u cpu e all told) in
    rw (plain, line_words u cpu e all told) (rw (whole, reads.read, online_told u cpu small online, low_told cpu e small, all.second, own_told cpu e own) refl)

-- a line within the limits
pub used_within : (n used : ℕ) (text : List ℕ) → n ≤ 1000000 → length text < 1024 → used + length text < 16777216
    → used_after n used (record { text = text; ended = true }) ≡ Ok (used + (length text + 1))
unfolding used_after
used_within n used text few short room = grind (arith, nat_tests)

-- how long a line is
pub length_line : (cpu : ℕ) (e : Event) → length (line_text cpu e) ≡ length (told_line cpu e) + 1
unfolding line_before
length_line cpu e = rw (joined_words e) (search (append_assoc, length-append, arith))

-- what lines tell, read
abbrev told_so : List (ℕ × Event) → ℕ → Result Told EarlyEnd
told_so events used = Ok (record { events = events; used = used })

-- the lines of events tell just these
pub lines_tell : (u : Setting) (n used : ℕ) (events : List (ℕ × Event)) → TakesAll u → AreTold u events → n + length events ≤ 1000001
    → used + length (lines_text events) ≤ 16777216 → AreReadable (lines_of (lines_text events))
    → told_by u n used (lines_of (lines_text events)) ≡ Ok (record { events = events; used = used + length (lines_text events) })
unfolding told_by
lines_tell u n used [] all told few room short = let none : used ≡ used + 0 = omega arith in ap (λ (k : ℕ). told_so [] k) none
lines_tell u n used ((cpu, e) ∷ events) all told few room short =
    let text = told_line cpu e in
    let rest = lines_text events in
    let first = first_line u cpu e rest all told.0 in
    let long : length (line_text cpu e ++ rest) ≡ length text + 1 + length rest =
    length-append (line_text cpu e) rest ∙ ap (λ k. k + length rest) (length_line cpu e) in
    let shorts : AreReadable (record { text = text; ended = true } ∷ lines_of rest) = subst AreReadable first short in
    let more = used_within n used text (omega arith) shorts.0 (omega (arith, long, room)) in
    let ih = lines_tell u (n + 1) (used + (length text + 1)) events all told.1 (omega arith) (omega (arith, long, room)) shorts.1 in
    let sum : used + (length text + 1) + length rest ≡ used + length (line_text cpu e ++ rest) = omega (arith, long) in
    rw (first, more, line_tells u n cpu e all told.0, ih) (ap (λ (k : ℕ). told_so ((cpu, e) ∷ events) k) sum)

-- there is a line for each event
pub count_lines : (u : Setting) (events : List (ℕ × Event)) → TakesAll u → AreTold u events → length (lines_of (lines_text events)) ≡ length events
count_lines u [] all told = refl
count_lines u ((cpu, e) ∷ events) all told =
    let first : length (lines_of (lines_text ((cpu, e) ∷ events))) ≡ suc (length (lines_of (lines_text events))) =
    ap length (first_line u cpu e (lines_text events) all told.0) in
    omega (arith, first, count_lines u events all told.1)
