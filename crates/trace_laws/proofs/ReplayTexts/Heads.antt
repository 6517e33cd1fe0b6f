-- The head of a trace is read as it was written.
use Rattle.trace_laws.proofs.Names.{CursorValue, Event, Labels, Line, List, Ok, Setting, [], ap, arith, bytes_eq, cases_Bool, codes, cpus_at, decimal, false}
use Rattle.trace_laws.proofs.Names.{fields_of, inl, inr, is_decimal, is_labels, join_with_byte, labels_at, length, length-append, lines_of, no_labels, refl}
use Rattle.trace_laws.proofs.Names.{sym, titled, true, used_after, whole_labels, without_at, ℕ, ◌+◌, ◌<◌, ◌^◌, ◌∙◌, ◌∷◌, ◌≡◌, ◌≤◌}
use Rattle.trace_laws.proofs.ReplayNames.{AreLabels, AreReadable, AreTold, IsTold, all_told, are_online, fields_join, is_field, items_text, labels_fields}
use Rattle.trace_laws.proofs.ReplayNames.{lines_text, mask_of}
use Rattle.smp_script.proofs.{Spelled.ReadParts.same_word, Texts.Decimals.is_decimal-decimal, Written.Writing.cpus_are_read}
use Rattle.smp_script.specs.Script.{whole_cpus}
use Rattle.trace_judge.specs.Head.{needed}
use Rattle.trace_laws.proofs.ReplayTexts.EventLines.{event_words, first_line, length_line, line_words, told_line, used_within}
use Rattle.trace_laws.proofs.ReplayTexts.FrontLines.{cpus_fields, cpus_words, labels_told, labels_words}
use Rattle.trace_laws.proofs.ReplayTexts.EventWords.{TakesAll}

-- a line that a line feed ends
abbrev pub ended : List ℕ → Line
ended text = record { text = text; ended = true }

-- where lines are, after these numbers of lines and bytes
abbrev pub cursor : ℕ → ℕ → List Line → CursorValue
cursor number used lines = record { number = number; used = used; lines = lines }

-- the title
pub title_read : (rest : List Line) → titled (ended (codes "smp 2 trace") ∷ rest) ≡ Ok (false, cursor 2 12 rest)
unfolding titled needed used_after
title_read rest = refl

-- the line of the CPUs
pub cpus_read : (nr online : ℕ) (mask : List ℕ) (rest : List Line) → 1 ≤ nr → nr ≤ 32 → is_field mask ≡ true → mask_of 32 mask ≡ Ok online
    → are_online nr online ≡ true → length (join_with_byte 32 (cpus_words nr mask)) < 1024
    → cpus_at false (cursor 2 12 (ended (join_with_byte 32 (cpus_words nr mask)) ∷ rest))
    ≡ Ok ((32, online), cursor 3 (12 + (length (join_with_byte 32 (cpus_words nr mask)) + 1)) rest)
unfolding cpus_at needed
cpus_read nr online mask rest some few field is_mask are short =
    let text = join_with_byte 32 (cpus_words nr mask) in
    let back = fields_join (codes "cpus") (decimal nr ∷ mask ∷ []) (cpus_fields nr mask few field) in
    let read : whole_cpus 32 (fields_of text) ≡ Ok (nr, online) =
    ap (whole_cpus 32) back ∙ cpus_are_read 32 nr online mask some few (omega arith) field is_mask are in
    rw ((used_within 2 12 text (omega arith) short (omega (arith, short))), read) refl

-- the line of the labels
pub labels_read : (labels : Labels) (used : ℕ) (rest : List Line) → AreLabels labels.keys labels.entries → used ≤ 4096
    → length (join_with_byte 32 (labels_words labels)) < 1024
    → labels_at 32 (cursor 3 used (ended (join_with_byte 32 (labels_words labels)) ∷ rest))
    ≡ Ok (labels, cursor 4 (used + (length (join_with_byte 32 (labels_words labels)) + 1)) rest)
unfolding labels_at
labels_read labels used rest are few short =
    let text = join_with_byte 32 (labels_words labels) in
    let back = fields_join (codes "labels") (decimal labels.keys ∷ items_text labels.entries ∷ []) (labels_fields labels are) in
    let is : is_labels (fields_of text) ≡ true = ap is_labels back in
    let read : whole_labels (fields_of text) ≡ Ok labels = ap whole_labels back ∙ labels_told labels are in
    rw ((used_within 3 used text (omega arith) short (omega (arith, short, few))), is, read) refl

-- a number is no word
no_number : (n : ℕ) (word : List ℕ) → n < 2 ^ 64 → is_decimal word ≡ false → bytes_eq (decimal n) word ≡ false
no_number n word small plain = elim (cases_Bool (bytes_eq (decimal n) word)) [
  | inr other ↦ other
  | inl spelled ↦
      let same : decimal n ≡ word = same_word (decimal n) word spelled in
      let bad : true ≡ false = sym (is_decimal-decimal n small) ∙ ap is_decimal same ∙ plain in
      cc
]

-- a line with another first word is no line of labels
not_labels : (word : List ℕ) (rest : List (List ℕ)) → bytes_eq word (codes "labels") ≡ false → is_labels (word ∷ rest) ≡ false
not_labels word rest h1 = search arith

-- these numbers of lines and bytes more are within the limits
pub record HasRoom (number used : ℕ) (events : List (ℕ × Event)) : Type 0 where
  pub lines : number + length events ≤ 1000001
  pub bytes : used + length (lines_text events) ≤ 16777216
  pub short : AreReadable (lines_of (lines_text events))

-- the first line of events is within the limits
room_first : (u : Setting) (number used cpu : ℕ) (e : Event) (events : List (ℕ × Event)) → TakesAll u → IsTold u (cpu, e)
    → HasRoom number used ((cpu, e) ∷ events)
    → used_after number used (ended (told_line cpu e)) ≡ Ok (used + (length (told_line cpu e) + 1))
room_first u number used cpu e events h1 h2 h3 = search (told_line, length-append, length_line, first_line, used_within, arith)

-- the lines of events are no labels
pub no_labels_read : (u : Setting) (number used : ℕ) (events : List (ℕ × Event)) → TakesAll u → AreTold u events → HasRoom number used events
    → labels_at 32 (cursor number used (lines_of (lines_text events))) ≡ Ok (no_labels, cursor number used (lines_of (lines_text events)))
unfolding labels_at
no_labels_read u number used [] all told room = refl
no_labels_read u number used ((cpu, e) ∷ events) all told room =
    let first = first_line u cpu e (lines_text events) all told.0 in
    let other : bytes_eq (decimal cpu) (codes "labels") ≡ false = no_number cpu (codes "labels") (omega (arith, told.0.0)) refl in
    rw (first, room_first u number used cpu e events all told.0 room, line_words u cpu e all told.0) (rw (not_labels (decimal cpu) (event_words e) other) refl)

-- and leave nothing out
pub without_read : (u : Setting) (number used : ℕ) (events : List (ℕ × Event)) → TakesAll u → AreTold u events → HasRoom number used events
    → without_at (cursor number used (lines_of (lines_text events))) ≡ Ok (all_told, cursor number used (lines_of (lines_text events)))
unfolding without_at
without_read u number used [] all told room = refl
without_read u number used ((cpu, e) ∷ events) all told room =
    let other : bytes_eq (decimal cpu) (codes "without") ≡ false = no_number cpu (codes "without") (omega (arith, told.0.0)) refl in
    rw ((first_line u cpu e (lines_text events) all told.0), room_first u number used cpu e events all told.0 room, line_words u cpu e all told.0, other) refl
