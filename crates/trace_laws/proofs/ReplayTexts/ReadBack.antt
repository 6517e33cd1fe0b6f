-- The trace of a script reads back.
use Rattle.trace_laws.proofs.Names.{Event, Labels, List, None, Ok, Option, Some, [], ap, append-nil, append_assoc, arith, codes, false, head_of, head_with}
use Rattle.trace_laws.proofs.Names.{is_some, join_with_byte, length, length-append, lines_of, list_all, no_labels, refl, subst, suc, sym, true, ℕ, ◌++◌, ◌+◌}
use Rattle.trace_laws.proofs.Names.{◌∙◌, ◌∷◌, ◌≡◌, ◌≤◌}
use Rattle.trace_laws.proofs.ReplayNames.{AreReadable, AreTold, LabelsFit, One, ReadsBack, Two, Version, all_told, are_online, is_field, labels_fields}
use Rattle.trace_laws.proofs.ReplayNames.{labels_or_none, line_before, lines_of-line, lines_text, mask_of, script_is_spelled, setting_of, trace_text, traced}
use Rattle.smp_script.specs.{Modes.mode_text, Script.Script, Script.script_of, Spelling.labels_before, Spelling.spelled_lines, Versions.version_text}
use Rattle.smp_script.specs.{declared.mode.Mode.TheVariants.Replay}
use Rattle.trace_judge.specs.Head.{words_of as label_words_of}
use Rattle.trace_events.specs.Front.{front_text}
use Rattle.trace_laws.proofs.ReplayTexts.FrontLines.{cpus_fields, cpus_words, few_cpus, labels_words, trace_mask}
use Rattle.trace_laws.proofs.ReplayTexts.Heads.{HasRoom, cpus_read, cursor, ended, labels_read, no_labels_read, title_read, without_read}
use Rattle.trace_laws.proofs.{ReplayTexts.EventLines.count_lines, ReplayTexts.EventLines.lines_tell, ReplayTexts.EventWords.TakesAll}
use Rattle.trace_laws.specs.ReplayTexts.{IsWithin}

-- a line
abbrev line_of : List (List ℕ) → List ℕ
line_of words = join_with_byte 32 words

-- the words of a trace's first line
abbrev trace_words : List (List ℕ)
trace_words = codes "smp" ∷ codes "2" ∷ codes "trace" ∷ []

-- a trace as its lines
abbrev written : ℕ → List ℕ → Option Labels → List ℕ → List ℕ
written nr mask labels body = line_before trace_words (line_before (cpus_words nr mask) (labels_before labels body))

-- what is in front of the events
front_joined : (title cpus rest : List ℕ) (body : List ℕ) → front_text false (ended title ∷ ended cpus ∷ lines_of rest) ++ body
    ≡ codes "smp 2 trace" ++ 10 ∷ (cpus ++ 10 ∷ body)
front_joined title cpus rest body = search (append_assoc, append-nil, arith)

labels_joined : (title cpus labels rest : List ℕ) (body : List ℕ)
    → front_text true (ended title ∷ ended cpus ∷ ended labels ∷ lines_of rest) ++ body
    ≡ codes "smp 2 trace" ++ 10 ∷ (cpus ++ 10 ∷ (labels ++ 10 ∷ body))
labels_joined title cpus labels rest body = search (append_assoc, arith)

front_is : (title : List (List ℕ)) (nr : ℕ) (mask : List ℕ) (labels : Option Labels) (rest body : List ℕ) → list_all is_field title ≡ true
    → list_all is_field (cpus_words nr mask) ≡ true → LabelsFit labels
    → front_text (is_some labels) (lines_of (line_before title (line_before (cpus_words nr mask) (labels_before labels rest)))) ++ body
    ≡ written nr mask labels body
unfolding line_before
front_is title nr mask None rest body t c fit =
    rw (lines_of-line title (line_before (cpus_words nr mask) rest) t, lines_of-line (cpus_words nr mask) rest c)
    (front_joined (line_of title) (line_of (cpus_words nr mask)) rest body)
front_is title nr mask (Some labels) rest body t c fit =
    rw (
      lines_of-line title (line_before (cpus_words nr mask) (line_before (labels_words labels) rest)) t,
      lines_of-line (cpus_words nr mask) (line_before (labels_words labels) rest) c,
      lines_of-line (labels_words labels) rest (labels_fields labels fit),
    ) (labels_joined (line_of title) (line_of (cpus_words nr mask)) (line_of (labels_words labels)) rest body)

-- how long a line and what is behind it are
length_before : (words : List (List ℕ)) (rest : List ℕ) → length (line_before words rest) ≡ length (line_of words) + 1 + length rest
unfolding line_before
length_before words rest = length-append (line_of words) (10 ∷ rest) ∙ omega arith

-- what the head of a trace takes
pub record IsTraced (nr online : ℕ) (mask : List ℕ) (labels : Option Labels) (events : List (ℕ × Event)) : Type 0 where
  pub some : 1 ≤ nr
  pub few : nr ≤ 32
  pub field : is_field mask ≡ true
  pub mask_is : mask_of 32 mask ≡ Ok online
  pub online_are : are_online nr online ≡ true
  pub labels_are : LabelsFit labels
  pub told : AreTold (setting_of online (labels_or_none labels) all_told) events
  pub within : IsWithin (written nr mask labels (lines_text events))

takes_all : (online : ℕ) (labels : Option Labels) → LabelsFit labels → TakesAll (setting_of online (labels_or_none labels) all_told)
takes_all online labels fit = search arith

-- the lines of a trace
lines_written : (nr : ℕ) (mask : List ℕ) (labels : Option Labels) (body : List ℕ) → list_all is_field (cpus_words nr mask) ≡ true
    → lines_of (written nr mask labels body)
    ≡ ended (codes "smp 2 trace") ∷ ended (line_of (cpus_words nr mask)) ∷ lines_of (labels_before labels body)
lines_written nr mask labels body c = search (lines_of-line, arith)

-- the head that was read, and what is behind it
record HeadIs (nr online : ℕ) (mask : List ℕ) (labels : Option Labels) (events : List (ℕ × Event)) : Type 0 where
  number : ℕ
  used : ℕ
  room : HasRoom number used events
  head_is : head_of (lines_of (written nr mask labels (lines_text events)))
      ≡ Ok (head_with (setting_of online (labels_or_none labels) all_told) (labels_or_none labels) (cursor number used (lines_of (lines_text events))))

head_none : (nr online : ℕ) (mask : List ℕ) (events : List (ℕ × Event)) → IsTraced nr online mask None events → HeadIs nr online mask None events
unfolding head_of
head_none nr online mask events t =
    let body = lines_text events in
    let u = setting_of online no_labels all_told in
    let all = takes_all online None tt in
    let c = cpus_fields nr mask t.few t.field in
    let cpus = line_of (cpus_words nr mask) in
    let lines : lines_of (written nr mask None body) ≡ ended (codes "smp 2 trace") ∷ ended cpus ∷ lines_of body = lines_written nr mask None body c in
    let long : length (written nr mask None body) ≡ 12 + (length cpus + 1 + length body) =
    length_before trace_words (line_before (cpus_words nr mask) body) ∙ ap (λ k. 12 + k) (length_before (cpus_words nr mask) body) in
    let short : AreReadable (ended (codes "smp 2 trace") ∷ ended cpus ∷ lines_of body) = subst AreReadable lines t.within.lines in
    let count : length (lines_of (written nr mask None body)) ≡ suc (suc (length (lines_of body))) = ap length lines in
    let room : HasRoom 3 (12 + (length cpus + 1)) events = search (count_lines, arith) in
    record {
      number = 3;
      used = 12 + (length cpus + 1);
      room = room;
      head_is = search (title_read, cpus_read, no_labels_read, without_read, arith);
    }

head_some : (nr online : ℕ) (mask : List ℕ) (labels : Labels) (events : List (ℕ × Event)) → IsTraced nr online mask (Some labels) events
    → HeadIs nr online mask (Some labels) events
unfolding head_of
head_some nr online mask labels events t =
    let body = lines_text events in
    let u = setting_of online labels all_told in
    let all = takes_all online (Some labels) t.labels_are in
    let cpus = line_of (cpus_words nr mask) in
    let third = line_of (labels_words labels) in
    let lines : lines_of (written nr mask (Some labels) body) ≡ ended (codes "smp 2 trace") ∷ ended cpus ∷ ended third ∷ lines_of body =
    lines_written nr mask (Some labels) body (cpus_fields nr mask t.few t.field)
    ∙ ap (λ ls. ended (codes "smp 2 trace") ∷ ended cpus ∷ ls) (lines_of-line (labels_words labels) body (labels_fields labels t.labels_are)) in
    let long : length (written nr mask (Some labels) body) ≡ 12 + (length cpus + 1 + (length third + 1 + length body)) =
    search (body, cpus, length_before, arith) in
    let short : AreReadable (ended (codes "smp 2 trace") ∷ ended cpus ∷ ended third ∷ lines_of body) = subst AreReadable lines t.within.lines in
    let count : length (lines_of (written nr mask (Some labels) body)) ≡ suc (suc (suc (length (lines_of body)))) = ap length lines in
    let before = 12 + (length cpus + 1) in
    let room : HasRoom 4 (before + (length third + 1)) events = search (count_lines, arith) in
    record {
      number = 4;
      used = before + (length third + 1);
      room = room;
      head_is = rw (
        lines,
        title_read (ended cpus ∷ ended third ∷ lines_of body),
        cpus_read nr online mask (ended third ∷ lines_of body) t.some t.few t.field t.mask_is t.online_are short.1.0,
        labels_read labels before (lines_of body) t.labels_are (omega (arith, short.1.0)) short.1.1.0,
        without_read u 4 (before + (length third + 1)) events all t.told room,
      ) refl;
    }

head_read : (nr online : ℕ) (mask : List ℕ) (labels : Option Labels) (events : List (ℕ × Event)) → IsTraced nr online mask labels events
    → HeadIs nr online mask labels events
head_read nr online mask labels events t = search (head_none, head_some, arith)

-- a trace that is written reads back
written_back : (nr online : ℕ) (mask : List ℕ) (labels : Option Labels) (events : List (ℕ × Event)) → IsTraced nr online mask labels events
    → ReadsBack (written nr mask labels (lines_text events)) (setting_of online (labels_or_none labels) all_told)
    (label_words_of (labels_or_none labels)) events
written_back nr online mask labels events t =
    let h = head_read nr online mask labels events t in
    let u = setting_of online (labels_or_none labels) all_told in
    record {
      head = head_with (setting_of online (labels_or_none labels) all_told) (labels_or_none labels) (cursor h.number h.used (lines_of (lines_text events)));
      head_is = h.head_is;
      setting_is = refl;
      words_are = refl;
      told = record { events = events; used = h.used + length (lines_text events) };
      told_is = lines_tell u h.number h.used events (takes_all online labels t.labels_are) t.told h.room.lines h.room.bytes h.room.short;
      events_are = refl;
    }

title_fields : (version : Version) → list_all is_field (codes "smp" ∷ version_text version ∷ mode_text Replay ∷ []) ≡ true
title_fields One = refl
title_fields Two = refl

-- the trace of a script reads back
pub texts_read_back : (text : List ℕ) (script : Script) (events : List (ℕ × Event)) → script_of Replay text ≡ Ok script
    → AreTold (traced script) events → IsWithin (trace_text text script events)
    → ReadsBack (trace_text text script events) (traced script) (label_words_of (labels_or_none script.labels)) events
texts_read_back text script events lawful told within =
    let spelled = script_is_spelled Replay text script lawful in
    let mask = spelled.0 in
    let s = spelled.2 in
    let few = few_cpus script.version in
    let less : script.nr ≤ 32 = omega (arith, s.within, few) in
    let body = lines_text events in
    let title = codes "smp" ∷ version_text script.version ∷ mode_text Replay ∷ [] in
    let front : trace_text text script events ≡ written script.nr mask script.labels body =
    ap (λ t. front_text (is_some script.labels) (lines_of t) ++ body) s.text_is
    ∙ front_is title script.nr mask script.labels (spelled_lines spelled.1) body (title_fields script.version)
    (cpus_fields script.nr mask less s.mask_is.field) s.labels in
    subst (λ t. ReadsBack t (traced script) (label_words_of (labels_or_none script.labels)) events) (sym front)
    (written_back script.nr script.online mask script.labels events (record {
      some = s.some;
      few = less;
      field = s.mask_is.field;
      mask_is = trace_mask script.version mask script.online s.mask_is.reads;
      online_are = s.online;
      labels_are = s.labels;
      told = told;
      within = subst IsWithin front within;
    }))
