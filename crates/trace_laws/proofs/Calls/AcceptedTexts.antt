-- A text that is accepted is a trace.
use Rattle.trace_laws.proofs.Names.{AllByRecursion, AreLabels, Bool, Cause, CursorValue, EarlyEnd, Entry, Err, Event, HaveKinds, Labels, Line, List, None, Ok}
use Rattle.trace_laws.proofs.Names.{Option, Result, Setting, Some, StateValue, [], and_parts, ap, arith, cases_lt, cpus_at, entry_at, entry_at-word}
use Rattle.trace_laws.proofs.Names.{entry_word, false, fields_of, first_site, get_or, get_or-replicate, get_or_past, head_of, head_with, if◌then◌else◌, inl}
use Rattle.trace_laws.proofs.Names.{inr, is_labels, is_on, is_online, kind_of, kind_word, labels_at, le-ltb, length, length-append, length-map}
use Rattle.trace_laws.proofs.Names.{length-replicate, lines_of, ltb-false, ltb-true, map, nat_lt, no_labels, refl, replicate, setting_with, slice_index, subst}
use Rattle.trace_laws.proofs.Names.{sym, table_of, titled, true, used_after, whole_labels, without_at, words_of, ℕ, ◌++◌, ◌+◌, ◌-◌, ◌<◌, ◌>>=◌, ◌∙◌, ◌∷◌, ◌≡◌}
use Rattle.trace_laws.proofs.Names.{◌≤◌}
use Rattle.std.proofs.{lemmas.List.get_or-append_right, lemmas.List.get_or-map, lemmas.List.get_or_append_left}
use Rattle.smp_mask.specs.declared.error.Cause.TheVariants.{Range, Word}
use Rattle.smp_labels.specs.Law.{site_word}
use Rattle.smp_script.specs.Labels.{items_of, labels_in, labels_of}
use Rattle.smp_script.specs.{Commands.are_whole, Fields.word32}
use Rattle.trace_judge.proofs.Meaning.{is_meant}
use Rattle.trace_judge.specs.{Head.HeadValue, Head.behind, Head.labels_from, Judged.at_line, Judged.event_on, Judged.is_comment, Reading.event_of}
use Rattle.trace_judge.specs.{Reading.is_low, Reading.named_of, Reading.numbered, Reading.online_of, Reading.whole_event, Reading.with_cpu_of}
use Rattle.trace_judge.specs.{Runs.MeansWith, Runs.Told, Runs.told_by, Runs.with_told}
use Rattle.trace_laws.specs.{AcceptedTexts.AcceptedAreTraces, AcceptedTexts.IsTraceOf}

-- Labels fit a table.
record Few (labels : Labels) : Type 0 where
  keys : labels.keys ≤ 4
  sites : length labels.entries ≤ 16

-- both halves of a reading were made
both : {A B E : Type 0} (first : Result A E) (next : A → Result B E) (b : B) → (first >>= next) ≡ Ok b → (a : A) × ((first ≡ Ok a) × (next a ≡ Ok b))
both first next b e = search arith

pick : {A E : Type 0} (test : Bool) (made : Result A E) (why : E) (a : A) → (if test then made else Err why) ≡ Ok a → (test ≡ true) × (made ≡ Ok a)
pick test made why a e = search arith

ok_is : {A E : Type 0} (x y : A) → let one : Result A E = Ok x in let other : Result A E = Ok y in one ≡ other → x ≡ y
ok_is x y e = cc

rest_none : (n k : ℕ) → slice_index (replicate n 0) k ≡ 0
rest_none n k = search (cases_lt, get_or-replicate, get_or_past, length-replicate, arith)

few_in : (keys : List ℕ) (items : List (List ℕ)) (labels : Labels) → labels_in keys items ≡ Ok labels → Few labels
unfolding labels_in
few_in keys items labels e = search (pick, both, ltb-false, length-map, arith)

few_of : (fields : List (List ℕ)) (labels : Labels) → labels_of fields ≡ Ok labels → Few labels
few_of (a ∷ b ∷ c ∷ []) labels e = few_in b (items_of c) labels e
few_of _ labels e = absurd cc

few_whole : (fields : List (List ℕ)) (labels : Labels) → whole_labels fields ≡ Ok labels → Few labels
few_whole fields labels e = few_of fields labels (pick (are_whole fields) (labels_of fields) Word labels e).1

few_none : (s : CursorValue) (found : Labels × CursorValue) → let none : Result (Labels × CursorValue) EarlyEnd = Ok (no_labels, s) in none ≡ Ok found
    → Few found.0
few_none s found e = subst (λ (x : Labels × CursorValue). Few x.0) (ok_is (no_labels, s) found e) (record { keys = omega arith; sites = omega arith })

few_line : (test : Bool) (s : CursorValue) (used : ℕ) (ls : List Line) (fields : List (List ℕ)) (found : Labels × CursorValue)
    → (if test then (at_line 3 (whole_labels fields) >>= λ labels. Ok (labels, behind s used ls)) else Ok (no_labels, s)) ≡ Ok found → Few found.0
few_line true s used ls fields found e =
    let a = both (at_line 3 (whole_labels fields)) (λ labels. Ok (labels, behind s used ls)) found e in
    let same : (a.0, behind s used ls) ≡ found = ok_is (a.0, behind s used ls) found a.1.1 in
    subst (λ (x : Labels). Few x) (ap (λ x. x.0) same) (few_whole fields a.0 (search arith))
few_line false s used ls fields found e = few_none s found e

few_from : (s : CursorValue) (lines : List Line) (found : Labels × CursorValue) → labels_from s lines ≡ Ok found → Few found.0
few_from s [] found e = few_none s found e
few_from s (l ∷ ls) found e =
    let next = λ (used : ℕ). let r : Result (Labels × CursorValue) EarlyEnd =
    if is_labels (fields_of l.text) then (at_line 3 (whole_labels (fields_of l.text)) >>= λ labels. Ok (labels, behind s used ls)) else Ok
    (no_labels, s) in r in
    let a = both (used_after s.number s.used l) next found e in
    few_line (is_labels (fields_of l.text)) s a.0 ls (fields_of l.text) found a.1.1

few_at : (many : Bool) (s : CursorValue) (found : Labels × CursorValue) → (if many then Ok (no_labels, s) else labels_from s s.lines) ≡ Ok found → Few found.0
few_at true s found e = few_none s found e
few_at false s found e = few_from s s.lines found e

-- the words of labels are lawful while all keys are off
keys_off : (k : ℕ) → slice_index (replicate 4 0) k ≡ 0
keys_off k = rest_none 4 k

words_lawful : (labels : Labels) → length labels.entries ≤ 16 → HaveKinds (table_of (words_of labels))
unfolding words_of
words_lawful labels few i low =
    let entries = labels.entries in
    let none : Entry = record { key = 0; branch = false } in
    let rest : List ℕ = replicate (16 - length entries) 0 in
    let f : ℕ → ℕ = slice_index (replicate 4 0) in
    elim (cases_lt i (length entries)) [
      | inl below ↦
          (let e = get_or entries i none in
          let site : slice_index (map first_site entries ++ rest) i ≡ first_site e =
          get_or_append_left (map first_site entries) rest 0 i (let l = length-map entries first_site in omega arith) ∙
          get_or-map first_site entries i none 0 below in
          let word : slice_index (map entry_word entries ++ rest) i ≡ entry_word e =
          get_or_append_left (map entry_word entries) rest 0 i (let l = length-map entries entry_word in omega arith) ∙
          get_or-map entry_word entries i none 0 below in
          site ∙ (let z : f e.key ≡ 0 = keys_off e.key in ap (λ n. kind_word (kind_of (is_on n) e.branch)) (sym z)) ∙ ap (λ x. site_word f x) (sym
          (entry_at-word e)) ∙ ap (λ x. site_word f (entry_at x)) (sym word))
      | inr past ↦
          search (entries, rest, f, get_or-append_right, length-map, rest_none, arith)
    ]

words_long : (labels : Labels) → length labels.entries ≤ 16 → (length (words_of labels).keys ≡ 4) × (length (words_of labels).sites ≡ 16)
unfolding words_of
words_long labels few = search (length-replicate, length-append, length-map, arith)

-- the labels of a head are lawful
head_labels : (lines : List Line) (h : HeadValue) → head_of lines ≡ Ok h → AreLabels h.setting h.words
unfolding head_of labels_at
head_labels lines h e =
    let last = λ (is_third : Bool) (cpus : ℕ × ℕ) (labels : Labels × CursorValue).
    without_at labels.1 >>= λ without. Ok (head_with (setting_with is_third cpus labels.0 without.0) labels.0 without.1) in
    let third = λ (is_third : Bool) (cpus : (ℕ × ℕ) × CursorValue). labels_at cpus.0.0 cpus.1 >>= last is_third cpus.0 in
    let a = both (titled lines) (λ second. cpus_at second.0 second.1 >>= third second.0) h e in
    let b = both (cpus_at a.0.0 a.0.1) (third a.0.0) h a.1.1 in
    let c = both (labels_at b.0.0.0 b.0.1) (last a.0.0 b.0.0) h b.1.1 in
    let d = both (without_at c.0.1) (λ without. Ok (head_with (setting_with a.0.0 b.0.0 c.0.0 without.0) c.0.0 without.1)) h c.1.1 in
    let few = few_at (nat_lt 32 b.0.0.0) b.0.1 c.0 c.1.0 in
    let head = head_with (setting_with a.0.0 b.0.0 c.0.0 d.0.0) c.0.0 d.0.1 in
    let same : head ≡ h = ok_is head h d.1.1 in
    let long = words_long c.0.0 few.sites in
    subst (λ (x : HeadValue). AreLabels x.setting x.words) same (record {
      keys_are = long.0;
      sites_are = long.1;
      keys = few.keys;
      lawful = words_lawful c.0.0 few.sites;
    })

-- a CPU that is online is below 512
online_below : (u : Setting) (c : ℕ) → is_online u c ≡ true → c < 512
online_below u c is = elim (cases_lt c 32) [
  | inl low ↦ omega (arith, low)
  | inr high ↦ ltb-true c 512 (and_parts (nat_lt c u.cpus) (nat_lt c 512) (rw (le-ltb c 32 high) at is)).1
]

cpu_below : (u : Setting) (cpu : List ℕ) (c : ℕ) → online_of u cpu ≡ Ok c → c < 512
cpu_below u cpu c e =
    let a = both (word32 cpu) (λ w. if is_online u w then Ok w else Err Range) c e in
    let p = pick (is_online u a.0) (Ok a.0) Range c a.1.1 in
    subst (λ (x : ℕ). x < 512) (ok_is a.0 c p.1) (online_below u a.0 p.0)

-- so is the CPU of an event
with_cpu_below : (u : Setting) (cpu : List ℕ) (read : Result Event Cause) (e : ℕ × Event) → with_cpu_of u cpu read ≡ Ok e → e.0 < 512
with_cpu_below u cpu read e made =
    let last = λ (c : ℕ) (event : Event).
    let r : Result (ℕ × Event) Cause = if is_low c event then Ok (c, numbered u.is_third c event) else Err Range in r in
    let a = both (online_of u cpu) (λ c. read >>= last c) e made in
    let b = both read (last a.0) e a.1.1 in
    let found : ℕ × Event = (a.0, numbered u.is_third a.0 b.0) in
    let p = pick (is_low a.0 b.0) (Ok found) Range e b.1.1 in
    subst (λ (x : ℕ × Event). x.0 < 512) (ok_is found e p.1) (cpu_below u cpu a.0 a.1.0)

event_below : (u : Setting) (fields : List (List ℕ)) (e : ℕ × Event) → event_of u fields ≡ Ok e → e.0 < 512
event_below u (cpu ∷ name ∷ arguments) e made =
    let a = both (named_of u name arguments) (with_cpu_of u cpu) e made in
    with_cpu_below u cpu a.0 e a.1.1
event_below u _ e made = absurd cc

whole_below : (u : Setting) (fields : List (List ℕ)) (e : ℕ × Event) → whole_event u fields ≡ Ok e → e.0 < 512
whole_below u fields e made = event_below u fields e (pick (are_whole fields) (event_of u fields) Word e made).1

-- events of CPUs below 512
abbrev AreBelow : List (ℕ × Event) → Type 0
AreBelow events = AllByRecursion (λ e. e.0 < 512) events

-- they stay so with what one more line tells
tells_below : (is : Bool) (n : ℕ) (read : Result (ℕ × Event) Cause) (told : Option (ℕ × Event)) (rest : Told)
    → ((e : ℕ × Event) → read ≡ Ok e → e.0 < 512) → (if is then Ok None else (at_line n read >>= λ event. Ok (Some event))) ≡ Ok told
    → AreBelow rest.events → AreBelow (with_told told rest).events
tells_below true n read told rest small e low = subst (λ (x : Option (ℕ × Event)). AreBelow (with_told x rest).events) (ok_is None told e) low
tells_below false n (Ok event) told rest small e low =
    subst (λ (x : Option (ℕ × Event)). AreBelow (with_told x rest).events) (ok_is (Some event) told e) (small event refl, low)
tells_below false n (Err why) told rest small e low = absurd cc

line_below : (u : Setting) (n : ℕ) (text : List ℕ) (told : Option (ℕ × Event)) (rest : Told) → event_on u n text ≡ Ok told → AreBelow rest.events
    → AreBelow (with_told told rest).events
unfolding event_on
line_below u n text told rest e low =
    tells_below (is_comment text) n (whole_event u (fields_of text)) told rest (whole_below u (fields_of text)) e low

-- the events that lines tell
lines_below : (u : Setting) (n used : ℕ) (lines : List Line) (told : Told) → told_by u n used lines ≡ Ok told → AreBelow told.events
unfolding told_by
lines_below u n used [] told e =
    let none : Told = record { events = []; used = used } in
    subst (λ (x : Told). AreBelow x.events) (ok_is none told e) tt
lines_below u n used (l ∷ ls) told e =
    let last = λ (here : Option (ℕ × Event)) (rest : Told). let r : Result Told EarlyEnd = Ok (with_told here rest) in r in
    let next = λ (more : ℕ) (here : Option (ℕ × Event)). told_by u (n + 1) more ls >>= last here in
    let a = both (used_after n used l) (λ more. event_on u n l.text >>= next more) told e in
    let b = both (event_on u n l.text) (next a.0) told a.1.1 in
    let c = both (told_by u (n + 1) a.0 ls) (last b.0) told b.1.1 in
    let low = lines_below u (n + 1) a.0 ls c.0 c.1.0 in
    subst (λ (x : Told). AreBelow x.events) (ok_is (with_told b.0 c.0) told c.1.1) (line_below u n l.text b.0 c.0 b.1.0 low)

-- what a text tells
run_of : (text : List ℕ) (count : ℕ) (t : StateValue) (head : Result HeadValue EarlyEnd) → head_of (lines_of text) ≡ head → MeansWith head (Ok (count, t)) →
    IsTraceOf text count t
run_of text count t (Ok h) e m = record {
  head = h;
  head_is = e;
  told = m.told;
  told_is = m.told_is;
  count_is = (let c = m.counted in omega arith);
  below = lines_below h.setting h.cursor.number h.cursor.used h.cursor.lines m.told m.told_is;
  labels = head_labels (lines_of text) h e;
  trace = m.run;
}
run_of text count t (Err why) e m = absurd (let f : Ok (count, t) ≡ Err why = m in cc)

pub accepted_are_traces : AcceptedAreTraces
accepted_are_traces text count t e = search (is_meant, run_of, arith)
