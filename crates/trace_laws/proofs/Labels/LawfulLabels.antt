-- Keys and sites are lawful outside a patch.
use Rattle.trace_laws.proofs.Names.{APatch, AreLabels, Bool, Err, Event, HaveKinds, IsTrace, Key, Kind, LabelEvent, LabelWords, List, None, Ok, Option}
use Rattle.trace_laws.proofs.Names.{Place, Reason, Result, Runs, Seen, Setting, Site, Some, StateValue, Stop, StopEvent, Task, [], ack_by, acked, acknowledged}
use Rattle.trace_laws.proofs.Names.{ap, arith, closed, collect_by, collected, complete_by, completed, count_at, cpu_at, enter_by, enter_from, false, gate_by}
use Rattle.trace_laws.proofs.Names.{gate_with, goes, has, holds_gate, if◌then◌else◌, in_patch, in_round, inl, inside_goes, key_by, label_goes, length}
use Rattle.trace_laws.proofs.Names.{lt-ltb, made_store, may_ack, may_off, may_open, nat_lt, next_store, not, nudge_by, nudged_count, off_by, on_by, on_stop}
use Rattle.trace_laws.proofs.Names.{open_by, open_closed, opened, patch_by, patch_left, raise_by, raised, ran_function, reads_by, refl, run_as, run_by, seen}
use Rattle.trace_laws.proofs.Names.{site_by, site_word, stop_at, stop_goes, stop_of, stored, switched, switched_on, sym, table_of, through, true}
use Rattle.trace_laws.proofs.Names.{ungate_by, unseen, with_inside, with_irq, with_stop, work, ℕ, ℤ, ◌&&◌, ◌<◌, ◌==◌, ◌>>=◌, ◌∙◌, ◌∷◌, ◌≡◌, ◌⊎◌}
use Rattle.trace_model.specs.declared.event.Event.TheVariants as event
use Rattle.trace_model.specs.declared.event.LabelEvent.TheVariants as labels
use Rattle.trace_model.specs.declared.event.StopEvent.TheVariants as stops
use Rattle.trace_model.specs.declared.reason.Reason.TheVariants as reason
use Rattle.trace_model.specs.{Labels.read_key, Labels.read_site, Opened.opening as at_first}
use Rattle.trace_laws.proofs.Labels.PatchEvents.{collect_labelled, complete_labelled, enter_labelled, labelled_end, open_labelled, run_labelled}
use Rattle.trace_laws.proofs.Labels.Patches.{AtPatch, AtRest, Labelled, PatchAt, held_in, labelled_same, patch_round}
use Rattle.trace_laws.proofs.Stops.AtRun.{held_at, rounds_at_first, rounds_goes, rounds_of, runs_last, seen_all, setting_at_first, setting_runs, stop_at_first}
use Rattle.trace_laws.proofs.Stops.AtRun.{work_all}
use Rattle.trace_laws.proofs.{Calls.MadeSteps.both_made, Calls.MadeSteps.failed, Calls.MadeSteps.low_event, Calls.MadeSteps.passed}
use Rattle.trace_laws.proofs.{Labels.PatchPhases.ack_labelled}
use Rattle.trace_laws.proofs.{Labels.PatchPhases.may_is, Labels.PatchPhases.raise_labelled, Labels.PatchStores.nudge_labelled}
use Rattle.trace_laws.proofs.{Labels.PatchStores.patch_labelled, Stops.CpusInStops.Rounds, Stops.QuietCpus.call_keeps_rounds, Stops.StopEvents.ne_truth}
use Rattle.trace_laws.specs.LawfulLabels.{IsPatching, LabelsAreLawful, Reads, ReadsAreLawful, moved, reads, words_from, words_next}
use Rattle.smp_words.specs.declared.phase.TheConstants.{OVER}

-- the keys and sites are as they were
words_end : (s t u : StateValue) → t ≡ u → t.words ≡ s.words → u.words ≡ s.words
words_end s t u same e = ap (λ x. x.words) (sym same) ∙ e

stop_words : (number : ℕ) (s t : StateValue) (made : Result Stop Reason) → on_stop number s made ≡ Ok t → t.words ≡ s.words
stop_words number s t made e = let m = both_made made (λ x. Ok (with_stop number s x)) t e in words_end s (with_stop number s m.0) t (cc) refl

if_words : (test : Bool) (s x y : StateValue) → x.words ≡ s.words → y.words ≡ s.words → let z : StateValue = if test then x else y in z.words ≡ s.words
if_words true s x y p q = p
if_words false s x y p q = q

after_words : {A : Type 0} (test : Result A Reason) (s t u : StateValue) → (test >>= λ x. Ok t) ≡ Ok u → t.words ≡ s.words → u.words ≡ s.words
after_words test s t u e same = let m = both_made test (λ x. Ok t) u e in words_end s t u (cc) same

gate_words : (gate : Option ℕ) (cpu : ℕ) (s t : StateValue) → gate_with gate cpu s ≡ Ok t → t.words ≡ s.words
gate_words (Some holder) cpu s t e = absurd cc
gate_words None cpu s t e = words_end s (record s { gate = Some cpu }) t (cc) refl

open_words : (cpu number : ℕ) (task : Task) (s t : StateValue) → open_by cpu number task s ≡ Ok t → t.words ≡ s.words
unfolding open_by
open_words cpu number task s t e =
    let next = on_stop number s (opened s.setting task) in
    let o = passed (nat_lt number 64) (open_closed cpu number task s) reason.NoSuchWork t e in
    let p = failed (stop_at s number).is_open (may_open s.setting.without.gate cpu s >>= λ u. next) (reason.StopOpen number) t o.1 in
    let m = both_made (may_open s.setting.without.gate cpu s) (λ u. next) t p.1 in stop_words number s t (opened s.setting task) m.1.1

enter_words : (inside : Result ℕ Reason) (cpu number : ℕ) (s t : StateValue) → enter_from inside cpu number s ≡ Ok t → t.words ≡ s.words
enter_words inside cpu number s t h1 = search (passed, both_made, words_end, stop_words, arith)

switched_words : (s : StateValue) (cpu number phase : ℕ) → let t = switched cpu number phase s in t.words ≡ s.words
switched_words s cpu number phase = search (if_words, arith)

ack_words : (cpu phase : ℕ) (s t : StateValue) → ack_by cpu phase s ≡ Ok t → t.words ≡ s.words
unfolding ack_by
ack_words cpu phase s t e =
    let m = both_made (in_round cpu s) (λ number. may_ack cpu number phase s >>= λ x. Ok (acked cpu number phase x)) t e in
    let n = both_made (may_ack cpu m.0 phase s) (λ x. Ok (acked cpu m.0 phase x)) t m.1.1 in
    let k = may_is s n.0 m.0 cpu phase n.1.0 in
    let old : n.0.words ≡ s.words = ap (λ x. x.words) k.0.is in
    words_end s (acked cpu m.0 phase n.0) t (cc)
    (switched_words (with_stop m.0 n.0 (acknowledged cpu phase (not n.0.setting.without.raises) (stop_at n.0 m.0))) cpu m.0 phase ∙ old)

raise_words : (cpu phase : ℕ) (s t : StateValue) → raise_by cpu phase s ≡ Ok t → t.words ≡ s.words
unfolding raise_by
raise_words cpu phase s t e =
    let m = both_made (in_round cpu s) (λ number. on_stop number s (raised cpu phase (stop_at s number)) >>= λ x. Ok (switched_on cpu phase x)) t e in
    let made = raised cpu phase (stop_at s m.0) in
    let n = both_made (on_stop m.0 s made) (λ x. Ok (switched_on cpu phase x)) t m.1.1 in
    let old = stop_words m.0 s n.0 made n.1.0 in
    words_end s (switched_on cpu phase n.0) t (cc) (if_words (n.0.setting.without.switches && (phase == OVER)) s (with_irq cpu true n.0) n.0 old old)

pub off_is : (cpu : ℕ) (s t : StateValue) → off_by cpu s ≡ Ok t → with_irq cpu false s ≡ t
unfolding off_by
off_is cpu s t e =
    let m = both_made (in_round cpu s) (λ number. may_off cpu number s >>= λ u. Ok (with_irq cpu false s)) t e in
    let n = both_made (may_off cpu m.0 s) (λ u. Ok (with_irq cpu false s)) t m.1.1 in cc

pub on_is : (cpu : ℕ) (s t : StateValue) → on_by cpu s ≡ Ok t → with_irq cpu true s ≡ t
unfolding on_by
on_is cpu s t e =
    let next = λ (number : ℕ). through (stop_at s number) cpu >>= λ u. Ok (with_irq cpu true s) in
    let m = both_made (in_round cpu s) (λ number. if (cpu_at s cpu).irq then Err reason.InterruptsOn else next number) t e in
    let p = failed (cpu_at s cpu).irq (next m.0) reason.InterruptsOn t m.1.1 in
    let n = both_made (through (stop_at s m.0) cpu) (λ u. Ok (with_irq cpu true s)) t p.1 in cc

run_as_words : (kind : Kind) (number cpu func arg : ℕ) (s t : StateValue) → run_as kind number cpu func arg s ≡ Ok t → t.words ≡ s.words
run_as_words APatch number cpu func arg s t e = absurd cc
run_as_words _ number cpu func arg s t e = stop_words number s t (ran_function cpu func arg (stop_at s number)) e

run_words : (cpu func arg : ℕ) (s t : StateValue) → run_by cpu func arg s ≡ Ok t → t.words ≡ s.words
unfolding run_by
run_words cpu func arg s t e =
    let m = both_made (stop_of cpu s) (λ number. run_as (stop_at s number).task.kind number cpu func arg s) t e in
    run_as_words (stop_at s m.0).task.kind m.0 cpu func arg s t m.1.1

complete_words : (cpu : ℕ) (answer : ℤ) (s t : StateValue) → complete_by cpu answer s ≡ Ok t → t.words ≡ s.words
unfolding complete_by
complete_words cpu answer s t e =
    let made = λ (number : ℕ). completed cpu answer (cpu_at s cpu).irq (stop_at s number) in
    let m = both_made (stop_of cpu s) (λ number. on_stop number s (made number) >>= λ x. Ok (with_inside cpu None x)) t e in
    let n = both_made (on_stop m.0 s (made m.0)) (λ x. Ok (with_inside cpu None x)) t m.1.1 in
    words_end s (with_inside cpu None n.0) t (cc) (stop_words m.0 s n.0 (made m.0) n.1.0)

collect_words : (number : ℕ) (answer : ℤ) (s t : StateValue) → collect_by number answer s ≡ Ok t → t.words ≡ s.words
unfolding collect_by
collect_words number answer s t e =
    let made = collected answer (stop_at s number) in
    let p = passed (nat_lt number 64 && (stop_at s number).is_open) (on_stop number s made) (reason.StopNotOpen number) t e in
    stop_words number s t made p.1

-- an event of stops changes no key and no site
stop_goes_words : (cpu : ℕ) (e : StopEvent) (s t : StateValue) → stop_goes cpu e s ≡ Ok t → t.words ≡ s.words
unfolding stop_goes inside_goes gate_by ungate_by enter_by
stop_goes_words cpu stops.Gate s t e = gate_words s.gate cpu s t e
stop_goes_words cpu stops.Ungate s t e = after_words (holds_gate cpu s) s (record s { gate = None }) t e refl
stop_goes_words cpu (stops.Open number task) s t e = open_words cpu number task s t e
stop_goes_words cpu (stops.Enter number) s t e = enter_words (stop_of cpu s) cpu number s t (low_event cpu _ t e).1
stop_goes_words cpu (stops.Ack phase) s t e = ack_words cpu phase s t (low_event cpu _ t e).1
stop_goes_words cpu (stops.Raise phase) s t e = raise_words cpu phase s t (low_event cpu _ t e).1
stop_goes_words cpu stops.Off s t e = words_end s (with_irq cpu false s) t (off_is cpu s t (low_event cpu _ t e).1) refl
stop_goes_words cpu stops.On s t e = words_end s (with_irq cpu true s) t (on_is cpu s t (low_event cpu _ t e).1) refl
stop_goes_words cpu (stops.Run func arg) s t e = run_words cpu func arg s t (low_event cpu _ t e).1
stop_goes_words cpu (stops.Complete answer) s t e = complete_words cpu answer s t (low_event cpu _ t e).1
stop_goes_words cpu (stops.Collect number answer) s t e = collect_words number answer s t e

store_words : (cpu : ℕ) (place : Place) (word : ℕ) (s t : StateValue) → patch_by cpu place word s ≡ Ok t → t.words ≡ stored place word s.words
unfolding patch_by
store_words cpu place word s t e =
    let m = both_made (in_patch cpu s) (λ number. made_store (next_store number s) number (patch_left number s) place word s) t e in
    search (passed, arith)

nudge_words : (cpu key : ℕ) (up : Bool) (s t : StateValue) → nudge_by cpu key up s ≡ Ok t →
    t.words ≡ stored (Key key) (nudged_count up (count_at s.words key)) s.words
nudge_words cpu key up s t h1 = search (both_made, passed, arith)

count_moved : (up : Bool) (count : ℕ) → nudged_count up count ≡ moved up count
count_moved true count = refl
count_moved false count = refl

label_words : (cpu : ℕ) (e : LabelEvent) (s t : StateValue) → label_goes cpu e s ≡ Ok t → t.words ≡ words_next s.words (cpu, event.Label e)
unfolding label_goes
label_words cpu (labels.Set key count) s t e = store_words cpu (Key key) count s t e
label_words cpu (labels.Turn site jumps) s t e = store_words cpu (Site site) (site_word jumps) s t e
label_words cpu (labels.Key key on) s t e = after_words (key_by cpu key on s) s s t e refl
label_words cpu (labels.Site site jumps) s t e = after_words (site_by cpu site jumps s) s s t e refl
label_words cpu (labels.Nudge key up) s t e = nudge_words cpu key up s t e ∙ ap (λ n. stored (Key key) n s.words) (count_moved up (count_at s.words key))

words_goes : (cpu : ℕ) (e : Event) (s t : StateValue) → goes cpu e s ≡ Ok t → t.words ≡ words_next s.words (cpu, e)
words_goes cpu (event.Call e) s t g = (call_keeps_rounds cpu e s t g).words_are
words_goes cpu (event.Stop e) s t g = stop_goes_words cpu e s t g
words_goes cpu (event.Label e) s t g = label_words cpu e s t (low_event cpu _ t g).1

-- keys and sites are what the events have stored
words_runs : (es : List (ℕ × Event)) (s t : StateValue) → Runs s es t → t.words ≡ words_from s.words es
unfolding words_from
words_runs [] s t run = ap (λ x. x.words) run
words_runs (e ∷ es) s t (m, (g, run)) = words_runs es m t run ∙ ap (λ w. words_from w es) (words_goes e.0 e.1 s m g)

gate_labelled : (gate : Option ℕ) (cpu : ℕ) (s t : StateValue) → Labelled s → gate_with gate cpu s ≡ Ok t → Labelled t
gate_labelled (Some holder) cpu s t l e = absurd cc
gate_labelled None cpu s t l e = labelled_end (record s { gate = Some cpu }) t (cc) (labelled_same s (record s { gate = Some cpu }) refl refl refl l)

ungate_labelled : (cpu : ℕ) (s t : StateValue) → Labelled s → ungate_by cpu s ≡ Ok t → Labelled t
unfolding ungate_by
ungate_labelled cpu s t l e =
    let m = both_made (holds_gate cpu s) (λ u. Ok (record s { gate = None })) t e in
    labelled_end (record s { gate = None }) t (cc) (labelled_same s (record s { gate = None }) refl refl refl l)

stop_goes_labelled : (seen : ℕ → Seen) (work : ℕ → Option Task) (cpu : ℕ) (e : StopEvent) (s t : StateValue) → Rounds seen work s → Labelled s →
    stop_goes cpu e s ≡ Ok t → Labelled t
unfolding stop_goes inside_goes gate_by
stop_goes_labelled seen work cpu stops.Gate s t r l e = gate_labelled s.gate cpu s t l e
stop_goes_labelled seen work cpu stops.Ungate s t r l e = ungate_labelled cpu s t l e
stop_goes_labelled seen work cpu (stops.Open number task) s t r l e = open_labelled seen work s t cpu number task r l e
stop_goes_labelled seen work cpu (stops.Enter number) s t r l e = enter_labelled seen work s t number cpu r l (low_event cpu _ t e).1
stop_goes_labelled seen work cpu (stops.Ack phase) s t r l e = ack_labelled seen work s t cpu phase r l (low_event cpu _ t e).1
stop_goes_labelled seen work cpu (stops.Raise phase) s t r l e = raise_labelled seen work s t cpu phase r l (low_event cpu _ t e).1
stop_goes_labelled seen work cpu stops.Off s t r l e = labelled_end (with_irq cpu false s) t (off_is cpu s t (low_event cpu _ t e).1)
    (labelled_same s (with_irq cpu false s) refl refl refl l)
stop_goes_labelled seen work cpu stops.On s t r l e = labelled_end (with_irq cpu true s) t (on_is cpu s t (low_event cpu _ t e).1)
    (labelled_same s (with_irq cpu true s) refl refl refl l)
stop_goes_labelled seen work cpu (stops.Run func arg) s t r l e = run_labelled seen work s t cpu func arg r l (low_event cpu _ t e).1
stop_goes_labelled seen work cpu (stops.Complete answer) s t r l e = complete_labelled seen work s t cpu answer r l (low_event cpu _ t e).1
stop_goes_labelled seen work cpu (stops.Collect number answer) s t r l e = collect_labelled seen work s t number answer r l e

after_labelled : (test : Result (Unit {0}) Reason) (s t : StateValue) → Labelled s → (test >>= λ u. Ok s) ≡ Ok t → Labelled t
after_labelled test s t l e = let m = both_made test (λ u. Ok s) t e in labelled_end s t (cc) l

label_goes_labelled : (seen : ℕ → Seen) (work : ℕ → Option Task) (cpu : ℕ) (e : LabelEvent) (s t : StateValue) → Rounds seen work s → Labelled s →
    label_goes cpu e s ≡ Ok t → Labelled t
unfolding label_goes
label_goes_labelled seen work cpu (labels.Set key count) s t r l e = patch_labelled seen work s t cpu (Key key) count r l e
label_goes_labelled seen work cpu (labels.Turn site jumps) s t r l e = patch_labelled seen work s t cpu (Site site) (site_word jumps) r l e
label_goes_labelled seen work cpu (labels.Key key on) s t r l e = after_labelled (key_by cpu key on s) s t l e
label_goes_labelled seen work cpu (labels.Site site jumps) s t r l e = after_labelled (site_by cpu site jumps s) s t l e
label_goes_labelled seen work cpu (labels.Nudge key up) s t r l e = nudge_labelled s t cpu key up l e

labelled_goes : (seen : ℕ → Seen) (work : ℕ → Option Task) (cpu : ℕ) (e : Event) (s t : StateValue) → Rounds seen work s → Labelled s → goes cpu e s ≡ Ok t →
    Labelled t
labelled_goes seen work cpu (event.Call e) s t r l g = let k = call_keeps_rounds cpu e s t g in labelled_same s t k.words_are k.stops_are k.setting_is l
labelled_goes seen work cpu (event.Stop e) s t r l g = stop_goes_labelled seen work cpu e s t r l g
labelled_goes seen work cpu (event.Label e) s t r l g = label_goes_labelled seen work cpu e s t r l (low_event cpu _ t g).1

labelled_runs : (seen : ℕ → Seen) (work : ℕ → Option Task) (es : List (ℕ × Event)) (s t : StateValue) → Rounds seen work s → Labelled s → Runs s es t →
    Labelled t
labelled_runs seen work [] s t r l run = labelled_end s t (sym run) l
labelled_runs seen work (e ∷ es) s t r l (m, (g, run)) =
    labelled_runs (seen_all seen e) (work_all work e) es m t (rounds_goes seen work e.0 e.1 s m r g) (labelled_goes seen work e.0 e.1 s m r l g) run

-- before the first event
words_at_first : (u : Setting) (words : LabelWords) → (at_first u words).words ≡ words
unfolding at_first
words_at_first u words = refl

closed_patch : (u : Setting) (mask : ℕ) → PatchAt u (closed mask)
closed_patch u mask = record { known = λ p e. absurd cc; early = λ h. refl; all = λ o k. absurd cc }

labelled_at_first : (u : Setting) (words : LabelWords) → AreLabels u words → Labelled (at_first u words)
labelled_at_first u words a =
    let s = at_first u words in
    let w : s.words ≡ words = words_at_first u words in
    let set : s.setting ≡ u = setting_at_first u words in
    record {
      keys_are = ap (λ x. length x.keys) w ∙ a.keys_are;
      sites_are = ap (λ x. length x.sites) w ∙ a.sites_are;
      keys = rw set a.keys;
      patches = λ number low. let st : stop_at s number ≡ closed u.online = stop_at_first u words number low in rw st (closed_patch s.setting u.online);
      either = inl (record {
        ok = rw w a.lawful;
        none = λ number low p live. let st : stop_at s number ≡ closed u.online = stop_at_first u words number low in
            let o : (closed u.online).is_open ≡ true = (let z = live.is_open in rw st at z) in absurd cc;
      });
    }

labelled_of : (u : Setting) (words : LabelWords) (es : List (ℕ × Event)) (t : StateValue) → AreLabels u words → IsTrace u words es t → Labelled t
labelled_of u words es t a run = labelled_runs (λ cpu. unseen) (λ number. None) es (at_first u words) t (rounds_at_first u words)
    (labelled_at_first u words a) run

told_words : (u : Setting) (words : LabelWords) (es : List (ℕ × Event)) (t : StateValue) → IsTrace u words es t → t.words ≡ words_from words es
told_words u words es t run = words_runs es (at_first u words) t run ∙ ap (λ w. words_from w es) (words_at_first u words)

patching : (u : Setting) (words : LabelWords) (es : List (ℕ × Event)) (t : StateValue) → IsTrace u words es t → Labelled t → AtPatch t → IsPatching u es
patching u words es t run l a =
    let r = rounds_of u words es t run in
    let all = (l.patches a.number a.low).all a.live.is_open a.live.kind_is in
    let set : t.setting ≡ u = setting_runs es (at_first u words) t run ∙ setting_at_first u words in
    record {
      number = a.number;
      task = (stop_at t a.number).task;
      opened = (r.stop a.number a.low).work_is a.live.is_open;
      kind_is = a.live.kind_is;
      all = λ member below online.
          let mask : (stop_at t a.number).task.mask ≡ u.online = all.mask_is ∙ ap (λ x. x.online) set in
          held_at u words es t a.number member run a.low a.live.is_open (patch_round (stop_at t a.number).task.kind a.live.kind_is) a.live.at below
          (rw mask online);
    }

pub labels_are_lawful : LabelsAreLawful
labels_are_lawful h1 h2 h3 h4 h5 h6 = search (labelled_of, told_words, patching, arith)

-- what a read shows

read_as : (test : Bool) (why : Reason) (u : Unit {0}) → (if test then Err why else Ok tt) ≡ Ok u → test ≡ false
read_as true why u e = absurd cc
read_as false why u e = refl

reads_on : (cpu : ℕ) (s : StateValue) (u : Unit {0}) → reads_by cpu s ≡ Ok u → (cpu_at s cpu).irq ≡ true
reads_on cpu s u e = (passed (cpu_at s cpu).irq (Ok tt) reason.InterruptsOff u e).0

read_is : (cpu : ℕ) (e : LabelEvent) (s t : StateValue) → label_goes cpu e s ≡ Ok t → reads e ≡ true → ((cpu_at s cpu).irq ≡ true) × Reads e s.words
unfolding label_goes
read_is cpu (labels.Key key on) s t e is =
    let m = both_made (key_by cpu key on s) (λ u. Ok s) t e in
    let n = both_made (reads_by cpu s) (λ u. read_key s.words key on) m.0 m.1.0 in (
      reads_on cpu s n.0 n.1.0,
      (search arith),
    )
read_is cpu (labels.Site site jumps) s t e is =
    let m = both_made (site_by cpu site jumps s) (λ u. Ok s) t e in
    let n = both_made (reads_by cpu s) (λ u. read_site s.words site jumps) m.0 m.1.0 in (
      reads_on cpu s n.0 n.1.0,
      (search arith),
    )
read_is cpu _ s t e is = absurd cc

-- a CPU that is online and reads is in no patch
rests_where_read : (u : Setting) (words : LabelWords) (es : List (ℕ × Event)) (s : StateValue) (cpu : ℕ) → IsTrace u words es s → Labelled s → cpu < 32 →
    has u.online cpu ≡ true
    → (cpu_at s cpu).irq ≡ true → AtRest s ⊎ AtPatch s → HaveKinds (table_of s.words)
rests_where_read u words es s cpu h1 h2 h3 h4 h5 h6 = search (rounds_of, setting_runs, setting_at_first, held_in, patch_round, ne_truth, arith)

pub reads_are_lawful : ReadsAreLawful
reads_are_lawful u words es t cpu e a run is_there is =
    let m = runs_last es (cpu, event.Label e) (at_first u words) t run in
    let s = m.0 in
    let low = low_event cpu _ t m.1.1 in
    let online : has u.online cpu ≡ true = rw (lt-ltb cpu 32 low.0) at is_there in
    let read = read_is cpu e s t low.1 is in
    let l = labelled_of u words es s a m.1.0 in
    let w : s.words ≡ words_from words es = told_words u words es s m.1.0 in
    (rw w at (rests_where_read u words es s cpu m.1.0 l low.0 online read.0 l.either), rw w at read.1)
