-- What a CPU keeps between two calls, and what a call leaves of its value.
use Rattle.std.proofs.Common.{◌≡◌, ◌≢◌, ℕ, ℤ, Ok, ◌+◌, ◌<◌, ◌%◌, ◌^◌, nat_lt, Bool, true, false, cond, Option, Some, None, List, [], ◌∷◌, ◌++◌}
use Rattle.std.proofs.Common.{length, inl, inr}
use Rattle.std.proofs.Common.{sym, subst, refl, ap, ◌∙◌, arith, eq-eqb}
use Rattle.atomic_table.specs.Seated.{TableId}
use Rattle.smp_mask.specs.Mask.{has}
use Rattle.smp_words.specs.Size.{cpus}
use Rattle.smp_stop_steps.specs.Callings.{IsCalling, with_answer}
use Rattle.smp_stop_steps.specs.Threads.Known.{attempting, carrying, noting, setup_in, stepped, told_source, told_calling}
use Rattle.smp_multi.specs.Lives.{Lives}
use Rattle.smp_stop_steps.specs.Threads.KnownAfter.{completed_with, is_drafting}
use Rattle.smp_stop_steps.specs.Laws.{IsResult}
use Rattle.smp_stop_steps.specs.Past.{Past, AllPast, OnlyActiveAnswer, works_of, results_of, answers_of, answer_now}
use Rattle.smp_stop_steps.specs.Seats.{irq_of, RoleStands}
use Rattle.smp_stop_steps.specs.Sits.{SitsAtRest, OwnsIf}
use Rattle.smp_stop_steps.specs.Slots.{IsPhaseOf}
use Rattle.smp_stop_steps.specs.Sources.{IsWork, SourceShows}
use Rattle.smp_stop_steps.specs.Stages.{stop_outside}
use Rattle.std.specs.Int.{cast_signed, w32}
use Rattle.std.proofs.lemmas.Bool.{and_parts, ltb-true}
use Rattle.std.proofs.lemmas.Int.{of_z-to_z}
use Rattle.smp_stop_steps.specs.AnswerWords.{IsI32Word}
use Rattle.std.proofs.lemmas.List.{append-nil}
use Rattle.smp_stop_steps.specs.Start.{begin_refusal, has_slot, answer_word}
use Rattle.smp_stop_steps.specs.State.{Setup}
use Rattle.smp_stop_steps.specs.Stop.{Stop, Inside}
use Rattle.smp_stop_steps.specs.Table.{StopWords}
use Rattle.smp_stop_steps.specs.Value.{StopsValue}
use Rattle.smp_words.specs.declared.phase.TheConstants.{RUN}
use Rattle.smp_stop_steps.specs.declared.stage.Visit.{Visit}
use Rattle.smp_stop_steps.proofs.Promises.StopLaws.{keeps_laws}
use Rattle.smp_stop_steps.proofs.State.Ends.{all_outside}
use Rattle.smp_stop_steps.proofs.State.Phases.{is_open_inside, keeps_inside}
use Rattle.smp_stop_steps.proofs.TheMachine.Starting.{begins_work}
use Rattle.smp_multi.specs.Names.{Field, Work, Kind, One, Multi, Patch, Slot, StopRole, Free, In, Rests, Source, Shut, Drafts}
use Rattle.smp_multi.specs.Names.{KnownStops, StopPart}
use Rattle.smp_multi.specs.Names.{StopSetting, Duty, Calling, Idle, Calls, Carries}
use Rattle.smp_multi.specs.Names.own
use Rattle.smp_multi.specs.Answers.{Enters, RunAnswers, PollAnswers, IsWholeWord, answer_in}
use Rattle.smp_multi.specs.Begins.{Begins}
use Rattle.smp_multi.specs.Cells.{cells}
use Rattle.smp_multi.specs.Cpu.{TableValue, CallsNone, IsKept, call_with, calls_with, part_with, cpu_of, inside_of, is_in, enters, runs}
use Rattle.smp_multi.specs.Cpu.{answers, collects, makes}
use Rattle.smp_multi.specs.Places.{IsVisitOf, IsCalled, entered, missed, work_in, pending_of}
use Rattle.smp_multi.specs.Polls.{OwnAnswersAgree, MayAnswer, IsLastResult, looked, collected}
use Rattle.smp_multi.specs.Running.{AtOne, called, called_by}
use Rattle.smp_multi.specs.Seat.{SeatValue}
use Rattle.smp_multi.specs.StepCounts.{completing}
use Rattle.smp_multi.specs.declared.func.Called.{Called}
use Rattle.smp_multi.proofs.Counting.{steps_on}

-- begin is not refused: the gate is held, the slot is closed, and the work is one that a stop may have
pub not_refused : (nr : ℕ) (k : StopSetting) (cpu : ℕ) → cpu < cpus → ((c : ℕ) → has k.online c ≡ true → c < cpus) → has k.online cpu ≡ true
    → (holds is_open : Bool) (work : Work) → work.func < 2 ^ 16 →
    begin_refusal (record { nr = nr; online = k.online; keys = k.labels.keys; sites = length k.labels.entries; holds_gate = holds }) work is_open ≡ None
    → (holds ≡ true) × (is_open ≡ false) × IsWork (setup_in k) work
not_refused nr k cpu low below online holds true work small e = cc
not_refused nr k cpu low below online false false work small e = cc
not_refused nr k cpu low below online true false work small e =
    let table : StopWords = record { gate = cpu + 1; slots = []; keys = []; entries = []; sites = [] } in
    let value : StopsValue =
    record { nr = nr; online = k.online; labels = record { keys = k.labels.keys; entries = k.labels.entries }; table = table; controls = [] } in
    let may =
    subst (λ (b : Bool). begin_refusal (record { nr = nr; online = k.online; keys = k.labels.keys; sites = length k.labels.entries; holds_gate = b })
    work false ≡ None) (sym (eq-eqb (cpu + 1) (cpu + 1) refl)) e in
    (refl, refl, (begins_work value cpu low below online stop_outside work false refl small may).2)

-- a CPU that begins
pub begins_at : (t : TableId) (d : SeatValue) (number nr : ℕ) (k : StopSetting) (visit : Option Visit) (holds is_open : Bool) (work : Work)
    → IsKept d.known number visit holds is_open → d.table ≡ t → t.words ≡ cells → d.known.setting ≡ k → work.func < 2 ^ 16 →
    (keys sites : ℕ) → keys ≡ k.labels.keys → sites ≡ length k.labels.entries
    → begin_refusal (record { nr = nr; online = k.online; keys = keys; sites = sites; holds_gate = holds }) work is_open ≡ None → Begins t d number work 0
begins_at t d number nr k visit holds is_open work kept table sized same small keys sites keys_are sites_are refused =
    let u = d.known.setting in
    let none : begin_refusal (record { nr = nr; online = k.online; keys = k.labels.keys; sites = length k.labels.entries; holds_gate = holds }) work is_open
    ≡ None =
    (λ i. begin_refusal (record { nr = nr; online = k.online; keys = sym keys_are i; sites = sym sites_are i; holds_gate = holds }) work is_open) ∙ refused in
    let none' : begin_refusal (record { nr = nr; online = u.online; keys = u.labels.keys; sites = length u.labels.entries; holds_gate = holds }) work is_open
    ≡ None =
    subst (λ (k : StopSetting). begin_refusal (record { nr = nr; online = k.online; keys = k.labels.keys; sites = length k.labels.entries; holds_gate = holds })
    work is_open ≡ None) (sym same) none in
    let a = not_refused nr u number kept.below kept.lives.shown.setup.below kept.online holds is_open work small none' in
    let shut : OwnsIf false d.known.source = subst (λ b. OwnsIf b d.known.source) a.1 kept.owns in
    record {
      table_is = table;
      sized = sized;
      number_is = kept.number_is;
      below = kept.below;
      holds = sym kept.holds_is ∙ a.0;
      is_work = a.2;
      drafts = shut;
    }

-- a CPU in no stop is free
pub is_free : (visit : Option Visit) (x : StopRole) → SitsAtRest visit x → is_in (inside_of x) ≡ false → (visit ≡ None) × (x ≡ Free)
is_free None x rests e = (refl, rests)
is_free (Some v) x rests e = absurd (let bad : true ≡ false = sym (ap (λ (y : StopRole). is_in (inside_of y)) rests.2) ∙ e in cc)

-- and calls no function
pub idle_outside : (visit : Option Visit) (carried : ℕ) (f : Calling) → visit ≡ None → CallsNone visit carried f → f ≡ Idle
idle_outside visit carried f none quiet = go f (subst (λ x. CallsNone x carried f) none quiet)
  where
    go : (f : Calling) → CallsNone None carried f → f ≡ Idle
    go Idle q = refl
    go (Calls call) q = absurd q
    go (Carries answer) q = absurd q

-- who carries no answer outside a stop carries none inside
quiet_in : (x : Visit) (carried : ℕ) (f : Calling) (visit : Option Visit) → f ≡ Idle → CallsNone visit carried f → CallsNone (Some x) carried f
quiet_in x carried Idle visit e q = q
quiet_in x carried (Calls call) visit e q = absurd q
quiet_in x carried (Carries answer) visit e q = tt

pub kept_entered : (v u : KnownStops) (number : ℕ) (visit : Option Visit) (holds is_open : Bool) (x : Visit) (slot : ℕ) (work : Work)
    → IsKept v number visit holds is_open → v.part.calling ≡ Idle → u ≡ stepped 3 (entered slot work v) → IsVisitOf slot work x → slot < cpus → Lives u →
    IsKept u number (Some x) holds is_open
kept_entered v u number visit holds is_open x slot work kept idle same of low lives = record {
  number_is = ap (λ (z : KnownStops). z.number) same ∙ kept.number_is;
  below = kept.below;
  online = ap (λ (z : KnownStops). has z.setting.online number) same ∙ kept.online;
  rests = (work, of.loaded, ap (λ (z : KnownStops). z.seat) same ∙ (λ i. In (sym of.slot_is i) work (sym of.fresh i) (sym of.fresh i) Rests));
  low = subst (λ n. n < cpus) (sym of.slot_is) low;
  quiet = subst (λ (z : KnownStops). CallsNone (Some x) z.carried z.part.calling) (sym same) (quiet_in x v.carried v.part.calling visit idle kept.quiet);
  holds_is = kept.holds_is ∙ sym (ap (λ (z : KnownStops). z.part.holds) same);
  owns = subst (OwnsIf is_open) (sym (ap (λ (z : KnownStops). z.source) same)) kept.owns;
  lives = lives;
}

-- a CPU that has looked for itself on a roll in vain
pub kept_missed : (v u : KnownStops) (number : ℕ) (visit : Option Visit) (holds is_open : Bool) (slot : ℕ) → IsKept v number visit holds is_open
    → u ≡ missed slot v → Lives u → IsKept u number visit holds is_open
kept_missed v u number visit holds is_open slot kept same lives = record {
  number_is = ap (λ (z : KnownStops). z.number) same ∙ kept.number_is;
  below = kept.below;
  online = ap (λ (z : KnownStops). has z.setting.online number) same ∙ kept.online;
  rests = subst (λ (z : KnownStops). SitsAtRest visit z.seat) (sym same) kept.rests;
  low = kept.low;
  quiet = subst (λ (z : KnownStops). CallsNone visit z.carried z.part.calling) (sym same) kept.quiet;
  holds_is = kept.holds_is ∙ sym (ap (λ (z : KnownStops). z.part.holds) same);
  owns = subst (λ (z : KnownStops). OwnsIf is_open z.source) (sym same) kept.owns;
  lives = lives;
}

-- the part of a CPU that carries no answer
pub idle_part : (answer : ℕ) (v : KnownStops) → v.part.calling ≡ Idle → part_with answer v ≡ record (v.part) { calling = Idle }
idle_part answer v idle =
    ap (λ f. record (v.part) { calls = calls_with answer v.number (work_in v.seat) v.part.calls f; calling = with_answer answer f }) idle

-- a CPU that has entered, but for its steps
abbrev entered_at : ℕ → Work → KnownStops → KnownStops
entered_at slot work v = attempting slot true (record v { seat = In slot work 0 0 Rests })

-- a CPU's value by what it knows
pub entered_view : (d e : SeatValue) (slot : ℕ) (work : Work) → d.known.seat ≡ Free → d.known.part.calling ≡ Idle → e.table ≡ d.table
    → e.known ≡ stepped 3 (entered slot work d.known) → cpu_of e ≡ enters slot work (cpu_of d)
entered_view d e slot work free idle table same =
    let v = stepped 4 (entered_at slot work d.known) in
    let x = d.known.carried in
    (λ i. cpu_of (record { table = table i; known = (same ∙ steps_on 1 3 (entered_at slot work d.known)) i })) ∙ (
    ap (λ (k : StopPart). record (cpu_of (record { table = d.table; known = v })) { part = k }) (idle_part x v idle ∙ sym (idle_part x d.known idle)) ∙
    ap (λ (b : Bool). record (enters slot work (cpu_of d)) { irq = b }) (sym (ap irq_of free)))

-- a stop of one CPU has no phases
pub no_phase : (v : KnownStops) (slot acked looked : ℕ) (w : Work) → Lives v → v.seat ≡ In slot w acked looked Rests → w.kind ≡ One → acked ≡ 0
no_phase v slot acked looked w l is one = at_zero (none (l.stops.now.stop slot).work.kind refl)
  where
    st : RoleStands l.stops.now v.number (In slot w acked looked Rests)
    st = subst (RoleStands l.stops.now v.number) (l.sees.seat_is ∙ is) (l.shown.present.stands v.number)

    opened : (l.stops.now.stop slot).is_open ≡ true
    opened = is_open_inside cpus (l.stops.now.stop slot) (λ g. l.at (Slot slot g)) (l.shown.present.slots slot) v.number (Inside acked looked) st.1 refl

    none : (kind : Kind) → (l.stops.now.stop slot).work.kind ≡ kind → (l.stops.now.stop slot).phase ≡ 0
    none kind e = subst (λ (k : Kind). IsPhaseOf k (l.stops.now.stop slot).phase) (ap (λ (x : Work). x.kind) st.3 ∙ one)
        ((l.shown.present.slots slot).shows opened).kinds

    at_zero : (l.stops.now.stop slot).phase ≡ 0 → acked ≡ 0
    at_zero e = let k =
        (keeps_inside cpus (l.stops.now.stop slot) (λ g. l.at (Slot slot g)) (l.shown.present.slots slot) v.number (Inside acked looked) st.1).1 in elim k [
          | inl same ↦ same ∙ e
          | inr more ↦ absurd (omega (arith, more, e))
        ]

-- before RUN is acknowledged a CPU carries no answer, and between two calls it calls no function
pub idle_before : (v : KnownStops) (x : Visit) (slot acked looked : ℕ) (w : Work) (t : Duty) → Lives v → v.seat ≡ In slot w acked looked t → acked < RUN
    → CallsNone (Some x) v.carried v.part.calling → v.part.calling ≡ Idle
idle_before v x slot acked looked w t l is early quiet = go (l.stops.calling v.number) here l.sees.part_is.calling
  where
    here : IsCalling v.number (In slot w acked looked t) (l.stops.calling v.number)
    here = subst (λ y. IsCalling v.number y (l.stops.calling v.number)) (l.sees.seat_is ∙ is) (l.shown.callings v.number)

    go : (f : Calling) → IsCalling v.number (In slot w acked looked t) f → told_calling f ≡ v.part.calling → v.part.calling ≡ Idle
    go Idle k e = sym e
    go (Calls call) k e = absurd (let P : Calling → Type 0 = λ f. CallsNone (Some x) v.carried f in subst P (sym e) quiet)
    go (Carries answer) k e = absurd (let late = k.0 in omega (arith, late, early))

-- a CPU that has run the function of a stop of one CPU, whatever it was calling
pub ran_view : (d e : SeatValue) (slot : ℕ) (w : Work) (x n : ℕ) → w.kind ≡ One → (f : Calling)
    → part_with d.known.carried d.known ≡ record (d.known.part) { calling = f } → e.table ≡ d.table
    → e.known ≡ stepped n (completed_with 0 slot w x (carrying 0 d.known)) → cpu_of e ≡ makes n (answers slot x (runs (call_with w x) (cpu_of d)))
ran_view d e slot w x n one f part table same =
    (λ i. cpu_of (record { table = table i; known = same i })) ∙ (
    ap (λ (k : Kind). cpu_of (record { table = d.table; known = stepped n (completed_with 0 slot (record w { kind = k }) x (carrying 0 d.known)) })) one ∙
    ap (λ (k : StopPart). makes n (answers slot x (runs (call_with w x) (record (cpu_of d) { part = k })))) (sym part))

-- one stop more, before those that have this last answer
given_more : (b : Bool) (n : ℕ) (answers before : List ℕ) (v : ℕ) → answers ≡ before ++ v ∷ []
    → (more : List ℕ) × (cond b (n ∷ answers) answers ≡ more ++ v ∷ [])
given_more true n answers before v e = (n ∷ before, ap (λ l. n ∷ l) e)
given_more false n answers before v e = (before, e)

-- the last of the works that were begun, with its result and its answers
record HasLast (past : List Past) (r : ℕ) : Type 0 where
  work : Work
  answer : ℕ → ℕ
  works : List Work
  works_are : works_of past ≡ works ++ work ∷ []
  is_result : IsResult work.mask answer r
  active : OnlyActiveAnswer work answer
  given : (c : ℕ) → has work.mask c ≡ true → (before : List ℕ) × (answers_of c past ≡ before ++ answer c ∷ [])

has_last : (past : List Past) (rs : List ℕ) (r : ℕ) → AllPast past → results_of past ≡ rs ++ r ∷ [] → HasLast past r
has_last [] [] r all e = cc
has_last [] (z ∷ zs) r all e = cc
has_last (x ∷ []) [] r all e =
    record {
      work = x.work;
      answer = x.answer;
      works = [];
      works_are = refl;
      is_result = (let same : x.result ≡ r = cc in subst (IsResult x.work.mask x.answer) same all.0.0);
      active = all.0.1;
      given = λ c of. ([], ap (λ b. cond b (x.answer c ∷ []) []) of);
    }
has_last (x ∷ []) (z ∷ []) r all e = cc
has_last (x ∷ []) (z ∷ y ∷ zs) r all e = cc
has_last (x ∷ y ∷ rest) [] r all e = cc
has_last (x ∷ y ∷ rest) (z ∷ zs) r all e =
    let tail : results_of (y ∷ rest) ≡ zs ++ r ∷ [] = (let f : x.result ∷ results_of (y ∷ rest) ≡ z ∷ (zs ++ r ∷ []) = e in cc) in
    let l = has_last (y ∷ rest) zs r all.1 tail in
    record {
      work = l.work;
      answer = l.answer;
      works = x.work ∷ l.works;
      works_are = ap (λ ws. x.work ∷ ws) l.works_are;
      is_result = l.is_result;
      active = l.active;
      given = λ c of. (let g = l.given c of in given_more (has x.work.mask c) (x.answer c) (answers_of c (y ∷ rest)) g.0 (l.answer c) g.1);
    }

closed_by : (u : Setup) (gate : Option ℕ) (stop : Stop) (word : Field → ℕ) (me : ℕ) (y : Source) → SourceShows u gate stop word me y
    → told_source y ≡ Shut → stop.is_open ≡ false
closed_by u gate stop word me Shut shows e = shows
closed_by u gate stop word me (Drafts w k) shows e = cc
closed_by u gate stop word me _ shows e = cc

-- the result that was collected last is that of the work begun last, whatever answer the CPU carries in another stop
pub last_result : (d : SeatValue) (before : List ℕ) (r : ℕ) → Lives d.known → d.known.source ≡ Shut → d.known.part.collected ≡ before ++ r ∷ []
    → IsLastResult (cpu_of d) r
last_result d before r l shut is =
    let v = d.known in
    let me = v.number in
    let u = setup_in v.setting in
    let stop = l.stops.now.stop me in
    let word = λ (f : Field). l.at (Slot me f) in
    let h = l.shown.past me in
    let closed = closed_by u l.stops.gate stop word me (l.source me) (l.shown.sources me) (l.sees.source_is ∙ shut) in
    let last = has_last h.0 before r h.1.each (sym h.1.collected_are ∙ (l.sees.part_is.collected ∙ is)) in
    let given : (c : ℕ) → has last.work.mask c ≡ true → (before : List ℕ) × (l.stops.answers c me ≡ before ++ last.answer c ∷ []) = λ c of.
    (let g = last.given c of in (
      g.0,
      h.1.answers_are c ∙ (
          ap (λ s. answers_of c h.0 ++ answer_now s) (all_outside u.cpus stop word (l.shown.present.slots me) closed c)
          ∙ (append-nil (answers_of c h.0) ∙ g.1)),
    )) in
    record {
      work = last.work;
      answer = last.answer;
      works = last.works;
      results = before;
      begun = sym l.sees.part_is.begun
          ∙ (h.1.begun_are ∙ (ap (λ b. works_of h.0 ++ cond b (stop.work ∷ []) []) closed ∙ (append-nil (works_of h.0) ∙ last.works_are)));
      collected = is;
      is_result = last.is_result;
      active = last.active;
      given = record {
        stops = l.stops;
        at = l.at;
        seat = l.seat;
        source = l.source;
        shown = l.shown;
        laws = keeps_laws u l.stops l.at l.seat l.source l.shown;
        begun = l.sees.part_is.begun;
        collected = l.sees.part_is.collected;
        closed = closed;
        given = given;
      };
      own = λ of. (let g = given me of in (g.0, sym (l.sees.part_is.answers.each me l.sees.below) ∙ g.1));
    }

-- and it agrees with the CPU's own answer
pub own_answers_agree : OwnAnswersAgree
own_answers_agree c result l of = record { own = l.answer c.number; answered = l.own of; some = some l.is_result; alone = alone l.is_result }
  where
    some : IsResult l.work.mask l.answer result → l.answer c.number ≢ 0 → result ≢ 0
    some (inl none) ne e = ne (none.1 c.number of)
    some (inr one) ne e = one.0 e

    -- a CPU with an answer that is not 0 may answer
    may : (cpu : ℕ) → l.answer cpu ≢ 0 → (kind : Kind) → l.work.kind ≡ kind → (b : Bool) → has l.work.active cpu ≡ b → MayAnswer l.work cpu
    may cpu some One e b is = inl e
    may cpu some Multi e true is = inr is
    may cpu some Multi e false is = absurd (some (l.active (λ one. let bad : One ≡ Multi = sym one ∙ e in cc) cpu is))
    may cpu some Patch e true is = inr is
    may cpu some Patch e false is = absurd (some (l.active (λ one. let bad : One ≡ Patch = sym one ∙ e in cc) cpu is))

    alone : IsResult l.work.mask l.answer result → ((cpu : ℕ) → has l.work.mask cpu ≡ true → MayAnswer l.work cpu → cpu ≡ c.number)
        → result ≡ l.answer c.number
    alone (inl none) only = none.0 ∙ sym (none.1 c.number of)
    alone (inr one) only = sym one.1.2 ∙ ap l.answer (only one.1.0 one.1.1
        (may one.1.0 (λ z. one.0 (sym one.1.2 ∙ z)) l.work.kind refl (has l.work.active one.1.0) refl))

-- a CPU that has collected a result
pub collected_view : (d e f : SeatValue) (r : ℕ) → e.known ≡ looked true d.known → f.table ≡ d.table → f.known ≡ collected r e.known
    → cpu_of f ≡ collects r (cpu_of d)
collected_view d e f r one table two =
    let at : KnownStops = record (d.known) { source = Shut; part = record (d.known.part) { collected = d.known.part.collected ++ r ∷ [] } } in
    (λ i. cpu_of (record { table = table i; known = (two ∙ (ap (collected r) one ∙ steps_on 1 1 (noting (own.Collected r) at))) i }))

-- a slot that may be entered is one of the table
pub low_slot : (nr slot : ℕ) → has_slot nr slot ≡ true → slot < cpus
low_slot nr slot e = ltb-true slot cpus (and_parts (nat_lt slot cpus) _ e).0

-- the answer of a CPU that has entered
pub enters_answer : (t : TableValue) (d e : SeatValue) (slot : ℕ) (work : Work) (visit : Visit) → d.known.seat ≡ Free
    → d.known.part.calling ≡ Idle → has_slot t.nr slot ≡ true → e.table ≡ d.table → e.known ≡ stepped 3 (entered slot work d.known)
    → IsCalled d.known slot work
    → IsVisitOf slot work visit → Enters t slot (cpu_of d) (cpu_of e) visit.kind
enters_answer t d e slot work visit free idle there table same calls of = record {
  work = work;
  outside = ap inside_of free;
  there = there;
  member = calls.member;
  own = calls.own;
  kind_is = of.loaded.kind;
  is = entered_view d e slot work free idle table same;
}

-- a source between two calls drafts no stop
pub owned_idle : (b : Bool) (y : Source) → OwnsIf b y → is_drafting y ≡ false
owned_idle true y o = ap is_drafting o.1
owned_idle false y o = ap is_drafting o

-- a CPU that is to run the function of a stop of one CPU
pub at_one : (t : TableId) (d : SeatValue) (number : ℕ) (visit : Visit) (holds is_open : Bool) → IsKept d.known number (Some visit) holds is_open
    → visit.kind ≡ One → d.table ≡ t → t.words ≡ cells → AtOne t d visit.slot
at_one t d number visit holds is_open kept one table sized =
    let w = kept.rests.0 in
    let kind : w.kind ≡ One = sym kept.rests.1.kind ∙ one in
    let zero_ = no_phase d.known visit.slot visit.acked visit.acked w kept.lives kept.rests.2 kind in
    let is : d.known.seat ≡ In visit.slot w 0 0 Rests = kept.rests.2 ∙ (λ i. In visit.slot w (zero_ i) (zero_ i) Rests) in
    record {
      table_is = table;
      sized = sized;
      low = kept.low;
      idle = owned_idle is_open d.known.source kept.owns;
      seat_is = is ∙ sym (ap (λ (x : StopRole). In visit.slot (work_in x) 0 0 Rests) is);
      one = ap (λ (x : StopRole). (work_in x).kind) is ∙ kind;
    }

-- its answer
pub run_answers : {F : Type 0} (leads : F → Called → F → Type 0) (d e : SeatValue) (number : ℕ) (visit : Visit) (holds is_open : Bool) (before after : F)
    (v : ℤ) → IsKept d.known number (Some visit) holds is_open → visit.kind ≡ One → e.table ≡ d.table
    → e.known ≡ stepped (2 + completing (answer_word v)) (completed_with 0 visit.slot (work_in d.known.seat) (answer_word v) (carrying 0 d.known))
    → leads before (called_by d.known v) after → RunAnswers leads (cpu_of d) (cpu_of e) before after (Ok v)
run_answers {F} leads d e number visit holds is_open before after v kept one table same heard =
    let n = 2 + completing (answer_word v) in
    let w = kept.rests.0 in
    let kind : w.kind ≡ One = sym kept.rests.1.kind ∙ one in
    let work : work_in d.known.seat ≡ w = ap work_in kept.rests.2 in
    let none = no_phase d.known visit.slot visit.acked visit.acked w kept.lives kept.rests.2 kind in
    let idle = idle_before d.known visit visit.slot visit.acked visit.acked w Rests kept.lives kept.rests.2 (omega (arith, none)) kept.quiet in (
      record { stop = record { slot = visit.slot; work = w; acked = visit.acked }; is = ap inside_of kept.rests.2; one = kind },
      ran_view d e visit.slot w (answer_word v) n kind Idle (idle_part d.known.carried d.known idle) table
          (same ∙ ap (λ (x : Work). stepped n (completed_with 0 visit.slot x (answer_word v) (carrying 0 d.known))) work),
      subst (λ (x : Work). leads before (called d.known.number x.func x.arg v) after) work heard,
    )

-- the word of a result is that of its i32
whole_word : (v : ℤ) (word : ℕ) → v ≡ answer_in word → IsI32Word word → IsWholeWord v word
whole_word v word is fits =
    let uncut : word % 2 ^ 32 ≡ word = omega (arith, fits) in
    let same : v ≡ cast_signed w32 word = is ∙ ap (cast_signed w32) uncut in
    let back : answer_word v ≡ word = ap answer_word same ∙ of_z-to_z w32 word fits in
    (sym back, (λ z. sym back ∙ ap answer_word z, λ z. same ∙ ap (cast_signed w32) z))

-- a CPU that has collected: its stop was open, and the result is the last
pub poll_answers : (d e f : SeatValue) (number : ℕ) (visit : Option Visit) (holds : Bool) (word : ℕ) (v : ℤ) → IsKept d.known number visit holds true
    → e.known ≡ looked true d.known → f.table ≡ d.table → f.known ≡ collected word e.known → Lives f.known → v ≡ answer_in word → IsI32Word word →
    PollAnswers (cpu_of d) (cpu_of f) (Ok (Some v))
poll_answers d e f number visit holds word v kept one table two lives is fits =
    let all = two ∙ ap (collected word) one in (
      (λ (none : pending_of d.known.source ≡ None). let some : pending_of d.known.source ≡ Some kept.owns.0 = ap pending_of kept.owns.1 in
          let bad : None ≡ Some kept.owns.0 = sym none ∙ some in cc),
      (
        word,
        is,
        collected_view d e f word one table two,
        last_result f d.known.part.collected word lives (ap (λ (z : KnownStops). z.source) all)
            (ap (λ (z : KnownStops). z.part.collected) all),
        whole_word v word is fits,
      ),
    )
