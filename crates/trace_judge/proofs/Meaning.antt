-- The verdict is the meaning of a trace.
use Rattle.std.proofs.Common.{◌≡◌, ℕ, ◌+◌, Bool, true, false, if◌then◌else◌, Result, List, [], ◌∷◌, ◌++◌, length, Option, Some, None, Ok, Err, refl}
use Rattle.std.proofs.Common.{ap, ◌∙◌, sym, subst, arith, inl, inr, ◌⊎◌}
use Rattle.smp_mask.specs.declared.error.Cause.{Cause}
use Rattle.smp_mask.specs.declared.error.Cause.TheVariants.{TooLong, Cut}
use Rattle.smp_words.specs.FirstFault.{◌>>=◌}
use Rattle.smp_script.specs.Lines.{Line, fields_of, lines_of}
use Rattle.trace_model.specs.declared.event.Event.{Event}
use Rattle.trace_model.specs.declared.reason.Reason.{Reason}
use Rattle.trace_model.specs.declared.without.Setting.{Setting}
use Rattle.trace_model.specs.Opened.{opening}
use Rattle.trace_model.specs.Runs.{Runs}
use Rattle.trace_model.specs.State.{StateValue}
use Rattle.trace_model.specs.Step.{goes}
use Rattle.trace_judge.specs.declared.early_end.EarlyEnd.{EarlyEnd}
use Rattle.trace_judge.specs.declared.early_end.EarlyEnd.TheVariants as early_end
use Rattle.trace_judge.specs.Head.{HeadValue, head_of}
use Rattle.trace_judge.specs.Judged.{after_event, at_line, broken_at, bytes_of, event_on, is_comment, is_too_long, judged, line_goes, told_goes, used_after}
use Rattle.trace_judge.specs.Reading.{whole_event}
use Rattle.trace_judge.specs.Runs.{AreRun, GoesTo, HasFault, IsAtFault, IsBroken, IsMeant, IsRunOf, Means, MeansWith, Told, told_by, with_told}
use Rattle.trace_judge.specs.Verdict.{judged_behind, verdict_of}

-- what comes of a line that goes on so far
abbrev next_gives : Setting → ℕ → ℕ → List Line → ℕ × StateValue → Result (ℕ × StateValue) EarlyEnd
next_gives u n more ls made = judged u (n + 1) more made.0 ls made.1

-- a fault of a line is of its number
used_fault_by : (long ended : Bool) (n used : ℕ) (why : EarlyEnd)
    → (if long then Err (early_end.Fault n TooLong) else (if ended then Ok used else Err (early_end.Fault n Cut))) ≡ Err why
    → (cause : Cause) × (why ≡ early_end.Fault n cause)
used_fault_by true ended n used why e = (TooLong, cc)
used_fault_by false true n used why e = absurd cc
used_fault_by false false n used why e = (Cut, cc)

used_fault : (n used : ℕ) (l : Line) (why : EarlyEnd) → used_after n used l ≡ Err why → (cause : Cause) × (why ≡ early_end.Fault n cause)
unfolding used_after
used_fault n used l why e = used_fault_by (is_too_long n used l) l.ended n (used + bytes_of l) why e

event_fault_by : (comment : Bool) (n : ℕ) (read : Result (ℕ × Event) Cause) (why : EarlyEnd)
    → (if comment then Ok None else (at_line n read >>= λ event. Ok (Some event))) ≡ Err why → (cause : Cause) × (why ≡ early_end.Fault n cause)
event_fault_by true n read why e = absurd cc
event_fault_by false n (Ok event) why e = absurd cc
event_fault_by false n (Err cause) why e = (cause, cc)

event_fault : (u : Setting) (n : ℕ) (text : List ℕ) (why : EarlyEnd) → event_on u n text ≡ Err why → (cause : Cause) × (why ≡ early_end.Fault n cause)
unfolding event_on
event_fault u n text why e = event_fault_by (is_comment text) n (whole_event u (fields_of text)) why e

-- the front of lines with one more before it
goes_on : (u : Setting) (n used more : ℕ) (l : Line) (ls : List Line) (s m : StateValue) (line before : ℕ) (this : Line) (t : StateValue)
    (e : Option (ℕ × Event)) → used_after n used l ≡ Ok more → event_on u n l.text ≡ Ok e
    → ((told : Told) → Runs m told.events t → Runs s (with_told e told).events t)
    → ((told : Told) → (with_told e told).used ≡ told.used)
    → GoesTo u (n + 1) more ls m line before this t → GoesTo u n used (l ∷ ls) s line before this t
unfolding told_by
goes_on u n used more l ls s m line before this t e f told runs keeps g = record {
  front = l ∷ g.front;
  back = g.back;
  lines_are = ap (λ xs. l ∷ xs) g.lines_are;
  line_is = g.line_is ∙ omega arith;
  told = with_told e g.told;
  told_is = rw (f, told, g.told_is) refl;
  used_is = keeps g.told ∙ g.used_is;
  run = runs g.told g.run;
}

-- nothing comes before the first line
goes_here : (u : Setting) (n used : ℕ) (l : Line) (ls : List Line) (s : StateValue) → GoesTo u n used (l ∷ ls) s n used l s
unfolding told_by
goes_here u n used l ls s = record {
  front = [];
  back = ls;
  lines_are = refl;
  line_is = omega arith;
  told = record { events = []; used = used };
  told_is = refl;
  used_is = refl;
  run = refl;
}

-- a line that goes on keeps what the verdict on those behind it means
means_on : (u : Setting) (n used more before between : ℕ) (l : Line) (ls : List Line) (s m : StateValue) (e : Option (ℕ × Event))
    (verdict : Result (ℕ × StateValue) EarlyEnd) → used_after n used l ≡ Ok more → event_on u n l.text ≡ Ok e
    → ((told : Told) (t : StateValue) → Runs m told.events t → Runs s (with_told e told).events t)
    → ((told : Told) → (with_told e told).used ≡ told.used)
    → ((told : Told) → before + length (with_told e told).events ≡ between + length told.events)
    → Means u (n + 1) more between ls m verdict → Means u n used before (l ∷ ls) s verdict
unfolding told_by
means_on u n used more before between l ls s m e (Ok end) f told runs keeps counts r = record {
  told = with_told e r.told;
  told_is = rw (f, told, r.told_is) refl;
  run = runs r.told end.1 r.run;
  counted = counts r.told ∙ r.counted;
}
means_on u n used more before between l ls s m e (Err (early_end.Broken line cpu event why)) f told runs keeps counts r = record {
  before = r.before;
  more = r.more;
  this = r.this;
  state = r.state;
  goes_to = goes_on u n used more l ls s m line r.before r.this r.state e f told (λ x. runs x r.state) keeps r.goes_to;
  fits = r.fits;
  told = r.told;
  refused = r.refused;
}
means_on u n used more before between l ls s m e (Err (early_end.Fault line cause)) f told runs keeps counts r = record {
  before = r.before;
  this = r.this;
  state = r.state;
  goes_to = goes_on u n used more l ls s m line r.before r.this r.state e f told (λ x. runs x r.state) keeps r.goes_to;
  fault = r.fault;
}
means_on u n used more before between l ls s m e (Err early_end.NoMemory) f told runs keeps counts r = r

-- a line at fault is the end
means_fault : (u : Setting) (n used before : ℕ) (l : Line) (ls : List Line) (s : StateValue) (why : EarlyEnd) (cause : Cause)
    → why ≡ early_end.Fault n cause → HasFault u n used l cause → Means u n used before (l ∷ ls) s (Err why)
means_fault u n used before l ls s why cause e fault = subst (λ (w : EarlyEnd). Means u n used before (l ∷ ls) s (Err w)) (sym e) (record {
  before = used;
  this = l;
  state = s;
  goes_to = goes_here u n used l ls s;
  fault = fault;
})

-- the event of a line is made, or refused
means_step : (u : Setting) (n used more before : ℕ) (l : Line) (ls : List Line) (s : StateValue) (cpu : ℕ) (event : Event)
    → used_after n used l ≡ Ok more → event_on u n l.text ≡ Ok (Some (cpu, event))
    → ((m : StateValue) → Means u (n + 1) more (before + 1) ls m (judged u (n + 1) more (before + 1) ls m))
    → (made : Result StateValue Reason) → goes cpu event s ≡ made
    → Means u n used before (l ∷ ls) s ((broken_at n cpu event made >>= λ t. Ok (before + 1, t)) >>= next_gives u n more ls)
means_step u n used more before l ls s cpu event f told rest (Ok m) g =
    means_on u n used more before (before + 1) l ls s m (Some (cpu, event)) (judged u (n + 1) more (before + 1) ls m) f told
    (λ x t run. (m, (g, run))) (λ x. refl) (λ x. omega arith) (rest m)
means_step u n used more before l ls s cpu event f told rest (Err why) g = record {
  before = used;
  more = more;
  this = l;
  state = s;
  goes_to = goes_here u n used l ls s;
  fits = f;
  told = told;
  refused = g;
}

-- a line tells an event, or none, or is at fault
means_told : (u : Setting) (n used more before : ℕ) (l : Line) (ls : List Line) (s : StateValue) → used_after n used l ≡ Ok more
    → ((between : ℕ) (m : StateValue) → Means u (n + 1) more between ls m (judged u (n + 1) more between ls m))
    → (told : Result (Option (ℕ × Event)) EarlyEnd) → event_on u n l.text ≡ told
    → Means u n used before (l ∷ ls) s ((told >>= λ e. after_event n before e s) >>= next_gives u n more ls)
unfolding told_goes
means_told u n used more before l ls s f rest (Ok None) e =
    means_on u n used more before before l ls s s None (judged u (n + 1) more before ls s) f e (λ x t run. run) (λ x. refl) (λ x. refl) (rest before s)
means_told u n used more before l ls s f rest (Ok (Some (cpu, event))) e =
    means_step u n used more before l ls s cpu event f e (rest (before + 1)) (goes cpu event s) refl
means_told u n used more before l ls s f rest (Err why) e =
    let c = event_fault u n l.text why e in
    means_fault u n used before l ls s why c.0 c.1 (inr (more, (f, e ∙ ap (λ w. Err w) c.1)))

-- a line is within the limits, or at fault
means_fits : (u : Setting) (n used before : ℕ) (l : Line) (ls : List Line) (s : StateValue)
    → ((more between : ℕ) (m : StateValue) → Means u (n + 1) more between ls m (judged u (n + 1) more between ls m))
    → (fits : Result ℕ EarlyEnd) → used_after n used l ≡ fits
    → Means u n used before (l ∷ ls) s (fits >>= λ more. line_goes u n before l.text s >>= next_gives u n more ls)
unfolding line_goes
means_fits u n used before l ls s rest (Ok more) f = means_told u n used more before l ls s f (rest more) (event_on u n l.text) refl
means_fits u n used before l ls s rest (Err why) f =
    let c = used_fault n used l why f in
    means_fault u n used before l ls s why c.0 c.1 (inl (f ∙ ap (λ w. Err w) c.1))

-- the verdict on lines is what it means
pub means : (u : Setting) (n used before : ℕ) (lines : List Line) (s : StateValue) → Means u n used before lines s (judged u n used before lines s)
unfolding judged told_by
means u n used before [] s = record { told = record { events = []; used = used }; told_is = refl; run = refl; counted = omega arith }
means u n used before (l ∷ ls) s = means_fits u n used before l ls s (λ more between m. means u (n + 1) more between ls m) (used_after n used l) refl

-- a verdict behind a head
meant_with : (head : Result HeadValue EarlyEnd) → MeansWith head (head >>= judged_behind)
meant_with (Ok h) = means h.setting h.cursor.number h.cursor.used 0 h.cursor.lines (opening h.setting h.words)
meant_with (Err why) = refl

-- the verdict on a text is what it means
pub is_meant : (text : List ℕ) → IsMeant text (verdict_of text)
unfolding verdict_of
is_meant text = meant_with (head_of (lines_of text))

-- how many events there are, and the state at the end
abbrev ends_at : ℕ → StateValue → Result (ℕ × StateValue) EarlyEnd
ends_at k s = Ok (k, s)

-- no line is left: the events are those so far
accepts_none : (used before : ℕ) (s t : StateValue) (told : Told) → record { events = []; used = used } ≡ told → Runs s told.events t
    → ends_at before s ≡ ends_at (before + length told.events) t
accepts_none used before s t told e run =
    subst (λ (x : Told). Runs s x.events t → ends_at before s ≡ ends_at (before + length x.events) t) e
    (λ same. let z : before ≡ before + 0 = omega arith in ap (λ (k : ℕ). ends_at k s) z ∙ ap (λ (v : StateValue). ends_at (before + 0) v) (sym same)) run

-- a run of the model is accepted
accepts_event : (u : Setting) (n used more before : ℕ) (l : Line) (ls : List Line) (s t : StateValue) (e : Option (ℕ × Event)) (rest : Told)
    → used_after n used l ≡ Ok more → event_on u n l.text ≡ Ok e
    → ((between : ℕ) (m : StateValue) → Runs m rest.events t → judged u (n + 1) more between ls m ≡ Ok (between + length rest.events, t))
    → Runs s (with_told e rest).events t → judged u n used before (l ∷ ls) s ≡ Ok (before + length (with_told e rest).events, t)
unfolding judged line_goes told_goes
accepts_event u n used more before l ls s t None rest f told ih run = rw (f, told) (ih before s run)
accepts_event u n used more before l ls s t (Some (cpu, event)) rest f told ih (m, (g, run)) =
    rw (f, told, g) (ih (before + 1) m run ∙ ap (λ (k : ℕ). ends_at k t) (omega arith))

accepts_rest : (u : Setting) (n used more before : ℕ) (l : Line) (ls : List Line) (s t : StateValue) (e : Option (ℕ × Event)) (told : Told)
    → used_after n used l ≡ Ok more → event_on u n l.text ≡ Ok e
    → ((rest : Told) → told_by u (n + 1) more ls ≡ Ok rest → (between : ℕ) (m : StateValue) → Runs m rest.events t
    → judged u (n + 1) more between ls m ≡ Ok (between + length rest.events, t))
    → (found : Result Told EarlyEnd) → told_by u (n + 1) more ls ≡ found → (found >>= λ rest. Ok (with_told e rest)) ≡ Ok told → Runs s told.events t
    → judged u n used before (l ∷ ls) s ≡ Ok (before + length told.events, t)
accepts_rest u n used more before l ls s t e told f told_is ih (Ok rest) r made run =
    let q : with_told e rest ≡ told = cc in
    subst (λ (x : Told). judged u n used before (l ∷ ls) s ≡ Ok (before + length x.events, t)) q
    (accepts_event u n used more before l ls s t e rest f told_is (ih rest r) (subst (λ (x : Told). Runs s x.events t) (sym q) run))
accepts_rest u n used more before l ls s t e told f told_is ih (Err why) r made run = absurd cc

accepts_told : (u : Setting) (n used more before : ℕ) (l : Line) (ls : List Line) (s t : StateValue) (told : Told) → used_after n used l ≡ Ok more
    → ((rest : Told) → told_by u (n + 1) more ls ≡ Ok rest → (between : ℕ) (m : StateValue) → Runs m rest.events t
    → judged u (n + 1) more between ls m ≡ Ok (between + length rest.events, t))
    → (found : Result (Option (ℕ × Event)) EarlyEnd) → event_on u n l.text ≡ found
    → (found >>= λ e. told_by u (n + 1) more ls >>= λ rest. Ok (with_told e rest)) ≡ Ok told → Runs s told.events t
    → judged u n used before (l ∷ ls) s ≡ Ok (before + length told.events, t)
accepts_told u n used more before l ls s t told f ih (Ok e) told_is made run =
    accepts_rest u n used more before l ls s t e told f told_is ih (told_by u (n + 1) more ls) refl made run
accepts_told u n used more before l ls s t told f ih (Err why) told_is made run = absurd cc

accepts_fits : (u : Setting) (n used before : ℕ) (l : Line) (ls : List Line) (s t : StateValue) (told : Told)
    → ((more : ℕ) (rest : Told) → told_by u (n + 1) more ls ≡ Ok rest → (between : ℕ) (m : StateValue) → Runs m rest.events t
    → judged u (n + 1) more between ls m ≡ Ok (between + length rest.events, t))
    → (fits : Result ℕ EarlyEnd) → used_after n used l ≡ fits
    → (fits >>= λ more. event_on u n l.text >>= λ e. told_by u (n + 1) more ls >>= λ rest. Ok (with_told e rest)) ≡ Ok told → Runs s told.events t
    → judged u n used before (l ∷ ls) s ≡ Ok (before + length told.events, t)
accepts_fits u n used before l ls s t told ih (Ok more) f made run =
    accepts_told u n used more before l ls s t told f (ih more) (event_on u n l.text) refl made run
accepts_fits u n used before l ls s t told ih (Err why) f made run = absurd cc

accepts : (u : Setting) (n used before : ℕ) (lines : List Line) (s t : StateValue) (told : Told) → told_by u n used lines ≡ Ok told
    → Runs s told.events t → judged u n used before lines s ≡ Ok (before + length told.events, t)
unfolding judged told_by
accepts u n used before [] s t told e run = accepts_none used before s t told (cc) run
accepts u n used before (l ∷ ls) s t told e run =
    accepts_fits u n used before l ls s t told (λ more rest r between m go. accepts u (n + 1) more between ls m t rest r go) (used_after n used l) refl e run

pub runs_accepted : (text : List ℕ) (h : HeadValue) (count : ℕ) (t : StateValue) → head_of (lines_of text) ≡ Ok h → IsRunOf h count t
    → verdict_of text ≡ Ok (count, t)
unfolding verdict_of
runs_accepted text h count t head r =
    rw head (accepts h.setting h.cursor.number h.cursor.used 0 h.cursor.lines (opening h.setting h.words) t r.told r.told_is r.run
    ∙ ap (λ (k : ℕ). ends_at k t) r.counted)
