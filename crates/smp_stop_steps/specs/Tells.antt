-- The state after a step, from what the step shows, and the answer of the function that it calls, which no step shows.
use Rattle.std.specs.Prelude.{ℕ, Bool, true, false, ◌==◌, ◌&&◌, ◌||◌, not, cond, Option, Some, None, List, [], ◌∷◌, ◌++◌}
use Rattle.smp_labels.specs.Plans.{plan_of}
use Rattle.smp_words.specs.Kinds.{kind_at}
use Rattle.smp_stop_steps.specs.Names.{has, is_on, change_of, put, Act, Seen, Field, Kind, One, Multi, Patch, Work, Word, Gate, Slot, Key, Site, DISABLE_IRQ}
use Rattle.smp_stop_steps.specs.Names.{RUN, EXIT, OVER}
use Rattle.smp_stop_steps.specs.Stop.{Standing, Inside, Answering, Stop, stands, acknowledged, refilled, raised, completed, ended, opened, closed}
use Rattle.smp_stop_steps.specs.KeyCounts.{moved_by}
use Rattle.smp_stop_steps.specs.Labels.{Change, Patching, Whole, Patches, Reading, ReadKey, ReadSite, count_set, patch_answer, state_left, reading_of}
use Rattle.smp_stop_steps.specs.State.{Setup, Present, StopState, StopCall, Moved, Calling, Idle, Calls, Carries}

abbrev pub is_one : Kind → Bool
is_one One = true
is_one _ = false

abbrev pub is_multi : Kind → Bool
is_multi Multi = true
is_multi _ = false

abbrev pub is_patch : Kind → Bool
is_patch Patch = true
is_patch _ = false

-- the CPU calls the function of this work at RUN
abbrev pub calls_at_run : ℕ → Work → Bool
calls_at_run me w = has w.active me && is_multi w.kind

-- what is now, with one stop changed
abbrev pub with_stop : Present → ℕ → Stop → Present
with_stop n s stop = record n { stop = put n.stop s stop }

-- the gate: taken where the exchange won, given up by a store
abbrev pub gate_told : StopState → ℕ → Act → Option ℕ → StopState
gate_told p me Act.Cas (Some new) = record p { gate = Some me }
gate_told p me Act.Store _ = record p { gate = None }
gate_told p me _ _ = p

-- a store of begin, before it opens its stop
abbrev pub drafted : Field → ℕ → Work → Work
drafted Field.Kind n w = record w { kind = kind_at n }
drafted Field.Mask n w = record w { mask = n }
drafted Field.Active n w = record w { active = n }
drafted Field.Func n w = record w { func = n }
drafted Field.Arg n w = record w { arg = n }
drafted _ n w = w

abbrev pub drafts : Present → ℕ → Field → ℕ → Present
drafts n s f value = with_stop n s (record (n.stop s) { work = drafted f value (n.stop s).work })

-- open
abbrev pub opens : StopState → ℕ → StopState
opens p s = record p { now = with_stop p.now s (opened (p.now.stop s) (p.now.stop s).work); begun = put p.begun s (p.begun s ++ (p.now.stop s).work ∷ []) }

-- enter
abbrev pub enters : Present → ℕ → ℕ → Present
enters n me s = record n { stop = put n.stop s (stands (n.stop s) me (Inside 0 0)); inside = put n.inside me (Some s) }

-- look: at DISABLE_IRQ the CPU turns its interrupts off
abbrev pub looked_by : Standing → ℕ → Standing
looked_by (Inside a l) n = Inside a n
looked_by x n = x

abbrev pub looks_now : Present → ℕ → ℕ → ℕ → Present
looks_now n me s found = record n {
  stop = put n.stop s (stands (n.stop s) me (looked_by ((n.stop s).standing me) found));
  irq = cond (found == DISABLE_IRQ) (put n.irq me false) n.irq;
}

abbrev pub looks : StopState → ℕ → ℕ → ℕ → StopState
looks p me s found = record p { now = looks_now p.now me s found; looks = put p.looks me (p.looks me ++ found ∷ []) }

-- leave: interrupts are on again, and a source of a patch knows its key, where the change tells whether that is on
abbrev pub first_readings : ℕ → ℕ → Work → List Reading
first_readings me s w = cond (is_patch w.kind && s == me) (reading_of w.func (state_left (change_of w.arg))) []

abbrev pub leaves : Present → ℕ → ℕ → Work → Present
leaves n me s w = record n { irq = put n.irq me true; readings = put n.readings me (first_readings me s w) }

-- a patch ends with its runner's acknowledgement
abbrev pub unpatched : ℕ → Patching → Patching
unpatched me Whole = Whole
unpatched me (Patches c w count made rest) = cond (c == me) Whole (Patches c w count made rest)

-- acknowledge the phase that was looked at; the last of all who acknowledge EXIT does not leave yet
abbrev pub acknowledges_now : Present → ℕ → ℕ → ℕ → ℕ → Present
acknowledges_now n me s p found =
    let acked = record n { stop = put n.stop s (acknowledged (n.stop s) me p found); patching = cond (p == RUN) (unpatched me n.patching) n.patching } in
    cond (p == EXIT && not (found == 1)) (leaves acked me s (n.stop s).work) acked

-- a CPU at such a place may call the function of this work: of a stop of kind One, or of its Multi stop at RUN
abbrev pub may_call : ℕ → Work → Standing → Bool
may_call me w (Inside a l) = is_one w.kind || ((a == DISABLE_IRQ && l == RUN) && calls_at_run me w)
may_call me w _ = false

-- with the load of the argument it calls it, and the function gives this answer
abbrev pub calls_now : StopState → ℕ → Work → ℕ → ℕ → StopState
calls_now p me w arg answer = record p { calling = put p.calling me (Calls (record { func = w.func; arg = arg; answer = answer })) }

-- with the acknowledgement of RUN it carries the answer of the function that it has called, or of its patch
abbrev pub carried_call : Calling → Calling
carried_call (Calls call) = Carries call.answer
carried_call f = f

abbrev pub carried : ℕ → Patching → Calling → Calling
carried me Whole f = carried_call f
carried me (Patches c w count made rest) f = cond (c == me) (Carries (patch_answer w count)) (carried_call f)

-- the list of its calls grows by the one that it has made
abbrev pub called_more : (ℕ → List StopCall) → ℕ → Calling → ℕ → List StopCall
called_more calls me (Calls call) = put calls me (calls me ++ call ∷ [])
called_more calls me _ = calls

abbrev pub acknowledges : StopState → ℕ → ℕ → Standing → ℕ → StopState
acknowledges p me s (Inside a l) found = record p {
  now = acknowledges_now p.now me s l found;
  calls = cond (l == RUN) (called_more p.calls me (p.calling me)) p.calls;
  calling = cond (l == RUN) (put p.calling me (carried me p.now.patching (p.calling me))) p.calling;
}
acknowledges p me s _ found = p

-- raise; who raises from EXIT to OVER leaves with it
abbrev pub raises : Present → ℕ → ℕ → ℕ → Present
raises n me s p = cond (p == OVER) (leaves (with_stop n s (raised (n.stop s) p)) me s (n.stop s).work) (with_stop n s (raised (n.stop s) p))

-- an answer that is not 0 goes into the result word
abbrev pub answered_by : Standing → ℕ → Standing
answered_by (Inside a l) v = Answering a v
answered_by x v = x

abbrev pub answers_now : Present → ℕ → ℕ → ℕ → Present
answers_now n me s v = with_stop n s (stands (n.stop s) me (answered_by ((n.stop s).standing me) v))

-- complete, with this answer
abbrev pub completes_with : StopState → ℕ → ℕ → ℕ → ℕ → ℕ → StopState
completes_with p me s a v found = record p {
  now = record (p.now) { stop = put p.now.stop s (completed (p.now.stop s) me a v found); inside = put p.now.inside me None };
  answers = put p.answers me (put (p.answers me) s (p.answers me s ++ v ∷ []));
  calls = called_more p.calls me (p.calling me);
  calling = put p.calling me Idle;
}

-- who has stored no answer completes with 0
abbrev pub completes : StopState → ℕ → ℕ → Standing → ℕ → StopState
completes p me s (Inside a l) found = completes_with p me s a 0 found
completes p me s (Answering a v) found = completes_with p me s a v found
completes p me s _ found = p

-- collect
abbrev pub collects : StopState → ℕ → ℕ → StopState
collects p s result = record p { now = with_stop p.now s (closed (p.now.stop s)); collected = put p.collected s (p.collected s ++ result ∷ []) }

-- a store to a slot: one of its stop where that is open, else one of begin
abbrev pub stored_open : StopState → ℕ → ℕ → Field → ℕ → StopState
stored_open p me s Field.Ack v = record p { now = with_stop p.now s (refilled (p.now.stop s) me) }
stored_open p me s Field.State v = record p { now = raises p.now me s v }
stored_open p me s Field.Result v = record p { now = answers_now p.now me s v }
stored_open p me s Field.Done v = record p { now = with_stop p.now s (ended (p.now.stop s)) }
stored_open p me s _ v = p

abbrev pub stored_shut : StopState → ℕ → Field → ℕ → StopState
stored_shut p s Field.Roll v = opens p s
stored_shut p s f v = record p { now = drafts p.now s f v }

abbrev pub slot_told : StopState → ℕ → ℕ → Act → Field → Option ℕ → Option ℕ → ℕ → StopState
slot_told p me s Act.Store f _ (Some v) answer = cond (p.now.stop s).is_open (stored_open p me s f v) (stored_shut p s f v)
slot_told p me s Act.And Field.Roll (Some found) _ answer = cond (has found me) (record p { now = enters p.now me s }) p
slot_told p me s Act.Load Field.State (Some found) _ answer = looks p me s found
slot_told p me s Act.Load Field.Arg (Some found) _ answer =
    cond (may_call me (p.now.stop s).work ((p.now.stop s).standing me)) (calls_now p me (p.now.stop s).work found answer) p
slot_told p me s Act.Load Field.Result (Some found) _ answer = collects p s found
slot_told p me s Act.Sub Field.Ack (Some found) _ answer = acknowledges p me s ((p.now.stop s).standing me) found
slot_told p me s Act.Sub Field.Todo (Some found) _ answer = completes p me s ((p.now.stop s).standing me) found
slot_told p me s _ _ _ _ answer = p

-- the CPU is at RUN, which it has not acknowledged
abbrev pub is_at_run : Standing → Bool
is_at_run (Inside a l) = a == DISABLE_IRQ && l == RUN
is_at_run _ = false

-- the stores of the patch of this work, where it finds this count
abbrev pub plan_at : Setup → Work → ℕ → List Change
plan_at u w count = plan_of w.func count (count_set w count) u.entries

-- the first load of a patch: what it leads from is the count that is found now
abbrev pub patch_begun : Setup → ℕ → Work → ℕ → Patching
patch_begun u me w found = Patches me w found [] (plan_at u w found)

abbrev pub reads : Present → ℕ → Reading → Present
reads n me r = record n { readings = put n.readings me (n.readings me ++ r ∷ []) }

-- a load of a key: the first of a patch by who is inside one at RUN, else a reading
abbrev pub key_loaded : Setup → Present → ℕ → ℕ → ℕ → Option ℕ → Present
key_loaded u n me k found None = reads n me (ReadKey k (is_on found))
key_loaded u n me k found (Some s) = cond (is_at_run ((n.stop s).standing me) && is_patch (n.stop s).work.kind)
    (record n { patching = patch_begun u me (n.stop s).work found })
    (reads n me (ReadKey k (is_on found)))

-- a store of a patch
abbrev pub patched_more : Patching → Patching
patched_more (Patches c w count made (change ∷ rest)) = Patches c w count (made ++ change ∷ []) rest
patched_more x = x

-- the store of the key moves its count from what the patch has found
abbrev pub key_patched : Patching → (ℕ → ℕ → Moved) → ℕ → ℕ → ℕ → ℕ → ℕ → Moved
key_patched (Patches c w count made rest) f me k new = moved_by f me k count new
key_patched Whole f me k new = f

-- a step on a key: a load, a store of a patch, or a compare-exchange, which tells something where it won
abbrev pub key_told : Setup → StopState → ℕ → ℕ → Act → Option ℕ → Option ℕ → StopState
key_told u p me k Act.Load (Some found) _ = record p { now = key_loaded u p.now me k found (p.now.inside me) }
key_told u p me k Act.Store _ (Some new) =
    record p { now = record (p.now) { patching = patched_more p.now.patching }; patched = key_patched p.now.patching p.patched me k new }
key_told u p me k Act.Cas (Some found) (Some new) = record p { nudged = moved_by p.nudged me k found new }
key_told u p me k _ _ _ = p

-- a step on a site
abbrev pub site_told : Present → ℕ → Act → ℕ → Option ℕ → Present
site_told n me Act.Load i (Some found) = reads n me (ReadSite i (is_on found))
site_told n me Act.Store i _ = record n { patching = patched_more n.patching }
site_told n me _ _ _ = n

abbrev pub told : Setup → StopState → ℕ → Act → Word → Option ℕ → Option ℕ → ℕ → StopState
told u p me act Gate found new answer = gate_told p me act new
told u p me act (Slot s f) found new answer = slot_told p me s act f found new answer
told u p me act (Key k) found new answer = key_told u p me k act found new
told u p me act (Site i) found new answer = record p { now = site_told p.now me act i found }
told u p me act _ found new answer = p

-- the state after a step that was seen, where the CPU's function has answered so
abbrev pub tells : Setup → StopState → Seen → ℕ → StopState
tells u p seen answer = told u p seen.cpu seen.act seen.word seen.found seen.put answer

-- the state after all of these, with an answer for each
abbrev pub tells_all : Setup → StopState → List Seen → List ℕ → StopState
tells_all u p (seen ∷ rest) (answer ∷ more) = tells_all u (tells u p seen answer) rest more
tells_all u p _ _ = p

-- the state after a step, where one was seen
abbrev pub tells_if : Setup → StopState → Option Seen → ℕ → StopState
tells_if u p None answer = p
tells_if u p (Some seen) answer = tells u p seen answer
