-- What each event makes of the state, or the first of its premises that does not hold.
use Rattle.std.specs.Prelude.{◌≡◌, ℕ, Bool, true, false, nat_lt, if◌then◌else◌, Result, Ok, Err}
use Rattle.smp_words.specs.FirstFault.{◌>>=◌}
use Rattle.smp_labels.specs.declared.patch.Place.TheVariants.{Key, Site}
use Rattle.smp_labels.specs.declared.words.LabelWords.{LabelWords}
use Rattle.trace_model.specs.declared.event.CallEvent.{CallEvent}
use Rattle.trace_model.specs.declared.event.CallEvent.TheVariants as calls
use Rattle.trace_model.specs.declared.event.StopEvent.{StopEvent}
use Rattle.trace_model.specs.declared.event.StopEvent.TheVariants as stops
use Rattle.trace_model.specs.declared.event.LabelEvent.{LabelEvent}
use Rattle.trace_model.specs.declared.event.LabelEvent.TheVariants as labels
use Rattle.trace_model.specs.declared.event.Event.{Event}
use Rattle.trace_model.specs.declared.event.Event.TheVariants as event
use Rattle.trace_model.specs.declared.reason.Reason.{Reason}
use Rattle.trace_model.specs.declared.reason.Reason.TheVariants as reason
use Rattle.trace_model.specs.Calls.{accept_by, begin_by, end_by, idle_by, other_by, queue_by, send_by, take_by, unlock_by}
use Rattle.trace_model.specs.Labels.{nudged, read_key, read_site}
use Rattle.trace_model.specs.State.{StateValue, cpu_at, freed}
use Rattle.trace_model.specs.Stops.{ack_by, collect_by, complete_by, enter_by, gate_by, off_by, on_by, open_by, patch_by, raise_by, run_by, ungate_by}

-- a CPU reads with its interrupts on
abbrev pub reads_by : ℕ → StateValue → Result (Unit {0}) Reason
reads_by cpu s = if (cpu_at s cpu).irq then Ok tt else Err reason.InterruptsOff

abbrev pub key_by : ℕ → ℕ → Bool → StateValue → Result (Unit {0}) Reason
key_by cpu key on s = reads_by cpu s >>= λ u. read_key s.words key on

abbrev pub site_by : ℕ → ℕ → Bool → StateValue → Result (Unit {0}) Reason
site_by cpu site jumps s = reads_by cpu s >>= λ u. read_site s.words site jumps

-- a count is changed by one outside a patch
abbrev pub nudged_word : ℕ → Bool → StateValue → Result StateValue Reason
nudged_word key up s = nudged key up s.words >>= λ words. Ok (record s { words = words })

abbrev pub nudge_by : ℕ → ℕ → Bool → StateValue → Result StateValue Reason
nudge_by cpu key up s = reads_by cpu s >>= λ u. nudged_word key up s

-- an event of calls
unfoldable pub call_goes : ℕ → CallEvent → StateValue → Result StateValue Reason
call_goes cpu (calls.Queue id to class func info) s = Ok s
call_goes cpu (calls.QueueOther to node) s = other_by cpu to s
call_goes cpu (calls.Free id) s = freed id s
call_goes cpu (calls.Send to) s = send_by cpu to s
call_goes cpu calls.Accept s = accept_by cpu s
call_goes cpu calls.Idle s = idle_by cpu s >>= λ u. Ok s
call_goes cpu calls.Take s = Ok s
call_goes cpu (calls.Unlock id) s = unlock_by cpu id s
call_goes cpu (calls.Begin id func info) s = begin_by cpu (record { id = id; func = func; info = info }) s
call_goes cpu (calls.End id) s = end_by cpu id s

-- what a CPU does in a stop
unfoldable pub inside_goes : ℕ → StopEvent → StateValue → Result StateValue Reason
inside_goes cpu (stops.Enter number) s = enter_by cpu number s
inside_goes cpu (stops.Ack phase) s = ack_by cpu phase s
inside_goes cpu (stops.Raise phase) s = raise_by cpu phase s
inside_goes cpu stops.Off s = off_by cpu s
inside_goes cpu stops.On s = on_by cpu s
inside_goes cpu (stops.Run func arg) s = run_by cpu func arg s
inside_goes cpu (stops.Complete answer) s = complete_by cpu answer s
inside_goes cpu _ s = Ok s

-- it is one of the CPUs below 32
abbrev pub if_low : ℕ → Result StateValue Reason → Result StateValue Reason
if_low cpu made = if nat_lt cpu 32 then made else Err reason.NoSuchWork

-- an event of stops: any CPU takes and gives the gate, opens and collects
unfoldable pub stop_goes : ℕ → StopEvent → StateValue → Result StateValue Reason
stop_goes cpu stops.Gate s = gate_by cpu s
stop_goes cpu stops.Ungate s = ungate_by cpu s
stop_goes cpu (stops.Open number task) s = open_by cpu number task s
stop_goes cpu (stops.Collect number answer) s = collect_by number answer s
stop_goes cpu stop s = if_low cpu (inside_goes cpu stop s)

-- the word of a site that jumps, or does not
abbrev pub site_word : Bool → ℕ
site_word jumps = if jumps then 1 else 0

-- an event of keys and sites, of a CPU below 32
unfoldable pub label_goes : ℕ → LabelEvent → StateValue → Result StateValue Reason
label_goes cpu (labels.Set key count) s = patch_by cpu (Key key) count s
label_goes cpu (labels.Turn site jumps) s = patch_by cpu (Site site) (site_word jumps) s
label_goes cpu (labels.Key key on) s = key_by cpu key on s >>= λ u. Ok s
label_goes cpu (labels.Site site jumps) s = site_by cpu site jumps s >>= λ u. Ok s
label_goes cpu (labels.Nudge key up) s = nudge_by cpu key up s

-- an event of a CPU: the state after it, or the first of its premises that does not hold
abbrev pub goes : ℕ → Event → StateValue → Result StateValue Reason
goes cpu (event.Call (calls.Queue id to class func info)) s = queue_by (record { source = cpu; id = id; class = class; func = func; info = info }) to s
goes cpu (event.Call calls.Take) s = take_by cpu s
goes cpu (event.Call call) s = call_goes cpu call s
goes cpu (event.Stop stop) s = stop_goes cpu stop s
goes cpu (event.Label label) s = if_low cpu (label_goes cpu label s)
