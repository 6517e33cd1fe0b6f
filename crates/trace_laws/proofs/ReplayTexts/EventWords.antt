-- The words of an event, and that they read back.
use Rattle.trace_laws.proofs.Names.{Bool, CallEvent, Event, LabelEvent, List, Ok, Setting, StopEvent, [], and_right, append_assoc, arith, codes, decimal, false}
use Rattle.trace_laws.proofs.Names.{join_with_byte, list_all, nat_tests, refl, true, ℕ, ◌<◌, ◌∷◌, ◌≡◌, ◌≤◌}
use Rattle.trace_laws.proofs.ReplayNames.{EventFits, StopFits, class_text, is_field, is_field-decimal, kind_text, mask_text, nothing_left_out, site_text}
use Rattle.trace_laws.proofs.ReplayNames.{switch_text, way_text}
use Rattle.std.specs.Fmt.{signed_decimal}
use Rattle.smp_script.proofs.{Texts.Decimals.number_in-decimal, Written.CanonicalTexts.mask_is_text}
use Rattle.smp_script.proofs.Written.LineWriting.{class_written, kind_written, signed_field, signed_read, switch_written, way_written}
use Rattle.trace_model.specs.declared.event.CallEvent.TheVariants as calls
use Rattle.trace_model.specs.declared.event.Event.TheVariants as event
use Rattle.trace_model.specs.declared.event.LabelEvent.TheVariants as labels
use Rattle.trace_model.specs.declared.event.StopEvent.TheVariants as stops
use Rattle.trace_judge.specs.{Reading.below, Reading.jump_of, Reading.named_of, Reading.own_stop}
use Rattle.trace_events.specs.Text.{event_text, node_text}
use Rattle.trace_laws.specs.{ReplayTexts.CallFits, ReplayTexts.LabelFits}

-- a trace is of version 2 and leaves nothing out, and its keys and sites have numbers of 32 bits
pub record TakesAll (u : Setting) : Type 0 where
  pub second : u.is_third ≡ false
  pub whole : u.without ≡ nothing_left_out
  pub keys : u.keys ≤ 4294967295
  pub sites : u.sites ≤ 4294967295

-- the name of an event, and what is behind it
pub record Words : Type 0 where
  pub name : List ℕ
  pub arguments : List (List ℕ)

abbrev pub call_words : CallEvent → Words
call_words (calls.Queue id to class func info) =
    record { name = codes "queue"; arguments = decimal id ∷ decimal to ∷ class_text class ∷ decimal func ∷ decimal info ∷ [] }
call_words (calls.QueueOther to node) = record { name = codes "queue"; arguments = decimal to ∷ node_text node ∷ [] }
call_words (calls.Free id) = record { name = codes "free"; arguments = decimal id ∷ [] }
call_words (calls.Send to) = record { name = codes "send"; arguments = decimal to ∷ [] }
call_words calls.Accept = record { name = codes "accept"; arguments = [] }
call_words calls.Idle = record { name = codes "idle"; arguments = [] }
call_words calls.Take = record { name = codes "take"; arguments = [] }
call_words (calls.Unlock id) = record { name = codes "unlock"; arguments = decimal id ∷ [] }
call_words (calls.Begin id func info) = record { name = codes "begin"; arguments = decimal id ∷ decimal func ∷ decimal info ∷ [] }
call_words (calls.End id) = record { name = codes "end"; arguments = decimal id ∷ [] }

abbrev pub stop_words : StopEvent → Words
stop_words stops.Gate = record { name = codes "gate"; arguments = [] }
stop_words stops.Ungate = record { name = codes "ungate"; arguments = [] }
stop_words (stops.Open number t) =
    record { name = codes "open"; arguments = kind_text t.kind ∷ mask_text t.mask ∷ mask_text t.active ∷ decimal t.func ∷ decimal t.arg ∷ [] }
stop_words (stops.Enter number) = record { name = codes "enter"; arguments = decimal number ∷ [] }
stop_words (stops.Ack phase) = record { name = codes "ack"; arguments = decimal phase ∷ [] }
stop_words (stops.Raise phase) = record { name = codes "raise"; arguments = decimal phase ∷ [] }
stop_words stops.Off = record { name = codes "off"; arguments = [] }
stop_words stops.On = record { name = codes "on"; arguments = [] }
stop_words (stops.Run func arg) = record { name = codes "run"; arguments = decimal func ∷ decimal arg ∷ [] }
stop_words (stops.Complete answer) = record { name = codes "complete"; arguments = signed_decimal answer ∷ [] }
stop_words (stops.Collect number answer) = record { name = codes "collect"; arguments = signed_decimal answer ∷ [] }

abbrev pub label_words : LabelEvent → Words
label_words (labels.Set key count) = record { name = codes "set"; arguments = decimal key ∷ decimal count ∷ [] }
label_words (labels.Turn site jumps) = record { name = codes "turn"; arguments = decimal site ∷ site_text jumps ∷ [] }
label_words (labels.Key key on) = record { name = codes "key"; arguments = decimal key ∷ switch_text on ∷ [] }
label_words (labels.Site site jumps) = record { name = codes "site"; arguments = decimal site ∷ site_text jumps ∷ [] }
label_words (labels.Nudge key up) = record { name = codes "nudge"; arguments = decimal key ∷ way_text up ∷ [] }

abbrev pub words_of : Event → Words
words_of (event.Call call) = call_words call
words_of (event.Stop stop) = stop_words stop
words_of (event.Label label) = label_words label

pub joined_words : (e : Event) → event_text e ≡ join_with_byte 32 ((words_of e).name ∷ (words_of e).arguments)
joined_words e = search (append_assoc, arith)

-- the name of what a site has is a field, and is read as that
site_written : (jumps : Bool) → (is_field (site_text jumps) ≡ true) × (jump_of (site_text jumps) ≡ Ok jumps)
site_written jumps = search arith

-- words that are fields, and are read as the event, with 0 for the number of its CPU's stop
pub record Reads (u : Setting) (w : Words) (e : Event) : Type 0 where
  pub fields : list_all is_field (w.name ∷ w.arguments) ≡ true
  pub read : named_of u w.name w.arguments ≡ Ok (Ok (own_stop 0 e))

-- a number below a limit is read
below_told : (limit n : ℕ) → limit ≤ 4294967295 → n < limit → below limit (decimal n) ≡ Ok n
below_told limit n few small = search (number_in-decimal, nat_tests, arith)

ruleset numbers = (is_field-decimal, number_in-decimal)

call_reads : (u : Setting) (e : CallEvent) → u.is_third ≡ false → u.without ≡ nothing_left_out → CallFits e → Reads u (call_words e) (event.Call e)
unfolding named_of
call_reads u (calls.Queue id to class func info) second whole f =
    let c = class_written class in
    record { fields = search (numbers, c.0, arith); read = rw second (search (numbers, c.1, and_right, arith)) }
call_reads u (calls.QueueOther to node) second whole f = absurd f
call_reads u (calls.Send to) second whole f = record { fields = search (numbers, arith); read = rw whole (search (numbers, arith)) }
call_reads u (calls.Unlock id) second whole f = record { fields = search (numbers, arith); read = rw whole (search (numbers, arith)) }
call_reads u calls.Accept second whole f = record { fields = refl; read = rw whole refl }
call_reads u calls.Idle second whole f = record { fields = refl; read = rw whole refl }
call_reads u calls.Take second whole f = record { fields = refl; read = rw whole refl }
call_reads u _ second whole f = record { fields = search (numbers, arith); read = search (numbers, arith) }

stop_reads : (u : Setting) (e : StopEvent) → u.is_third ≡ false → u.without ≡ nothing_left_out → StopFits e → Reads u (stop_words e) (event.Stop e)
unfolding named_of
stop_reads u (stops.Open number t) second whole (m, a, f, g) =
    let k = kind_written t.kind in
    let x = mask_is_text 32 t.mask (omega arith) m in
    let y = mask_is_text 32 t.active (omega arith) a in
    record { fields = search (numbers, k.0, x.field, y.field, arith); read = rw second (search (numbers, k.1, x.reads, y.reads, arith)) }
stop_reads u (stops.Enter number) second whole f = record { fields = search (numbers, arith); read = search (numbers, arith) }
stop_reads u (stops.Ack phase) second whole f = record { fields = search (numbers, arith); read = search (numbers, arith) }
stop_reads u (stops.Raise phase) second whole f = record { fields = search (numbers, arith); read = rw whole (search (numbers, arith)) }
stop_reads u (stops.Run func arg) second whole f = record { fields = search (numbers, arith); read = search (numbers, arith) }
stop_reads u (stops.Complete answer) second whole f = record { fields = rw (signed_field answer f) refl; read = rw (signed_read answer f) refl }
stop_reads u (stops.Collect number answer) second whole f =
    record { fields = rw (signed_field answer f) refl; read = rw (second, signed_read answer f) refl }
stop_reads u _ second whole f = record { fields = refl; read = rw whole refl }

label_reads : (u : Setting) (e : LabelEvent) → u.keys ≤ 4294967295 → u.sites ≤ 4294967295 → LabelFits u e
    → Reads u (label_words e) (event.Label e)
unfolding named_of
label_reads u (labels.Set key count) few sites f =
    record { fields = search (numbers, arith); read = search (below_told u.keys key few f.0, numbers, arith) }
label_reads u (labels.Turn site jumps) few sites f =
    let w = site_written jumps in
    record { fields = search (numbers, w.0, arith); read = rw (w.1, below_told u.sites site sites f) refl }
label_reads u (labels.Key key on) few sites f =
    let w = switch_written on in
    record { fields = search (numbers, w.0, arith); read = rw (w.1, below_told u.keys key few f) refl }
label_reads u (labels.Site site jumps) few sites f =
    let w = site_written jumps in
    record { fields = search (numbers, w.0, arith); read = rw (w.1, below_told u.sites site sites f) refl }
label_reads u (labels.Nudge key up) few sites f =
    let w = way_written up in
    record { fields = search (numbers, w.0, arith); read = rw (w.1, below_told u.keys key few f) refl }

-- the words of an event are read as it
pub words_read : (u : Setting) (e : Event) → u.is_third ≡ false → u.without ≡ nothing_left_out → u.keys ≤ 4294967295 → u.sites ≤ 4294967295 → EventFits u e
    → Reads u (words_of e) e
words_read u (event.Call call) second whole few sites f = call_reads u call second whole f
words_read u (event.Stop stop) second whole few sites f = stop_reads u stop second whole f
words_read u (event.Label label) second whole few sites f = label_reads u label few sites f
