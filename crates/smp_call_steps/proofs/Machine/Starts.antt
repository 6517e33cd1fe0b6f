-- A command of the call half that may start begins where it should, and changes no call.
use Rattle.std.proofs.Common.{◌≡◌, ℕ, ◌<◌, Bool, true, false, not, nat_lt, cond, Option, Some, None, List, arith, replicate}
use Rattle.std.proofs.lemmas.Bool.{ltb-true, le-ltb, cases_lt, and_parts}
use Rattle.smp_mask.specs.Mask.{has}
use Rattle.smp_mask.specs.declared.error.SmpError.{SmpError}
use Rattle.smp_words.specs.Size.{cpus, table_size, records_of_one}
use Rattle.smp_words.specs.Put.{put}
use Rattle.smp_words.specs.Layout.{index_of, number_in}
use Rattle.smp_call_steps.specs.{CallState, no_calls, DrainValue, ControlValue, command_refusal, first_stage, control_at, NamesRecord, Share, share_of}
use Rattle.smp_call_steps.specs.{StandsAt, held_of, HandIs, ValuesShow, control_of, outside, hands_in, Word, RecPlace}
use Rattle.smp_words.specs.Limits.{AreLimits}
use Rattle.smp_call_steps.specs.Start.{has_record}
use Rattle.smp_words.specs.Commands.{FitsCommand}
use Rattle.smp_call_steps.specs.Stands.{CallStands}
use Rattle.smp_call_steps.specs.Shows.{Shows}
use Rattle.smp_words.proofs.Puts.{put_all}
use Rattle.smp_words.proofs.Sizes.{owner-of_record, record_of-below}
use Rattle.smp_words.specs.declared.command.Command.{Command}
use Rattle.smp_words.proofs.Zeros.{get_or-same, zero_at}
use Rattle.smp_words.specs.declared.command.Command.TheVariants as command

pub else_none : (b : Bool) (x : Option SmpError) (y : SmpError) → cond b x (Some y) ≡ None → (b ≡ true) × (x ≡ None)
else_none x y z e = search arith

pub then_none : (b : Bool) (y : SmpError) → cond b (Some y) None ≡ None → b ≡ false
then_none x y e = search arith

pub not_false : (x : Bool) → not x ≡ false → x ≡ true
not_false x e = search arith

-- a CPU that is online is one that there can be
pub online_below : (nr online cpu : ℕ) → AreLimits nr online → has online cpu ≡ true → cpu < cpus
online_below nr online cpu l e = let below = l.below cpu e in let within = l.within in omega arith

begins_empty : (online cpu : ℕ) (c : Command) → held_of (first_stage online cpu c) ≡ None
begins_empty online cpu x = search arith

begins_outside : (online cpu : ℕ) (c : Command) (hand : ℕ) → hand ≡ 0 → HandIs (first_stage online cpu c) hand
begins_outside online cpu x hand e = search arith

-- a record that a source has is one of its local numbers
pub record_below : (nr k : ℕ) → has_record nr k ≡ true → k < records_of_one
record_below nr k e = search (cases_lt, le-ltb, ltb-true, and_parts, arith)

-- a command that may start names a record that there is
pub names_record : (nr online cpu : ℕ) (c : Command) → command_refusal nr online cpu c ≡ None → NamesRecord c
names_record nr online cpu x e = search (then_none, ltb-true, not_false, record_below, else_none, arith)

begins : (nr online : ℕ) (places : ℕ → RecPlace) (at : Word → ℕ) (s : Share) (d : DrainValue) (cpu : ℕ) (c : Command) → AreLimits nr online → cpu < cpus
    → command_refusal nr online cpu c ≡ None → FitsCommand c →
    StandsAt places at s d cpu None → StandsAt places at s d cpu (first_stage online cpu c)
begins nr online places at s d cpu (command.Post k to class func info tries) limits l e f h =
    let one = not (nat_lt k records_of_one) in
    search (one, then_none, ltb-true, not_false, owner-of_record, record_of-below, online_below, arith)
begins nr online places at s d cpu (command.Send to) limits l e f h = (h, online_below nr online to limits (else_none (has online to) None _ e).0, l)
begins nr online places at s d cpu (command.Done k) limits l e f h = search (record_below, else_none, owner-of_record, record_of-below, arith)
begins nr online places at s d cpu command.Handle limits l e f h = (l, h)
begins nr online places at s d cpu _ limits l e f h = h

module _ (nr online : ℕ) {a : CallState} {at : Word → ℕ} {control : ℕ → ControlValue} (cpu : ℕ) (c : Command) (shows : Shows a at control)
    (outside_now : (control cpu).stage ≡ None) where
  begun_stands : AreLimits nr online → cpu < cpus → command_refusal nr online cpu c ≡ None → FitsCommand c
      → CallStands a.place at (share_of a cpu) cpu (control_at (control cpu) (first_stage online cpu c))
  begun_stands limits l e f =
      let h : StandsAt a.place at (share_of a cpu) (control cpu).drain cpu None = rw outside_now at (shows.stands cpu) in
      begins nr online a.place at (share_of a cpu) (control cpu).drain cpu c limits l e f h

  pub begun_shows : AreLimits nr online → cpu < cpus → command_refusal nr online cpu c ≡ None → FitsCommand c
      → Shows a at (put control cpu (control_at (control cpu) (first_stage online cpu c)))
  begun_shows limits l e f =
      let next = control_at (control cpu) (first_stage online cpu c) in
      let hand : hands_in at cpu ≡ 0 = rw outside_now at (shows.hands cpu) in
      record {
        held = search (put_all, begins_empty, arith);
        stands = search (put_all, begun_stands, arith);
        hands = search (put_all, begins_outside, arith);
        placed = shows.placed;
        written = shows.written;
        chained = shows.chained;
        links = shows.links;
        noticed = shows.noticed;
        recorded = shows.recorded;
        tallied = shows.tallied;
      }

-- words that are all 0, with each CPU outside, show no calls
pub zeros_shown : (at : Word → ℕ) (control : ℕ → ControlValue) → ((w : Word) → at w ≡ 0) → ((cpu : ℕ) → control cpu ≡ outside) → Shows no_calls at control
zeros_shown at control z n = search arith

-- a table of zeros, with each CPU outside, shows no calls
pub new_shown : (words : List ℕ) (controls : List ControlValue) → words ≡ replicate table_size 0 → controls ≡ replicate cpus outside
    → ValuesShow no_calls words controls
new_shown words controls e f =
    zeros_shown (number_in words) (control_of controls) (λ w. rw e (zero_at table_size (index_of w))) (λ cpu. rw f (get_or-same outside cpus cpu))
