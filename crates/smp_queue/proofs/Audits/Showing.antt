-- What a CPU knows is its part of calls that keep all laws.
use Rattle.std.proofs.Common.{◌≡◌, ℕ, zero, suc, ◌<◌, ◌⊎◌, Bool, true, false, None, List, [], ◌∷◌, get_or, sym, refl, ap, subst, ◌∙◌, inl, inr}
use Rattle.std.proofs.Common.{true≢false}
use Rattle.std.specs.List.{AllByRecursion}
use Rattle.smp_words.specs.Size.{cpus, records}
use Rattle.smp_call_steps.specs.Calls.{CallState, no_calls}
use Rattle.smp_call_steps.specs.Shows.{Shows}
use Rattle.smp_call_steps.specs.Stages.{ControlValue}
use Rattle.smp_call_steps.specs.Words.{IsEmpty, IsNoticed, is_pending, is_accepted, is_owed, nexts_in}
use Rattle.smp_queue.proofs.Empty.{not_pending}
use Rattle.smp_call_steps.specs.HaveRun.{HasRunAt}
use Rattle.smp_mask.specs.Mask.{has}
use Rattle.smp_call_steps.specs.Threads.Known.{Lives}
use Rattle.smp_call_steps.specs.Threads.Parts.{row, part_of}
use Rattle.smp_call_steps.proofs.Basics.Alls.{every}
use Rattle.smp_call_steps.proofs.Basics.Rows.{row-at}
use Rattle.smp_call_steps.proofs.State.Batches.{no_chain}
use Rattle.smp_call_steps.proofs.Knows.Restages.{free_outside}
use Rattle.smp_call_steps.proofs.State.Counts.{confirmed_calls_ran}
use Rattle.smp_call_steps.proofs.State.HaveRun.{confirmed_sync_calls_ended, confirmed_calls_have_run}
use Rattle.smp_queue.specs.Serving.{IsOut, running_as}
use Rattle.smp_queue.specs.Out.{IsShownOut}
use Rattle.smp_queue.specs.{Call, Word, Head, CallPart, cpu_of, SeatValue, SeatInvariant, HaveRunFor, IsQuiet, HasNothingToTake, IsSeenTo, CallsAreShown}

row-true : (n i : ℕ) (f : ℕ → Bool) → get_or (row n f) i false ≡ true → f i ≡ true
unfolding row
row-true zero i f e = cc
row-true (suc n) zero f e = e
row-true (suc n) (suc i) f e = row-true n i (λ k. f (suc k)) e

have_run : (d : SeatValue) (l : Lives d.known) → HaveRunFor l.calls (cpu_of d)
have_run d l =
    subst (λ (p : CallPart). AllByRecursion
    (λ sending. get_or p.confirmed sending.call.id false ≡ true → HasRunAt l.calls sending.to sending.call sending.call.class) p.sent) l.sees.part
    (every (λ sending. l.calls.confirmed d.known.number sending.call.id ≡ true → HasRunAt l.calls sending.to sending.call sending.call.class)
    (λ sending. get_or (row records (l.calls.confirmed d.known.number)) sending.call.id false ≡ true
    → HasRunAt l.calls sending.to sending.call sending.call.class)
    (λ sending h e. h (row-true records sending.call.id (l.calls.confirmed d.known.number) e))
    (l.calls.sent d.known.number)
    (confirmed_calls_have_run l.calls l.at l.controls l.shown d.known.number))

-- where the head is nil and the interrupt word 0, the queue is empty and nothing is pending
nothing_to_take : {a : CallState} {at : Word → ℕ} {control : ℕ → ControlValue} → Shows a at control → (cpu : ℕ) → IsQuiet at cpu → HasNothingToTake a cpu
nothing_to_take {a} {at} {control} s cpu q = (
  no_chain (nexts_in at) (at (Head cpu)) (a.queue cpu) q.0 (s.chained.chain cpu),
  not_pending (a.pending cpu) (sym q.1 ∙ s.noticed.words cpu),
)

empty_is : (calls : List Call) → IsEmpty calls → calls ≡ []
empty_is [] e = refl
empty_is (call ∷ rest) e = absurd e

-- a CPU that is not online owes no interrupt
owes_none : (a : CallState) (source cpu : ℕ) → cpu < cpus → part_of a source ≡ part_of no_calls source → a.owes source cpu ≡ true → ⊥
owes_none a source cpu small same e = true≢false (sym (row-at cpus cpu (a.owes source) false small ∙ e)
    ∙ (ap (λ (p : CallPart). get_or p.owes cpu false) same ∙ row-at cpus cpu (λ _. false) false small))

seen_to_in : (d : SeatValue) (s : SeatInvariant d.known) (cpu : ℕ) → cpu < cpus
    → IsEmpty (s.lives.calls.queue cpu) ⊎ IsNoticed s.lives.calls.pending s.lives.calls.accepted s.lives.calls.owes cpu
    → IsSeenTo d.known.setting.online s.lives.calls cpu
seen_to_in d s cpu small (inl e) = inl (empty_is (s.lives.calls.queue cpu) e)
seen_to_in d s cpu small (inr (is_pending e)) = inr (inl e)
seen_to_in d s cpu small (inr (is_accepted e)) = inr (inr (inl e))
seen_to_in d s cpu small (inr (is_owed source e)) = inr (inr (inr (source, owed_online (has d.known.setting.online source) refl, e)))
  where
    owed_online : (b : Bool) → has d.known.setting.online source ≡ b → has d.known.setting.online source ≡ true
    owed_online true f = f
    owed_online false f = absurd (let sees = s.offline source f in owes_none s.lives.calls source cpu small sees.part e)

pub is_shown : (d : SeatValue) → SeatInvariant d.known → has d.known.setting.online d.known.number ≡ true → d.known.stage ≡ None → CallsAreShown (cpu_of d)
is_shown d s o e = let l = s.lives in record {
  calls = l.calls;
  reached = l.reached;
  at = l.at;
  controls = l.controls;
  shown = l.shown;
  below = s.below;
  online = o;
  absent = λ cpu far. let sees = s.absent cpu far in sees.part;
  offline = λ cpu off. let sees = s.offline cpu off in sees.part;
  quiet = λ cpu off. nothing_to_take l.shown cpu (s.quiet cpu off);
  seen_to = λ cpu small. seen_to_in d s cpu small (l.shown.noticed.noticed cpu);
  outside = l.sees.stage ∙ e;
  are_free = λ id own small conf. free_outside l.shown l.sees id own small e conf;
  confirmed_ran = confirmed_calls_ran l.shown;
  confirmed_ended = confirmed_sync_calls_ended l.calls l.at l.controls l.shown;
  have_run = have_run d l;
  view = λ i. record (cpu_of d) { part = sym l.sees.part i };
}

pub is_shown_out : (d : SeatValue) (call : Call) (number : ℕ) → IsOut d.known call → d.known.number ≡ number → has d.known.setting.online number ≡ true
    → d.known.part.running ≡ running_as call → IsShownOut (record { cpu = cpu_of d; call = call })
is_shown_out d call number out n o r = let s = out.0 in let l = s.lives in record {
  calls = l.calls;
  reached = l.reached;
  at = l.at;
  controls = l.controls;
  shown = l.shown;
  below = s.below;
  online = ap (has d.known.setting.online) n ∙ o;
  absent = λ cpu far. let sees = s.absent cpu far in sees.part;
  offline = λ cpu off. let sees = s.offline cpu off in sees.part;
  quiet = λ cpu off. nothing_to_take l.shown cpu (s.quiet cpu off);
  running = ap (λ (p : CallPart). p.running) l.sees.part ∙ r;
  out = out.1;
  view = λ i. record (cpu_of d) { part = sym l.sees.part i };
}
