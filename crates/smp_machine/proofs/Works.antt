-- One stretch of work after another.
use Rattle.std.proofs.Common.{◌≡◌, ℕ, List, [], ◌∷◌, ◌++◌, map, append_assoc, refl, sym, ap, ◌∙◌, subst}
use Rattle.std.specs.List.{FoldsTo}
use Rattle.std.proofs.lemmas.List.{append-nil, map-append}
use Rattle.smp_queue.specs.Cpu.{CpuValue as CallCpuValue}
use Rattle.smp_queue.specs.declared.handler.Heard.{Heard}
use Rattle.smp_calls.specs.Handles.{Handles}
use Rattle.smp_calls.proofs.Turns.{handles_none, handles_then}
use Rattle.smp_multi.specs.Names.{StopCall}
use Rattle.smp_multi.specs.declared.func.Called.{Called}
use Rattle.smp_machine.specs.Looks.{HearsOn}
use Rattle.smp_machine.specs.Own.{Own, own_of}
use Rattle.smp_machine.specs.MachineCpu.{MachineValue, MachineCpuValue, IsAt}
use Rattle.smp_machine.specs.OwnAnswers.{OwnAnswers}
use Rattle.smp_machine.specs.Served.{IsLater, Serves}
use Rattle.smp_machine.specs.Works.{handled_calls, stop_call, HasRunStops, Works}
use Rattle.smp_machine.proofs.Looks.{lists_none, lists_then, hears_none, hears_then}
use Rattle.smp_machine.proofs.OwnAnswers.{own_still, own_then}
use Rattle.smp_machine.proofs.Served.{later_same, later_then, serves_still, serves_then}

folds-append : {P A : Type 0} (R : P → A → P → Type 0) (xs ys : List A) (p q r : P) → FoldsTo R p xs q → FoldsTo R q ys r → FoldsTo R p (xs ++ ys) r
folds-append R [] ys p q r e f = subst (λ z. FoldsTo R z ys r) (sym e) f
folds-append R (x ∷ xs) ys p q r e f = (e.0, e.1, folds-append R xs ys e.0 q r e.2 f)

kept_then : (old mid new : CallCpuValue) → mid ≡ handled_calls old mid → new ≡ handled_calls mid new → new ≡ handled_calls old new
kept_then old mid new f l = l ∙ ap (λ (x : CallCpuValue). handled_calls x new) f

-- the calls of two stretches
ran_then : (old mid new : List StopCall) (xs ys : List Called) → mid ≡ old ++ map stop_call xs → new ≡ mid ++ map stop_call ys
    → new ≡ old ++ map stop_call (xs ++ ys)
ran_then old mid new xs ys e f =
    f ∙ (ap (λ (l : List StopCall). l ++ map stop_call ys) e ∙ (append_assoc old (map stop_call xs) (map stop_call ys)
    ∙ ap (λ (l : List StopCall). old ++ l) (sym (map-append stop_call xs ys))))

module _ {H F : Type 0} (hears : H → Heard → H → Type 0) (leads : F → Called → F → Type 0) where
  -- only what its own stop calls change has changed, or what it has taken
  pub works_own : (old new : MachineCpuValue) (h : H) (f : F) → new.calls ≡ old.calls → IsLater old.stops new.stops
      → new.stops.part.calls ≡ old.stops.part.calls → new.passes.queues ≡ old.passes.queues → new.passes.number ≡ old.passes.number
      → Serves old new → OwnAnswers old.stops new.stops → HearsOn old new → Works hears leads old h f new h f (own_of new)
  works_own old new h f calls later ran queues passes_number serves mine heard = record {
    calls_kept = subst (λ (x : CallCpuValue). x ≡ handled_calls old.calls x) (sym calls) refl;
    looks = lists_none old.calls new.calls calls;
    handled = subst (λ (x : CallCpuValue). Handles hears old.calls h x h) (sym calls) (handles_none hears old.calls h);
    heard = heard;
    table_is = later.table_is;
    setting_is = later.setting_is;
    number_is = later.number_is;
    ran = [];
    calls_are = ran ∙ sym (append-nil old.stops.part.calls);
    grows = refl;
    queues_are = queues;
    passes_number = passes_number;
    later = later;
    serves = serves;
    mine = mine;
    own_is = refl;
  }

  -- no work was taken
  pub works_still : (old new : MachineCpuValue) (h : H) (f : F) → new.calls ≡ old.calls → IsLater old.stops new.stops
      → new.stops.part.calls ≡ old.stops.part.calls → new.stops.part.answers ≡ old.stops.part.answers → new.stops.inside ≡ old.stops.inside
      → new.stops.attempts ≡ old.stops.attempts → new.passes.queues ≡ old.passes.queues → new.passes.number ≡ old.passes.number
      → new.passes.taken ≡ old.passes.taken → OwnAnswers old.stops new.stops → HearsOn old new → Works hears leads old h f new h f (own_of new)
  works_still old new h f calls later ran answers inside attempts queues passes_number taken mine heard =
      works_own old new h f calls later ran queues passes_number (serves_still old new taken answers inside attempts) mine heard

  -- nothing was done
  pub works_none : (p : MachineCpuValue) (h : H) (f : F) → Works hears leads p h f p h f (own_of p)
  works_none p h f = works_still p p h f refl (later_same p.stops) refl refl refl refl refl refl refl
      (own_still p.stops p.stops refl refl refl refl (λ _ e _. e) refl) (hears_none p p refl refl refl refl)

  -- one stretch, and then another
  pub works_then : {old mid new : MachineCpuValue} {h h₁ h₂ : H} {f f₁ f₂ : F} {own own' : Own} → Works hears leads old h f mid h₁ f₁ own
      → Works hears leads mid h₁ f₁ new h₂ f₂ own' → Works hears leads old h f new h₂ f₂ own'
  works_then {old} {mid} {new} {h} {h₁} {h₂} {f} {f₁} {f₂} a b = record {
    calls_kept = kept_then old.calls mid.calls new.calls a.calls_kept b.calls_kept;
    looks = lists_then old.calls mid.calls new.calls (ap (λ (x : CallCpuValue). x.steps) a.calls_kept) a.looks b.looks;
    handled = handles_then hears old.calls mid.calls new.calls h h₁ h₂ a.handled b.handled;
    heard = hears_then old mid new a.heard b.heard;
    table_is = b.table_is ∙ a.table_is;
    setting_is = b.setting_is ∙ a.setting_is;
    number_is = b.number_is ∙ a.number_is;
    ran = a.ran ++ b.ran;
    calls_are = ran_then old.stops.part.calls mid.stops.part.calls new.stops.part.calls a.ran b.ran a.calls_are b.calls_are;
    grows = folds-append (λ p call q. (call.cpu ≡ old.stops.number) × leads p call q) a.ran b.ran f f₁ f₂ a.grows
        (subst (λ (n : ℕ). HasRunStops leads n f₁ b.ran f₂) a.number_is b.grows);
    queues_are = b.queues_are ∙ a.queues_are;
    passes_number = b.passes_number ∙ a.passes_number;
    later = later_then old.stops mid.stops new.stops a.later b.later;
    serves = serves_then old mid new a.setting_is a.serves b.serves;
    mine = own_then old.stops mid.stops new.stops a.number_is a.mine b.mine;
    own_is = b.own_is;
  }

  -- with what its own stop calls change in other words
  pub works_as : {old new : MachineCpuValue} {h h' : H} {f f' : F} {own : Own} (own' : Own) → own ≡ own' → Works hears leads old h f new h' f' own
      → Works hears leads old h f new h' f' own'
  works_as {old} {new} {h} {h'} {f} {f'} {own} own' e w = subst (λ (o : Own). Works hears leads old h f new h' f' o) e w

  -- two stretches, each by what it makes of the own part
  pub works_both : {old mid new : MachineCpuValue} {h h₁ h₂ : H} {f f₁ f₂ : F} (g k : Own → Own) → Works hears leads old h f mid h₁ f₁ (g (own_of old))
      → Works hears leads mid h₁ f₁ new h₂ f₂ (k (own_of mid)) → Works hears leads old h f new h₂ f₂ (k (g (own_of old)))
  works_both {old} g k a b = works_as (k (g (own_of old))) (ap k a.own_is) (works_then a b)

  -- nothing has changed before
  pub works_from : {old mid new : MachineCpuValue} {h h' : H} {f f' : F} {own : Own} → mid ≡ old → Works hears leads mid h f new h' f' own
      → Works hears leads old h f new h' f' own
  works_from {old} {mid} {new} {h} {h'} {f} {f'} {own} e w = subst (λ (x : MachineCpuValue). Works hears leads x h f new h' f' own) e w

  -- a CPU stays at its machine
  pub at_still : {m : MachineValue} {old new : MachineCpuValue} {h h' : H} {f f' : F} {own : Own} → Works hears leads old h f new h' f' own → IsAt m old
      → IsAt m new
  at_still w at = record {
    calls = ap (λ (x : CallCpuValue). x.table) w.calls_kept ∙ at.calls;
    stops = record { table = w.table_is ∙ at.stops.table; setting = w.setting_is ∙ at.stops.setting };
    queues = w.queues_are ∙ at.queues;
  }
