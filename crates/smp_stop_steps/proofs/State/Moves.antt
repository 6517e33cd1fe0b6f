-- A step on one slot, among all slots and CPUs.
use Rattle.std.proofs.Common.{◌≡◌, ◌≢◌, ℕ, Bool, true, false, cond, sym, subst, refl, ap, ◌∙◌, Option, Some, List, arith}
use Rattle.std.specs.List.{AllByRecursion}
use Rattle.smp_words.proofs.Puts.{at_test, put_all, put_other}
use Rattle.smp_words.specs.Put.{same_field}
use Rattle.smp_labels.specs.Plans.{AreEntriesOf}
use Rattle.smp_stop_steps.specs.{put, put_word, Agrees, LabelsShow, Patching, Reading, labels_in, PresentShows, RunnerShows, Alters}
use Rattle.smp_stop_steps.specs.{StopRole, RoleStands, Duty, irq_of}
use Rattle.smp_stop_steps.specs.{duty_of, SlotShows, put_field, IsPatchWork, Setup, Last, Standing, is_inside, leaves, Field, Patch, Work, Slot, Word}
use Rattle.smp_stop_steps.specs.{State.Present, Stop.Stop}

-- what a step on a slot leaves to one CPU
pub record LeavesTo (c : ℕ) (old new : Stop) : Type 0 where
  pub on : is_inside (old.standing c) ≡ true → new.standing c ≡ old.standing c
  pub back : is_inside (new.standing c) ≡ true → is_inside (old.standing c) ≡ true
  pub work : is_inside (old.standing c) ≡ true → new.work ≡ old.work
  pub turn : is_inside (old.standing c) ≡ true → duty_of new.raising c ≡ duty_of old.raising c
  pub ending : old.is_open ≡ true → old.ending ≡ Last c → (new.is_open ≡ true) × (new.ending ≡ Last c)

-- what is now, after a step of one CPU on one slot
abbrev pub moved : Present → ℕ → Stop → (ℕ → Option ℕ) → (ℕ → Bool) → (ℕ → List Reading) → Present
moved p s stop' inside' irq' readings' = record p { stop = put p.stop s stop'; inside = inside'; irq = irq'; readings = readings' }

-- no other CPU enters, leaves or reads
pub record SaveMe (p : Present) (me : ℕ) (inside' : ℕ → Option ℕ) (irq' : ℕ → Bool) (readings' : ℕ → List Reading) : Type 0 where
  pub inside : (c : ℕ) → c ≢ me → inside' c ≡ p.inside c
  pub irq : (c : ℕ) → c ≢ me → irq' c ≡ p.irq c
  pub readings : (c : ℕ) → c ≢ me → readings' c ≡ p.readings c

pub field_false : (f g : Field) → same_field f g false ≡ false
field_false f g = search arith

pub slot_put : (cpus : ℕ) (stop : ℕ → Stop) (at : Word → ℕ) (s : ℕ) (g : Field) (n : ℕ) (stop' : Stop) →
    ((j : ℕ) → SlotShows cpus (stop j) (λ f. at (Slot j f))) → SlotShows cpus stop' (put_field (λ f. at (Slot s f)) g n) →
    (j : ℕ) → SlotShows cpus (put stop s stop' j) (λ f. put_word at (Slot s g) n (Slot j f))
slot_put cpus stop at s g n stop' old new j = at_test j s (λ b. SlotShows cpus (cond b stop' (stop j)) (λ f. cond (same_field f g b) n (at (Slot j f))))
    (λ e. let P : ℕ → Type 0 = λ k. SlotShows cpus stop' (put_field (λ f. at (Slot k f)) g n) in subst P (sym e) new)
    (λ ne. subst (SlotShows cpus (stop j)) (λ t f. cond (sym (field_false f g) t) n (at (Slot j f))) (old j))

pub slot_same : (cpus : ℕ) (stop : ℕ → Stop) (at : Word → ℕ) (s : ℕ) (stop' : Stop) →
    ((j : ℕ) → SlotShows cpus (stop j) (λ f. at (Slot j f))) → SlotShows cpus stop' (λ f. at (Slot s f)) →
    (j : ℕ) → SlotShows cpus (put stop s stop' j) (λ f. at (Slot j f))
slot_same cpus stop at s stop' old new = put_all (λ j x. SlotShows cpus x (λ f. at (Slot j f))) stop s stop' new (λ j ne. old j)

module _ (p : Present) (s me : ℕ) (stop' : Stop) (inside' : ℕ → Option ℕ) (irq' : ℕ → Bool) (readings' : ℕ → List Reading) where
  module _ (c : ℕ) (leaves : LeavesTo c (p.stop s) stop') (same : inside' c ≡ p.inside c) where
    -- a fact on the stop that a CPU is in
    standing_kept : (j : ℕ) (to : Standing) → is_inside to ≡ true → (p.stop j).standing c ≡ to → (put p.stop s stop' j).standing c ≡ to
    standing_kept j to of is = search (put_all, leaves.on, arith)

    turn_kept : (j : ℕ) (t : Duty) (to : Standing) → is_inside to ≡ true → (p.stop j).standing c ≡ to → duty_of (p.stop j).raising c ≡ t →
        duty_of (put p.stop s stop' j).raising c ≡ t
    turn_kept j t to of is = put_all (λ j x. (p.stop j).standing c ≡ to → duty_of (p.stop j).raising c ≡ t → duty_of x.raising c ≡ t) p.stop s stop'
        (λ i e. leaves.turn (ap is_inside i ∙ of) ∙ e) (λ j _ i e. e) j is

    work_kept : (j : ℕ) (to : Standing) (w : Work) → is_inside to ≡ true → (p.stop j).standing c ≡ to → (p.stop j).work ≡ w → (put p.stop s stop' j).work ≡ w
    work_kept j to w of is = search (put_all, leaves.work, arith)

    pub stands_kept : (seat : StopRole) → RoleStands p c seat → RoleStands (moved p s stop' inside' irq' readings') c seat
    stands_kept seat h = search (standing_kept, turn_kept, work_kept, put_all, leaves.ending, arith)

    pub home_kept : ((j : ℕ) → is_inside ((p.stop j).standing c) ≡ true → p.inside c ≡ Some j) →
        (j : ℕ) → is_inside ((put p.stop s stop' j).standing c) ≡ true → inside' c ≡ Some j
    home_kept homes j of = search (put_all, leaves.back, arith)

-- the CPU is not inside the function of a patch
abbrev pub IsNoPatch : StopRole → Type 0
IsNoPatch (Alters s w count made rest) = ⊥
IsNoPatch _ = Unit {0}

-- the one that patches is another
pub runner_kept : (first : ℕ) (patching : Patching) (seat : ℕ → StopRole) (me : ℕ) (next : StopRole) → IsNoPatch (seat me) → RunnerShows first patching seat →
    RunnerShows first patching (put seat me next)
runner_kept first patching seat me next mine h = search (put_other, arith)

-- a step of one CPU on one slot; the words of the labels stay
pub moves : (u : Setup) (p : Present) (at at' : Word → ℕ) (seat : ℕ → StopRole) (s me : ℕ) (stop' : Stop)
    (inside' : ℕ → Option ℕ) (irq' : ℕ → Bool) (readings' : ℕ → List Reading) (next : StopRole) →
    PresentShows u p at seat →
    ((j : ℕ) → SlotShows u.cpus (put p.stop s stop' j) (λ f. at' (Slot j f))) → labels_in at' ≡ labels_in at →
    ((c : ℕ) → c ≢ me → LeavesTo c (p.stop s) stop') → SaveMe p me inside' irq' readings' →
    RoleStands (moved p s stop' inside' irq' readings') me next → ((j : ℕ) → is_inside ((put p.stop s stop' j).standing me) ≡ true → inside' me ≡ Some j) →
    irq' me ≡ irq_of next → (u.online me ≡ true → irq_of next ≡ true → AllByRecursion (Agrees (labels_in at)) (readings' me)) →
    IsNoPatch (seat me) →
    (stop'.is_open ≡ true → stop'.work.kind ≡ Patch → IsPatchWork u.online u.first u.keys stop'.work) →
    PresentShows u (moved p s stop' inside' irq' readings') at' (put seat me next)
moves u p at at' seat s me stop' inside' irq' readings' next h slots same leaves save stands_ here off read mine works = record {
  slots = slots;
  stands = put_all (λ c x. RoleStands (moved p s stop' inside' irq' readings') c x) seat me next stands_
      (λ c ne. stands_kept p s me stop' inside' irq' readings' c (leaves c ne) (save.inside c ne) (seat c) (h.stands c));
  homes = λ j c. at_test c me (λ _. is_inside ((put p.stop s stop' j).standing c) ≡ true → inside' c ≡ Some j)
      (λ e of. ap inside' e ∙ here j (subst (λ c. is_inside ((put p.stop s stop' j).standing c) ≡ true) e of))
      (λ ne. home_kept p s me stop' inside' irq' readings' c (leaves c ne) (save.inside c ne) (λ j. h.homes j c) j);
  irq = put_all (λ c x. irq' c ≡ irq_of x) seat me next off (λ c ne. save.irq c ne ∙ h.irq c);
  works = put_all (λ j x. x.is_open ≡ true → x.work.kind ≡ Patch → IsPatchWork u.online u.first u.keys x.work) p.stop s stop' works (λ j ne. h.works j);
  runner = runner_kept u.first p.patching seat me next mine h.runner;
  entries = subst (AreEntriesOf u.entries) (sym same) h.entries;
  labels = subst (LabelsShow p.patching) (sym same) h.labels;
  read = λ c on i. subst (λ t. AllByRecursion (Agrees t) (readings' c)) (sym same) (search (at_test, save.readings, h.read, save.irq, arith));
}

-- the source opens or closes its slot: no CPU moves
pub source_moves : (u : Setup) (p : Present) (at at' : Word → ℕ) (seat : ℕ → StopRole) (s : ℕ) (stop' : Stop) →
    PresentShows u p at seat →
    ((j : ℕ) → SlotShows u.cpus (put p.stop s stop' j) (λ f. at' (Slot j f))) → labels_in at' ≡ labels_in at →
    ((c : ℕ) → LeavesTo c (p.stop s) stop') →
    (stop'.is_open ≡ true → stop'.work.kind ≡ Patch → IsPatchWork u.online u.first u.keys stop'.work) →
    PresentShows u (moved p s stop' p.inside p.irq p.readings) at' seat
source_moves u p at at' seat s stop' h slots same leaves works = record {
  slots = slots;
  stands = λ c. stands_kept p s s stop' p.inside p.irq p.readings c (leaves c) refl (seat c) (h.stands c);
  homes = λ j c. home_kept p s s stop' p.inside p.irq p.readings c (leaves c) refl (λ j. h.homes j c) j;
  irq = h.irq;
  works = put_all (λ j x. x.is_open ≡ true → x.work.kind ≡ Patch → IsPatchWork u.online u.first u.keys x.work) p.stop s stop' works (λ j ne. h.works j);
  runner = h.runner;
  entries = subst (AreEntriesOf u.entries) (sym same) h.entries;
  labels = subst (LabelsShow p.patching) (sym same) h.labels;
  read = λ c on i. subst (λ t. AllByRecursion (Agrees t) (p.readings c)) (sym same) (h.read c on i);
}
