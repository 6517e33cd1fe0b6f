-- The label law outside the stores of patches, and who makes these.
use Rattle.std.proofs.Common.{◌≡◌, ℕ, false, Option, Some, List, [], ◌∷◌, ◌++◌, length, subst, ap, ◌∙◌, arith}
use Rattle.std.proofs.lemmas.List.{append-nil}
use Rattle.smp_labels.specs.Law.{IsLawful, Table}
use Rattle.smp_stop_steps.specs.{Change, Patching, LabelsShow, labels_in, is_between, IsLawfulOutside, HasPatcher, IsNextOfPatch}
use Rattle.smp_stop_steps.specs.{label_stored, StopRole, Alters}
use Rattle.smp_stop_steps.specs.{StopShows, SitsAt, SitsInRound, Source, StopControlValue, change_at, completion_access, round_access, stop_access, store_of}
use Rattle.smp_stop_steps.specs.{PresentShows, Setup, StopState, RoundStage, CompletionStage, StopStage, Visit, Word, Gate, Sits.ControlFits}
use Rattle.smp_stop_steps.proofs.{State.Ends.function_law, State.Patched.all_off, Steps.Facts.patcher_active, Steps.RoundSteps.change_here}

-- between its first and its last store alone a patch leaves the table unlawful
pub lawful_outside : (x : Patching) (t : Table) → LabelsShow x t → is_between x ≡ false → IsLawful t
lawful_outside x t l e = search arith

module _ (u : Setup) (p : StopState) (at : Word → ℕ) (seat : ℕ → StopRole) (present : PresentShows u p.now at seat) where
  pub patcher_at_seats : HasPatcher u p
  patcher_at_seats c work count made rest e = search (present.stands, patcher_active, function_law, present.slots, all_off, present, arith)

module _ (u : Setup) (p : StopState) (at : Word → ℕ) (seat : ℕ → StopRole) (source : ℕ → Source) (h : StopShows u p at seat source) where
  pub is_lawful : IsLawfulOutside p at
  is_lawful e = lawful_outside p.now.patching (labels_in at) h.present.labels e

  pub has_patcher : HasPatcher u p
  has_patcher c work count made rest e = patcher_at_seats u p at seat h.present c work count made rest e

  module _ (c : StopControlValue) (me : ℕ) (sits : ControlFits u me (at Gate) c (seat me) (source me)) where
    abbrev IsNext : Change → Type 0
    IsNext change = IsNextOfPatch p me change

    stored_itself : (x : Change) → label_stored (store_of x) ≡ Some x
    stored_itself x = search arith

    store_is_next : (v : Visit) (made : ℕ) → SitsInRound u me c.changes v (RoundStage.StoreChange made) (seat me) → (change : Change) →
        label_stored (store_of (change_at c.changes made)) ≡ Some change → IsNext change
    store_is_next v made s change e = go s.6.0 s.6.1 s.6.2 s.6.3 s.6.4
      where
        go : (before after : List Change) → c.changes ≡ before ++ after → length before ≡ made → seat me ≡ Alters v.slot s.0 s.1 before after → IsNext change
        go before [] are long is = absurd (let l = s.4 in let z : length c.changes ≡ length before = ap length (are ∙ append-nil before) in omega arith)
        go before (x ∷ after) are long is = search (change_here, h.present.stands, stored_itself, arith)

    in_round : (v : Visit) (stage : RoundStage) → SitsInRound u me c.changes v stage (seat me) → (change : Change) →
        label_stored (round_access u.cpus c.changes v stage) ≡ Some change → IsNext change
    in_round v (RoundStage.StoreChange made) s change e = store_is_next v made s change e
    in_round v _ s change e = cc

    in_completion : (v : Visit) (stage : CompletionStage) (change : Change) → label_stored (completion_access v stage) ≡ Some change → IsNext change
    in_completion v stage change e = search arith

    at_stage : (stage : StopStage) → SitsAt u me c (Some stage) (seat me) → (change : Change) → label_stored (stop_access u.cpus me c.changes stage) ≡ Some
        change → IsNext change
    at_stage stage s change e = search (in_round, in_completion, arith)

    pub stores_patch : (stage : StopStage) → c.stage ≡ Some stage → (change : Change) → label_stored (stop_access u.cpus me c.changes stage) ≡ Some change →
        IsNext change
    stores_patch stage is change e = at_stage stage (subst (λ (x : Option StopStage). SitsAt u me c x (seat me)) is sits.seat) change e
