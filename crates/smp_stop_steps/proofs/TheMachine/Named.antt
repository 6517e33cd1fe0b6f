-- The word of each access of the stop half is in its table, and no step takes the gate from its holder.
use Rattle.std.proofs.Common.{◌≡◌, ◌≢◌, ℕ, ◌+◌, ◌<◌, ◌≤◌, Bool, true, false, sym, subst, ◌∙◌, inl, inr, arith, ne_eqb, Some, List, [], ◌∷◌, ◌++◌, length}
use Rattle.std.proofs.{lemmas.Bool.cases_lt, lemmas.List.append-nil}
use Rattle.std.specs.List.{AllByRecursion}
use Rattle.smp_stop_steps.specs.{plan_at, word_of, cpus, Change, Alters, Fills, Gives, In, Rests, StopRole, Sets, RoleStands, Duty, StopShows, SitsInCompletion}
use Rattle.smp_stop_steps.specs.{SitsInRound, Collects, IsWork, Owns, Shut, Source, SourceShows, StopControlValue, change_at, completion_access}
use Rattle.smp_stop_steps.specs.{label_word, round_access, stop_access, store_of, Setup, StopState, at_then, CompletionStage, RoundStage, StopStage, Visit}
use Rattle.smp_stop_steps.specs.{Patch, Work, Gate, Slot, Word, site_changes, MOST_KEYS, MOST_SITES, Sits.ControlFits}
use Rattle.smp_stop_steps.proofs.{State.Phases.is_open_inside, Steps.RoundSteps.change_here, TheMachine.Tables.IsStopWord, Steps.Stages.at_seat}

-- the changes of a patch are of words in the table
abbrev pub IsNamedChange : Change → Type 0
IsNamedChange change = IsStopWord (label_word change.0)

module _ (u : Setup) (p : StopState) (at : Word → ℕ) (seat : ℕ → StopRole) (source : ℕ → Source) (h : StopShows u p at seat source) (few : u.cpus ≡ cpus)
    (shut : (cpu : ℕ) → u.cpus ≤ cpu → source cpu ≡ Shut) where
  -- an open stop is of a CPU that there can be
  open_below : (s : ℕ) → (p.now.stop s).is_open ≡ true → s < cpus
  open_below s op = elim (cases_lt s cpus) [
    | inl low ↦ low
    | inr high ↦ absurd (let x : (p.now.stop s).is_open ≡ false = subst (SourceShows u p.gate (p.now.stop s) (λ f. at (Slot s f)) s) (shut s (omega arith))
        (h.sources s) in let bad : true ≡ false = sym op ∙ x in cc)
  ]

  -- the source of an open stop owns it
  open_work : (s : ℕ) → (p.now.stop s).is_open ≡ true → IsWork u (p.now.stop s).work
  open_work s op = go (source s) (h.sources s)
    where
      go : (y : Source) → SourceShows u p.gate (p.now.stop s) (λ f. at (Slot s f)) s y → IsWork u (p.now.stop s).work
      go (Owns work) d = subst (IsWork u) (sym d.work_is) d.is_work
      go (Collects work) d = subst (IsWork u) (sym d.0.work_is) d.0.is_work
      go _ d = cc

  module _ (me : ℕ) where
    open_in : (s : ℕ) (work : Work) (a l : ℕ) (t : Duty) → seat me ≡ In s work a l t → (p.now.stop s).is_open ≡ true
    open_in s work a l t is = search (h.present.stands, is_open_inside, h.present.slots, arith)

    open_gives : (s : ℕ) (work : Work) (a v : ℕ) → seat me ≡ Gives s work a v → (p.now.stop s).is_open ≡ true
    open_gives s work a v is = search (h.present.stands, is_open_inside, h.present.slots, arith)

    open_alters : (s : ℕ) (work : Work) (count : ℕ) (made rest : List Change) → seat me ≡ Alters s work count made rest → (p.now.stop s).is_open ≡ true
    open_alters s work count made rest is = search (h.present.stands, is_open_inside, h.present.slots, arith)

    -- the slot that a CPU is in, and its work
    pub below_in : (s : ℕ) (work : Work) (a l : ℕ) (t : Duty) → seat me ≡ In s work a l t → s < cpus
    below_in s work a l t is = open_below s (open_in s work a l t is)

    below_gives : (s : ℕ) (work : Work) (a v : ℕ) → seat me ≡ Gives s work a v → s < cpus
    below_gives s work a v is = open_below s (open_gives s work a v is)

    below_alters : (s : ℕ) (work : Work) (count : ℕ) (made rest : List Change) → seat me ≡ Alters s work count made rest → s < cpus
    below_alters s work count made rest is = open_below s (open_alters s work count made rest is)

    pub work_in : (s : ℕ) (work : Work) (a l : ℕ) (t : Duty) → seat me ≡ In s work a l t → IsWork u work
    work_in s work a l t is = subst (IsWork u) (subst (RoleStands p.now me) is (h.present.stands me)).3 (open_work s (open_in s work a l t is))

    -- the key of a patch is one of the table
    key_below : (s : ℕ) (work : Work) → (p.now.stop s).is_open ≡ true → (p.now.stop s).work ≡ work → work.kind ≡ Patch → work.func < MOST_KEYS
    key_below s work op same kind = search (h.present.works, arith)

    -- the changes of a patch
    sites_named : (key : ℕ) (on : Bool) (i : ℕ) (entries : List ℕ) → i + length entries ≤ MOST_SITES → AllByRecursion IsNamedChange
        (site_changes key on i entries)
    sites_named key on i [] fits = tt
    sites_named key on i (x ∷ rest) fits = search (sites_named key on (i + 1) rest (omega arith), arith)

    at_split : (before : List Change) (change : Change) (rest : List Change) → AllByRecursion IsNamedChange (before ++ change ∷ rest) → IsNamedChange change
    at_split [] change rest all = all.0
    at_split (x ∷ before) change rest all = at_split before change rest all.1

    named_store : (change : Change) → IsNamedChange change → IsStopWord (word_of (store_of change))
    named_store change h = search arith

    module _ (c : StopControlValue) (s : ControlFits u me (at Gate) c (seat me) (source me)) where
      me_below : me < cpus
      me_below = omega arith

      round_named : (v : Visit) (stage : RoundStage) → SitsInRound u me c.changes v stage (seat me) →
          IsStopWord (word_of (round_access u.cpus c.changes v stage))
      round_named v (RoundStage.Look answer) x = below_in v.slot x.2.0 v.acked v.acked Rests x.2.2
      round_named v (RoundStage.LoadFunc answer) x = below_in v.slot x.1.0 2 3 Rests x.1.1.3
      round_named v (RoundStage.LoadArg answer func) x = below_in v.slot x.1.0 2 3 Rests x.1.1.3
      round_named v (RoundStage.LoadKey key change) x = search (h.present.stands, key_below, open_in, arith)
      round_named v (RoundStage.LoadEntry key word site) x = x.3
      round_named v (RoundStage.StoreChange made) x = go x.0 x.1 x.4 x.5 x.6.0 x.6.1 x.6.2 x.6.3 x.6.4
        where
          go : (work : Work) (count : ℕ) → made < length c.changes → c.changes ≡ plan_at u work count → (before after : List Change) →
              c.changes ≡ before ++ after → length before ≡ made →
              seat me ≡ Alters v.slot work count before after → IsStopWord (word_of (store_of (change_at c.changes made)))
          go work count low plan before [] are long is = search (append-nil, arith)
          go work count low plan before (change ∷ rest) are long is =
              search (h.present.stands, key_below, open_alters, change_here, IsStopWord, named_store, at_split, work.func, sites_named, arith)
      round_named v (RoundStage.Acknowledge answer ran) x = search (v.acked, below_in, below_alters, arith)
      round_named v (RoundStage.Refill ran) x = below_in v.slot x.0 v.acked v.acked Fills x.2
      round_named v (RoundStage.Raise ran) x = below_in v.slot x.0 v.acked v.acked Sets x.2

      completion_named : (v : Visit) (stage : CompletionStage) → SitsInCompletion v stage (seat me) → IsStopWord (word_of (completion_access v stage))
      completion_named v stage x = search (below_in, v.acked, below_gives, arith)

      -- the word of the next access is in the table
      pub stage_named : (stage : StopStage) → c.stage ≡ Some stage → IsStopWord (word_of (stop_access u.cpus me c.changes stage))
      stage_named stage e = search (me_below, at_seat, below_in, round_named, completion_named, h.present.stands, open_below, arith)

      -- another CPU that holds the gate holds it after the step
      pub gate_stays : (stage : StopStage) → c.stage ≡ Some stage → (cpu : ℕ) → cpu ≢ me → at Gate ≡ cpu + 1 → at_then u at c me stage Gate ≡ cpu + 1
      gate_stays stage e cpu ne held = search (ne_eqb, arith)
