-- A step, over a stop table and a list of controls.
use Rattle.std.proofs.Common.{◌≡◌, ◌≢◌, ℕ, ◌+◌, ◌<◌, ◌≤◌, Bool, cond, sym, subst, ap, ◌∙◌, arith, Option, Some, List, [], ◌∷◌, length, length-append}
use Rattle.std.proofs.Common.{length-take-le, take, ◌^◌}
use Rattle.std.proofs.{lemmas.List.get_or-set_same, lemmas.List.get_or-set_other, lemmas.List.get_or_past, lemmas.Bool.cases_lt}
use Rattle.std.specs.Prelude.{slice_set}
use Rattle.smp_words.proofs.Puts.{at_test}
use Rattle.smp_labels.proofs.Stores.{entries_kept}
use Rattle.smp_labels.specs.{Entries.IsEntryWord, Entries.entry_at, Law.Table, Plans.site_change}
use Rattle.smp_stop_steps.specs.{CarriesIn, labels_in, HoldsGate, FitsRound, StopState, StopWords, StopsShow, RoundStage, MOST_SITES}
use Rattle.smp_stop_steps.specs.{AreI32Words, HasI32Answers, put, StopControlValue, round_access, control_then, stop_words_after, stop_control_of, site_changes}
use Rattle.smp_stop_steps.specs.{word_of, Patches, Patching, Whole, FitsStop, Complete}
use Rattle.smp_stop_steps.specs.{StopStage, Sits.ControlFits}
use Rattle.smp_stop_steps.specs.{cpus, Rests, SitsAt, Setup, at_then, Advance, Visit, Work, Entry, Gate, Word, CompletionStage}
use Rattle.smp_stop_steps.specs.{LabelsShow, SitsInRound, changes_of, FitsAccess, stop_access, state_after, stop_number, IsStopTable}
use Rattle.smp_stop_steps.proofs.TheMachine.Named.{gate_stays, stage_named, work_in}
use Rattle.smp_stop_steps.proofs.Steps.StateWords.{ArePhases, phases_after}
use Rattle.smp_stop_steps.proofs.TheMachine.Tables.{IsStopWord, stop_words_by_name, table_after}
use Rattle.smp_stop_steps.proofs.{Steps.CallSteps.call_step, Steps.CompletionSteps.stop_step_shown, Steps.Facts.work_words, Steps.AnswerWords.keeps_answers}

-- the controls by CPU, with one of them set
pub stop_controls_by_cpu : (controls : List StopControlValue) (me cpu : ℕ) (x : StopControlValue) → me < length controls →
    stop_control_of (slice_set controls me x) cpu ≡ put (stop_control_of controls) me x cpu
stop_controls_by_cpu controls me cpu x low = search (at_test, get_or-set_same, get_or-set_other, arith)

-- a CPU inside a command of the stop half is one that there can be
pub stop_inside_below : (controls : List StopControlValue) (me : ℕ) (stage : StopStage) → (stop_control_of controls me).stage ≡ Some stage →
    me < length controls
stop_inside_below controls me stage e = search (cases_lt, get_or_past, arith)

-- the entry words of a label table have their form
record HasEntries (t : Table) : Type 0 where
  entries : (i : ℕ) → i < MOST_SITES → IsEntryWord (t.entry i)

-- no entry changes more than one site
change_long : (key : ℕ) (on : Bool) (i : ℕ) (x : ℕ) → length (site_change key on i (entry_at x)) ≤ 1
change_long key on i x = search arith

changes_long : (key : ℕ) (on : Bool) (i : ℕ) (xs : List ℕ) → length (site_changes key on i xs) ≤ length xs
changes_long key on i [] = omega arith
changes_long key on i (x ∷ xs) = let a = change_long key on i x in
    let b = changes_long key on (i + 1) xs in
    let c = length-append (site_change key on i (entry_at x)) (site_changes key on (i + 1) xs) in omega arith

module _ (u : Setup) (few : u.cpus ≡ cpus) (p : StopState) (t : StopWords) (controls : List StopControlValue) (v : StopsShow u p t controls)
    (sized : length controls ≡ cpus) (is : IsStopTable t)
    (me : ℕ) (stage : StopStage) (e : (stop_control_of controls me).stage ≡ Some stage) where
  abbrev c : StopControlValue
  c = stop_control_of controls me

  abbrev at : Word → ℕ
  at = stop_number t

  below : me < u.cpus
  below = let low = stop_inside_below controls me stage e in omega arith

  pub stop_word_named : IsStopWord (word_of (stop_access u.cpus me c.changes stage))
  stop_word_named = stage_named u p at v.seat v.source v.shows few v.shut me c (v.sits me below) stage e

  -- after the step the words show the stops that it tells
  pub stop_value_shown : StopsShow u (state_after u p at c me stage) (stop_words_after t (stop_access u.cpus me c.changes stage))
      (slice_set controls me (control_then u at c me stage))
  stop_value_shown = let one = stop_step_shown u p at v.seat v.source v.shows c me (v.sits me below) (v.carries me below) stage e in
      let calls = call_step u p at v.seat v.source v.shows c me (v.sits me below) (v.carries me below) stage e in
      let names = stop_words_by_name t is (stop_access u.cpus me c.changes stage) stop_word_named in
      record {
        seat = put v.seat me one.seat_after;
        source = put v.source me one.source_after;
        shows = search arith;
        sits = λ cpu low. subst (λ (x : Word → ℕ). ControlFits u cpu (x Gate) (stop_control_of (slice_set controls me (control_then u at c me stage)) cpu)
            (put v.seat me one.seat_after cpu) (put v.source me one.source_after cpu)) (sym names)
            (subst (λ k. ControlFits u cpu (at_then u at c me stage Gate) k (put v.seat me one.seat_after cpu) (put v.source me one.source_after cpu))
            (sym (stop_controls_by_cpu controls me cpu (control_then u at c me stage) (stop_inside_below controls me stage e)))
            (at_test cpu me (λ b. ControlFits u cpu (at_then u at c me stage Gate) (cond b (control_then u at c me stage) (stop_control_of controls cpu))
            (cond b one.seat_after (v.seat cpu)) (cond b one.source_after (v.source cpu)))
            (λ same. subst (λ k. ControlFits u k (at_then u at c me stage Gate) (control_then u at c me stage) one.seat_after one.source_after)
            (sym same) one.sits)
            (λ ne. others cpu ne (v.sits cpu low))));
        carries = λ cpu low. subst (λ k. CarriesIn k ((state_after u p at c me stage).calling cpu))
            (sym (stop_controls_by_cpu controls me cpu (control_then u at c me stage) (stop_inside_below controls me stage e)))
            (at_test cpu me (λ b. CarriesIn (cond b (control_then u at c me stage) (stop_control_of controls cpu)) ((state_after u p at c me stage).calling
            cpu))
            (λ same. subst (λ k. CarriesIn (control_then u at c me stage) ((state_after u p at c me stage).calling k)) (sym same) calls.mine)
            (λ ne. subst (CarriesIn (stop_control_of controls cpu)) (sym (calls.others cpu ne)) (v.carries cpu low)));
        shut = search (at_test, v.source, below, v.shut, arith);
      }
    where
      held : (cpu : ℕ) → cpu ≢ me → (st : Option StopStage) → HoldsGate cpu (at Gate) st → HoldsGate cpu (at_then u at c me stage Gate) st
      held cpu ne st h = search (gate_stays, v.seat, v.source, v.shows, v.shut, v.sits, below, arith)

      others : (cpu : ℕ) → cpu ≢ me → ControlFits u cpu (at Gate) (stop_control_of controls cpu) (v.seat cpu) (v.source cpu) →
          ControlFits u cpu (at_then u at c me stage Gate) (stop_control_of controls cpu) (v.seat cpu) (v.source cpu)
      others cpu ne s = search (held, arith)

  -- the table stays one
  pub stop_table_shown : IsStopTable (stop_words_after t (stop_access u.cpus me c.changes stage))
  stop_table_shown = table_after t is (stop_access u.cpus me c.changes stage) stop_word_named

  -- and no state word is more than 5
  pub stop_phases_kept : ArePhases at → ArePhases (stop_number (stop_words_after t (stop_access u.cpus me c.changes stage)))
  stop_phases_kept h = subst ArePhases (sym (stop_words_by_name t is (stop_access u.cpus me c.changes stage) stop_word_named))
      (phases_after u p at v.seat v.source v.shows h c me stage (subst (λ (x : Option StopStage). SitsAt u me c x (v.seat me)) e (v.sits me below).seat))

  -- each result word stays that of an i32
  pub stop_results_kept : AreI32Words at → HasI32Answers c → AreI32Words (stop_number (stop_words_after t (stop_access u.cpus me c.changes stage)))
  stop_results_kept h k =
      subst AreI32Words (sym (stop_words_by_name t is (stop_access u.cpus me c.changes stage) stop_word_named)) (keeps_answers u at h c me k stage e).words

  -- the number found fits its type, and there is room for what it makes
  pub stop_found_fits : FitsStop c stage (at (word_of (stop_access u.cpus me c.changes stage)))
  stop_found_fits = go stage e
    where
      seat_at : (st : StopStage) → c.stage ≡ Some st → SitsAt u me c (Some st) (v.seat me)
      seat_at st e = subst (λ (x : Option StopStage). SitsAt u me c x (v.seat me)) e (v.sits me below).seat

      round_fits : (w : Visit) (st : RoundStage) → SitsInRound u me c.changes w st (v.seat me) →
          FitsRound c w st (at (word_of (round_access u.cpus c.changes w st)))
      round_fits w (RoundStage.LoadFunc answer) x = let work = x.1.0 in
          let same = (work_words u p at v.seat v.source v.shows w.slot me work 2 3 Rests x.1.1.3).func in
          let f = (work_in u p at v.seat v.source v.shows few v.shut me w.slot work 2 3 Rests x.1.1.3).func in subst (λ n. n < 2 ^ 16) (sym same) f
      round_fits w (RoundStage.LoadEntry key word site) x = (entry_fits site x.3, x.3, long x.0 word site x.2 x.4)
        where
          entry_fits : (site : ℕ) → site < MOST_SITES → IsEntryWord (at (Entry site))
          entry_fits site low = (lawful p.now.patching v.shows.present.labels).entries site low
            where
              lawful : (x : Patching) → LabelsShow x (labels_in at) → HasEntries (labels_in at)
              lawful Whole l = record { entries = l.entries }
              lawful (Patches cpu work count made rest) l = record {
                entries = λ i low. subst IsEntryWord (sym (ap (λ (t : Table). t.entry i) l.2 ∙ entries_kept made l.0 i)) (l.1.entries i low);
              }

          long : (work : Work) (word site : ℕ) → site ≤ length u.entries → c.changes ≡ changes_of u work word site → length c.changes ≤ site + 1
          long work word site within are = search (changes_long, work.func, take, length-take-le, arith)
      round_fits w (RoundStage.StoreChange made) x = x.4
      round_fits w (RoundStage.Acknowledge answer ran) x = x.2
      round_fits w _ x = tt

      go : (st : StopStage) → c.stage ≡ Some st → FitsStop c st (at (word_of (stop_access u.cpus me c.changes st)))
      go (Advance w st) e = round_fits w st (seat_at (Advance w st) e).1
      go (Complete w (CompletionStage.LoadFunc answer)) e = let x = (seat_at (Complete w (CompletionStage.LoadFunc answer)) e).1 in
          let work = x.1.0 in
          let same = (work_words u p at v.seat v.source v.shows w.slot me work w.acked w.acked Rests x.1.2).func in
          let f = (work_in u p at v.seat v.source v.shows few v.shut me w.slot work w.acked w.acked Rests x.1.2).func in subst (λ n. n < 2 ^ 16) (sym same) f
      go _ e = tt

  -- the store of a patch that is made next is one of its changes
  pub stop_access_fits : FitsAccess c stage
  stop_access_fits = search (v.seat, v.sits, below, arith)
