-- The words that several proofs cite, of std, of the libraries below and of this one, passed on from one place.
pub use Rattle.std.proofs.Common.{Bool, Err, IsPermutation, List, None, Ok, Option, Result, Some, [], ap, append-nil, append_assoc, arith, codes, cond}
pub use Rattle.std.proofs.Common.{count_by, false, get_or, if◌then◌else◌, inl, inr, is_none, is_some, length, length-set, map, min, nat_le, nat_lt, not, pos}
pub use Rattle.std.proofs.Common.{refl, replicate, subst, suc, sym, true, true≢false, zero, ℕ, ℤ, ◌%◌, ◌&&◌, ◌*◌, ◌++◌, ◌+◌, ◌-◌, ◌/◌, ◌<◌, ◌==◌, ◌^◌, ◌||◌}
pub use Rattle.std.proofs.Common.{◌∙◌, ◌∷◌, ◌≡◌, ◌≢◌, ◌≤◌, ◌⊎◌}
pub use Rattle.std.proofs.lemmas.Bool.{and_left, and_parts, and_right, cases_Bool, cases_eq, cases_lt, eq-eqb, eqb-false, eqb-true, false≢true, le-leb, le-ltb}
pub use Rattle.std.proofs.lemmas.Bool.{leb-true, lt-leb, lt-ltb, ltb-false, ltb-true, ne_eqb}
pub use Rattle.std.proofs.lemmas.Bool.Decides.{nat_tests}
pub use Rattle.std.proofs.lemmas.List.{get_or-replicate, get_or-set_other, get_or-set_same, get_or_past, length-append, length-map, length-replicate}
pub use Rattle.std.proofs.lemmas.List.{map-append, set-set, set_past}
pub use Rattle.std.proofs.lemmas.List.Elements.{filter-append}
pub use Rattle.std.proofs.lemmas.List.Sorted.{IsPermutation-append_left, IsPermutation-append_right, IsPermutation-map, IsPermutation-refl, IsPermutation-trans}
pub use Rattle.std.proofs.lemmas.List.Sorted.{sum_by-IsPermutation}
pub use Rattle.std.specs.Fmt.{decimal}
pub use Rattle.std.specs.Int.{w32}
pub use Rattle.std.specs.List.{AllByRecursion, join_with_byte, list_all, remove}
pub use Rattle.std.specs.Ordering.{int_eq}
pub use Rattle.std.specs.Prelude.{slice_index, slice_index_or, slice_set, unwrap_or}
pub use Rattle.std.specs.Str.{bytes_eq}
unfoldable pub use Rattle.smp_mask.specs.Mask.{members_below}
pub use Rattle.smp_mask.specs.Mask.{has, members}
pub use Rattle.smp_mask.specs.declared.error.Cause.{Cause}
pub use Rattle.smp_labels.proofs.Lawful.{entry_at-word}
pub use Rattle.smp_labels.specs.Entries.{entry_at, entry_word}
pub use Rattle.smp_labels.specs.Keys.{change_of, count_after, is_on}
pub use Rattle.smp_labels.specs.Kinds.{kind_of, kind_word, xor}
pub use Rattle.smp_labels.specs.Labels.{Labels, first_site}
pub use Rattle.smp_labels.specs.Law.{HaveKinds}
pub use Rattle.smp_labels.specs.Words.{table_of}
pub use Rattle.smp_labels.specs.declared.entries.Entry.{Entry}
pub use Rattle.smp_labels.specs.declared.patch.Place.{Place}
pub use Rattle.smp_labels.specs.declared.patch.Place.TheVariants.{Key, Site}
pub use Rattle.smp_labels.specs.declared.words.LabelWords.{LabelWords}
pub use Rattle.smp_labels.specs.declared.words.TheConstants.{MOST_KEYS, MOST_SITES}
pub use Rattle.smp_words.specs.FirstFault.{◌>>=◌}
pub use Rattle.smp_words.specs.declared.call.Class.{Class}
pub use Rattle.smp_words.specs.declared.call.Class.TheVariants.{Async, Sync}
pub use Rattle.smp_words.specs.declared.work.Kind.{Kind}
pub use Rattle.smp_words.specs.declared.work.Kind.TheVariants.{Multi, One, Patch as APatch}
pub use Rattle.smp_script.specs.Labels.{whole_labels}
pub use Rattle.smp_script.specs.Lines.{Line, fields_of, lines_of}
pub use Rattle.smp_script.specs.Numbers.{is_decimal}
unfoldable pub use Rattle.trace_model.specs.Calls.{begin_by, end_by, other_by, queue_by, send_by, take_by, unlock_by}
pub use Rattle.trace_model.specs.Calls.{accept_by, entered_by, freed_if, idle_by, joined, moved, on_cpu, place_of_run, placed, placed_unless}
pub use Rattle.trace_model.specs.Cpu.{CpuState, accepted, after_end, at_call, begun, begun_any, begun_at, begun_front, begun_loose, begun_with, call_at}
pub use Rattle.trace_model.specs.Cpu.{counted, ended, ended_at, ended_with, fresh_cpu, front_of, handles_nothing, in_stop, interrupted, is_async, is_class}
pub use Rattle.trace_model.specs.Cpu.{is_bare, is_locked, is_of, is_sync, left_batch, loose_with, may_take, not_over, noted, of_class, order, over_with, owing}
pub use Rattle.trace_model.specs.Cpu.{place_in, pushed, pushed_other, quiet_with, rest_of, runs_locked, sent, slipped_any, slipped_at, slipped_from_batch}
pub use Rattle.trace_model.specs.Cpu.{slipped_from_queue, slipped_front, taken, unlocked, unlocked_front, unlocked_running, unlocked_with, with_interrupts}
pub use Rattle.trace_model.specs.Labels.{count_at, entry_of, is_site, key_number, may_nudge, nudged, nudged_count, patch_for, patch_or, patch_to, popped}
pub use Rattle.trace_model.specs.Labels.{site_at, site_from, site_front, site_store, stored, to_be}
unfoldable pub use Rattle.trace_model.specs.Opened.{opening, places_free}
pub use Rattle.trace_model.specs.Online.{is_online}
pub use Rattle.trace_model.specs.Places.{is_batch}
pub use Rattle.trace_model.specs.Runs.{Runs}
pub use Rattle.trace_model.specs.State.{StateValue, cpu_at, freed, freed_by, freed_from, place_at, place_reason, slip_in, slipped, stop_at, with_cpu}
pub use Rattle.trace_model.specs.State.{with_place, with_stop}
unfoldable pub use Rattle.trace_model.specs.Step.{call_goes, inside_goes, label_goes, stop_goes}
pub use Rattle.trace_model.specs.Step.{goes, if_low, key_by, nudge_by, nudged_word, reads_by, site_by, site_word}
unfoldable pub use Rattle.trace_model.specs.Stop.{acknowledged, collected, completed, entered, first_from, opened, raised, ran_function}
pub use Rattle.trace_model.specs.Stop.{acked_by, answer_of, answer_wanted, at_last, at_phase, closed, collected_with, first_of, gives, has_run, is_called}
pub use Rattle.trace_model.specs.Stop.{is_cpu, is_work, late, may_complete, may_run, offline_in, raised_by, through, unfinished, unless_offline, with_acked}
unfoldable pub use Rattle.trace_model.specs.Stops.{ack_by, collect_by, complete_by, enter_by, gate_by, off_by, on_by, open_by, patch_by, raise_by, run_by}
unfoldable pub use Rattle.trace_model.specs.Stops.{ungate_by}
pub use Rattle.trace_model.specs.Stops.{acked, acks_as, acks_at_run, acks_disabled, enter_from, entered_open, gate_with, holds_gate, in_patch, in_round}
pub use Rattle.trace_model.specs.Stops.{is_store, made_store, may_ack, may_off, may_open, next_store, on_stop, open_closed, patch_left, patch_over, run_as}
pub use Rattle.trace_model.specs.Stops.{stop_of, switched, switched_at, switched_on, with_inside, with_irq, with_patch, with_word}
pub use Rattle.trace_model.specs.declared.call.Call.{Call}
pub use Rattle.trace_model.specs.declared.call.Current.{Current}
pub use Rattle.trace_model.specs.declared.call.Place.TheVariants.{Batch, Free, Queue, Run}
pub use Rattle.trace_model.specs.declared.call.Progress.{Progress}
pub use Rattle.trace_model.specs.declared.call.Progress.TheVariants.{Ended, Unlocked}
pub use Rattle.trace_model.specs.declared.event.CallEvent.{CallEvent}
pub use Rattle.trace_model.specs.declared.event.Event.{Event}
pub use Rattle.trace_model.specs.declared.event.LabelEvent.{LabelEvent}
pub use Rattle.trace_model.specs.declared.event.OtherNode.{OtherNode}
pub use Rattle.trace_model.specs.declared.event.StopEvent.{StopEvent}
pub use Rattle.trace_model.specs.declared.reason.Reason.{Reason}
pub use Rattle.trace_model.specs.declared.stop.Patch.{Patch}
pub use Rattle.trace_model.specs.declared.stop.Stop.{Stop}
pub use Rattle.trace_model.specs.declared.stop.Task.{Task}
pub use Rattle.trace_model.specs.declared.without.Setting.{Setting}
unfoldable pub use Rattle.trace_judge.specs.Head.{cpus_at, head_of, labels_at, titled, without_at, words_of}
pub use Rattle.trace_judge.specs.Head.{CursorValue, head_with, is_labels, no_labels, setting_with}
unfoldable pub use Rattle.trace_judge.specs.Judged.{used_after}
pub use Rattle.trace_judge.specs.declared.early_end.EarlyEnd.{EarlyEnd}
unfoldable pub use Rattle.trace_laws.specs.CallEvents.{begins, ends, notes, queue_from, queued, taken_from}
pub use Rattle.trace_laws.specs.CallEvents.{begin_of, id_of, notes_now, only_if, queue_next, queued_now, taken_now, takes_now}
pub use Rattle.trace_laws.specs.CallHistory.{CallsShown, Shows, held, is_from, is_to, ran_at, running, waiting}
pub use Rattle.trace_laws.specs.LawfulLabels.{AreLabels}
pub use Rattle.trace_laws.specs.Places.{InOnePlace, PlacedAt, in_batch, in_queue, in_run, is_queue, is_record, one_if}
pub use Rattle.trace_laws.specs.StopEvents.{Seen, seen, unseen, work}
pub use Rattle.trace_laws.specs.Traces.{IsTrace}
