-- The words that several proofs about replays cite, besides those of Names.
pub use Rattle.smp_mask.proofs.Sets.{same_members}
pub use Rattle.smp_mask.specs.declared.error.SmpError.{SmpError}
pub use Rattle.smp_mask.specs.declared.mask.TheConstants.{NR_CPUS}
pub use Rattle.smp_labels.specs.Keys.{IsKeyWord, count_or}
pub use Rattle.smp_labels.specs.Labels.{AreLabels}
pub use Rattle.smp_labels.specs.Plans.{plan_of, site_change, site_changes}
pub use Rattle.smp_words.proofs.Puts.{put_all, put_other, put_same}
pub use Rattle.smp_words.proofs.Zeros.{get_or-same, zero_at}
pub use Rattle.smp_words.specs.Access.{at_after, one_less, put_by, put_if, seen_of, word_of}
pub use Rattle.smp_words.specs.Commands.{FitsCommand}
pub use Rattle.smp_words.specs.Flags.{flags_of}
pub use Rattle.smp_words.specs.Layout.{number_in}
pub use Rattle.smp_words.specs.Put.{put, put_word, same_word}
pub use Rattle.smp_words.specs.Size.{cpus, records, table_size}
pub use Rattle.smp_words.specs.declared.access.Access.{Access}
pub use Rattle.smp_words.specs.declared.call.Call.{Call, Call as MachineCall}
pub use Rattle.smp_words.specs.declared.command.Command.{Command}
pub use Rattle.smp_words.specs.declared.command.Event.{Event as Turned}
pub use Rattle.smp_words.specs.declared.field.Field.{Field}
pub use Rattle.smp_words.specs.declared.seen.Act.{Act}
pub use Rattle.smp_words.specs.declared.seen.Note.{Note}
pub use Rattle.smp_words.specs.declared.seen.Seen.{Seen}
pub use Rattle.smp_words.specs.declared.size.TheConstants.{SLOT_WORDS}
pub use Rattle.smp_words.specs.declared.word.Word.{Word}
pub use Rattle.smp_words.specs.declared.word.Word.TheVariants.{Flags, Head, Intr, Key, Site, Slot}
pub use Rattle.smp_words.specs.declared.work.Kind.TheVariants.{Patch}
pub use Rattle.smp_words.specs.declared.work.Work.{Work}
pub use Rattle.smp_call_steps.proofs.Machine.Cores.{controls_by_cpu, inside_below, made_shown}
pub use Rattle.smp_call_steps.proofs.Machine.Starts.{new_shown}
pub use Rattle.smp_call_steps.proofs.State.Walks.{ends_front, walks_front}
pub use Rattle.smp_call_steps.proofs.Steps.Turns.{holds_nothing, stands_at}
pub use Rattle.smp_call_steps.specs.Batches.{has_record}
pub use Rattle.smp_call_steps.specs.Calls.{CallState, Holding, accepts, appended, confirms, flags_told, head_told, links, no_calls, place_taken, tells}
pub use Rattle.smp_call_steps.specs.Calls.{tells_all}
pub use Rattle.smp_call_steps.specs.Drains.{DrainValue, link_to}
pub use Rattle.smp_call_steps.specs.Places.{IsPlaced}
pub use Rattle.smp_call_steps.specs.Shows.{Shows}
pub use Rattle.smp_call_steps.specs.Stages.{ControlValue, access_of, control_after, outcome_of}
pub use Rattle.smp_call_steps.specs.Stands.{PostStands, StandsAt, held_of, share_of}
pub use Rattle.smp_call_steps.specs.Start.{control_at, first_stage}
pub use Rattle.smp_call_steps.specs.StepLaws.{seen_then}
pub use Rattle.smp_call_steps.specs.Value.{control_of, outside}
pub use Rattle.smp_call_steps.specs.declared.handle.HandleStage.{HandleStage}
pub use Rattle.smp_call_steps.specs.declared.handle.Walk.{Walk}
pub use Rattle.smp_call_steps.specs.declared.known.Running.{Running}
pub use Rattle.smp_call_steps.specs.declared.known.Running.TheVariants.{AsyncCall, CountedCall, Nothing, SyncCall}
pub use Rattle.smp_call_steps.specs.declared.place.RecPlace.{RecPlace}
pub use Rattle.smp_call_steps.specs.declared.post.PostStage.{PostStage}
pub use Rattle.smp_call_steps.specs.declared.post.Posting.{Posting}
pub use Rattle.smp_call_steps.specs.declared.stage.CallOutcome.{CallOutcome}
pub use Rattle.smp_call_steps.specs.declared.stage.Stage.{Stage}
pub use Rattle.smp_call_steps.specs.declared.stage.Stage.TheVariants.{Done, Handle, Post, Send}
pub use Rattle.smp_stop_steps.proofs.State.Phases.{is_open_inside, keeps_inside}
pub use Rattle.smp_stop_steps.proofs.Steps.Completions.{one_phase}
pub use Rattle.smp_stop_steps.proofs.TheMachine.Values.{stop_controls_by_cpu, stop_word_named}
pub use Rattle.smp_stop_steps.specs.Callings.{IsCalling}
pub use Rattle.smp_stop_steps.specs.Carries.{CarriesAt, IsQuiet}
unfoldable pub use Rattle.smp_stop_steps.specs.Counts.{sum_below}
pub use Rattle.smp_stop_steps.specs.Counts.{count_behind, mask_weight}
pub use Rattle.smp_stop_steps.specs.Labels.{Change, LabelsShow, Patches, Patching, Whole, labels_in, patch_answer}
pub use Rattle.smp_stop_steps.specs.Machine.{stop_found_at, stop_seen_at}
pub use Rattle.smp_stop_steps.specs.New.{new_stops}
pub use Rattle.smp_stop_steps.specs.Present.{RunnerShows}
pub use Rattle.smp_stop_steps.specs.Seats.{RoleStands, irq_of}
pub use Rattle.smp_stop_steps.specs.Sits.{SitsAt, SitsInRound}
pub use Rattle.smp_stop_steps.specs.Slots.{AckShows, Keeps, OpenShows, begun_value}
pub use Rattle.smp_stop_steps.specs.Sources.{IsPatchWork}
pub use Rattle.smp_stop_steps.specs.Stages.{StopControlValue, StopOutcome, answer_at, begun_next, change_at, key_on}
pub use Rattle.smp_stop_steps.specs.Stages.{label_word, looked_on, nudge_on, stop_access, stop_ends, stop_goes, stop_outcome}
pub use Rattle.smp_stop_steps.specs.Stages.{stop_outside, store_of, turn_ends, visit_acked}
pub use Rattle.smp_stop_steps.specs.Start.{stop_first}
pub use Rattle.smp_stop_steps.specs.State.{Present, Setup, StopState, no_stops}
pub use Rattle.smp_stop_steps.specs.Stop.{Answering, Called, Completed, Inside, Nobody, Outside, Raises, Raising, Refills, Standing, Stop, acked}
pub use Rattle.smp_stop_steps.specs.Stop.{acked as acked_of, acknowledged, first_phase, is_called, is_inside, is_of, stands}
pub use Rattle.smp_stop_steps.specs.Table.{slot_cell, stop_number}
pub use Rattle.smp_stop_steps.specs.Tells.{acknowledges, calls_now, carried, is_at_run, is_multi, is_patch, key_loaded, leaves, may_call, patch_begun, plan_at}
pub use Rattle.smp_stop_steps.specs.Tells.{reads, stored_shut}
pub use Rattle.smp_stop_steps.specs.Value.{StopShown, StopsValue, setup_of, stop_control_of}
pub use Rattle.smp_stop_steps.specs.declared.known.Calling.{Calling}
pub use Rattle.smp_stop_steps.specs.declared.known.Calling.TheVariants.{Calls, Carries, Idle}
pub use Rattle.smp_stop_steps.specs.declared.known.Duty.{Duty}
pub use Rattle.smp_stop_steps.specs.declared.known.Duty.TheVariants.{Rests, Sets}
pub use Rattle.smp_stop_steps.specs.declared.known.Reading.TheVariants.{ReadKey as ReadingKey}
pub use Rattle.smp_stop_steps.specs.declared.known.StopRole.{StopRole}
pub use Rattle.smp_stop_steps.specs.declared.known.StopRole.TheVariants.{Alters, Closes, Free, Gives, In}
pub use Rattle.smp_stop_steps.specs.declared.stage.CompletionStage.{CompletionStage}
pub use Rattle.smp_stop_steps.specs.declared.stage.RoundStage.{RoundStage}
pub use Rattle.smp_stop_steps.specs.declared.stage.StopStage.{StopStage}
pub use Rattle.smp_stop_steps.specs.declared.stage.StopStage.TheVariants.{Advance, Begin, Close, Complete, Enter}
pub use Rattle.smp_stop_steps.specs.declared.stage.StopStage.TheVariants.{ExchangeKey, LoadResult, NudgeKey, OpenGate, ReadKey, ReadSite, TakeGate}
pub use Rattle.smp_stop_steps.specs.declared.stage.Visit.{Visit}
pub use Rattle.smp_core.proofs.Starts.{may_start, start_below, started_shown}
pub use Rattle.smp_core.proofs.Whole.{start_whole, step_whole}
pub use Rattle.smp_core.specs.Machine.{call_step, found_at, seen_at, step_at, stepped, stop_step, stops_stepped}
pub use Rattle.smp_core.specs.New.{new_core}
pub use Rattle.smp_core.specs.Joined.{HandlesWithOn}
pub use Rattle.smp_core.specs.Offline.{AimsOnline}
pub use Rattle.smp_core.specs.Replay.{Replay, after_seen, replay_from, replay_on, start_turn, step_turn}
pub use Rattle.smp_core.specs.Runs.{IsReplay, replay_made}
pub use Rattle.smp_core.specs.Start.{refusal_of, started}
pub use Rattle.smp_core.specs.Value.{CoreValue, Shown}
pub use Rattle.smp_core.specs.Whole.{IsWhole}
pub use Rattle.smp_script.proofs.Spelled.Readings.{script_is_spelled}
pub use Rattle.smp_script.proofs.Texts.Decimals.{is_field-decimal}
pub use Rattle.smp_script.proofs.Texts.Joins.{fields_join, lines_of-line}
pub use Rattle.smp_script.proofs.Written.LabelWriting.{labels_fields}
pub use Rattle.smp_script.specs.Fields.{mask_of, or_mask, stays_below}
pub use Rattle.smp_script.specs.Script.{are_online}
unfoldable pub use Rattle.smp_script.specs.Spelling.{line_before}
pub use Rattle.smp_script.specs.Printed.{site_text}
pub use Rattle.smp_script.specs.Spelling.{IsAnswer, LabelsFit, class_text, is_field, items_text, kind_text, mask_text, switch_text, way_text}
pub use Rattle.smp_script.specs.Versions.{limit_of}
pub use Rattle.smp_script.specs.declared.version.Version.{Version}
pub use Rattle.smp_script.specs.declared.version.Version.TheVariants.{One, Two}
pub use Rattle.smp_replay.specs.Output.{labels_or_none}
pub use Rattle.trace_model.specs.Labels.{front_of, patch_now}
pub use Rattle.trace_model.specs.Runs.{Runs as RunsTo}
unfoldable pub use Rattle.trace_model.specs.Stop.{acknowledged as acknowledged_in}
pub use Rattle.trace_model.specs.Stop.{opening}
pub use Rattle.trace_model.specs.declared.call.Place.{Place}
pub use Rattle.trace_model.specs.declared.call.Progress.TheVariants.{Runs}
pub use Rattle.trace_model.specs.declared.stop.Patch.{Patch as ToldPatch}
pub use Rattle.trace_model.specs.declared.stop.Stop.{Stop as ToldStop}
pub use Rattle.trace_model.specs.declared.without.Without.{Without}
pub use Rattle.trace_judge.specs.Head.{all_told, setting_of}
pub use Rattle.trace_events.specs.Past.{after, after_call_entry, after_draft, after_flags, after_on, after_other, after_slot, after_slot_load}
pub use Rattle.trace_events.specs.Past.{fresh, id_of, is_new, past_at, phase_of}
pub use Rattle.trace_events.specs.Text.{line_text}
pub use Rattle.trace_events.specs.StepEvents.{events_in, of_ack, of_arg, of_flags, of_gate, of_head, of_intr, of_key, of_nudge, of_result}
pub use Rattle.trace_events.specs.StepEvents.{of_roll, told_of, told_on, with_on}
pub use Rattle.trace_events.specs.Traces.{all_fresh, events_of, events_of_step, kept, lines_text}
pub use Rattle.trace_events.specs.declared.past.Draft.{Draft}
pub use Rattle.trace_events.specs.declared.past.Past.{Past}
pub use Rattle.trace_events.specs.declared.past.Post.{Post as Posted}
pub use Rattle.trace_events.specs.declared.step_events.StepEvents.{StepEvents}
pub use Rattle.trace_laws.specs.AcceptedReplays.{AreWordsOf, BeginsOfCpus, FitsCpus, call_events}
pub use Rattle.trace_laws.specs.AgreeingCalls.{BegunIs, CallsOfCpu, Follows, GoesElsewhere, KeepsPast, PostIs, PostIsAt, calls_in, calls_of}
pub use Rattle.trace_laws.specs.AgreeingCalls.{current_of, nothing_left_out, place_of, told_call}
pub use Rattle.trace_laws.specs.AgreeingPatches.{HasLeft, Leads, PartIs}
pub use Rattle.trace_laws.specs.AgreeingStops.{AnswerIs, CpuIs, DraftIs, Drafts, FollowsStops, InsideIs, IsOfCpus, IsSized, MadeIs, MemberIs, OpenIs, PatchIs}
pub use Rattle.trace_laws.specs.AgreeingStops.{PhaseIs, StopIs, as_i32, given_by, has_called, has_entered, raiser_of, told_work}
pub use Rattle.trace_laws.specs.ReplayTexts.{AreReadable, AreTold, ArgFits, EventFits, IsTold, OwnStop, ReadsBack, StopFits, trace_text, traced}
