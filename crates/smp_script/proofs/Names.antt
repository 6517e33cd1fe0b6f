-- The words that several proofs cite, of std, of the libraries below and of this one, passed on from one place.
pub use Rattle.std.proofs.Common.{nat_lt, rules, tests, ◌≡◌, true, ◌∙◌, sym, refl, codes, bytes_eq, subst, ℕ, suc, ◌<◌, ◌≤◌, false, ◌==◌, List, [], ◌∷◌, map}
pub use Rattle.std.proofs.Common.{length, Option, Some, None, Ok, ap, inl, inr, arith, decimal, ◌+◌, ◌++◌, sum_by, ◌^◌, Bool, cond, Result, ℤ, pos, negsuc, Err}
pub use Rattle.std.proofs.Common.{take, drop, ◌||◌, zero, not, ◌&&◌, get_or, append_assoc, append-nil, ◌⊎◌, nat_le, ◌≢◌, slice_get, is_ok, find, add-one, min}
pub use Rattle.std.proofs.Common.{length-drop, slice_index_or, ◌-◌, ◌*◌, vec_len}
pub use Rattle.std.proofs.Math.Seq.{drop-length, take-add}
pub use Rattle.std.proofs.lemmas.Bool.{cases_Bool, and_parts, cases_lt, or_cases, or_right, eqb-true, eq-eqb, cases_order, and_right}
pub use Rattle.std.proofs.lemmas.Bool.Decides.{nat_tests}
pub use Rattle.std.proofs.lemmas.List.{length-map, nil_from_length, take_all, take_more, map-id, take_rest}
pub use Rattle.std.proofs.lemmas.List.Folds.{list_any-append, list_any_more}
pub use Rattle.std.proofs.lemmas.List.Sums.{sum_by-cons, sum_by-append, sum_by_more}
pub use Rattle.std.proofs.lemmas.Option.{get_or_from_slice_get, slice_get_within}
pub use Rattle.std.proofs.lemmas.Slice.Eq.{bytes_eq-Decides}
pub use Rattle.std.specs.Fmt.{signed_decimal}
pub use Rattle.std.specs.Io.KnownBytes.{Appends, Consumes}
pub use Rattle.std.specs.List.{AllByRecursion, join_with_byte, list_all, list_any}
pub use Rattle.smp_mask.proofs.Members.{road, none_below, item_member}
pub use Rattle.smp_mask.proofs.Sets.{none_empty, member_below as is_cpu, same_members, has_none}
pub use Rattle.smp_mask.proofs.Walks.{accepted, refused}
pub use Rattle.smp_mask.specs.CpuList.{AreItems, IsListOf, IsMaskOf, highest, is_within, names}
unfoldable pub use Rattle.smp_mask.specs.Mask.{members_below}
pub use Rattle.smp_mask.specs.Mask.{has, members}
unfoldable pub use Rattle.smp_mask.specs.Reading.{read_from}
pub use Rattle.smp_mask.specs.Reading.{after, digit, longer, mask_of_text, or_refused}
pub use Rattle.smp_mask.specs.declared.error.Cause.{Cause}
pub use Rattle.smp_mask.specs.declared.error.Cause.TheVariants.{Mask, TooLong, Cut, SharedKey, Word, Range, Number}
pub use Rattle.smp_mask.specs.declared.error.SmpError.{SmpError}
pub use Rattle.smp_mask.specs.declared.mask.TheConstants.{NR_CPUS}
pub use Rattle.smp_words.specs.declared.call.Class.{Class}
pub use Rattle.smp_words.specs.declared.call.Class.TheVariants.{Sync, Async}
pub use Rattle.smp_words.specs.declared.command.Command.TheVariants.{Begin, Post, Nudge, Send, Done, Handle, Gate, Ungate, Enter, Advance, RunOne, Finish, Poll}
pub use Rattle.smp_words.specs.declared.command.Command.TheVariants.{Key, Site}
pub use Rattle.smp_words.specs.declared.work.Kind.{Kind}
pub use Rattle.smp_words.specs.declared.work.Kind.TheVariants.{One as OneKind, Multi, Patch}
pub use Rattle.smp_labels.specs.Labels.{AreLabels, Labels}
pub use Rattle.smp_labels.specs.declared.words.TheConstants.{MOST_KEYS, MOST_SITES}
pub use Rattle.smp_script.specs.declared.directive.Directive.{Directive}
pub use Rattle.smp_script.specs.declared.directive.Directive.TheVariants.{Start, Do, Step, Show}
pub use Rattle.smp_script.specs.declared.mode.Mode.{Mode}
pub use Rattle.smp_script.specs.declared.mode.Mode.TheVariants.{Replay, Run}
pub use Rattle.smp_script.specs.declared.request.Which.{Which}
pub use Rattle.smp_script.specs.declared.request.Which.TheVariants.{All, Even, Odd}
pub use Rattle.smp_script.specs.declared.setting.Setting.{Setting}
pub use Rattle.smp_script.specs.declared.version.Version.{Version}
pub use Rattle.smp_script.specs.declared.version.Version.TheVariants.{One, Two}
unfoldable pub use Rattle.smp_script.specs.Commands.{line_directive, start_begin, start_post}
pub use Rattle.smp_script.specs.Commands.{directive_of, are_whole, begins_of, posts_of, start_of, whole_directive, mode_line, command_of, replay_line, show_of}
pub use Rattle.smp_script.specs.Commands.{steps_of, run_line}
pub use Rattle.smp_words.specs.FirstFault.{◌>>=◌}
pub use Rattle.smp_script.specs.Faults.{Fault, at_line, Fails}
pub use Rattle.smp_script.specs.FieldFaults.{field_at, ActiveFault, IsMask, MaskFault, IsOutside, OnlineFault, value_of, FieldFault, ItemsFault, MemberFault}
pub use Rattle.smp_script.specs.FieldFaults.{NumberFault, SignedFault, is_far, is_signed}
pub use Rattle.smp_script.specs.Fields.{word32, mask_of, stays_below, class_of, kind_of, way_of, word16, word64}
pub use Rattle.smp_script.specs.FirstFault.{setting_in, limit_in, online_in, online_word, SharesKey, key_in, LineFault, past_lines, unended, no_shape}
pub use Rattle.smp_script.specs.FirstFault.{wrong_field, shared_key, past_events, IsFault, IsFirstFault, past_bytes, no_line, in_line, events_in, events_to}
pub use Rattle.smp_script.specs.Keys.{AreApart, shares, is_shared, key_of, KeyUse}
unfoldable pub use Rattle.smp_script.specs.Labels.{labels_in}
pub use Rattle.smp_script.specs.Labels.{Item, entry_of, has_number, is_below, is_item, is_labels, item_of, items_of, whole_labels, item_in, entries_in}
pub use Rattle.smp_script.specs.Labels.{entry_in, is_among, labels_of}
pub use Rattle.smp_script.specs.Lines.{fields_of, lines_of, Line, AreShort, onto_first, parts_of, onto_line}
pub use Rattle.smp_script.specs.Modes.{mode_text, setting_of}
pub use Rattle.smp_script.specs.Numbers.{is_digit, number_in, signed_of, is_decimal, minus, negative_of, value_after}
unfoldable pub use Rattle.smp_script.specs.Requests.{repeated}
pub use Rattle.smp_script.specs.Requests.{member_of, switch_of, wait_of, which_of, do_of, active_of, among, operation_of}
unfoldable pub use Rattle.smp_script.specs.Script.{directives_of, script_of}
pub use Rattle.smp_script.specs.Script.{labels_at, Script, are_online, events_of, first_line, title_of, whole_cpus, cpus_of, table_of, line_at}
pub use Rattle.smp_script.specs.Shapes.{online, cpus, has_shape, Form, word, words, number, signed, cpu_list, active, member, items, title, versions, labels}
pub use Rattle.smp_script.specs.Shapes.{requests, shapes_of, has_word, mode_requests, shape_of, answered, bare, begin, numbered, nudge, post, show, step}
pub use Rattle.smp_script.specs.Shapes.{is_one_of, bits, func_arg, func_info, operation, operations, switch, wait, which}
unfoldable pub use Rattle.smp_script.specs.Spelling.{line_before, spelled_lines}
pub use Rattle.smp_script.specs.Spelling.{is_field, item_text, items_text, labels_before, lacks, DirectiveFits, IsSpelling, LabelsFit, Masks, SpellLine}
pub use Rattle.smp_script.specs.Spelling.{directive_words, IsLawful, IsMaskText, LineHasSets, canonical_lines, canonical_text, line_masks, mask_text, IsAnswer}
pub use Rattle.smp_script.specs.Spelling.{class_text, kind_text, switch_text, wait_text, way_text, which_text}
pub use Rattle.smp_script.specs.Versions.{limit_of, version_text, version_of}
pub use Rattle.smp_script.specs.Watched.{inner_of, failed_of}
