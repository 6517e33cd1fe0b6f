-- The types that words and stops are made of, their variants, and what is said of words and labels, by their names.
pub use Rattle.smp_words.specs.declared.word.Word.{Word}
pub use Rattle.smp_words.specs.declared.word.Word.TheVariants.{Gate, Slot, Key, Entry, Site}
pub use Rattle.smp_words.specs.declared.work.Work.{Work}
pub use Rattle.smp_words.specs.declared.work.Kind.{Kind}
pub use Rattle.smp_words.specs.declared.work.Kind.TheVariants.{One, Multi, Patch}
pub use Rattle.smp_words.specs.declared.field.Field.{Field}
pub use Rattle.smp_words.specs.declared.access.Access.{Access}
pub use Rattle.smp_words.specs.declared.command.Command.{Command}
pub use Rattle.smp_words.specs.declared.seen.Seen.{Seen}
pub use Rattle.smp_words.specs.declared.seen.Act.{Act}
pub use Rattle.smp_words.specs.declared.seen.Note.{Note}
pub use Rattle.smp_words.specs.Access.{word_of, seen_of, at_after}
pub use Rattle.smp_words.specs.Put.{put, put_word, same_word}
pub use Rattle.smp_words.specs.Size.{cpus}
pub use Rattle.smp_mask.specs.Mask.{has}
pub use Rattle.smp_mask.specs.declared.error.SmpError.{SmpError}
pub use Rattle.smp_labels.specs.declared.words.TheConstants.{MOST_KEYS, MOST_SITES}
pub use Rattle.smp_labels.specs.declared.patch.Place.{Place}
pub use Rattle.smp_labels.specs.Keys.{is_on, change_of, count_after, IsKeyWord}
pub use Rattle.smp_labels.specs.Plans.{patch_of, site_changes}
pub use Rattle.smp_stop_steps.specs.declared.stage.StopStage.{StopStage}
pub use Rattle.smp_stop_steps.specs.declared.stage.StopStage.TheVariants.{TakeGate, OpenGate, Begin, Enter, EnterKind, EnterMask, EnterActive}
pub use Rattle.smp_stop_steps.specs.declared.stage.StopStage.TheVariants.{Advance, Complete, Close, LoadDone, LoadResult, NudgeKey, ExchangeKey}
pub use Rattle.smp_stop_steps.specs.declared.stage.RoundStage.{RoundStage}
pub use Rattle.smp_stop_steps.specs.declared.stage.CompletionStage.{CompletionStage}
pub use Rattle.smp_stop_steps.specs.declared.stage.Visit.{Visit}
pub use Rattle.smp_words.specs.declared.phase.TheConstants.{PREPARE, DISABLE_IRQ, RUN, EXIT, OVER}
pub use Rattle.smp_words.specs.declared.field.Field.TheVariants as field
pub use Rattle.smp_words.specs.declared.command.Command.TheVariants as command
pub use Rattle.smp_words.specs.declared.seen.Act.TheVariants as act
pub use Rattle.smp_words.specs.declared.seen.Note.TheVariants as note
pub use Rattle.smp_mask.specs.declared.error.SmpError.TheVariants as error
pub use Rattle.smp_labels.specs.declared.patch.Place.TheVariants as place
pub use Rattle.smp_stop_steps.specs.declared.stage.RoundStage.TheVariants as round
pub use Rattle.smp_stop_steps.specs.declared.stage.CompletionStage.TheVariants as completion
