-- The types that words, stops and seats are made of, and their variants, by their names.
pub use Rattle.smp_words.specs.declared.word.Word.{Word}
pub use Rattle.smp_words.specs.declared.word.Word.TheVariants.{Gate, Slot, Key, Entry, Site}
pub use Rattle.smp_words.specs.declared.field.Field.{Field}
pub use Rattle.smp_words.specs.declared.field.Field.TheVariants as field
pub use Rattle.smp_words.specs.declared.access.Access.{Access}
pub use Rattle.smp_words.specs.declared.access.Access.TheVariants.{Load, Store, Exchange, Sub, And}
pub use Rattle.smp_words.specs.declared.seen.Act.TheVariants as act
pub use Rattle.smp_words.specs.declared.work.Kind.{Kind}
pub use Rattle.smp_words.specs.declared.work.Kind.TheVariants.{One, Multi, Patch}
pub use Rattle.smp_words.specs.declared.work.Work.{Work}
pub use Rattle.smp_stop_steps.specs.declared.known.StopRole.{StopRole}
pub use Rattle.smp_stop_steps.specs.declared.known.StopRole.TheVariants.{Free, In, Gives, Alters, Closes}
pub use Rattle.smp_stop_steps.specs.declared.known.Duty.{Duty}
pub use Rattle.smp_stop_steps.specs.declared.known.Duty.TheVariants.{Rests, Fills, Sets}
pub use Rattle.smp_stop_steps.specs.declared.known.Source.{Source}
pub use Rattle.smp_stop_steps.specs.declared.known.Source.TheVariants.{Shut, Drafts, Owns, Collects}
pub use Rattle.smp_stop_steps.specs.declared.known.Attempt.{Attempt}
pub use Rattle.smp_stop_steps.specs.declared.known.KnownStops.{KnownStops}
pub use Rattle.smp_stop_steps.specs.declared.known.OwnMove.{OwnMove}
pub use Rattle.smp_stop_steps.specs.declared.known.OwnMove.TheVariants as own
pub use Rattle.smp_stop_steps.specs.declared.known.StopPart.{StopPart}
pub use Rattle.smp_stop_steps.specs.declared.known.StopSetting.{StopSetting}
pub use Rattle.smp_stop_steps.specs.declared.known.Reading.{Reading}
pub use Rattle.smp_stop_steps.specs.declared.known.Reading.TheVariants.{ReadKey, ReadSite}
pub use Rattle.smp_stop_steps.specs.declared.known.Moved.{Moved}
pub use Rattle.smp_stop_steps.specs.declared.known.StopCall.{StopCall}
pub use Rattle.smp_stop_steps.specs.declared.known.Calling.{Calling}
pub use Rattle.smp_stop_steps.specs.declared.known.Calling.TheVariants.{Idle, Calls, Carries}
pub use Rattle.smp_multi.specs.declared.seat_view.StopSeatView.{StopSeatView}
pub use Rattle.smp_multi.specs.declared.seat_view.StopSeatView.TheVariants.{Maker, Cpu}
