-- The types that words, calls and seats are made of, and their variants, by their names.
pub use Rattle.smp_words.specs.declared.call.Call.{Call}
pub use Rattle.smp_words.specs.declared.call.Class.{Class}
pub use Rattle.smp_words.specs.declared.call.Class.TheVariants.{Sync, Async}
pub use Rattle.smp_words.specs.declared.word.Word.{Word}
pub use Rattle.smp_words.specs.declared.word.Word.TheVariants.{Head, Intr, Hand, Queued, Ran, Flags, Func, Info, Next}
pub use Rattle.smp_words.specs.declared.access.Access.{Access}
pub use Rattle.smp_words.specs.declared.access.Access.TheVariants.{Load, Store, Swap, Exchange}
pub use Rattle.smp_words.specs.declared.seen.Act.TheVariants as act
pub use Rattle.smp_call_steps.specs.declared.known.KnownCalls.{KnownCalls}
pub use Rattle.smp_call_steps.specs.declared.known.CallPart.{CallPart}
pub use Rattle.smp_call_steps.specs.declared.known.Logged.{Logged}
pub use Rattle.smp_call_steps.specs.declared.known.DirectCall.{DirectCall}
pub use Rattle.smp_call_steps.specs.declared.known.Logged.TheVariants as logged
pub use Rattle.smp_call_steps.specs.declared.known.HeadSeen.{HeadSeen}
pub use Rattle.smp_call_steps.specs.declared.known.HeadSeen.TheVariants as head
pub use Rattle.smp_call_steps.specs.declared.known.CallSetting.{CallSetting}
pub use Rattle.smp_call_steps.specs.declared.known.Running.TheVariants.{Nothing}
pub use Rattle.smp_call_steps.specs.declared.post.Posting.{Posting}
pub use Rattle.smp_call_steps.specs.declared.post.PostStage.{PostStage}
pub use Rattle.smp_call_steps.specs.declared.post.PostStage.TheVariants as post
pub use Rattle.smp_call_steps.specs.declared.handle.Walk.{Walk}
pub use Rattle.smp_call_steps.specs.declared.handle.HandleStage.{HandleStage}
pub use Rattle.smp_call_steps.specs.declared.handle.HandleStage.TheVariants as handle
pub use Rattle.smp_call_steps.specs.declared.stage.Stage.{Stage}
pub use Rattle.smp_call_steps.specs.declared.stage.Stage.TheVariants.{Send, Done, Post, Handle}
pub use Rattle.smp_queue.specs.declared.handler.Heard.{Heard}
pub use Rattle.smp_queue.specs.declared.seat_view.CallSeatView.{CallSeatView}
pub use Rattle.smp_queue.specs.declared.seat_view.CallSeatView.TheVariants.{Maker, New, Cpu}
pub use Rattle.smp_queue.specs.declared.audit.Left.{Left}
pub use Rattle.smp_queue.specs.declared.audit.Tally.{Tally}
pub use Rattle.smp_queue.specs.declared.audit.Audit.{Audit}
pub use Rattle.smp_queue.specs.declared.audit.Audit.TheVariants as audit
