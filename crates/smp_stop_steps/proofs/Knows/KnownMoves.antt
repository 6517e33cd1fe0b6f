-- Each step that a CPU may make by what it knows goes on to stops of which all know their part.
use Rattle.std.proofs.Common.{ℕ, Some, None, refl}
use Rattle.smp_stop_steps.specs.{word_of, at_after, seen_of, Sees, GoesOnBy, Seen, setup_in, slot_known, learned, known_entering, is_drafting, is_due, StopRole}
use Rattle.smp_stop_steps.specs.{StopShows, Source, StopState, Field, Word, Slot, Entry, Threads.Known.KnownStops, Act}
use Rattle.smp_stop_steps.specs.Threads.Moves.{Move, TakeGate, OpenGate, Draft, DraftMore, Open, Enter, Look, Acknowledge, AcknowledgePatch, Refill, Raise}
use Rattle.smp_stop_steps.specs.Threads.Moves.{Give, Count, CountGiven, Close, LookDone, Collect, ReadKey, ReadSite, Nudge, BeginPatch, Alter, LoadArg}
use Rattle.smp_stop_steps.specs.Threads.Moves.{LoadField, LoadEntry, MayStep, known_access, entering, IsPlain}
use Rattle.smp_stop_steps.proofs.Knows.KnownEnds.{give, count, count_given, close}
use Rattle.smp_stop_steps.proofs.Knows.KnownLabels.{read_key, read_site, nudge, begin_patch, alter}
use Rattle.smp_stop_steps.proofs.Knows.KnownRounds.{enter, load_arg, look, acknowledge, acknowledge_patch, refill, raise}
use Rattle.smp_stop_steps.proofs.Knows.KnownSources.{still, take_gate, open_gate, draft, draft_more, open_stop, look_done, collect}
use Rattle.smp_stop_steps.proofs.Knows.Parts.{counted_step, seen_by}

module _ (p : StopState) (at : Word → ℕ) (seat : ℕ → StopRole) (source : ℕ → Source) (v : KnownStops) (h : StopShows (setup_in v.setting) p at seat source)
    (sees : Sees p seat source v) where
  abbrev Goes : Seen → (Word → ℕ) → KnownStops → Type 0
  Goes seen at' w = GoesOnBy v.setting p seat source v.number at' w seen

  load_field : (s : ℕ) (f : Field) → IsPlain f
      → Goes (seen_by v.number Act.Load (Slot s f) (Some (at (Slot s f))) None) at (slot_known (p.now.stop s).work v s Act.Load f (Some (at (Slot s f))) None)
  load_field s Field.Kind i = still p at seat source v h sees Act.Load (Slot s Field.Kind) (Some (at (Slot s Field.Kind))) None refl
  load_field s Field.Mask i = still p at seat source v h sees Act.Load (Slot s Field.Mask) (Some (at (Slot s Field.Mask))) None refl
  load_field s Field.Active i = still p at seat source v h sees Act.Load (Slot s Field.Active) (Some (at (Slot s Field.Active))) None refl
  load_field s Field.Func i = still p at seat source v h sees Act.Load (Slot s Field.Func) (Some (at (Slot s Field.Func))) None refl
  load_field s _ i = absurd i

  -- what each step tells
  tells_move : (m : Move) → MayStep v m →
      let a = known_access v m in
      let seen = seen_of v.number a (at (word_of a)) None in
      Goes seen (at_after at a) (learned (entering p (word_of a)) v seen.act seen.word seen.found seen.put)
  tells_move TakeGate m = take_gate p at seat source v h sees
  tells_move OpenGate m = open_gate p at seat source v h sees m.0 m.1
  tells_move (Draft w) m = draft p at seat source v h sees w m.0 m.1 m.2
  tells_move (DraftMore w f) m = draft_more p at seat source v h sees w f m.0 m.1 m.2 m.3
  tells_move (Open w) m = open_stop p at seat source v h sees w m.0
  tells_move (Enter s) m = enter p at seat source v h sees s m
  tells_move (Look s w a l) m = look p at seat source v h sees s w a l m.0 m.1
  tells_move (Acknowledge s w a) m = acknowledge p at seat source v h sees s w a m.0 m.1
  tells_move (AcknowledgePatch s w count made) m = acknowledge_patch p at seat source v h sees s w count made m
  tells_move (Refill s w a l) m = refill p at seat source v h sees s w a l m.0 m.1
  tells_move (Raise s w a l) m = raise p at seat source v h sees s w a l m.0 m.1
  tells_move (Give s w a l x) m = give p at seat source v h sees s w a l x m.0 m.1 m.2 m.3 m.4
  tells_move (Count s w a l) m = count p at seat source v h sees s w a l m.0 m.1 m.2
  tells_move (CountGiven s w a x) m = count_given p at seat source v h sees s w a x m.0 m.1
  tells_move (Close s) m = close p at seat source v h sees s m.0 m.1
  tells_move (LookDone w) m = look_done p at seat source v h sees w m
  tells_move (Collect w) m = collect p at seat source v h sees w m
  tells_move (ReadKey k) m = read_key p at seat source v h sees k m
  tells_move (ReadSite i) m = read_site p at seat source v h sees i
  tells_move (Nudge k found new) m = nudge p at seat source v h sees k found new m.0 m.1 m.2 m.3
  tells_move (BeginPatch s w) m = begin_patch p at seat source v h sees s w m.0 m.1 m.2
  tells_move (Alter s w count made change rest) m = alter p at seat source v h sees s w count made rest change.0 change.1 m.0 m.1 m.2
  tells_move (LoadArg s w a l) m = load_arg p at seat source v h sees s w a l m
  tells_move (LoadField s w a l f) m = load_field s f m.0
  tells_move (LoadEntry s w count made rest i) m = still p at seat source v h sees Act.Load (Entry i) (Some (at (Entry i))) None refl

  -- and that it is counted, where it is not due
  pub known_move : (m : Move) → MayStep v m →
      let a = known_access v m in
      let seen = seen_of v.number a (at (word_of a)) None in
      Goes seen (at_after at a) (known_entering (entering p (word_of a)) v seen.act seen.word seen.found seen.put)
  known_move m may = let a = known_access v m in
      let seen = seen_of v.number a (at (word_of a)) None in
      counted_step p seat source v sees (at_after at a) (learned (entering p (word_of a)) v seen.act seen.word seen.found seen.put)
      (is_due (is_drafting v.source) seen.act seen.word) (tells_move m may)
