-- The order in which the steps of a command touch their words.
use Rattle.std.specs.Prelude.{◌≡◌, ℕ, Option, IsSomeAnd}
use Rattle.smp_words.specs.{Access.word_of, Flags.class_of, Size.owner}
use Rattle.smp_call_steps.specs.Drains.{DrainValue}
use Rattle.smp_call_steps.specs.Stages.{access_of, outcome_of}
use Rattle.smp_call_steps.specs.Names.{Sync, Word, Head, Intr, Queued, Ran, Flags, Func, Info, Next, Stage, Post, Handle}
use Rattle.smp_call_steps.specs.Names.post
use Rattle.smp_call_steps.specs.Names.handle

-- the step that follows is to this word, whatever the words hold then
abbrev pub IsTo : ℕ → Option Stage → Word → Type 0
IsTo me next word = IsSomeAnd next (λ stage. (at : Word → ℕ) → word_of (access_of at me stage) ≡ word)

-- A post touches flags, flags, func, info, its tally word, the head, the next word, and the head again, in this order; one that
-- gives up touches its tally word and then its flags. A handling touches its interrupt word, and then the head of its queue. Of
-- a record of its batch it touches next, flags, func and info, in this order; it begins the call, counts it, and a SYNC one it
-- unlocks at the end.
abbrev pub TouchesThen : ℕ → Stage → ℕ → Option Stage → Type 0
TouchesThen me (Post p post.Lock) found next = IsTo me next (Func p.id)
TouchesThen me (Post p post.StoreFunc) found next = IsTo me next (Info p.id)
TouchesThen me (Post p post.StoreInfo) found next = IsTo me next (Queued me p.to)
TouchesThen me (Post p post.Count) found next = IsTo me next (Head p.to)
TouchesThen me (Post p post.LoadHead) found next = IsTo me next (Next p.id)
TouchesThen me (Post p (post.StoreNext link tries)) found next = IsTo me next (Head p.to)
TouchesThen me (Post p post.Uncount) found next = IsTo me next (Flags p.id)
TouchesThen me (Handle handle.Enter) found next = IsTo me next (Intr me)
TouchesThen me (Handle (handle.LoadNext walk id)) found next = IsTo me next (Flags id)
TouchesThen me (Handle (handle.LoadFlags walk id follower)) found next = class_of found ≡ Sync → IsTo me next (Func id)
TouchesThen me (Handle (handle.LoadFunc walk id follower)) found next = IsTo me next (Info id)
TouchesThen me (Handle (handle.BeginSync walk call follower)) found next = IsTo me next (Ran me (owner call.id))
TouchesThen me (Handle (handle.CountSync walk call follower)) found next = IsTo me next (Flags call.id)
TouchesThen me (Handle (handle.AsyncNext id)) found next = IsTo me next (Func id)
TouchesThen me (Handle (handle.AsyncFunc id follower)) found next = IsTo me next (Info id)
TouchesThen me (Handle (handle.AsyncInfo id follower func)) found next = IsTo me next (Flags id)
TouchesThen me (Handle (handle.BeginAsync call follower)) found next = IsTo me next (Ran me (owner call.id))
TouchesThen me _ found next = Unit {0}

abbrev pub WordsInOrder : Type 0
WordsInOrder = (me : ℕ) (d : DrainValue) (stage : Stage) (found : ℕ) → TouchesThen me stage found (outcome_of d stage found).next
