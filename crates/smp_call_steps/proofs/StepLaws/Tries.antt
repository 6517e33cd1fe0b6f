-- What a CPU does with what it finds in a head, until its call is queued.
use Rattle.std.proofs.Common.{arith, ◌≡◌, ℕ, ◌+◌, ◌-◌, Bool, cond, Some, None}
use Rattle.smp_words.specs.Access.{word_of}
use Rattle.smp_call_steps.specs.{CallState, ends, goes_to, ControlValue, access_of, outcome_of, seen_then, GoesOnWith, Word, Head, Note, Posting}
use Rattle.smp_call_steps.specs.{Stage, Post}
use Rattle.smp_call_steps.specs.Shows.{Shows}
use Rattle.smp_call_steps.proofs.Steps.Turns.{holds_nothing}
use Rattle.smp_call_steps.specs.act
use Rattle.smp_call_steps.specs.post

-- the stage that follows is the one that is named
some_same : (x y : Stage) → Some x ≡ Some y → x ≡ y
some_same x y e = cc

module _ (a : CallState) (at : Word → ℕ) (control : ℕ → ControlValue) (s : Shows a at control) (me : ℕ) where
  abbrev Goes : Stage → Type 0
  Goes stage = let seen = seen_then at (control me).drain me stage in
      (next : Stage) → (outcome_of (control me).drain stage (at (word_of (access_of at me stage)))).next ≡ Some next →
      (at' : Word → ℕ) → GoesOnWith a me seen.act seen.word seen.found seen.put (access_of at' me next)

  lost : (p : Posting) (link tries : ℕ) (b c : Bool) (won : Note) → (control me).stage ≡ Some (Post p (post.Exchange link tries)) → (next : Stage) →
      (cond b (ends won) (cond c (goes_to p (post.StoreNext (at (Head p.to)) (tries - 1))) (goes_to p post.Uncount))).next ≡ Some next →
      (at' : Word → ℕ) → GoesOnWith a me act.Cas (Head p.to) (Some (at (Head p.to))) (cond b (Some (p.id + 1)) None) (access_of at' me next)
  lost p link tries x c won e next f at' = search (some_same, arith)

  ruleset named_stage = (some_same, lost, holds_nothing)

  pub tries_go : (stage : Stage) → (control me).stage ≡ Some stage → Goes stage
  tries_go x e next f at' = search arith
