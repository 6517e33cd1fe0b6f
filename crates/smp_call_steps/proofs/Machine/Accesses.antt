-- The word of each access is in the table.
use Rattle.std.proofs.Common.{arith, ◌≡◌, ℕ, ◌<◌, Some, List, [], ◌∷◌, ◌+◌, subst}
use Rattle.smp_words.specs.Size.{cpus, records}
use Rattle.smp_words.specs.Access.{word_of}
use Rattle.smp_call_steps.specs.{CallState, Running, Nothing, DrainValue, IsPlaced, locked_by, AllPlaced, ControlValue}
use Rattle.smp_call_steps.specs.{access_of, Share, StandsAt, HandleStands, Reverses, Walks, Ends, PostStands, nexts_in, Call, Word, RecPlace, Posting}
use Rattle.smp_call_steps.specs.{PostStage, Walk, HandleStage, Stage, Post, Handle}
use Rattle.smp_call_steps.specs.Shows.{Shows}
use Rattle.smp_call_steps.proofs.Basics.Alls.{every_right}
use Rattle.smp_call_steps.proofs.State.Walks.{reverses_all, walks_rest, walks_last, ends_rest, same_record}
use Rattle.smp_words.proofs.Links.{HasIndex, IsInTable, in_table}
use Rattle.smp_words.proofs.Sizes.{owner-below}
use Rattle.smp_call_steps.specs.place
use Rattle.smp_call_steps.specs.handle

post_in_table : (places : ℕ → RecPlace) (at : Word → ℕ) (me : ℕ) (p : Posting) (stage : PostStage) → PostStands places at me p stage
    → IsInTable (word_of (access_of at me (Post p stage)))
post_in_table places at me p x s = search arith

module _ (places : ℕ → RecPlace) (at : Word → ℕ) (me : ℕ) (s : Share) (d : DrainValue)
    (batched : AllPlaced places (place.Batch me) s.batch) (runs : AllPlaced places (place.Running me) (locked_by s.running)) where
  -- the calls of the batch are by records

  pub reversed_placed : (up down : ℕ) (call : Call) → Reverses (nexts_in at) s d up down call → IsPlaced places (place.Batch me) call
  reversed_placed up down call h =
      let all = every_right (IsPlaced places (place.Batch me)) h.older (call ∷ h.newer) (reverses_all (IsPlaced places (place.Batch me)) h batched) in
      all.0

  reversed_in_range : (up down : ℕ) (call : Call) (id : ℕ) → Reverses (nexts_in at) s d up down call → call.id ≡ id → id < records
  reversed_in_range up down call id h e = subst (λ (k : ℕ). k < records) e (reversed_placed up down call h).is_call.in_range

  pub walked_placed : (walk : Walk) (id : ℕ) (call : Call) (rest : List Call) → Walks (nexts_in at) s d walk (id + 1) [] (call ∷ rest) Nothing
      → IsPlaced places (place.Batch me) call
  walked_placed walk id call rest h = let all = walks_rest (IsPlaced places (place.Batch me)) h batched in all.0

  walked_in_range : (walk : Walk) (id : ℕ) (call : Call) (rest : List Call) → Walks (nexts_in at) s d walk (id + 1) [] (call ∷ rest) Nothing → id < records
  walked_in_range walk id call rest h = subst (λ (k : ℕ). k < records) (same_record id call h.leads_on.0) (walked_placed walk id call rest h).is_call.in_range

  last_in_range : (walk : Walk) (last here : ℕ) (rest : List Call) → Walks (nexts_in at) s d walk here [] rest Nothing → walk.last ≡ Some last → last < records
  last_in_range walk last here rest h e =
      let k = walks_last (IsPlaced places (place.Batch me)) (nexts_in at) s d walk last here rest h e batched in
      subst (λ (n : ℕ). n < records) k.1 k.2.is_call.in_range

  pub ended_placed : (id : ℕ) (call : Call) (rest : List Call) → Ends (nexts_in at) s d (id + 1) [] (call ∷ rest) Nothing
      → IsPlaced places (place.Batch me) call
  ended_placed id call rest h = let all = ends_rest (IsPlaced places (place.Batch me)) h batched in all.0

  ended_in_range : (id : ℕ) (call : Call) (rest : List Call) → Ends (nexts_in at) s d (id + 1) [] (call ∷ rest) Nothing → id < records
  ended_in_range id call rest h = subst (λ (k : ℕ). k < records) (same_record id call h.leads_on.0) (ended_placed id call rest h).is_call.in_range

  -- the call that runs, where its record is locked meanwhile
  running_in_range : (call : Call) (running : Running) → locked_by running ≡ call ∷ [] → s.running ≡ running → call.id < records
  running_in_range call running e r = search arith

  begun_in_range : (call : Call) (rest : List Call) → s.batch ≡ call ∷ rest → call.id < records
  begun_in_range call rest e = search arith

  ruleset in_range = (reversed_in_range, walked_in_range, last_in_range, ended_in_range, running_in_range, begun_in_range, owner-below)

  handle_in_table : (stage : HandleStage) → me < cpus → HandleStands (nexts_in at) s d stage → IsInTable (word_of (access_of at me (Handle stage)))
  handle_in_table handle.Enter l h = l
  handle_in_table _ l h = search (in_range, arith)

  stage_in_table : (stage : Stage) → StandsAt places at s d me (Some stage) → IsInTable (word_of (access_of at me stage))
  stage_in_table x h = search (post_in_table, handle_in_table, arith)

-- the CPU of a stage, and the word of its access
pub access_in_table : (a : CallState) (at : Word → ℕ) (control : ℕ → ControlValue) (me : ℕ) → Shows a at control → (stage : Stage)
    → (control me).stage ≡ Some stage → HasIndex (word_of (access_of at me stage))
access_in_table a at control me s stage e = search (in_table, stage_in_table, arith)
