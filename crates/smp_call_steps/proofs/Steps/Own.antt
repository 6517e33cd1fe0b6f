-- A step of a CPU on a record of its own that is in no queue and no batch.
use Rattle.std.proofs.Common.{arith, ◌≡◌, ◌≢◌, ℕ, cond, Option, List, [], ◌∷◌, subst, ◌∙◌, ◌⊎◌}
use Rattle.std.proofs.lemmas.Bool.{cases_eq}
use Rattle.std.specs.List.{AllByRecursion}
use Rattle.smp_words.specs.Put.{put}
use Rattle.smp_words.specs.Size.{owner}
use Rattle.smp_call_steps.specs.{CallState, Holding, ControlValue, Holds, AllPlaced, FlagsShow, Chained, Linked, LinkIs, Noticed, nexts_in}
use Rattle.smp_call_steps.specs.{heads_in, intrs_in, queued_in, ran_in, IsWrittenIn, WrittenIn, Tallied, StandsAt, share_of, held_of, held_of_post, HandIs}
use Rattle.smp_call_steps.specs.{Call, Word, Head, Intr, Hand, Flags, RecPlace, Posting, PostStage, Stage}
use Rattle.smp_call_steps.specs.Stands.{CallStands}
use Rattle.smp_call_steps.specs.Shows.{Shows}
use Rattle.smp_words.proofs.Puts.{at_test, put_all}
use Rattle.smp_call_steps.proofs.Steps.Frames.{Touches, Minds, Leads-kept, leaves_others, CallStands-kept}
use Rattle.smp_call_steps.proofs.Steps.Placings.{IsHome, OwnMove, away_queue, away_batch, away_running, placed_own}
use Rattle.smp_call_steps.specs.place

-- the record of a post that holds it
pub post_holds : (p : Posting) (st : PostStage) (u : ℕ) → Holds (held_of_post p st) u → u ≡ p.id
post_holds p x u h = search arith

module _ {a : CallState} {at : Word → ℕ} {control : ℕ → ControlValue} (s : Shows a at control) where
  stage_owns : (places : ℕ → RecPlace) (cpu u : ℕ) (stage : Option Stage) (c : ControlValue) → StandsAt places at (share_of a cpu) c.drain cpu stage
      → Holds (held_of stage) u → owner u ≡ cpu
  stage_owns places cpu u y c h k = search (post_holds, arith)

  -- a held record is its holder's
  pub holder_owns : (cpu u : ℕ) → Holds (a.held cpu) u → owner u ≡ cpu
  holder_owns cpu u h = stage_owns a.place cpu u (control cpu).stage (control cpu) (s.stands cpu) (subst (λ (x : Option Holding). Holds x u) (s.held cpu) h)

pub LinkIs-kept : (nexts nexts' : ℕ → ℕ) (h : Option Holding) (l : Option ℕ) → ((u : ℕ) → Holds h u → nexts' u ≡ nexts u) → LinkIs nexts h l → LinkIs nexts' h l
LinkIs-kept nexts nexts' x l f k = search arith

home_minds : (me id : ℕ) (p : RecPlace) → owner id ≡ me → IsHome p → Minds me id p
home_minds me id p o x = search arith

-- the heads, interrupts and handling words stay
pub record KeepsCpus (at at' : Word → ℕ) : Type 0 where
  pub head : (cpu : ℕ) → at' (Head cpu) ≡ at (Head cpu)
  pub intr : (cpu : ℕ) → at' (Intr cpu) ≡ at (Intr cpu)
  pub hand : (cpu : ℕ) → at' (Hand cpu) ≡ at (Hand cpu)

-- what a step on an own record does
pub record OwnStep (a : CallState) (at at' : Word → ℕ) (control : ℕ → ControlValue) (me id : ℕ) (next : ControlValue) (places' : ℕ → RecPlace)
    (held' : ℕ → Option Holding) (linked' : ℕ → Option ℕ) : Type 0 where
  pub touches : Touches id a.place places' at at'
  pub keeps : KeepsCpus at at'
  pub owned : owner id ≡ me
  pub before : IsHome (a.place id)
  pub after : (places' id ≡ place.Free) ⊎ ((places' id ≡ place.Held) × Holds (held' me) id)
  pub flags : FlagsShow (places' id) (at' (Flags id))
  pub mine_only : (u : ℕ) → Holds (a.held me) u → u ≡ id
  pub my_held : held' me ≡ held_of next.stage
  pub others_held : (cpu : ℕ) → cpu ≢ me → held' cpu ≡ a.held cpu
  pub my_link : LinkIs (nexts_in at') (held' me) (linked' me)
  pub others_linked : (cpu : ℕ) → cpu ≢ me → linked' cpu ≡ a.linked cpu
  pub tallied : Tallied (queued_in at') (ran_in at') a.sent held' a.ran a.running
  pub stands : CallStands places' at' (share_of a me) me next
  pub hand : HandIs next.stage (at' (Hand me))

module _ (a : CallState) (at at' : Word → ℕ) (control : ℕ → ControlValue) (me id : ℕ) (next : ControlValue) (places' : ℕ → RecPlace)
    (held' : ℕ → Option Holding) (linked' : ℕ → Option ℕ)
    (s : Shows a at control) (o : OwnStep a at at' control me id next places' held' linked') where
  written_else : (p : RecPlace) → (IsHome p → ⊥) → (calls : List Call) → AllPlaced a.place p calls → AllByRecursion (IsWrittenIn at) calls
      → AllByRecursion (IsWrittenIn at') calls
  written_else p away [] q w = tt
  written_else p away (call ∷ rest) q w = search (written_else p away rest q.1 w.1, arith)

  move : OwnMove a me id places' held'
  move = record {
    place_stays = o.touches.place_stays;
    owned = o.owned;
    before = o.before;
    after = o.after;
    mine_only = o.mine_only;
    others_held = o.others_held;
  }

  written' : WrittenIn at' places' a.queue a.batch a.running
  written' = search (cases_eq, written_else, away_queue, away_batch, away_running, arith)

  chained' : Chained (heads_in at') (nexts_in at') a.queue
  chained' = search (Leads-kept, away_queue, arith)

  links' : Linked (nexts_in at') held' linked'
  links' = search (cases_eq, LinkIs-kept, holder_owns, arith)

  noticed' : Noticed (intrs_in at') a.queue a.pending a.accepted a.owes
  noticed' = record { words = λ cpu. o.keeps.intr cpu ∙ s.noticed.words cpu; noticed = s.noticed.noticed }

  pub own_step : Shows (record a { place = places'; held = held'; linked = linked' }) at' (put control me next)
  own_step = record {
    held = λ cpu. at_test cpu me (λ b. held' cpu ≡ held_of (cond b next (control cpu)).stage) (λ e. rw e o.my_held) (λ ne. o.others_held cpu ne ∙ s.held cpu);
    stands = put_all (λ cpu x. CallStands places' at' (share_of a cpu) cpu x) control me next o.stands
        (λ cpu ne. CallStands-kept (leaves_others me id a.place places' at at' (home_minds me id (a.place id) o.owned o.before) o.touches cpu ne)
        (share_of a cpu)
        (control cpu) (s.placed.batched cpu) (s.stands cpu));
    hands = put_all (λ cpu (x : ControlValue). HandIs x.stage (at' (Hand cpu))) control me next o.hand (λ cpu _. rw (o.keeps.hand cpu) (s.hands cpu));
    placed = placed_own a s.placed me id places' held' move;
    written = written';
    chained = chained';
    links = links';
    noticed = noticed';
    recorded = s.recorded;
    tallied = o.tallied;
  }
