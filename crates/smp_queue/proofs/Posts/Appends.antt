-- A CPU that tries to append a call: what it knows between two tries.
use Rattle.std.proofs.Common.{◌≡◌, ◌≢◌, ℕ, ◌==◌, Some, refl, ap, ◌∙◌, arith}
use Rattle.atomic_table.specs.Seated.{TableId}
use Rattle.smp_call_steps.specs.Threads.Heads.{Found, by_load, by_exchange, last_found, AreOthers}
use Rattle.smp_call_steps.specs.Stands.{posted}
use Rattle.smp_call_steps.specs.Threads.Known.{standing, queued_known, outside_known, looked_known, lost_one, stepped, lost_tries}
use Rattle.smp_queue.specs.{KnownCalls, Posting, Post, GivesUp, SeatValue, IsMine, IsCounting, IsTallied, counted}
use Rattle.smp_queue.specs.Appends.{Appends}
use Rattle.smp_queue.proofs.Posts.Ready.{mine_moved}
use Rattle.smp_queue.specs.post

-- it is before its next try, at the last of the numbers that it has found, and else knows what it knew
pub record Tries (table : TableId) (before seat : SeatValue) (p : Posting) (link : ℕ) (found : Found) : Type 0 where
  pub table_is : seat.table ≡ table
  pub known_is : seat.known ≡ standing (counted p) post.LoadHead (lost_tries found before.known)
  pub others : AreOthers found
  pub link_is : link ≡ last_found found

-- before its first try it has loaded the head
pub tries_first : (table : TableId) (before seat : SeatValue) (p : Posting) (link : ℕ) → seat.table ≡ table
    → seat.known ≡ standing (counted p) post.LoadHead (looked_known link before.known) → Tries table before seat p link (by_load link)
tries_first table before seat p link is known = search arith

module _ {table : TableId} {before seat : SeatValue} {p : Posting} {link : ℕ} {found : Found} (t : Tries table before seat p link found) where
  pub tries_mine : IsMine table before p → IsMine table seat p
  tries_mine m = mine_moved table before seat p (standing (counted p) post.LoadHead (lost_tries found before.known)) m t.table_is t.known_is refl

  pub tries_stage : seat.known.stage ≡ Some (Post (counted p) post.LoadHead)
  tries_stage = ap (λ (u : KnownCalls). u.stage) t.known_is

  pub tries_tallied : (number count : ℕ) → IsCounting before.known p number count → IsTallied seat.known p number count
  tries_tallied number count k = search arith

  -- the call is queued
  pub tries_won : (v : KnownCalls) → v ≡ queued_known (posted p) p.to (link == 0) link seat.known → Appends p (link == 0) found before.known v
  tries_won v e = search arith

  -- it has given up
  pub tries_left : (v : KnownCalls) → v ≡ outside_known (stepped 2 seat.known) → GivesUp found before.known v
  tries_left v e = record { others = t.others; known_is = e ∙ ap (λ (u : KnownCalls). outside_known (stepped 2 u)) t.known_is }

  -- it has lost one more
  pub tries_lost : (next : SeatValue) (n : ℕ) → next.table ≡ table → next.known ≡ lost_one link n seat.known → n ≢ link
      → Tries table before next p n (by_exchange found n)
  tries_lost next n is known other = search arith
