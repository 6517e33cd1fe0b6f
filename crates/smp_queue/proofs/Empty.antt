-- A table none of whose CPUs has made a step is empty.
use Rattle.std.proofs.Common.{◌≡◌, ℕ, ◌<◌, Bool, true, false, List, [], ◌∷◌, sym, ◌∙◌, refl, arith}
use Rattle.smp_words.specs.Size.{records}
use Rattle.smp_call_steps.specs.Places.{AllPlaced}
use Rattle.smp_call_steps.specs.Words.{FlagsShow, bit, nexts_in}
use Rattle.smp_call_steps.specs.declared.place.RecPlace.{RecPlace}
use Rattle.smp_call_steps.specs.declared.place.RecPlace.TheVariants as place
use Rattle.smp_call_steps.proofs.State.Batches.{no_chain}
use Rattle.smp_queue.specs.{Call, Word, Head, Intr, Flags, TableValue, number_in}
use Rattle.smp_queue.specs.Empty.{BeginsEmpty}

-- no call is by a record that is elsewhere
none_placed : (places : ℕ → RecPlace) (p : RecPlace) (calls : List Call) → (p ≡ place.Free → ⊥) → ((id : ℕ) → id < records → places id ≡ place.Free)
    → AllPlaced places p calls → calls ≡ []
none_placed places p [] ne free h = refl
none_placed places p (call ∷ rest) ne free h = absurd (let c = h.0.is_call in ne (sym h.0.placed ∙ free call.id c.in_range))

-- a record is free whose flags are 0
free_at : (p : RecPlace) (flags : ℕ) → flags ≡ 0 → FlagsShow p flags → p ≡ place.Free
free_at place.Free flags e h = refl
free_at _ flags e h = absurd (omega arith)

-- an interrupt word that is 0 has none pending
pub not_pending : (b : Bool) → 0 ≡ bit b → b ≡ false
not_pending true e = absurd (omega arith)
not_pending false e = refl

pub begins_empty : (t : TableValue) → BeginsEmpty t
begins_empty t s r none = record {
  words = nil;
  queues = λ cpu. no_chain (nexts_in (number_in s.words)) (number_in s.words (Head cpu)) (r.calls.queue cpu) (nil (Head cpu)) (r.shown.chained.chain cpu);
  pending = λ cpu. not_pending (r.calls.pending cpu) (sym (nil (Intr cpu)) ∙ r.shown.noticed.words cpu);
  batches = λ cpu. none_placed r.calls.place (place.Batch cpu) (r.calls.batch cpu) (λ e. cc) free (r.shown.placed.batched cpu);
  free = free;
}
  where
    nil : (word : Word) → number_in s.words word ≡ 0
    nil word = r.unused none word

    free : (id : ℕ) → id < records → r.calls.place id ≡ place.Free
    free id small = free_at (r.calls.place id) (number_in s.words (Flags id)) (nil (Flags id)) (r.shown.written.locks id)
