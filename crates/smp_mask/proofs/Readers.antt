-- The reader of CPU lists, one byte at a time.
use Rattle.std.proofs.Common.{◌≡◌, ℕ, ◌+◌, ◌<◌, List, length, drop, get_or, refl, Option, Some, None, Ok, Err, arith}
use Rattle.std.proofs.lemmas.List.{drop_more, drop_all}
use Rattle.std.specs.Option.{ok_or}
use Rattle.smp_mask.specs.Reading.{read_from, step, finished, or_refused, answered}
use Rattle.smp_mask.specs.declared.error.SmpError.TheVariants.{BadMask}
use Rattle.smp_mask.specs.declared.parse.Reader.{Reader}

-- one byte on
pub read_on : (w : ℕ) (r q : Reader) (at : ℕ) (text : List ℕ) (d : ℕ) → at < length text → step w r (get_or text at d) ≡ Some q
    → read_from w r at (drop at text) ≡ read_from w q (at + 1) (drop (at + 1) text)
unfolding read_from
read_on w r q at text d h e = rw (drop_more text at d h, e) refl

pub read_stops : (w : ℕ) (r : Reader) (at : ℕ) (text : List ℕ) (d : ℕ) → at < length text → step w r (get_or text at d) ≡ None
    → read_from w r at (drop at text) ≡ Err (BadMask at)
unfolding read_from
read_stops w r at text d h e = rw (drop_more text at d h, e) refl

answered_or : (at : ℕ) (o : Option ℕ) → or_refused at (λ m. Ok m) o ≡ answered (ok_or o at)
answered_or at None = refl
answered_or at (Some m) = refl

pub read_ends : (w : ℕ) (r : Reader) (at : ℕ) (text : List ℕ) → length text ≡ at
    → read_from w r at (drop at text) ≡ answered (ok_or (finished r.place r.mask) at)
unfolding read_from
read_ends w r at text h = rw (drop_all at text (omega arith)) (answered_or at (finished r.place r.mask))
