-- Lists of which every item is the same.
use Rattle.std.proofs.Common.{◌≡◌, ℕ, ◌≤◌, List, length, replicate, ap, ◌∙◌, arith}
use Rattle.std.proofs.lemmas.List.{length-replicate}
use Rattle.trace_model.specs.declared.call.Place.{Place}
use Rattle.trace_model.specs.declared.call.Place.TheVariants.{Free}
use Rattle.trace_model.specs.Opened.{places_free}

-- this number of them were made
pub all_made : {X : Type 0} (x : X) (xs : List X) (n m : ℕ) → xs ≡ replicate n x → n ≤ m → m ≤ n → xs ≡ replicate m x
all_made x xs n m made most least = let same : n ≡ m = omega arith in made ∙ ap (λ (k : ℕ). replicate k x) same

pub free_all : (places : List Place) (n m : ℕ) → places ≡ replicate n Free → n ≤ m → m ≤ n → places ≡ places_free m
unfolding places_free
free_all places n m made most least = all_made Free places n m made most least

pub length_free : (n : ℕ) → length (places_free n) ≡ n
unfolding places_free
length_free n = length-replicate n Free
