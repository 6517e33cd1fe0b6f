-- What is kept of the lines of a text.
use Rattle.std.specs.Prelude.{◌≡◌, ℕ, ◌+◌, Bool, true, false, not, ◌==◌, ◌&&◌, ◌||◌, if◌then◌else◌, nat_le, zero, suc}
use Rattle.std.specs.Prelude.{List, [], ◌∷◌, ◌++◌, length, Option, Some, None}
use Rattle.std.specs.Str.{bytes_eq}
use Rattle.trace_ftrace.specs.declared.kept.Mark.{Mark}
use Rattle.trace_ftrace.specs.declared.sign.Sign.{Sign}
use Rattle.trace_ftrace.specs.declared.sign.Sign.TheVariants as sign
use Rattle.trace_ftrace.specs.declared.sign.Sort.{Sort}
use Rattle.trace_ftrace.specs.declared.sign.Sort.TheVariants as sort

-- the functions by their numbers, what the lines show, the time of each CPU's last line and of the first line, and the first line
-- that shows that a CPU has gone offline
pub record KeptValue : Type 0 where
  pub names : List (List ℕ)
  pub marks : List Mark
  pub times : List ℕ
  pub first : Option ℕ
  pub offline : Option ℕ

-- the place of a name among these, of which the first has this place
abbrev pub name_place : ℕ → List ℕ → List (List ℕ) → Option ℕ
name_place i name [] = None
name_place i name (n ∷ ns) = if bytes_eq n name then Some i else name_place (i + 1) name ns

-- the number of a name, and the names with it
abbrev pub numbered_at : Option ℕ → List ℕ → List (List ℕ) → ℕ × List (List ℕ)
numbered_at (Some i) name names = (i, names)
numbered_at None name names = (length names, names ++ name ∷ [])

unfoldable pub numbered : List ℕ → List (List ℕ) → ℕ × List (List ℕ)
numbered name names = numbered_at (name_place 0 name names) name names

-- a mark is that this CPU queues this record
abbrev pub is_queue_of_sign : ℕ → ℕ → ℕ → Sign → Bool
is_queue_of_sign cpu address of (sign.Queue to queued s told) = of == cpu && queued == address
is_queue_of_sign cpu address of _ = false

abbrev pub is_queue_of : ℕ → ℕ → Mark → Bool
is_queue_of cpu address m = is_queue_of_sign cpu address m.at.cpu m.sign

-- some mark is
abbrev pub has_queue : ℕ → ℕ → List Mark → Bool
has_queue cpu address [] = false
has_queue cpu address (m ∷ ms) = is_queue_of cpu address m || has_queue cpu address ms

-- a line of its own has told the sort of what is queued
abbrev pub is_told : Sign → Bool
is_told (sign.Queue to queued s told) = told
is_told _ = false

-- what is queued is told to be of this sort; wakes remain wakes
abbrev pub sorted_sign : Sort → Sign → Sign
sorted_sign s (sign.Queue to address sort.Wake told) = sign.Queue to address sort.Wake true
sorted_sign s (sign.Queue to address _ told) = sign.Queue to address s true
sorted_sign s other = other

abbrev pub sorted : Sort → Mark → Mark
sorted s m = record { at = m.at; func = m.func; sign = sorted_sign s m.sign }

-- the marks with the last of this CPU and record being of this sort; none where there is none, or its sort has been told
abbrev pub behind_first : Mark → Option (List Mark) → Option (List Mark)
behind_first m (Some later) = Some (m ∷ later)
behind_first m None = None

abbrev pub classed : ℕ → ℕ → Sort → List Mark → Option (List Mark)
classed cpu address s [] = None
classed cpu address s (m ∷ ms) =
    if has_queue cpu address ms then behind_first m (classed cpu address s ms)
    else (if is_queue_of cpu address m && not (is_told m.sign) then Some (sorted s m ∷ ms) else None)

-- there was such a mark and these are the marks with it, or there was none
abbrev pub Classed : Bool → List Mark → List Mark → Option (List Mark) → Type 0
Classed true old new made = made ≡ Some new
Classed false old new made = (made ≡ None) × (new ≡ old)

-- a mark is of this CPU
abbrev pub on_cpu : ℕ → List Mark → Bool
on_cpu cpu [] = false
on_cpu cpu (m ∷ ms) = m.at.cpu == cpu || on_cpu cpu ms

-- how many marks there are up to the last that is not later than this time
abbrev pub or_first : ℕ → Bool → ℕ
or_first (suc n) here = suc (suc n)
or_first zero here = if here then 1 else 0

abbrev pub behind : ℕ → List Mark → ℕ
behind time [] = 0
behind time (m ∷ ms) = or_first (behind time ms) (nat_le m.at.time time)
