-- The count law: a key's word is what all CPUs together have moved it.
use Rattle.std.specs.Prelude.{◌≡◌, ℕ, ◌+◌, ◌-◌}
use Rattle.smp_stop_steps.specs.{Names.put, Counts.sum_below, State.Moved}

-- the count was moved from the old word to the new one
abbrev pub moves : Moved → ℕ → ℕ → Moved
moves m old new = record { up = m.up + (new - old); down = m.down + (old - new) }

-- it was this CPU, and this key
abbrev pub moved_by : (ℕ → ℕ → Moved) → ℕ → ℕ → ℕ → ℕ → ℕ → ℕ → Moved
moved_by f me k old new = put f me (put (f me) k (moves (f me k) old new))

-- how far up, and how far down, n CPUs have moved the count of key k
abbrev pub ups : ℕ → (ℕ → ℕ → Moved) → ℕ → ℕ
ups n f k = sum_below (λ c. (f c k).up) n

abbrev pub downs : ℕ → (ℕ → ℕ → Moved) → ℕ → ℕ
downs n f k = sum_below (λ c. (f c k).down) n

-- the word of key k: what was nudged and patched up, less what was nudged and patched down
abbrev pub CountShows : ℕ → (ℕ → ℕ → Moved) → (ℕ → ℕ → Moved) → ℕ → ℕ → Type 0
CountShows n nudged patched k word = word + (downs n nudged k + downs n patched k) ≡ ups n nudged k + ups n patched k
