-- The word of a key: its count, and what becomes of it.
use Rattle.std.specs.Prelude.{ℕ, ◌+◌, ◌-◌, ◌≤◌, ◌==◌, Bool, nat_lt, if◌then◌else◌, Option, Some, None}
use Rattle.smp_mask.specs.declared.error.Edge.{Edge}
use Rattle.smp_mask.specs.declared.error.Edge.TheVariants.{Full, Zero}
use Rattle.smp_labels.specs.declared.keys.Change.{Change}
use Rattle.smp_labels.specs.declared.keys.Change.TheVariants.{Off, On, Up, Down}

-- whether the key is on
abbrev pub is_on : ℕ → Bool
is_on word = nat_lt 0 word

-- a key can have this word: a count from 0 to 65535
abbrev pub IsKeyWord : ℕ → Type 0
IsKeyWord word = word ≤ 65535

-- the change of this number
abbrev pub change_of : ℕ → Change
change_of word = if word == 0 then Off else if word == 1 then On else if word == 2 then Up else Down

-- the number of a change
abbrev pub change_word : Change → ℕ
change_word Off = 0
change_word On = 1
change_word Up = 2
change_word Down = 3

-- the count after a change; none where it is at that end of its range
abbrev pub count_after : Change → ℕ → Option ℕ
count_after Off n = Some 0
count_after On n = Some (if n == 0 then 1 else n)
count_after Up n = if nat_lt n 65535 then Some (n + 1) else None
count_after Down n = if n == 0 then None else Some (n - 1)

-- the count that a change leaves: the old one where there is no room for it
abbrev pub count_or : ℕ → Option ℕ → ℕ
count_or n None = n
count_or n (Some m) = m

abbrev pub count_left : Change → ℕ → ℕ
count_left change n = count_or n (count_after change n)

-- which end of its range stops a change
abbrev pub edge_of : Change → Edge
edge_of Up = Full
edge_of _ = Zero
