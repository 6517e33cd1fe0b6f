-- How many steps a part of a call makes, where that is not the same each time.
use Rattle.std.specs.Prelude.{ℕ, ◌+◌, nat_lt, ◌==◌, cond, length}
use Rattle.smp_labels.specs.Keys.{is_on}
use Rattle.smp_labels.specs.Kinds.{xor}
use Rattle.smp_labels.specs.declared.words.TheConstants.{MOST_SITES}
use Rattle.smp_stop_steps.specs.Threads.Known.{setup_in}
use Rattle.smp_stop_steps.specs.Labels.{count_set}
use Rattle.smp_stop_steps.specs.Tells.{plan_at}
use Rattle.smp_multi.specs.Names.{StopSetting, Work}

-- a CPU that completes stores an answer that is not 0, and counts itself; the last one's store of done is due, and not counted
abbrev pub giving : ℕ → ℕ
giving answer = cond (answer == 0) 0 1

abbrev pub completing : ℕ → ℕ
completing answer = giving answer + 1

-- the loads that find all of a number of entries: one each, and that of the word behind them, where there is one
abbrev pub finding : ℕ → ℕ
finding n = cond (nat_lt n MOST_SITES) (n + 1) MOST_SITES

-- a patch from one count to another finds all entries where the key turns on or off, and else loads none
abbrev pub loading : ℕ → ℕ → ℕ → ℕ
loading old new n = cond (old == new) 0 (cond (xor (is_on old) (is_on new)) (finding n) 0)

-- a patch that has found this count: its loads of entries, and its stores
abbrev pub patching : StopSetting → Work → ℕ → ℕ
patching k w count = loading count (count_set w count) (length k.labels.entries) + length (plan_at (setup_in k) w count)
