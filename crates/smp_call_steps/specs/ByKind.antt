-- The words of one kind, by record, by CPU or by pair.
use Rattle.std.specs.Prelude.{ℕ}
use Rattle.smp_call_steps.specs.Names.{Word, Head, Intr, Hand, Queued, Ran, Flags, Func, Info, Next}

abbrev pub flags_in : (Word → ℕ) → ℕ → ℕ
flags_in at id = at (Flags id)

abbrev pub funcs_in : (Word → ℕ) → ℕ → ℕ
funcs_in at id = at (Func id)

abbrev pub infos_in : (Word → ℕ) → ℕ → ℕ
infos_in at id = at (Info id)

abbrev pub nexts_in : (Word → ℕ) → ℕ → ℕ
nexts_in at id = at (Next id)

abbrev pub heads_in : (Word → ℕ) → ℕ → ℕ
heads_in at cpu = at (Head cpu)

abbrev pub intrs_in : (Word → ℕ) → ℕ → ℕ
intrs_in at cpu = at (Intr cpu)

abbrev pub hands_in : (Word → ℕ) → ℕ → ℕ
hands_in at cpu = at (Hand cpu)

abbrev pub queued_in : (Word → ℕ) → ℕ → ℕ → ℕ
queued_in at source cpu = at (Queued source cpu)

abbrev pub ran_in : (Word → ℕ) → ℕ → ℕ → ℕ
ran_in at cpu source = at (Ran cpu source)
