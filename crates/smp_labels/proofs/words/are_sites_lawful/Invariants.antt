use Rattle.std.proofs.Common.{◌≡◌, ℕ, ◌<◌, get_or}
use Rattle.smp_labels.specs.Entries.{entry_at}
use Rattle.smp_labels.specs.Law.{site_word}
use Rattle.smp_labels.proofs.words.are_sites_lawful.Given as goal

abbrev pub invariant-loop-i : goal.invariant-loop-i
invariant-loop-i l = (j : ℕ) → j < l.i → get_or l.words.sites j 0 ≡ site_word (λ k. get_or l.words.keys k 0) (entry_at (get_or l.words.entries j 0))
