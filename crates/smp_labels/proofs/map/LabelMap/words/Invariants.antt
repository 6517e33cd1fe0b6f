use Rattle.std.proofs.Common.{◌≡◌, ℕ, length, get_or, take, replicate}
use Rattle.smp_labels.specs.declared.words.TheConstants.{MOST_KEYS, MOST_SITES}
use Rattle.smp_labels.specs.Entries.{entry_at}
use Rattle.smp_labels.specs.Law.{site_word}
use Rattle.smp_labels.specs.Labels.{first_site}
use Rattle.smp_labels.proofs.Filled.{entry_words, words_of}
use Rattle.smp_labels.proofs.map.LabelMap.words.Given as goal

abbrev pub invariant-loop-site : goal.invariant-loop-site
invariant-loop-site l = record {
  room : (length l.words.entries ≡ MOST_SITES) × (length l.words.sites ≡ MOST_SITES);
  off : l.words.keys ≡ replicate MOST_KEYS 0;
  entries : l.words.entries ≡ entry_words MOST_SITES (take l.site l.entry-items);
  listed : l.words.sites ≡ words_of first_site MOST_SITES (take l.site l.entry-items);
  sites : (k : ℕ) → get_or l.words.sites k 0 ≡ site_word (λ _. 0) (entry_at (get_or l.words.entries k 0));
}
