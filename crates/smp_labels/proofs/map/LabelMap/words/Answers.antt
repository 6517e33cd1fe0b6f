use Rattle.std.proofs.Common.{◌≡◌, ◌<◌, ◌≤◌, false, length, length-set, get_or, ap, ◌∙◌, arith}
use Rattle.std.proofs.lemmas.List.{take_all}
use Rattle.smp_labels.specs.declared.words.TheConstants.{MOST_SITES}
use Rattle.smp_labels.specs.Kinds.{kind_of, kind_word}
use Rattle.smp_labels.specs.Entries.{entry_word}
use Rattle.smp_labels.specs.Labels.{first_site}
use Rattle.smp_labels.proofs.Filled.{entry_words, words_of, words_of-more, sites-set, filled_lawful}
use Rattle.smp_labels.proofs.map.LabelMap.words.Goals as goal

pub loop-site-preserved : goal.loop-site-preserved
loop-site-preserved c =
    let items = c.deref-entry-items.result.now in
    let i = c.loop-site.site in
    let e = get_or items i (record { key = 0; branch = false }) in
    let before = c.loop-site.invariant in
    let fits : length items ≤ MOST_SITES = omega (arith, ap length c.deref-entry-items.ensures.0, c.self.invariant.few_sites) in
    let in_items : i < length items = omega arith in
    let kind : c.word-in-loop-site.result ≡ kind_word (kind_of false e.branch) =
    c.word-in-loop-site.ensures ∙ ap kind_word c.kind_of.ensures in
    record {
      room = simp length-set before.room;
      off = before.off;
      entries = rw (before.entries, c.word.ensures) (words_of-more entry_word MOST_SITES i items (record { key = 0; branch = false }) in_items fits);
      listed = rw (before.listed, kind) (words_of-more first_site MOST_SITES i items (record { key = 0; branch = false }) in_items fits);
      sites =
          rw (kind, c.word.ensures) (sites-set c.loop-site.words.sites c.loop-site.words.entries i e (omega (arith, before.room))
          (omega (arith, before.room)) before.sites);
    }

pub returns-clause-lawful : goal.returns-clause-lawful
returns-clause-lawful c =
    let items = c.deref-entry-items.result.now in
    let before = c.loop-site.invariant in
    let whole : c.loop-site.words.entries ≡ entry_words MOST_SITES c.self.inside.entries.items =
    before.entries ∙ ap (entry_words MOST_SITES) (take_all c.loop-site.site items (omega arith) ∙ c.deref-entry-items.ensures.0) in
    rw (before.off, whole) (filled_lawful c.self.inside.keys c.self.inside.entries.items c.loop-site.words.sites c.self.invariant (rw whole at before.sites))

pub returns-clause-sites : goal.returns-clause-sites
returns-clause-sites c =
    let items = c.deref-entry-items.result.now in
    rw (← c.self.view_is) (c.loop-site.invariant.listed
    ∙ ap (words_of first_site MOST_SITES) (take_all c.loop-site.site items (omega arith) ∙ c.deref-entry-items.ensures.0))
