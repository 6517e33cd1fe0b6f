use Rattle.std.proofs.Common.{◌≡◌, ℕ, [], ◌++◌, List, replicate, sym, subst, ap, ◌∙◌}
use Rattle.atomic_table.specs.Table.{opening}
use Rattle.smp_multi.specs.Names.{Maker}
use Rattle.smp_multi.specs.Rule.{Ruled}
use Rattle.smp_multi.specs.declared.cell.TheConstants.{FIRST_ENTRY}
use Rattle.smp_multi.proofs.Starting.{are_laid, starts, lives_fresh}
use Rattle.smp_multi.proofs.seat.access.lay.Goals as goal

pub new-requires : goal.new-requires
new-requires g c =
    let e = c.words-labels.ensures in
    let zeros : c.in_ok-words.words.items ≡ replicate FIRST_ENTRY 0 = c.in_ok-words.ensures.items_if_clones_equal (λ y h. h) in
    let all : c.as_slice.result.now ≡ (replicate FIRST_ENTRY 0 ++ c.words-labels.result.entries) ++ c.words-labels.result.sites =
    c.as_slice.ensures.value ∙ (c.in_ok-extend_from_slice-2.ensures.items
    ∙ ap (λ l. l ++ c.words-labels.result.sites) (c.in_ok-extend_from_slice.ensures.items ∙ ap (λ l. l ++ c.words-labels.result.entries) zeros)) in
    subst (λ (ws : List ℕ). Ruled c.args.setting.now (opening ws [] (Maker 0 c.args.setting.now))) (sym all)
    (starts c.args.setting.now c.args.nr _ _
    (are_laid c.args.setting.now c.args.nr c.words-labels.result.keys _ _ c.requires e.known e.off e.entries e.sites e.lawful))

pub returns-clause-lives : goal.returns-clause-lives
returns-clause-lives g c =
    let e = c.words-labels.ensures in
    λ cpu low. lives_fresh c.args.setting.now c.args.nr _ _
    (are_laid c.args.setting.now c.args.nr c.words-labels.result.keys _ _ c.requires e.known e.off e.entries e.sites e.lawful) cpu low
