-- Calls that are reached keep the laws of calls, by the premises of the steps alone: no stages are named here.
use Rattle.std.proofs.Common.{ℕ, List, [], ◌∷◌, subst, sym, refl}
use Rattle.smp_call_steps.specs.{CallState, no_calls, tells, Seen, Word}
use Rattle.smp_call_steps.specs.Headline.{InOnePlace, RunOnce, RunInOrder, RunEqualQueued}
use Rattle.smp_call_steps.specs.Reached.{IsReached, Lead, ArePlaced, HoldTheirOwn, AreTallied, AreNoticed, no_words, words_told}
use Rattle.smp_call_steps.proofs.Headline.{in_one_place, run_once, run_in_order, run_equal_queued}
use Rattle.smp_call_steps.proofs.State.Drained.{HasLaws}
use Rattle.smp_call_steps.proofs.StepsAgree.{AgreesWith, step_agrees}
use Rattle.smp_call_steps.proofs.StepsKeep.{KeepsLaws, step_kept, nothing_kept}

-- the laws of calls, and what the words say of them
record Keeps (a : CallState) (at : Word → ℕ) : Type 0 where
  pub laws : KeepsLaws a
  pub words : AgreesWith a at

nothing_keeps : Keeps no_calls no_words
nothing_keeps = record {
  laws = nothing_kept;
  words = record {
    locks = λ id. refl;
    tallied = record { queued_are = λ _ _. refl; ran_are = λ _ _. refl };
    idle = λ cpu z. record { batch = refl; running = refl; accepted = refl };
  };
}

all_keep : (a : CallState) (at : Word → ℕ) (steps : List Seen) (b : CallState) (to : Word → ℕ) → Lead a at steps b to → Keeps a at → Keeps b to
all_keep a at [] b to l k = subst (λ c. Keeps c to) (sym l.0) (subst (λ w. Keeps a w) (sym l.1) k)
all_keep a at (seen ∷ rest) b to l k =
    let m = l.0.1 in
    all_keep (tells a seen) (words_told at seen) rest b to l.1 (record {
      laws = step_kept a seen.cpu k.laws seen.act seen.word seen.found seen.put m.may;
      words = step_agrees a at seen.cpu k.laws k.words seen.act seen.word seen.found seen.put m.may m.fits;
    })

keeps : (a : CallState) (at : Word → ℕ) → IsReached a at → Keeps a at
keeps a at r = all_keep no_calls no_words r.steps a at r.lead nothing_keeps

pub reached_laws : (a : CallState) (at : Word → ℕ) → IsReached a at → HasLaws a at
reached_laws a at r = let k = keeps a at r in record {
  placed = k.laws.placed;
  recorded = k.laws.recorded;
  owns = k.laws.owns;
  home = k.laws.home;
  locks = k.words.locks;
  tallied = k.words.tallied;
  idle = k.words.idle;
}

pub reached_in_one_place : (a : CallState) (at : Word → ℕ) → IsReached a at → InOnePlace a at
reached_in_one_place a at r = in_one_place (reached_laws a at r)

pub reached_run_once : (a : CallState) (at : Word → ℕ) → IsReached a at → RunOnce a
reached_run_once a at r = run_once (reached_laws a at r)

pub reached_run_in_order : (a : CallState) (at : Word → ℕ) → IsReached a at → RunInOrder a
reached_run_in_order a at r = run_in_order (reached_laws a at r)

pub reached_run_equal_queued : (a : CallState) (at : Word → ℕ) → IsReached a at → RunEqualQueued a at
reached_run_equal_queued a at r = run_equal_queued (reached_laws a at r)

pub reached_placed : (a : CallState) (at : Word → ℕ) → IsReached a at → ArePlaced a
reached_placed a at r = let k = keeps a at r in k.laws.placed

pub reached_hold : (a : CallState) (at : Word → ℕ) → IsReached a at → HoldTheirOwn a
reached_hold a at r cpu id h = let k = keeps a at r in (k.laws.owns cpu id h, k.laws.home cpu id h)

pub reached_tallied : (a : CallState) (at : Word → ℕ) → IsReached a at → AreTallied a at
reached_tallied a at r = let k = keeps a at r in k.words.tallied

pub reached_noticed : (a : CallState) (at : Word → ℕ) → IsReached a at → AreNoticed a
reached_noticed a at r = let k = keeps a at r in k.laws.noticed
