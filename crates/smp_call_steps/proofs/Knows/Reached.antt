-- Calls that are reached: nothing called, and what one step more leads to.
use Rattle.std.proofs.Common.{◌≡◌, ℕ, ◌<◌, List, [], ◌∷◌, ◌++◌, refl, arith}
use Rattle.smp_words.specs.Size.{cpus}
use Rattle.smp_words.proofs.Sizes.{owner-below}
use Rattle.smp_call_steps.specs.{CallState, Word, Seen, Stage, MayStep, no_calls, tells}
use Rattle.smp_call_steps.specs.Reached.{IsAllowed, IsReached, Lead, no_words, words_told}
use Rattle.smp_call_steps.specs.declared.known.KnownCalls.{KnownCalls}

-- a CPU that may make a step is one of those that there are
pub steps_in_range : (v : KnownCalls) (stage : Stage) → MayStep v stage → v.number < cpus
steps_in_range v y may = search (owner-below, arith)

lead_more : (a : CallState) (at : Word → ℕ) (steps : List Seen) (b : CallState) (to : Word → ℕ) (seen : Seen) → Lead a at steps b to → IsAllowed b to seen
    → Lead a at (steps ++ seen ∷ []) (tells b seen) (words_told to seen)
lead_more a at [] b to seen l m = search arith
lead_more a at (x ∷ steps) b to seen l m = (l.0, lead_more (tells a x) (words_told at x) steps b to seen l.1 m)

pub reach_more : (a : CallState) (at : Word → ℕ) (seen : Seen) → IsAllowed a at seen → IsReached a at → IsReached (tells a seen) (words_told at seen)
reach_more a at seen m r = record { steps = r.steps ++ seen ∷ []; lead = lead_more no_calls no_words r.steps a at seen r.lead m }

pub nothing_reached : (at : Word → ℕ) → ((word : Word) → at word ≡ 0) → IsReached no_calls at
nothing_reached at zeros = record { steps = []; lead = (refl, λ i word. zeros word i) }
