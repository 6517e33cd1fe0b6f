-- The label law and the count law at running threads, of each CPU's value.
use Rattle.std.specs.Prelude.{◌≡◌, ℕ, ◌+◌, ◌<◌, false}
use Rattle.smp_labels.specs.Law.{IsLawful}
use Rattle.smp_labels.specs.declared.words.TheConstants.{MOST_KEYS}
use Rattle.smp_mask.specs.Mask.{has}
use Rattle.smp_words.specs.Size.{cpus}
use Rattle.smp_stop_steps.specs.KeyCounts.{ups, downs}
use Rattle.smp_stop_steps.specs.Threads.Known.{AreFirst, setup_in}
use Rattle.smp_stop_steps.specs.Labels.{labels_in}
use Rattle.smp_stop_steps.specs.Patchers.{HasPatcher, is_between}
use Rattle.smp_stop_steps.specs.Promises.{IsPatchedAlone}
use Rattle.smp_stop_steps.specs.State.{StopState, unmoved}
use Rattle.smp_multi.specs.Names.{Key}
use Rattle.smp_multi.specs.Cpu.{CpuValue}
use Rattle.smp_multi.specs.Laws.{StopsAreShown}

-- the label table of the words of which this value is a CPU's part is lawful while nobody is between the first and the last
-- store of a patch; who patches is active in its patch stop, at RUN, alone, and every online CPU has its interrupts off
pub record LabelsAreLawful (c : CpuValue) : Type 0 where
  pub shown : StopsAreShown c
  pub lawful : is_between shown.stops.now.patching ≡ false → IsLawful (labels_in shown.at)
  pub patchers : HasPatcher (setup_in c.setting) shown.stops
  pub alone : IsPatchedAlone (setup_in c.setting) shown.stops

-- a CPU has moved no key's count
abbrev pub MovesNone : StopState → ℕ → Type 0
MovesNone p cpu = (k : ℕ) → k < MOST_KEYS → (p.nudged cpu k ≡ unmoved) × (p.patched cpu k ≡ unmoved)

-- each key's word is what all CPUs have moved it, by nudges and as runners of patches, of which this value has its CPU's own; a
-- CPU that is not online has moved none
pub record CountsAreSums (c : CpuValue) : Type 0 where
  pub shown : StopsAreShown c
  pub sums : (k : ℕ) → shown.at (Key k) + (downs cpus shown.stops.nudged k + downs cpus shown.stops.patched k)
      ≡ ups cpus shown.stops.nudged k + ups cpus shown.stops.patched k
  pub offline : (cpu : ℕ) → cpu < cpus → has c.setting.online cpu ≡ false → MovesNone shown.stops cpu
  pub nudged : AreFirst MOST_KEYS (shown.stops.nudged c.number) unmoved c.part.nudged
  pub patched : AreFirst MOST_KEYS (shown.stops.patched c.number) unmoved c.part.patched
