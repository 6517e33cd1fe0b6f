-- Calls that are handed out one after another are the batch.
use Rattle.std.proofs.Common.{◌≡◌, true, List, [], ◌∷◌, sym, refl, ap, ◌∙◌, append-nil, append_assoc}
use Rattle.smp_queue.specs.{Call, Nothing, CpuValue, asks}
use Rattle.smp_queue.specs.Serving.{takes, ends, has_run}
use Rattle.smp_queue.specs.Chain.{Serves, StepsAreHandle}

served : (c d : CpuValue) (calls : List Call) → c.part.running ≡ Nothing → Serves c calls d → (c.part.batch ≡ calls) × (d ≡ has_run calls [] c)
served c d [] idle h =
    (h.0, h.1 ∙ (λ i. record c { part = record (c.part) { batch = h.0 i; running = idle i; ran = sym (append-nil c.part.ran) i } }))
served c d (call ∷ calls) idle h =
    let s = h.0 in
    let n = h.1 in
    let more = served (ends s.call s.cpu) d calls refl h.3 in
    let batch : c.part.batch ≡ call ∷ calls = n.1 ∙ (λ i. h.2 i ∷ (sym (ap (λ (x : CpuValue). x.part.batch) n.2) ∙ more.0) i) in (
      batch,
      more.1 ∙ ((λ i. has_run calls [] (ends (h.2 i) (n.2 i)))
          ∙ (λ i. record c { part = record (c.part) { batch = []; running = Nothing; ran = append_assoc c.part.ran (call ∷ []) calls i } })),
    )

pub steps_are_handle : StepsAreHandle
steps_are_handle c d queue calls h = let k = served (takes queue (asks true c)) d calls refl h in
    (sym k.0, k.1 ∙ (λ i. has_run (sym k.0 i) [] (takes queue (asks true c))))
