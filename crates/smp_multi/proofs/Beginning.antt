-- The stores of begin.
use Rattle.std.proofs.Common.{◌≡◌, ◌≢◌, ℕ, ◌+◌, ◌<◌, ◌&&◌, not, cond, Some, None, sym, subst, refl, ap, ◌∙◌, arith}
use Rattle.atomic_table.specs.Seated.{TableId}
use Rattle.smp_words.specs.Size.{cpus}
use Rattle.smp_stop_steps.specs.Threads.Known.{setup_in, stepped, told_work}
use Rattle.smp_stop_steps.specs.Threads.KnownAfter.{drafts_more, is_drafting, is_due_field, known_told, opened_by, slot_stored}
use Rattle.smp_stop_steps.specs.Threads.Moves.{Draft, DraftMore, Open}
use Rattle.smp_stop_steps.specs.Slots.{begun_value, order}
use Rattle.smp_stop_steps.specs.Sources.{IsWork}
use Rattle.smp_stop_steps.proofs.Knows.KnownSources.{stored_draft, draft_next}
use Rattle.smp_stop_steps.proofs.Steps.Sources.{kind_back}
use Rattle.smp_multi.specs.Names.{Work, Slot, Field, Store, Drafts, KnownStops}
use Rattle.smp_multi.specs.Names.{Kind as KindOf}
use Rattle.smp_multi.specs.Names.act
use Rattle.smp_multi.specs.Names.field
use Rattle.smp_multi.specs.Begins.{Begins, draft_at, begun}
use Rattle.smp_multi.specs.Seat.{SeatValue, Ready, FitsWord}
use Rattle.smp_multi.proofs.Cells.{slot_cell}

module _ (t : TableId) (d : SeatValue) (number : ℕ) (w : Work) where
  first : Begins t d number w 0 → (x : ℕ) → x ≡ begun_value cpus w field.Kind → Ready t d (Store (Slot number field.Kind) x)
  first b x e = record {
    able = record {
      table_is = b.table_is;
      sized = b.sized;
      can =
          record {
            move = Draft w;
            may = (b.drafts, b.holds, b.is_work);
            is_access = ap (λ n. Store (Slot n field.Kind) (begun_value cpus w field.Kind)) b.number_is ∙ ap (Store (Slot number field.Kind)) (sym e);
          };
      cell = slot_cell number field.Kind b.below;
      fits = tt;
    };
    apart = tt;
  }

  -- a result word begins with 0
  draft_fits : (f : Field) (x : ℕ) → x ≡ begun_value cpus w f → FitsWord (Slot number f) x
  draft_fits field.Kind x e = tt
  draft_fits field.Result x e = omega (arith, e)
  draft_fits _ x e = tt

  more : (f : Field) → Begins t d number w (order f) → order f < 10 → order f ≢ 0 → draft_at (order f) w ≡ Drafts (told_work (order f) w) (order f) → (x : ℕ)
      → x ≡ begun_value cpus w f → Ready t d (Store (Slot number f) x)
  more f b low ne at x e = record {
    able = record {
      table_is = b.table_is;
      sized = b.sized;
      can =
          record {
            move = DraftMore w f;
            may = (b.drafts ∙ at, b.is_work, ne, low);
            is_access = ap (λ n. Store (Slot n f) (begun_value cpus w f)) b.number_is ∙ ap (Store (Slot number f)) (sym e);
          };
      cell = slot_cell number f b.below;
      fits = draft_fits f x e;
    };
    apart = tt;
  }

  pub ready_field : (f : Field) → Begins t d number w (order f) → order f < 10 → (x : ℕ) → x ≡ begun_value cpus w f → Ready t d (Store (Slot number f) x)
  ready_field field.Kind b low x e = first b x e
  ready_field field.Mask b low x e = more field.Mask b low (omega arith) refl x e
  ready_field field.Active b low x e = more field.Active b low (omega arith) refl x e
  ready_field field.Func b low x e = more field.Func b low (omega arith) refl x e
  ready_field field.Arg b low x e = more field.Arg b low (omega arith) refl x e
  ready_field field.Result b low x e = more field.Result b low (omega arith) refl x e
  ready_field field.Todo b low x e = more field.Todo b low (omega arith) refl x e
  ready_field field.Done b low x e = more field.Done b low (omega arith) refl x e
  ready_field field.Ack b low x e = more field.Ack b low (omega arith) refl x e
  ready_field field.State b low x e = more field.State b low (omega arith) refl x e
  ready_field field.Roll b low x e = absurd (let z : ⊥ = omega (arith, low) in z)

  pub ready_open : Begins t d number w 10 → (x : ℕ) → x ≡ w.mask → Ready t d (Store (Slot number field.Roll) x)
  ready_open b x e = record {
    able = record {
      table_is = b.table_is;
      sized = b.sized;
      can =
          record {
            move = Open w;
            may = (b.drafts, b.is_work);
            is_access = ap (λ n. Store (Slot n field.Roll) w.mask) b.number_is
                ∙ ap (Store (Slot number field.Roll)) (sym e);
          };
      cell = slot_cell number field.Roll b.below;
      fits = tt;
    };
    apart = tt;
  }

  -- a store of a CPU that drafts is none that is due
  counts : (f : Field) → Begins t d number w (order f) → (x : KnownStops)
      → cond (is_due_field f && not (is_drafting d.known.source)) x (stepped 1 x) ≡ stepped 1 x
  counts field.Kind b x = refl
  counts field.Done b x = ap (λ o. cond (not (is_drafting o)) x (stepped 1 x)) b.drafts
  counts field.Ack b x = ap (λ o. cond (not (is_drafting o)) x (stepped 1 x)) b.drafts
  counts field.State b x = ap (λ o. cond (not (is_drafting o)) x (stepped 1 x)) b.drafts
  counts _ b x = refl

  known_more : (f : Field) → Begins t d number w (order f) → order f < 10 → order f ≢ 0 → draft_at (order f) w ≡ Drafts (told_work (order f) w) (order f)
      → draft_at (order f + 1) w ≡ Drafts (told_work (order f + 1) w) (order f + 1) →
      (x : ℕ) → x ≡ begun_value cpus w f → slot_stored f x d.known ≡ record (d.known) { source = draft_at (order f + 1) w }
  known_more f b low ne at next x e =
      let is = b.drafts ∙ at in
      stored_draft f x d.known ne low (ap is_drafting is) ∙ (ap (λ o. record (d.known) { source = drafts_more f x o }) is ∙
      (ap (λ y. record (d.known) { source = drafts_more f y (Drafts (told_work (order f) w) (order f)) }) e
      ∙ (ap (λ z. record (d.known) { source = Drafts z (order f + 1) }) (draft_next f w ne low) ∙ ap (λ o. record (d.known) { source = o }) (sym next))))

  drafted : (f : Field) → Begins t d number w (order f) → order f < 10 → (x : ℕ) → x ≡ begun_value cpus w f
      → slot_stored f x d.known ≡ record (d.known) { source = draft_at (order f + 1) w }
  drafted field.Kind b low x e = ap (λ y. slot_stored field.Kind y d.known) e
      ∙ ap (λ (k : KindOf). record (d.known) { source = Drafts (record { kind = k; mask = 0; active = 0; func = 0; arg = 0 }) 1 }) (kind_back w.kind)
  drafted field.Mask b low x e = known_more field.Mask b low (omega arith) refl refl x e
  drafted field.Active b low x e = known_more field.Active b low (omega arith) refl refl x e
  drafted field.Func b low x e = known_more field.Func b low (omega arith) refl refl x e
  drafted field.Arg b low x e = known_more field.Arg b low (omega arith) refl refl x e
  drafted field.Result b low x e = known_more field.Result b low (omega arith) refl refl x e
  drafted field.Todo b low x e = known_more field.Todo b low (omega arith) refl refl x e
  drafted field.Done b low x e = known_more field.Done b low (omega arith) refl refl x e
  drafted field.Ack b low x e = known_more field.Ack b low (omega arith) refl refl x e
  drafted field.State b low x e = known_more field.State b low (omega arith) refl refl x e
  drafted field.Roll b low x e = absurd (let z : ⊥ = omega (arith, low) in z)

  pub known_field : (f : Field) → Begins t d number w (order f) → order f < 10 → (x : ℕ) → x ≡ begun_value cpus w f
      → known_told d.known act.Store (Slot number f) None (Some x) ≡ stepped 1 (record (d.known) { source = draft_at (order f + 1) w })
  known_field f b low x e = counts f b (slot_stored f x d.known) ∙ ap (stepped 1) (drafted f b low x e)

  pub known_open : Begins t d number w 10 → opened_by d.known.source d.known ≡ begun w d.known
  known_open b = ap (λ o. opened_by o d.known) b.drafts

pub begins_on : (t : TableId) (d e : SeatValue) (number : ℕ) (w : Work) (j k : ℕ) → Begins t d number w j → e.table ≡ t
    → e.known ≡ stepped 1 (record (d.known) { source = draft_at k w }) → Begins t e number w k
begins_on t d e number w j k b table same = record {
  table_is = table;
  sized = b.sized;
  number_is = ap (λ (z : KnownStops). z.number) same ∙ b.number_is;
  below = b.below;
  holds = ap (λ (z : KnownStops). z.part.holds) same ∙ b.holds;
  is_work = subst (λ (z : KnownStops). IsWork (setup_in z.setting) w) (sym same) b.is_work;
  drafts = ap (λ (z : KnownStops). z.source) same;
}
