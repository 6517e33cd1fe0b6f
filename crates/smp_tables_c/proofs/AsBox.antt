-- A handle and its parts own what a box at the same types owns.
use Rattle.std.proofs.Common.{◌≡◌, ◌≢◌, Option, None, Some, refl}
use mir.Syntax.{impl, tnil, dnil}
use mathlib.Core.List.{[]}
use denote.Signature.{Slot, plain}
use Rattle.std.proofs.BoxSteps.Form.{Bx}
use Rattle.std_heap.specs.contracts.Global as Heap
use Rattle.std_heap.specs.contracts.GlobalAllocator.TheImpl.{ghosts, dict}
use Rattle.std_heap.proofs.Global.TheLaws as heap
use Rattle.smp_tables_c.specs.contracts.seat.OwnedSeat
use Rattle.smp_tables_c.proofs.seat.OwnedSeat.TheLaws as seat
use Rattle.smp_tables_c.specs.contracts.parts.Parts
use Rattle.smp_tables_c.specs.contracts.held.Held

abbrev pub E : Bx
E = record {
  row = OwnedSeat.the_row;
  laws = seat.the_row_laws;
  al = record {
    row = Heap.the_row;
    laws = heap.the_row_laws;
    g = ghosts;
    d = dict;
    drops = impl
        [] tnil dnil;
  };
}

abbrev pub FromParts : Slot 0
FromParts = plain (λ _. Parts.the_row OwnedSeat.the_row Heap.the_row ghosts)

abbrev pub FromHeld : Slot 0
FromHeld = plain (λ _. Held.the_row)

-- what an optional value is, where it is one
pub some_of : {X : Type 0} (o : Option X) → o ≢ None → (x : X) × (o ≡ Some x)
some_of None not_none = absurd (not_none refl)
some_of (Some x) not_none = (x, refl)
