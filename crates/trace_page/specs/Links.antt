-- What a picture has from one kernel's event to another.
use Rattle.std.specs.Prelude.{ℕ, ◌+◌, ◌-◌, ◌/◌, Bool, true, false, ◌==◌, ◌&&◌, if◌then◌else◌, List, [], ◌∷◌, ◌++◌, Option, Some, None, codes}
use Rattle.trace_ftrace.specs.Names.{NamesValue}
use Rattle.trace_ftrace.specs.declared.told.Told.{Told}
use Rattle.trace_model.specs.declared.event.CallEvent.TheVariants as calls
use Rattle.trace_model.specs.declared.event.Event.{Event}
use Rattle.trace_model.specs.declared.event.Event.TheVariants as event
use Rattle.trace_model.specs.declared.event.StopEvent.TheVariants as stops
use Rattle.view.specs.Elements.{area_text, arrow_text, words_text}
use Rattle.view.specs.Frame.{arrow_ends, left_of, upper_of}
use Rattle.view.specs.declared.element.Area.{Area}
use Rattle.view.specs.declared.frame.Lane.{Lane}
use Rattle.trace_page.specs.Grids.{base_of, first_of, x_of, y_of}
use Rattle.trace_page.specs.Titles.{label_of, title_of}
use Rattle.trace_page.specs.declared.links.Link.{Link}
use Rattle.trace_page.specs.declared.links.Link.TheVariants as links

-- what an event of a CPU begins
abbrev pub link_of : ℕ → Event → Option Link
link_of cpu (event.Call (calls.Queue id to class func info)) = Some (links.Call id to)
link_of cpu (event.Call (calls.Begin id func info)) = Some (links.Run id cpu)
link_of cpu (event.Stop (stops.Enter source)) = Some (links.Stay cpu)
link_of cpu _ = None

abbrev pub is_begin : ℕ → Event → Bool
is_begin id (event.Call (calls.Begin begun func info)) = begun == id
is_begin id _ = false

abbrev pub is_end : ℕ → Event → Bool
is_end id (event.Call (calls.End ended)) = ended == id
is_end id _ = false

abbrev pub is_complete : Event → Bool
is_complete (event.Stop (stops.Complete answer)) = true
is_complete _ = false

-- an event ends this: a call its begin on the CPU that it is for, a run the end on its CPU, a stay in a stop the CPU's completion
abbrev pub ends : Link → Told → Bool
ends (links.Call id to) x = (x.cpu == to) && is_begin id x.event
ends (links.Run id cpu) x = (x.cpu == cpu) && is_end id x.event
ends (links.Stay cpu) x = (x.cpu == cpu) && is_complete x.event

-- the number of the first of these events that ends this
abbrev pub closing : Link → ℕ → List Told → Option ℕ
closing link i [] = None
closing link i (x ∷ xs) = if ends link x then Some i else closing link (i + 1) xs

-- the arrow of a call, between two events and their CPUs
unfoldable pub call_arrow : ℕ → List Lane → ℕ × ℕ → ℕ × ℕ → List ℕ
call_arrow low lanes from to =
    let e = arrow_ends (x_of from.0) (y_of low lanes from.0 from.1) (x_of to.0) (y_of low lanes to.0 to.1) in
    arrow_text (codes "call") e.0 e.1

-- the place of a box in the lane of a CPU: to the column of its end, or to the end of its row
abbrev pub box_area : ℕ → List Lane → ℕ → ℕ → ℕ → Area
box_area low lanes i end cpu =
    let first = first_of i in
    let x = left_of true first (first + 29) i in
    record {
      x = x;
      y = upper_of (base_of low i) low lanes cpu + 3;
      width = left_of true first (first + 29) end + 28 - x;
      height = 43;
    }

unfoldable pub box_text : NamesValue → Told → List ℕ → Area → List ℕ
box_text n x style a =
    area_text style a (title_of n x) ++ words_text (codes "label") (a.x + 3) (a.y + 11) (label_of n x.event ((a.width - 4) / 6))

-- what an event begins, from its number to that of its end
abbrev pub drawn_text : NamesValue → ℕ → List Lane → Told → Link → ℕ × ℕ → List ℕ
drawn_text n low lanes x (links.Call id to) reach = call_arrow low lanes (reach.0, x.cpu) (reach.1, to)
drawn_text n low lanes x (links.Run id cpu) reach = box_text n x (codes "handle") (box_area low lanes reach.0 reach.1 cpu)
drawn_text n low lanes x (links.Stay cpu) reach = box_text n x (codes "stop") (box_area low lanes reach.0 reach.1 cpu)

abbrev pub ended_text : NamesValue → ℕ → List Lane → ℕ → Told → Link → Option ℕ → List ℕ
ended_text n low lanes i x link None = []
ended_text n low lanes i x link (Some end) = drawn_text n low lanes x link (i, end)

-- what an event of this number begins, where one of those behind it ends it
abbrev pub begun_text : NamesValue → ℕ → List Lane → ℕ → Told → Option Link → List Told → List ℕ
begun_text n low lanes i x None behind = []
begun_text n low lanes i x (Some link) behind = ended_text n low lanes i x link (closing link (i + 1) behind)

abbrev pub link_text : NamesValue → ℕ → List Lane → ℕ → Told → List Told → List ℕ
link_text n low lanes i x behind = begun_text n low lanes i x (link_of x.cpu x.event) behind

-- what events begin that others of them end
abbrev pub links_text : NamesValue → ℕ → List Lane → ℕ → List Told → List ℕ
links_text n low lanes i [] = []
links_text n low lanes i (x ∷ xs) = link_text n low lanes i x xs ++ links_text n low lanes (i + 1) xs
