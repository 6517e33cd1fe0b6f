-- The head of a picture, its lanes, and the marks of its columns.
use Rattle.std.specs.Prelude.{ℕ, ◌+◌, ◌-◌, ◌/◌, Bool, if◌then◌else◌, List, ◌++◌, codes}
use Rattle.std.specs.Fmt.{decimal}
use Rattle.std.specs.List.{flat_map}
use Rattle.view.specs.Elements.{area_text, words_text}
use Rattle.view.specs.Frame.{left_of, step_of, upper_of}
use Rattle.view.specs.declared.frame.Lane.{Lane}
use Rattle.view.specs.declared.legend.TheConstants.{DOTS, STYLES}

-- a size
unfoldable pub size_text : ℕ → ℕ → List ℕ
size_text width height = codes "<svg xmlns=\"http://www.w3.org/2000/svg\" width=\""
    ++ (decimal width ++ (codes "\" height=\"" ++ (decimal height ++ codes "\"")))

unfoldable pub box_text : ℕ → ℕ → List ℕ
box_text width height = codes " viewBox=\"0 0 " ++ (decimal width ++ (codes " " ++ (decimal height ++ codes "\">\n")))

-- a ground of this size
unfoldable pub ground_text : ℕ → ℕ → List ℕ
ground_text width height = codes "<rect width=\"" ++ (decimal width ++ (codes "\" height=\"" ++ (decimal height ++ codes "\" fill=\"#ffffff\"/>\n")))

-- a size, the styles, and a ground
unfoldable pub head_text : ℕ → ℕ → List ℕ
head_text width height = size_text width height ++ box_text width height ++ STYLES.now ++ DOTS.now ++ ground_text width height

abbrev pub height_of : Bool → ℕ
height_of busy = if busy then 62 else 20

-- the lane of a CPU, with its name
unfoldable pub lane_text : ℕ → ℕ → List Lane → Lane → List ℕ
lane_text base low lanes lane =
    let y = upper_of base low lanes lane.cpu in
    let height = height_of lane.busy in
    let name = codes "CPU " ++ decimal lane.cpu in
    area_text (codes "lane") (record { x = 0; y = y + 1; width = 900; height = height - 2 }) name ++ words_text (codes "cpu") 4 (y + height / 2 + 4) name

abbrev pub lanes_text : ℕ → ℕ → List Lane → List ℕ
lanes_text base low lanes = flat_map (lane_text base low lanes) lanes

-- a line from one height to another, with a text above it
unfoldable pub upper_end : ℕ → ℕ → List ℕ
upper_end x y = codes "<line class=\"number\" x1=\"" ++ (decimal x ++ (codes "\" y1=\"" ++ (decimal y ++ codes "\"")))

unfoldable pub lower_end : ℕ → ℕ → List ℕ
lower_end x y = codes " x2=\"" ++ (decimal x ++ (codes "\" y2=\"" ++ (decimal y ++ codes "\"/>\n")))

unfoldable pub tick_text : ℕ → ℕ → ℕ → List ℕ → List ℕ
tick_text x top bottom said = upper_end x top ++ lower_end x bottom ++ words_text (codes "number") x (top - 5) said

-- a frame round a column
unfoldable pub mark_text : Bool → ℕ → ℕ → ℕ → ℕ → ℕ → List ℕ
mark_text wide first last base low column =
    area_text (codes "mark") (record { x = left_of wide first last column; y = base; width = step_of wide; height = low + 62 }) (codes "the marked event")
