-- Elements of a picture, as SVG.
use Rattle.std.specs.Prelude.{ℕ, List, ◌++◌, ◌==◌, if◌then◌else◌, codes, chars, encode_utf8}
use Rattle.std.specs.Fmt.{decimal}
use Rattle.std.specs.List.{flat_map}
use Rattle.view.specs.declared.element.Area.{Area}
use Rattle.view.specs.declared.element.Ends.{Ends}

-- a character: `<`, `>`, `&` and `"` by their names
abbrev pub char_text : ℕ → List ℕ
char_text c =
    if c == 60 then codes "&lt;" else if c == 62 then codes "&gt;" else if c == 38 then codes "&amp;" else if c == 34 then codes "&quot;" else encode_utf8 c

abbrev pub escaped : List ℕ → List ℕ
escaped text = flat_map char_text (chars text)

-- what is shown of an element when it is pointed at
unfoldable pub title_text : List ℕ → List ℕ
title_text text = codes "<title>" ++ escaped text ++ codes "</title>"

-- a text of a style from this point on
unfoldable pub words_front : List ℕ → ℕ → ℕ → List ℕ
words_front style x y = codes "<text class=\"" ++ (style ++ (codes "\" x=\"" ++ (decimal x ++ (codes "\" y=\"" ++ (decimal y ++ codes "\">")))))

unfoldable pub words_text : List ℕ → ℕ → ℕ → List ℕ → List ℕ
words_text style x y text = words_front style x y ++ escaped text ++ codes "</text>\n"

-- a filled place of a style, with a title
unfoldable pub point_text : List ℕ → ℕ → ℕ → List ℕ
point_text style x y = codes "<rect class=\"" ++ (style ++ (codes "\" x=\"" ++ (decimal x ++ (codes "\" y=\"" ++ (decimal y ++ codes "\"")))))

unfoldable pub extent_text : ℕ → ℕ → List ℕ
extent_text width height = codes " width=\"" ++ (decimal width ++ (codes "\" height=\"" ++ (decimal height ++ codes "\">")))

unfoldable pub area_text : List ℕ → Area → List ℕ → List ℕ
area_text style a title = point_text style a.x a.y ++ extent_text a.width a.height ++ title_text title ++ codes "</rect>\n"

-- the dot of a name round this point, with a title
unfoldable pub use_text : List ℕ → ℕ → ℕ → List ℕ
use_text name x y = codes "<use href=\"#" ++ (name ++ (codes "\" x=\"" ++ (decimal x ++ (codes "\" y=\"" ++ (decimal y ++ codes "\">")))))

unfoldable pub dot_text : List ℕ → ℕ → ℕ → List ℕ → List ℕ
dot_text name x y title = use_text name x y ++ title_text title ++ codes "</use>\n"

-- from one point to another, across at this height
unfoldable pub leaving_text : ℕ → ℕ → ℕ → List ℕ
leaving_text x y across = codes "M " ++ (decimal x ++ (codes " " ++ (decimal y ++ (codes " C " ++ (decimal x ++ (codes " " ++ decimal across))))))

unfoldable pub meeting_text : ℕ → ℕ → ℕ → List ℕ
meeting_text x y across = codes " " ++ (decimal x ++ (codes " " ++ (decimal across ++ (codes " " ++ (decimal x ++ (codes " " ++ decimal y))))))

-- an arrow of a style
unfoldable pub arrow_front : List ℕ → List ℕ
arrow_front style = codes "<path class=\"" ++ (style ++ codes "\" d=\"")

unfoldable pub arrow_back : List ℕ → List ℕ
arrow_back style = codes "\" marker-end=\"url(#" ++ (style ++ codes "-head)\"/>\n")

unfoldable pub arrow_text : List ℕ → Ends → ℕ → List ℕ
arrow_text style e y = arrow_front style ++ leaving_text e.x1 e.y1 y ++ meeting_text e.x2 e.y2 y ++ arrow_back style
