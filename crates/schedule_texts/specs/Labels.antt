-- Names as texts of a table and of a picture.
use Rattle.std.specs.Prelude.{◌≡◌, ◌==◌, ◌||◌, ℕ, ◌+◌, ◌-◌, ◌++◌, Bool, false, List, [], ◌∷◌, codes, decimal, max, nat_lt, if◌then◌else◌}
use Rattle.ev_text.specs.Texts.{joined_texts}
use Rattle.place_names.specs.Places.{name_at}
use Rattle.place_names.specs.declared.place.Place.{Place}
use Rattle.plan_schedule.specs.declared.schedule.PlaceKind.{PlaceKind}
use Rattle.plan_schedule.specs.declared.schedule.PlaceKind.TheVariants.{Depot, Customer, Station}
use Rattle.plan_schedule.specs.declared.schedule.Visit.{Visit}

-- how many characters a text in UTF-8 has: each byte begins one, but for those from 128 to 191
abbrev pub is_first : ℕ → Bool
is_first byte = nat_lt byte 128 || nat_lt 191 byte

abbrev pub characters : List ℕ → ℕ
characters [] = 0
characters (byte ∷ bytes) = (if is_first byte then 1 else 0) + characters bytes

-- the most characters of a number and of the names of places
abbrev pub widest : ℕ → List Place → ℕ
widest width [] = width
widest width (p ∷ ps) = widest (max width (characters p.name)) ps

-- the first so many characters of a text
abbrev pub clip : ℕ → List ℕ → List ℕ
clip most [] = []
clip most (byte ∷ bytes) =
    if is_first byte then (if nat_lt 0 most then byte ∷ clip (most - 1) bytes else [])
    else byte ∷ clip most bytes

-- a text of 24 characters at most: of a longer one 23 and an ellipsis
abbrev pub shortened : List ℕ → List ℕ
shortened text =
    if nat_lt 24 (characters text) then clip 23 text ++ (226 ∷ 128 ∷ 166 ∷ []) else text

-- a byte of a text in XML: the marks of elements, attributes and entities are written as entities
abbrev pub xml_byte : ℕ → List ℕ
xml_byte byte =
    if byte == 38 then codes "&amp;"
    else if byte == 60 then codes "&lt;"
    else if byte == 62 then codes "&gt;"
    else if byte == 39 then codes "&#39;"
    else if byte == 34 then codes "&#34;"
    else byte ∷ []

abbrev pub xml_text : List ℕ → List ℕ
xml_text text = joined_texts xml_byte text

-- a byte that opens or ends an element or the value of an attribute: < > ' "
abbrev pub opens : ℕ → Bool
opens byte = (byte == 60) || (byte == 62) || (byte == 39) || (byte == 34)

abbrev pub IsInert : ℕ → Type 0
IsInert byte = opens byte ≡ false

-- ---- what stands beside a stop

abbrev pub number_by : PlaceKind → ℕ → List ℕ
number_by Depot node = codes "depot"
number_by Customer node = codes "c" ++ decimal node
number_by Station node = codes "s" ++ decimal node

-- the name of a visit's node, shortened; where there are no names `depot`, or `c` or `s` and the number of the node
abbrev pub label_of : List Place → Visit → List ℕ
label_of [] v = number_by v.kind v.node
label_of (p ∷ ps) v = xml_text (shortened (name_at (p ∷ ps) v.node))

-- its whole name behind a comma, where there are names
abbrev pub name_words : List Place → ℕ → List ℕ
name_words [] node = []
name_words (p ∷ ps) node = codes ", " ++ xml_text (name_at (p ∷ ps) node)
