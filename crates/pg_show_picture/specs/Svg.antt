-- The text of a picture: SVG 1.1, without scripts.
use Rattle.std.specs.Prelude.{◌≡◌, ℕ, nat_lt, ◌==◌, if◌then◌else◌}
use Rattle.std.specs.Prelude.{List, [], ◌∷◌, ◌++◌, Option, Some, None, codes, decimal, slice_get}
use Rattle.pg_event.specs.declared.event.Event.{Event}
use Rattle.pg_explain.specs.declared.explainer.Explanation.{Explanation}
use Rattle.pg_explain.specs.Lasts.{last_moments_text}
use Rattle.pg_explain.specs.Text.{deed_name, entry_text, finding_text, last_text, numbered_text}
use Rattle.pg_event.specs.Heads.{Head}
use Rattle.pg_show_picture.specs.declared.placer.Role.{Role}
use Rattle.pg_show_picture.specs.declared.placer.Role.TheVariants as roles
use Rattle.pg_show_picture.specs.declared.placer.Deed.{Deed}
use Rattle.pg_show_picture.specs.declared.placer.Deed.TheVariants as deeds
use Rattle.pg_show_picture.specs.declared.placer.Lane.{Lane}
use Rattle.pg_show_picture.specs.declared.placer.EventBox.{EventBox}
use Rattle.pg_show_picture.specs.declared.placer.EntryBox.{EntryBox}
use Rattle.pg_show_picture.specs.declared.placer.Arrow.{Arrow}
use Rattle.pg_show_picture.specs.declared.placer.Layout.{Layout}
use Rattle.pg_show_picture.specs.Layout.{IsLayout}
use Rattle.pg_search.specs.declared.last.Last.{Last}

-- ---- texts

-- a byte of a text, where XML gives it no meaning. No line has bytes beyond ASCII
abbrev pub escape : ℕ → List ℕ
escape b =
    if b == 60 then codes "&lt;" else
    if b == 62 then codes "&gt;" else
    if b == 38 then codes "&amp;" else
    if b == 34 then codes "&quot;" else
    if b == 39 then codes "&#39;" else
    if nat_lt b 128 then b ∷ [] else codes "?"

abbrev pub escaped : List ℕ → List ℕ
escaped [] = []
escaped (b ∷ bs) = escape b ++ escaped bs

-- the beginning of a text at a place
abbrev pub place_text : ℕ → ℕ → List ℕ
place_text x y =
    codes "<text x='" ++ (decimal x ++ (codes "' y='" ++ (decimal y ++ codes "'>")))

-- a line at a place
abbrev pub placed_text : ℕ → ℕ → List ℕ → List ℕ
placed_text x y line = place_text x y ++ (escaped line ++ codes "</text>\n")

-- ---- the head

-- how it begins: it is never wider than a page
abbrev pub open_text : ℕ → ℕ → List ℕ
open_text height letters =
    codes "<svg xmlns='http://www.w3.org/2000/svg' viewBox='0 0 1200 " ++ (decimal height
    ++ (codes "' width='1200' height='" ++ (decimal height
    ++ (codes "' style='max-width:100%;height:auto' font-family='monospace' font-size='"
    ++ (decimal letters ++ codes "'>\n")))))

abbrev pub title_text : ℕ → List ℕ
title_text number = codes "<title>event " ++ (decimal number ++ codes "</title>\n")

-- the head of an arrow, in a colour, under a name
abbrev pub marker_text : List ℕ → List ℕ → List ℕ
marker_text name colour =
    codes "<marker id='" ++ (name ++ (codes "' viewBox='0 0 8 8' refX='8' refY='4' orient='auto' "
    ++ (codes "markerWidth='8' markerHeight='8' markerUnits='userSpaceOnUse'><path fill='"
    ++ (colour ++ codes "' d='M0 0L8 4L0 8z'/></marker>\n"))))

abbrev pub markers_text : List ℕ
markers_text =
    codes "<defs>\n" ++ (marker_text (codes "writes") (codes "#1f5fa8")
    ++ (marker_text (codes "drops") (codes "#c22") ++ codes "</defs>\n"))

-- the paper
abbrev pub paper_text : ℕ → List ℕ
paper_text height =
    codes "<rect width='1200' height='" ++ (decimal height ++ codes "' fill='#fff'/>\n")

-- what was found for the reason
abbrev pub finding_line : List ℕ → List ℕ
finding_line finding =
    codes "<text x='10' y='24' font-weight='bold'>" ++ (escaped finding ++ codes "</text>\n")

-- when an event would last have been witnessed, and what took that away
abbrev pub seen_text : Last → List ℕ
seen_text last = last_moments_text last ++ (codes "; taken by event " ++ decimal last.number)

-- when an event would last have been witnessed, if no moments prove it
abbrev pub taken_text : Option (List ℕ) → Option Last → List ℕ
taken_text None None = codes "last: never"
taken_text None (Some last) = seen_text last
taken_text (Some ws) last = []

-- the lines above the lanes: the cause, and a note
abbrev pub cause_lines : List Event → Explanation → List ℕ
cause_lines events x =
    finding_line (finding_text events x.finding)
    ++ (placed_text 10 44 (last_text (deed_name (slice_get events x.number)) x.other)
    ++ placed_text 10 62 (taken_text x.other x.last))

abbrev pub lines_text : List Event → Explanation → List ℕ → List ℕ
lines_text events x note = cause_lines events x ++ placed_text 10 80 note

-- ---- lanes

-- a lane with its name, down to the foot, in a colour
abbrev pub line_text : ℕ → ℕ → List ℕ → List ℕ
line_text x height colour =
    codes "<path d='M" ++ (decimal x ++ (codes " 114V" ++ (decimal height
    ++ (codes "' stroke-width='2' stroke='" ++ (colour ++ codes "'/>")))))

-- the beginning of a lane's name
abbrev pub label_text : ℕ → List ℕ
label_text x =
    codes "<text fill='#555' font-size='11' transform='translate(" ++ (decimal x
    ++ codes " 110) rotate(-45)'>")

abbrev pub lane_text : ℕ → Lane → List ℕ
lane_text foot lane =
    line_text lane.x foot (codes "#bbb")
    ++ (label_text lane.x ++ (codes "cpu " ++ (decimal lane.processor ++ codes "</text>\n")))

abbrev pub lanes_text : ℕ → List Lane → List ℕ
lanes_text foot [] = []
lanes_text foot (lane ∷ lanes) = lane_text foot lane ++ lanes_text foot lanes

abbrev pub walk_lane_text : ℕ → List ℕ
walk_lane_text foot = line_text 148 foot (codes "#7a5") ++ (label_text 148 ++ codes "walk</text>\n")

-- ---- boxes

abbrev pub style_of : Role → List ℕ
style_of roles.Bad = codes "fill='#fde8e8' stroke='#c22' stroke-width='2'"
style_of roles.Drops = codes "fill='#fff3dc' stroke='#c80'"
style_of roles.Takes = codes "fill='#f3ecfa' stroke='#7a4fa3'"
style_of roles.Writes = codes "fill='#eef3fa' stroke='#1f5fa8'"

-- what begins a row: its box, whose corners are round by so much, and a dot in a lane with a line
-- to the box
abbrev pub row_text : List ℕ → ℕ → ℕ → ℕ → List ℕ
row_text style x y round =
    codes "<g transform='translate(0 " ++ (decimal y ++ (codes ")'><g " ++ (style
    ++ (codes "><path d='M" ++ (decimal x ++ (codes " 12H216'/><circle r='5' cy='12' cx='"
    ++ (decimal x ++ (codes "'/><rect x='216' width='976' height='24' rx='"
    ++ (decimal round ++ codes "'/></g>\n")))))))))

abbrev pub event_box_text : List Event → EventBox → List ℕ
event_box_text events b =
    row_text (style_of b.role) b.x b.y 0
    ++ (placed_text 224 16 (numbered_text events b.number) ++ codes "</g>\n")

abbrev pub event_boxes_text : List Event → List EventBox → List ℕ
event_boxes_text events [] = []
event_boxes_text events (b ∷ bs) = event_box_text events b ++ event_boxes_text events bs

abbrev pub entry_style : List ℕ
entry_style = codes "fill='#eef7e8' stroke='#7a5'"

abbrev pub entry_box_text : EntryBox → List ℕ
entry_box_text b =
    row_text entry_style 148 b.y 12 ++ (placed_text 232 16 (entry_text b.entry) ++ codes "</g>\n")

abbrev pub entry_boxes_text : List EntryBox → List ℕ
entry_boxes_text [] = []
entry_boxes_text (b ∷ bs) = entry_box_text b ++ entry_boxes_text bs

-- ---- what colours mean, above the boxes

abbrev pub key_text : ℕ → List ℕ → List ℕ → List ℕ
key_text x style meaning =
    codes "<g transform='translate(" ++ (decimal x
    ++ (codes " 98)'><rect width='12' height='12' " ++ (style
    ++ (codes "/><text x='18' y='10' font-size='11'>" ++ (meaning ++ codes "</text></g>\n")))))

-- of those that made the entries, and of the entries
abbrev pub made_keys : List ℕ
made_keys =
    key_text 216 (style_of roles.Writes) (codes "wrote an entry")
    ++ key_text 345 entry_style (codes "an entry, at its moment")

-- and of those that took them away, and of the event that is not proved
abbrev pub taken_keys : List ℕ
taken_keys =
    key_text 535 (style_of roles.Drops) (codes "an entry had to go by it")
    ++ (key_text 732 (style_of roles.Takes) (codes "took the last moments")
    ++ key_text 909 (style_of roles.Bad) (codes "the bad event"))

-- ---- arrows

abbrev pub pen_of : Deed → List ℕ
pen_of deeds.Writes = codes "stroke='#1f5fa8' marker-end='url(#writes)'"
pen_of deeds.Drops = codes "stroke='#c22' stroke-dasharray='6 3' marker-end='url(#drops)'"

abbrev pub arrow_text : Arrow → List ℕ
arrow_text a =
    codes "<path fill='none' stroke-width='2' " ++ (pen_of a.deed ++ (codes " d='M216 "
    ++ (decimal a.from ++ (codes "H" ++ (decimal a.x ++ (codes "V" ++ (decimal a.to
    ++ codes "H216'/>\n")))))))

abbrev pub arrows_text : List Arrow → List ℕ
arrows_text [] = []
arrows_text (a ∷ bs) = arrow_text a ++ arrows_text bs

-- ---- the whole

abbrev pub head_text : List Event → Explanation → List ℕ → Layout → List ℕ
head_text events x note l =
    open_text l.height l.letters ++ (title_text x.number ++ (markers_text
    ++ (paper_text l.height ++ lines_text events x note)))

abbrev pub lanes_of : Layout → List ℕ
lanes_of l = lanes_text l.height l.lanes.items ++ walk_lane_text l.height

abbrev pub keys_text : List ℕ
keys_text = made_keys ++ taken_keys

abbrev pub things_text : List Event → Layout → List ℕ
things_text events l =
    event_boxes_text events l.events.items ++ (entry_boxes_text l.entries.items
    ++ arrows_text l.arrows.items)

abbrev pub svg_text : List Event → Explanation → List ℕ → Layout → List ℕ
svg_text events x note l =
    head_text events x note l
    ++ (lanes_of l ++ (keys_text ++ (things_text events l ++ codes "</svg>\n")))

-- this is the picture of an explanation, with a note
abbrev pub IsPicture : Head → List Event → Explanation → List ℕ → List ℕ → Type 0
IsPicture head events x note text =
    (l : Layout) × IsLayout head events x l × (text ≡ svg_text events x note l)
