-- The picture of a cause: the events that it names, and below them its lines. Time runs downwards:
-- each event has a row, and the rows stand in the order of numbers. Each processor has a lane. The
-- bar of an event stands in its processor's lane, from the first row whose event ends after it
-- began down to its own row; the lines of events stand right of the lanes.
use Rattle.std.specs.Prelude.{ℕ, ◌+◌, ◌-◌, ◌*◌, Bool, ◌==◌, nat_lt, min, if◌then◌else◌, fold}
use Rattle.std.specs.Prelude.{List, [], ◌∷◌, ◌++◌, Option, Some, None, codes, decimal}
use Rattle.std.specs.Prelude.{length, slice_get, count_by}
use Rattle.std.specs.List.{list_any}
use Rattle.pg_event.specs.declared.event.Event.{Event}
use Rattle.pg_event.specs.Form.{processor_of}
use Rattle.pg_span_run.specs.Orders.{Spanned, ended_before}
use Rattle.pg_span_text.specs.Cause.{cause_text}
use Rattle.pg_span_text.specs.Lines.{began_line}
use Rattle.pg_span_text.specs.Named.{named}

-- ---- rows and lanes

-- a processor after others, unless it is there
abbrev pub put_lane : List ℕ → ℕ → List ℕ
put_lane lanes p = if list_any (λ q. q == p) lanes then lanes else lanes ++ p ∷ []

abbrev pub lane_by : List ℕ → Option Event → List ℕ
lane_by lanes None = lanes
lane_by lanes (Some e) = put_lane lanes (processor_of e)

abbrev pub lane_with : Spanned → List ℕ → ℕ → List ℕ
lane_with s lanes number = lane_by lanes (slice_get s.events number)

-- the processors of events
abbrev pub lanes_of : Spanned → List ℕ → List ℕ
lanes_of s names = fold (lane_with s) [] names

-- which row or lane a number has: how many are below it, 40 at most
abbrev pub place_below : List ℕ → ℕ → ℕ
place_below numbers bound = min (count_by (λ n. nat_lt n bound) numbers) 40

abbrev pub count_of : List ℕ → ℕ
count_of numbers = min (length numbers) 40

-- how many lines a text has, 120 at most
abbrev pub lines_of : List ℕ → ℕ
lines_of text = min (count_by (λ b. b == 10) text) 120

-- ---- parts

abbrev pub fill_of : Bool → List ℕ
fill_of is_asked = if is_asked then codes "#c22" else codes "#1f5fa8"

unfoldable pub frame_text : ℕ → ℕ → List ℕ
frame_text width height =
    codes "<svg xmlns='http://www.w3.org/2000/svg' viewBox='0 0 " ++ (decimal width
    ++ (codes " " ++ (decimal height ++ (codes "' width='" ++ (decimal width
    ++ (codes "' height='" ++ (decimal height
    ++ codes "' style='max-width:100%;height:auto' font-family='monospace' font-size='14'>\n")))))))

unfoldable pub title_text : ℕ → List ℕ
title_text number = codes "<title>event " ++ (decimal number ++ codes "</title>\n")

unfoldable pub paper_text : ℕ → ℕ → List ℕ
paper_text width height =
    codes "<rect width='" ++ (decimal width ++ (codes "' height='" ++ (decimal height
    ++ codes "' fill='#fff'/>\n")))

-- how high a picture is with so many rows, and so many lines below them
abbrev pub height_of : ℕ → ℕ → ℕ
height_of rows lines = 24 * rows + (16 * lines + 76)

abbrev pub open_text : ℕ → ℕ → ℕ → ℕ → List ℕ
open_text number lanes rows lines =
    frame_text (24 * lanes + 1056) (height_of rows lines) ++ (title_text number
    ++ paper_text (24 * lanes + 1056) (height_of rows lines))

unfoldable pub lane_at : ℕ → ℕ → List ℕ
lane_at x height =
    codes "<path d='M" ++ (decimal x ++ (codes " 44V" ++ (decimal height
    ++ codes "' stroke-width='2' stroke='#bbb'/>\n")))

unfoldable pub lane_name : ℕ → ℕ → List ℕ
lane_name x p =
    codes "<text fill='#555' font-size='11' transform='translate(" ++ (decimal x
    ++ (codes " 40) rotate(-45)'>cpu " ++ (decimal p ++ codes "</text>\n")))

abbrev pub lane_line : ℕ → ℕ → ℕ → List ℕ
lane_line place p rows =
    lane_at (24 * place + 18) (24 * rows + 60) ++ lane_name (24 * place + 18) p

-- the lanes of these processors, among all of them
abbrev pub lanes_text : List ℕ → ℕ → List ℕ → List ℕ
lanes_text all rows [] = []
lanes_text all rows (p ∷ lanes) =
    lane_line (place_below all p) p rows ++ lanes_text all rows lanes

unfoldable pub bar_at : ℕ → ℕ → ℕ → List ℕ → List ℕ
bar_at x y height fill =
    codes "<rect x='" ++ (decimal x ++ (codes "' y='" ++ (decimal y
    ++ (codes "' width='12' height='" ++ (decimal height
    ++ (codes "' fill='" ++ (fill ++ codes "'/>\n")))))))

abbrev pub bar_line : ℕ → ℕ → ℕ → List ℕ → List ℕ
bar_line lane from to fill =
    bar_at (24 * lane + 12) (24 * from + 48) (24 * (to - from) + 18) fill

unfoldable pub label_at : ℕ → ℕ → List ℕ → List ℕ
label_at x y fill =
    codes "<text x='" ++ (decimal x ++ (codes "' y='" ++ (decimal y
    ++ (codes "' fill='" ++ (fill ++ codes "'>")))))

abbrev pub label_line : ℕ → ℕ → List ℕ → ℕ → ℕ → Event → List ℕ
label_line lanes row fill number began e =
    label_at (24 * lanes + 24) (24 * row + 62) fill
    ++ (began_line began number e ++ codes "</text>\n")

-- the bar and the label of an event
abbrev pub event_lines : Spanned → List ℕ → List ℕ → ℕ → List ℕ → Event → List ℕ
event_lines s names lanes number fill e =
    bar_line (place_below lanes (processor_of e)) (place_below names (ended_before s number))
    (place_below names number) fill
    ++ label_line (count_of lanes) (place_below names number) fill number (ended_before s number) e

abbrev pub row_lines : Spanned → List ℕ → List ℕ → ℕ → List ℕ → Option Event → List ℕ
row_lines s names lanes number fill None = []
row_lines s names lanes number fill (Some e) = event_lines s names lanes number fill e

-- those of these events, among all of them, where one is asked
abbrev pub rows_text : Spanned → List ℕ → List ℕ → ℕ → List ℕ → List ℕ
rows_text s names lanes asked [] = []
rows_text s names lanes asked (number ∷ numbers) =
    row_lines s names lanes number (fill_of (number == asked)) (slice_get s.events number)
    ++ rows_text s names lanes asked numbers

-- ---- the cause's lines, below

-- a byte of a text, where XML gives it no meaning; the next line begins a line of the picture
abbrev pub shown_byte : ℕ → List ℕ
shown_byte b =
    if b == 10 then codes "</tspan>\n<tspan x='12' dy='16'>" else
    if b == 60 then codes "&lt;" else
    if b == 62 then codes "&gt;" else
    if b == 38 then codes "&amp;" else
    if nat_lt b 128 then b ∷ [] else codes "?"

abbrev pub shown_bytes : List ℕ → List ℕ
shown_bytes [] = []
shown_bytes (b ∷ bs) = shown_byte b ++ shown_bytes bs

unfoldable pub below_at : ℕ → List ℕ
below_at y =
    codes "<text font-size='12' y='" ++ (decimal y ++ codes "'>\n<tspan x='12' dy='16'>")

-- a text below so many rows
abbrev pub below_text : ℕ → List ℕ → List ℕ
below_text rows text =
    below_at (24 * rows + 60) ++ (shown_bytes text ++ codes "</tspan>\n</text>\n")

-- ---- the whole

abbrev pub drawn_with : Spanned → ℕ → List ℕ → List ℕ → List ℕ → List ℕ
drawn_with s asked names lanes cause =
    open_text asked (count_of lanes) (count_of names) (lines_of cause)
    ++ (lanes_text lanes (count_of names) lanes
    ++ (rows_text s names lanes asked names
    ++ (below_text (count_of names) cause ++ codes "</svg>\n")))

abbrev pub drawn_text : Spanned → ℕ → List ℕ → List ℕ
drawn_text s asked names = drawn_with s asked names (lanes_of s names) (cause_text s asked)

-- the picture of the cause of the event with this number, if there is one
abbrev pub picture_text : Spanned → ℕ → List ℕ
picture_text s number =
    if nat_lt number (length s.events) then drawn_text s number (named s number) else []
