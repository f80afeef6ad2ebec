-- Where everything of a picture stands, in pixels: x to the right, y down. The picture is 1,200
-- wide. Time goes down, a row for each event and for each entry that is read: an entry stands
-- before the event with the number of its moment. At the left there is a lane for each processor,
-- then one of the walk, then the arrows, each in a column of its own, and then the boxes with their
-- texts.
use Rattle.std.specs.Prelude.{◌≡◌, ℕ, ◌+◌, ◌*◌, Bool, ◌||◌, ◌==◌, nat_lt, if◌then◌else◌}
use Rattle.std.specs.Prelude.{List, [], ◌∷◌, ◌++◌, length, map, take, Option, Some, None}
use Rattle.std.specs.List.{count_by, list_any}
use Rattle.pg_event.specs.declared.event.Event.{Event}
use Rattle.pg_event.specs.Heads.{Head}
use Rattle.pg_explain.specs.declared.entry.WalkEntry.{WalkEntry}
use Rattle.pg_explain.specs.declared.explainer.Explanation.{Explanation}
use Rattle.pg_explain.specs.declared.finding.Finding.{Finding}
use Rattle.pg_explain.specs.Line.{processor_at}
use Rattle.pg_explain.specs.Text.{numbered_text, finding_text, entry_text}
use Rattle.pg_show_picture.specs.declared.placer.Role.{Role}
use Rattle.pg_show_picture.specs.declared.placer.Role.TheVariants as roles
use Rattle.pg_show_picture.specs.declared.placer.Deed.TheVariants as deeds
use Rattle.pg_show_picture.specs.declared.placer.Lane.{Lane}
use Rattle.pg_show_picture.specs.declared.placer.EventBox.{EventBox}
use Rattle.pg_show_picture.specs.declared.placer.EntryBox.{EntryBox}
use Rattle.pg_show_picture.specs.declared.placer.Arrow.{Arrow}
use Rattle.pg_show_picture.specs.declared.placer.Layout.{Layout}
use Rattle.pg_show_picture.specs.Named.{drawn, named, is_dropper, is_taker, dropper_of}

-- ---- rows

-- the top of a row
abbrev pub row_top : ℕ → ℕ
row_top row = 120 + 30 * row

-- how many of these entries are read at moments below this one
abbrev pub read_below : List WalkEntry → ℕ → ℕ
read_below walk w = count_by (λ e. nat_lt e.step.moment w) walk

abbrev pub read_at : List WalkEntry → ℕ → ℕ
read_at walk w = count_by (λ e. e.step.moment == w) walk

abbrev pub below : List ℕ → ℕ → ℕ
below numbers j = count_by (λ k. nat_lt k j) numbers

-- the row of an event: before it stand the events with lower numbers, and the entries that are read
-- at moments up to it
abbrev pub event_row : List ℕ → List WalkEntry → ℕ → ℕ
event_row numbers walk j = below numbers j + read_below walk (j + 1)

-- the row of the entry at this place of the walk, which is read at this moment: before it stand the
-- events below the moment, and the entries that are read before it
abbrev pub entry_row : List ℕ → List WalkEntry → ℕ → ℕ → ℕ
entry_row numbers walk i w =
    below numbers w + (read_below walk w + read_at (take i walk) w)

-- ---- lanes

-- whether one of the events with these numbers is of processor p
abbrev pub takes_part : List Event → List ℕ → ℕ → Bool
takes_part events numbers p = list_any (λ j. processor_at events j == p) numbers

-- a lane for each of these processors that takes part, from left to right, where the first is p
abbrev pub lanes_from : List Event → List ℕ → ℕ → ℕ → List (ℕ × Bool) → List Lane
lanes_from events numbers p x [] = []
lanes_from events numbers p x (s ∷ ss) =
    if takes_part events numbers p
    then record { processor = p; x = x } ∷ lanes_from events numbers (p + 1) (x + 18) ss
    else lanes_from events numbers (p + 1) x ss

abbrev pub lanes : Head → List Event → List ℕ → List Lane
lanes head events numbers = lanes_from events numbers 0 24 head.processors

-- where the lane of a processor is
abbrev pub lane_x : List Lane → ℕ → ℕ
lane_x [] p = 24
lane_x (lane ∷ lanes) p = if lane.processor == p then lane.x else lane_x lanes p

-- ---- boxes

abbrev pub role_of : Explanation → ℕ → Role
role_of x j = if j == x.number then roles.Bad else
    if is_dropper x j then roles.Drops else
    if is_taker x j then roles.Takes else roles.Writes

abbrev pub event_box :
    List Event → Explanation → List WalkEntry → List ℕ → List Lane → ℕ → EventBox
event_box events x walk numbers lanes j =
    record {
      number = j;
      x = lane_x lanes (processor_at events j);
      y = row_top (event_row numbers walk j);
      role = role_of x j;
    }

abbrev pub event_boxes :
    List Event → Explanation → List WalkEntry → List ℕ → List Lane → List EventBox
event_boxes events x walk numbers lanes = map (event_box events x walk numbers lanes) numbers

-- the boxes of the rest of a walk, whose first entry is at this place
abbrev pub entry_boxes_from :
    List ℕ → List WalkEntry → ℕ → List WalkEntry → List EntryBox
entry_boxes_from numbers walk i [] = []
entry_boxes_from numbers walk i (e ∷ es) =
    record { entry = e; y = row_top (entry_row numbers walk i e.step.moment) }
    ∷ entry_boxes_from numbers walk (i + 1) es

abbrev pub entry_boxes : List ℕ → List WalkEntry → List EntryBox
entry_boxes numbers walk = entry_boxes_from numbers walk 0 walk

-- ---- arrows

-- from the event that wrote an entry, if there is one, to the row of the entry, in this column
abbrev pub write_arrow : List ℕ → List WalkEntry → ℕ → ℕ → Option ℕ → List Arrow
write_arrow numbers walk column top None = []
write_arrow numbers walk column top (Some j) =
    record {
      from = row_top (event_row numbers walk j) + 17;
      x = column;
      to = top + 8;
      deed = deeds.Writes;
    } ∷ []

-- from the event by which an entry had to go, if there is one, to the row of the entry
abbrev pub drop_arrow : List ℕ → List WalkEntry → ℕ → Option ℕ → List Arrow
drop_arrow numbers walk top None = []
drop_arrow numbers walk top (Some j) =
    record {
      from = row_top (event_row numbers walk j) + 12;
      x = 200;
      to = top + 17;
      deed = deeds.Drops;
    } ∷ []

-- the arrows to the entry at this place of the walk
abbrev pub arrows_to : Finding → List ℕ → List WalkEntry → ℕ → WalkEntry → List Arrow
arrows_to finding numbers walk i e =
    let top = row_top (entry_row numbers walk i e.step.moment) in
    write_arrow numbers walk (164 + 9 * i) top e.writer
    ++ drop_arrow numbers walk top (dropper_of e.step.level finding)

-- those to the rest of a walk, whose first entry is at this place
abbrev pub arrows_from :
    Finding → List ℕ → List WalkEntry → ℕ → List WalkEntry → List Arrow
arrows_from finding numbers walk i [] = []
arrows_from finding numbers walk i (e ∷ es) =
    arrows_to finding numbers walk i e ++ arrows_from finding numbers walk (i + 1) es

abbrev pub arrows : Finding → List ℕ → List WalkEntry → List Arrow
arrows finding numbers walk = arrows_from finding numbers walk 0 walk

-- ---- the whole

-- whether a line has more letters than this
abbrev pub is_long : ℕ → List ℕ → Bool
is_long most line = nat_lt most (length line)

-- whether some line has more letters than there is room for, where this many fit into a box: what
-- was found begins further left and has room for 28 more, and an entry, which is drawn a letter
-- further in than an event, has an end of its line that is not drawn
abbrev pub has_long : ℕ → List Event → Explanation → List WalkEntry → List ℕ → Bool
has_long most events x walk numbers =
    is_long (most + 28) (finding_text events x.finding)
    || (list_any (λ j. is_long most (numbered_text events j)) numbers
    || list_any (λ e. is_long most (entry_text e)) walk)

-- the size of letters: 112 of size 14 fit into a box, 132 of size 12, and of size 10 the longest
-- lines that there may be
abbrev pub letters : List Event → Explanation → List WalkEntry → List ℕ → ℕ
letters events x walk numbers =
    if has_long 132 events x walk numbers then 10 else
    if has_long 112 events x walk numbers then 12 else 14

-- the height of a picture: that of all rows
abbrev pub height : List ℕ → List WalkEntry → ℕ
height numbers walk = row_top (length numbers + length walk)

-- this is where everything of an explanation stands, where these are the entries that are drawn and
-- the numbers of the events
pub record IsLaid (head : Head) (events : List Event) (x : Explanation) (walk : List WalkEntry)
    (numbers : List ℕ) (l : Layout) : Type 0 where
  pub letters : l.letters ≡ letters events x walk numbers
  pub height : l.height ≡ height numbers walk
  pub lanes : l.lanes.items ≡ lanes head events numbers
  pub boxes : l.events.items ≡ event_boxes events x walk numbers l.lanes.items
  pub entries : l.entries.items ≡ entry_boxes numbers walk
  pub arrows : l.arrows.items ≡ arrows x.finding numbers walk

-- this is where everything of an explanation stands
abbrev pub IsLayout : Head → List Event → Explanation → Layout → Type 0
IsLayout head events x l =
    IsLaid head events x (drawn x.walk.items) (named x (drawn x.walk.items) events) l
