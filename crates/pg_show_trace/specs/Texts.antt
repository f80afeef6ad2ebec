-- A record with one order as a trace: the names of its tracks, its events or those that a selection
-- asks for, and the arrows to a rejected one.
use Rattle.std.specs.Prelude.{ℕ, ◌+◌, Bool, true, false, if◌then◌else◌}
use Rattle.std.specs.Prelude.{List, [], ◌∷◌, ◌++◌, length, Option, Some, None}
use Rattle.pg_event.specs.declared.event.Event.{Event}
use Rattle.pg_event.specs.declared.selection.Selection.{Selection}
use Rattle.pg_event.specs.Spelling.{Recorded}
use Rattle.pg_explain.specs.Filters.{fits}
use Rattle.pg_show_trace.specs.declared.writer.Scene.{Scene}
use Rattle.pg_show_trace.specs.declared.mark.Mark.{Mark}
use Rattle.pg_show_trace.specs.Marks.{Marking, said}
use Rattle.pg_show_trace.specs.Objects.{opening_text, item_text, ending_text}

-- whether an event is written. A page's processors are known only at the end, so that their loads
-- are not
abbrev pub is_chosen : Option Selection → ℕ → Event → Bool
is_chosen None number e = true
is_chosen (Some f) number e = fits f false number e

abbrev pub chosen_text : Option Selection → Option Marking → ℕ → Event → List ℕ
chosen_text f mark number e = if is_chosen f number e then item_text mark number e else []

-- events, where the first has this number
abbrev pub items_from : Option Selection → Option Marking → ℕ → List Event → List ℕ
items_from f mark number [] = []
items_from f mark number (e ∷ events) =
    chosen_text f mark number e ++ items_from f mark (number + 1) events

abbrev pub trace_text : Option Selection → Option Marking → Recorded → List ℕ
trace_text f mark r =
    opening_text (length r.head.processors)
    ++ (items_from f mark 0 r.events ++ ending_text mark)

-- ---- a scene

abbrev pub marking : Option Mark → Option Marking
marking None = None
marking (Some m) = Some (said m)

abbrev pub scene_items : Scene → ℕ → List Event → List ℕ
scene_items scene number events = items_from scene.selection (marking scene.mark) number events

abbrev pub scene_text : Scene → Recorded → List ℕ
scene_text scene r = trace_text scene.selection (marking scene.mark) r
