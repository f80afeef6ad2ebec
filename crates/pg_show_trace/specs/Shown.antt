-- The trace of the events that a selection asks for.
use Rattle.std.specs.Prelude.{◌≡◌, ℕ, List, Some, None}
use Rattle.pg_event.specs.declared.selection.Selection.{Selection}
use Rattle.pg_event.specs.Spelling.{Recorded}
use Rattle.pg_show_trace.specs.declared.writer.Scene.{Scene}
use Rattle.pg_show_trace.specs.Texts.{trace_text, scene_text}

abbrev pub IsShownTrace : Selection → Recorded → Unit {0} → List ℕ → Type 0
IsShownTrace selection r x text = text ≡ trace_text (Some selection) None r

abbrev pub IsSceneTrace : Scene → Recorded → Unit {0} → List ℕ → Type 0
IsSceneTrace scene r x text = text ≡ scene_text scene r
