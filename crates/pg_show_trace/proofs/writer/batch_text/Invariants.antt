use Rattle.std.proofs.Common.{◌≡◌, ◌+◌, ◌++◌, drop, string_bytes}
use Rattle.pg_show_trace.specs.Texts.{scene_items}
use Rattle.pg_show_trace.proofs.writer.batch_text.Given as goal

abbrev pub invariant-loop-i : goal.invariant-loop-i
invariant-loop-i l =
    string_bytes l.text ++ scene_items l.scene (l.first + l.i) (drop l.i l.events)
    ≡ scene_items l.scene l.first l.events
