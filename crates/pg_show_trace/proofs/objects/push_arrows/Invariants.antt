use Rattle.std.proofs.Common.{◌≡◌, ◌++◌, drop, string_bytes}
use Rattle.pg_show_trace.specs.Marks.{said}
use Rattle.pg_show_trace.specs.Objects.{arrows_from}
use Rattle.pg_show_trace.proofs.objects.push_arrows.Given as goal

abbrev pub invariant-loop-i : goal.invariant-loop-i
invariant-loop-i l =
    string_bytes l.text ++ arrows_from (said l.mark) l.i (drop l.i l.mark.sources.items)
    ≡ string_bytes l.fn.text ++ arrows_from (said l.mark) 0 l.mark.sources.items
