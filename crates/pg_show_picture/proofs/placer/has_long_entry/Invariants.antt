use Rattle.std.proofs.Common.{◌≡◌, drop}
use Rattle.std.specs.List.{list_any}
use Rattle.pg_explain.specs.declared.entry.WalkEntry.{WalkEntry}
use Rattle.pg_explain.specs.Text.{entry_text}
use Rattle.pg_show_picture.specs.Layout.{is_long}
use Rattle.pg_show_picture.proofs.placer.has_long_entry.Given as goal

abbrev pub invariant-loop-entry : goal.invariant-loop-entry
invariant-loop-entry l =
    list_any (λ (e : WalkEntry). is_long l.most (entry_text e)) (drop l.entry-index l.walk)
    ≡ list_any (λ (e : WalkEntry). is_long l.most (entry_text e)) l.walk
