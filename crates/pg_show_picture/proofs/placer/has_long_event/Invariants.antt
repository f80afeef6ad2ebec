use Rattle.std.proofs.Common.{◌≡◌, drop}
use Rattle.std.specs.List.{list_any}
use Rattle.pg_explain.specs.Text.{numbered_text}
use Rattle.pg_show_picture.specs.Layout.{is_long}
use Rattle.pg_show_picture.proofs.placer.has_long_event.Given as goal

abbrev pub invariant-loop-number : goal.invariant-loop-number
invariant-loop-number l =
    list_any (λ j. is_long l.most (numbered_text l.events j)) (drop l.number-index l.numbers)
    ≡ list_any (λ j. is_long l.most (numbered_text l.events j)) l.numbers
