use Rattle.std.proofs.Common.{◌≡◌, ◌++◌, drop, string_bytes}
use Rattle.pg_show_picture.specs.Svg.{arrows_text}
use Rattle.pg_show_picture.proofs.painter.push_all_arrows.Given as goal

abbrev pub invariant-loop-arrow : goal.invariant-loop-arrow
invariant-loop-arrow l =
    string_bytes l.text ++ arrows_text (drop l.arrow-index l.arrows) ≡ string_bytes l.fn.text ++ arrows_text l.arrows
