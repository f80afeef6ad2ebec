-- What bad events have in common, as JSON. The fields for each reason are
--
--     reason, reason_name  its number and its name
--     count, first         how many bad events have it, and the first of them
--     cpus, pages          all their processors and pages
use Rattle.std.specs.Prelude.{List, map, codes}
use Rattle.pg_explain.specs.declared.tallier.Tally.{Tally}
use Rattle.pg_report.specs.Text.{reason_number, reason_name}
use Rattle.pg_show_json.specs.Tree.{Json, count, counts, text, list, hexes, object, elements}
use Rattle.pg_show_json.specs.Tree.{no_fields, field}

abbrev pub tally_json : Tally → Json
tally_json t = object (
    field (codes "reason") (count (reason_number t.reason))
    (field (codes "reason_name") (text (reason_name t.reason))
    (field (codes "count") (count t.count) (field (codes "first") (count t.first)
    (field (codes "cpus") (counts t.processors.items)
    (field (codes "pages") (hexes t.pages.items) no_fields))))))

abbrev pub tallies_json : List Tally → Json
tallies_json ts = list (elements (map tally_json ts))
