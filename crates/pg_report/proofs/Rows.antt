-- Reports of whole records, to the byte.
use Rattle.std.proofs.Common.{◌≡◌, ℕ, zero, suc, ◌+◌, ◌==◌, cond, List, [], ◌∷◌, ◌++◌, refl}
use Rattle.std.specs.Prelude.{codes}
use Rattle.std.specs.Fmt.{digits}
use Rattle.pg_event.specs.declared.event.Event.{Event}
use Rattle.pg_event.specs.declared.event.Event.TheVariants.{Write, Invlpg}
use Rattle.pg_event.specs.Heads.{Head}
use Rattle.pg_report.specs.Text.{report_of, report_text}
use Rattle.pg_event.proofs.RowsBase.{base, tables, four, read, answered, faulted, user_read}

-- the text of the report of these events under this header
abbrev text_of : Head → List Event → List ℕ
text_of head events = report_text (report_of (record { head = head; events = events }))

fresh_walk : text_of base (tables 0x9007 ++ read (four 4) ∷ []) ≡ codes "verdict: yes\nevents: 5\nsegments: 1\n"
unfolding digits
fresh_walk = refl

stale_leaf_after_invlpg : text_of base (tables 0x9007 ++ Write 0 0x4028 0 ∷ Invlpg 0 0x5000 ∷ read (four 4) ∷ [])
    ≡ codes "verdict: no\nevent: 6\nreason: 5 translation dropped\nevents: 7\nsegments: 1\n"
unfolding digits
stale_leaf_after_invlpg = refl

-- reads at events 4 to 19, each at its own moments; event 7 has another answer, event 15 a fault
abbrev read_at : ℕ → Event
read_at w = cond (w == 7) (answered user_read 0x9124 (four w)) (cond (w == 15) (faulted user_read 5 (four w)) (read (four w)))

abbrev reads_from : ℕ → ℕ → List Event
reads_from w zero = []
reads_from w (suc n) = read_at w ∷ reads_from (w + 1) n

ten_segments_two_bad_events : text_of (record base { segment = 2 }) (tables 0x9007 ++ reads_from 4 16)
    ≡ codes "verdict: no\nevent: 7\nreason: 9 answer\nevents: 20\nsegments: 10\n"
unfolding digits
ten_segments_two_bad_events = refl
