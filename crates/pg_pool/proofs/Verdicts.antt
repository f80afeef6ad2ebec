-- Verdicts of which each is that of its segment.
use Rattle.std.proofs.Common.{◌≡◌, ℕ, ◌+◌, ◌-◌, ◌<◌, List, get_or, map, refl, ap, sym, ◌∙◌, arith}
use Rattle.std.proofs.lemmas.List.{ext_get_or}
use Rattle.std.proofs.lemmas.List.FromFn.{length-map-range_with_len, get_or-map-range_with_len}
use Rattle.pg_event.specs.Spelling.{Recorded}
use Rattle.pg_check.specs.declared.stretch.SegmentVerdict.{SegmentVerdict}
use Rattle.pg_check.specs.Segments.{segment_verdict}
use Rattle.pg_pool.specs.declared.round.Round.{Round}
use Rattle.pg_pool.specs.Rounds.{numbers}
use Rattle.pg_pool.specs.Verdicts.{AreVerdicts}

pub are_those_of : (run : Recorded) (r : Round) (verdicts : List SegmentVerdict) → AreVerdicts (λ n v. v ≡ segment_verdict run n) r verdicts → verdicts ≡ map (segment_verdict run) (numbers r)
are_those_of run r verdicts are =
    let none : SegmentVerdict = segment_verdict run 0 in
    ext_get_or none verdicts (map (segment_verdict run) (numbers r)) (are.len ∙ sym (length-map-range_with_len (segment_verdict run) r.first (r.last - r.first)))
    (λ i less.
    let inside : i < r.last - r.first = omega (arith, less, are.len) in
    let e : r.first + i - r.first ≡ i = omega arith in
    ap (λ (k : ℕ). get_or verdicts k none) (sym e) ∙ are.each (r.first + i) none (omega arith, omega (arith, inside))
    ∙ sym (get_or-map-range_with_len (segment_verdict run) r.first (r.last - r.first) i (r.first + i) none inside refl))
