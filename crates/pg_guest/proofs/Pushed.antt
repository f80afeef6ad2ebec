-- A witnessed event more is accepted.
use Rattle.std.proofs.Common.{◌≡◌, ◌+◌, ◌<◌, List, [], ◌∷◌, ◌++◌, length, take, None, ap, ◌∙◌, arith, inl, inr}
use Rattle.std.specs.Prelude.{option_and_then}
use Rattle.std.proofs.lemmas.Bool.{cases_eq}
use Rattle.std.proofs.lemmas.List.{take-append-le, length_push}
use Rattle.pg_event.specs.declared.event.Event.{Event}
use Rattle.pg_event.specs.Heads.{Head}
use Rattle.pg_event.specs.Witness.{Accepted, failing, failing_event}
use Rattle.pg_event.proofs.Accepted.{accepted_where_each_is_witnessed}
use Rattle.pg_event.proofs.Alike.{same_judged, failing_depends_on_the_past}
use Rattle.pg_guest.proofs.Longer.{get_pushed}

pub accepted_pushed : (head : Head) (es : List Event) (e : Event) → Accepted head es → failing_event head es (length es) e ≡ None → Accepted head (es ++ e ∷ [])
accepted_pushed head es e accepted good =
    let all : List Event = es ++ e ∷ [] in
    let front : take (length es) all ≡ take (length es) es = take-append-le (length es) es (e ∷ []) (omega arith) in
    (accepted_where_each_is_witnessed head all).1 (λ i lt.
    elim (cases_eq i (length es)) [
      | inl last ↦
          ap (failing head all) last ∙ ap (option_and_then (failing_event head all (length es))) (get_pushed es e)
          ∙ same_judged head all es (length es) e front ∙ good
      | inr away ↦
          let early : i < length es = omega (arith, lt, away, length_push es e) in
          failing_depends_on_the_past head all es i (take-append-le (i + 1) es (e ∷ []) (omega arith))
          ∙ (accepted_where_each_is_witnessed head es).0 accepted i early
    ])
