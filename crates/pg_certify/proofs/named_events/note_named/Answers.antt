use Rattle.std.proofs.Common.{◌≡◌, ◌+◌, ◌<◌, ℕ, List, [], ◌∷◌, ◌++◌, length, take, arith, ap, sym, subst, ◌∙◌}
use Rattle.std.proofs.lemmas.List.{length-take, take_more}
use Rattle.pg_event.specs.declared.event.Event.{Event}
use Rattle.pg_certify.specs.declared.named_events.Numbered.{Numbered}
use Rattle.pg_certify.specs.Accounts.{named_from}
use Rattle.pg_certify.proofs.Accounts.{named_more}
use Rattle.pg_certify.proofs.named_events.note_named.Goals as goal

pub loop-i-preserved : goal.loop-i-preserved
loop-i-preserved c =
    let i : ℕ = c.loop-i.i in
    let events : List Event = c.args.events.now in
    let old : List Numbered = c.args.named.now.items in
    let e : Event = c.index-events-i.result in
    let lt : i < length events = omega arith in
    let number : c.args.first + i ≡ c.args.first + length (take i events) = omega (arith, length-take i events, lt) in
    let more : take (i + 1) events ≡ take i events ++ e ∷ [] = take_more events i e lt ∙ ap (λ x. take i events ++ x ∷ []) (sym c.index-events-i.is) in
    subst (λ (es : List Event). c.push_named.new.named.items ≡ old ++ named_from c.args.first es) (sym more)
    (named_more c.args.first (take i events) (c.args.first + i) e old c.loop-i.named.items c.push_named.new.named.items number c.loop-i.invariant c.in_ok-push_named.ensures)
