use Rattle.std.proofs.Common.{◌≡◌, ◌-◌, ◌++◌, ◌∙◌, List, length, take, drop, None, ap, sym, subst}
use Rattle.pg_event.specs.declared.event.Event.{Event}
use Rattle.pg_event.specs.Form.{broken_rule}
use Rattle.pg_event.specs.Heads.{Head}
use Rattle.pg_chain.specs.declared.past.Past.{Past}
use Rattle.pg_chain.specs.Standing.{IsPast}
use Rattle.pg_check.proofs.Known.{processors-known}
use Rattle.pg_explain.specs.declared.bad_events.Bad.{Bad}
use Rattle.pg_explain.specs.Bads.{bads_from}
use Rattle.pg_explain.proofs.Judged.{all_dropped, rest_of}
use Rattle.pg_explain.proofs.bad_events.bads_from.Goals as goal

pub push_bads-requires-clause-processors : goal.push_bads-requires-clause-processors
push_bads-requires-clause-processors c =
    let head : Head = c.args.history.now.head in
    let events : List Event = c.args.history.now.events in
    let past : IsPast c.memo-memo.result head events = subst (λ (p : Past). IsPast p head events) (sym c.memo-memo.ensures) c.stretch.ensures.stretch.past in
    let rest = rest_of events c.events-events.result.now c.args.first c.events-events.ensures.events in
    let well = all_dropped (λ (e : Event). broken_rule head e ≡ None) c.args.first events c.events-events.ensures.well in
    rw rest (processors-known c.memo-memo.result head events (drop c.args.first events) past well)

pub returns : goal.returns
returns c =
    let head : Head = c.args.history.now.head in
    let events : List Event = c.args.history.now.events in
    let given : List Event = c.events-events.result.now in
    let past : IsPast c.memo-memo.result head events = subst (λ (p : Past). IsPast p head events) (sym c.memo-memo.ensures) c.stretch.ensures.stretch.past in
    let rest = rest_of events given c.args.first c.events-events.ensures.events in
    let wrote = c.in_ok-push_bads.ensures head events past in
    wrote
    ∙ (ap (λ (xs : List Bad). xs ++ bads_from head events c.args.first (take (length given - c.args.first) (drop c.args.first given))) c.new-found.ensures.items
    ∙ ap (bads_from head events c.args.first) rest)
