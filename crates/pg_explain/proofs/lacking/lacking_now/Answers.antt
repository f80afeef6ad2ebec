use Rattle.std.proofs.Common.{◌≡◌, ◌∙◌, ℕ, List, [], ◌∷◌, ap, sym}
use Rattle.std.proofs.lemmas.Result.{IfOk-weaker}
use Rattle.pg_entry.specs.declared.AccessKind.{AccessKind}
use Rattle.pg_event.specs.declared.claim.Claim.{Claim}
use Rattle.pg_event.specs.declared.event.Event.{Event}
use Rattle.pg_event.specs.Heads.{Head}
use Rattle.pg_event.specs.Walk.{Reading}
use Rattle.pg_event.specs.Witness.{claim_of}
use Rattle.pg_explain.specs.Findings.{readings_by}
use Rattle.pg_explain.specs.Lacking.{lacking_by, lacking_now}
use Rattle.pg_explain.proofs.lacking.lacking_now.Goals as goal

pub returns-in-Access : goal.returns-in-Access
returns-in-Access c =
    let head : Head = c.args.seen.now.head in
    let events : List Event = c.args.seen.now.events in
    let i : ℕ = c.args.number in
    let rs : List Reading = readings_by head events c.in-Access.p c.in-Access.la (i ∷ i ∷ i ∷ i ∷ []) in
    let claim : AccessKind → Claim = λ kind. record { number = i; p = c.in-Access.p; kind = kind; la = c.in-Access.la; outcome = c.in-Access.outcome } in
    let kind : lacking_by head (claim c.access_kind-kind.result) rs ≡ lacking_by head (claim_of i c.in-Access.p c.in-Access.flags c.in-Access.la c.in-Access.outcome) rs = ap (λ k. lacking_by head (claim k) rs) c.access_kind-kind.ensures in
    let whole : lacking_by head (claim_of i c.in-Access.p c.in-Access.flags c.in-Access.la c.in-Access.outcome) rs ≡ lacking_now head events i c.args.event.now = ap (lacking_now head events i) (sym c.in-Access.is) in
    IfOk-weaker c.lacking_for.result _ _ (λ found h. h ∙ kind ∙ whole) c.lacking_for.ensures
