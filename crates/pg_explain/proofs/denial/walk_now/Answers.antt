use Rattle.std.proofs.Common.{◌≡◌, ◌∙◌, ℕ, Bool, List, [], ◌∷◌, Option, ap, sym, inl, inr}
use Rattle.std.proofs.lemmas.Result.{IfOk-weaker}
use Rattle.pg_entry.specs.declared.AccessKind.{AccessKind}
use Rattle.pg_event.specs.declared.event.Event.{Event}
use Rattle.pg_event.specs.declared.event.Event.TheVariants.{Write, Access, Assist, MovCr3, Invlpg, Invpcid, MovCr4Pge}
use Rattle.pg_event.specs.declared.event.Outcome.{Outcome}
use Rattle.pg_event.specs.declared.meaning.Request.TheVariants as requests
use Rattle.pg_event.specs.Form.{processor_of}
use Rattle.pg_event.specs.Heads.{Head}
use Rattle.pg_event.specs.Meaning.{request_of}
use Rattle.pg_explain.specs.Findings.{readings_by}
use Rattle.pg_explain.specs.Given.{given_by, given_now}
use Rattle.pg_explain.proofs.denial.walk_now.Goals as goal

-- what a walk of processor p at event i gives for an access of a kind
abbrev given_at : Head → List Event → ℕ → ℕ → AccessKind → ℕ → Option Outcome
given_at head events i p kind la = given_by head.cfg kind la (readings_by head events p la (i ∷ i ∷ i ∷ i ∷ []))

given_access : (head : Head) (events : List Event) (i : ℕ) (e : Event) (kind : AccessKind) (la : ℕ) (outcome : Outcome) (ws : List ℕ) → request_of e ≡ requests.Access kind la outcome ws → given_at head events i (processor_of e) kind la ≡ given_now head events i e
given_access head events i (Write p addr value) kind la outcome ws h = absurd cc
given_access head events i (Access p flags at came moments) kind la outcome ws h = cc
given_access head events i (Assist p flags at word moments) kind la outcome ws h = absurd cc
given_access head events i (MovCr3 p operand) kind la outcome ws h = absurd cc
given_access head events i (Invlpg p at) kind la outcome ws h = absurd cc
given_access head events i (Invpcid p type pcid at) kind la outcome ws h = absurd cc
given_access head events i (MovCr4Pge p on) kind la outcome ws h = absurd cc

given_update : (head : Head) (events : List Event) (i : ℕ) (e : Event) (kind : AccessKind) (la word : ℕ) (dirty : Bool) (ws : List ℕ) → request_of e ≡ requests.Update kind la word dirty ws → given_at head events i (processor_of e) kind la ≡ given_now head events i e
given_update head events i (Write p addr value) kind la word dirty ws h = absurd cc
given_update head events i (Access p flags at came moments) kind la word dirty ws h = absurd cc
given_update head events i (Assist p flags at other moments) kind la word dirty ws h = cc
given_update head events i (MovCr3 p operand) kind la word dirty ws h = absurd cc
given_update head events i (Invlpg p at) kind la word dirty ws h = absurd cc
given_update head events i (Invpcid p type pcid at) kind la word dirty ws h = absurd cc
given_update head events i (MovCr4Pge p on) kind la word dirty ws h = absurd cc

pub returns-in-Access-clause-given : goal.returns-in-Access-clause-given
returns-in-Access-clause-given c =
    let head : Head = c.args.seen.now.head in
    let events : List Event = c.args.seen.now.events in
    let i : ℕ = c.args.number in
    let e : Event = c.args.event.now in
    let kind : AccessKind = c.in-Access.kind in
    let la : ℕ = c.in-Access.la in
    let asked : given_at head events i (processor_of e) kind la ≡ given_now head events i e =
    elim c.in-Access.is as (λ _. given_at head events i (processor_of e) kind la ≡ given_now head events i e) [
      | inl h ↦ given_access head events i e kind la h.0 h.1 (sym c.request.ensures ∙ h.2)
      | inr h ↦ given_update head events i e kind la h.0 h.1 h.2 (sym c.request.ensures ∙ h.3)
    ] in
    IfOk-weaker c.walk_of.result _ _ (λ now is. is ∙ ap (λ p. given_at head events i p kind la) c.processor_of.ensures ∙ asked) c.walk_of.ensures.given
