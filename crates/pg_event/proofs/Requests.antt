-- An event is judged by what it asks.
use Rattle.std.proofs.Common.{◌≡◌, ℕ, List, Option, None, refl, ap, sym, ◌∙◌}
use Rattle.pg_event.specs.declared.event.Event.{Event}
use Rattle.pg_event.specs.declared.event.Event.TheVariants.{Write, Access, Assist, MovCr3, Invlpg, Invpcid, MovCr4Pge}
use Rattle.pg_event.specs.declared.event.Reason.{Reason}
use Rattle.pg_event.specs.declared.meaning.Request.{Request}
use Rattle.pg_event.specs.declared.meaning.Request.TheVariants as requests
use Rattle.pg_event.specs.Heads.{Head}
use Rattle.pg_event.specs.Form.{processor_of}
use Rattle.pg_event.specs.Meaning.{request_of}
use Rattle.pg_event.specs.Witness.{failing_access, failing_assist, failing_event}

-- the least reason that fails for what the event with this number asks of a walk of p
abbrev pub failing_request : Head → List Event → ℕ → ℕ → Request → Option Reason
failing_request head events i p requests.Nothing = None
failing_request head events i p (requests.Access kind la outcome moments) =
    failing_access head events (record { number = i; p = p; kind = kind; la = la; outcome = outcome }) moments
failing_request head events i p (requests.Update kind la word dirty moments) =
    failing_assist head events (record { number = i; p = p; kind = kind; la = la; word = word; dirty = dirty }) moments

pub failing_event-request : (head : Head) (events : List Event) (i : ℕ) (e : Event) → failing_request head events i (processor_of e) (request_of e) ≡ failing_event head events i e
failing_event-request head events i (Write p addr value) = refl
failing_event-request head events i (Access p flags la outcome moments) = refl
failing_event-request head events i (Assist p flags la word moments) = refl
failing_event-request head events i (MovCr3 p operand) = refl
failing_event-request head events i (Invlpg p la) = refl
failing_event-request head events i (Invpcid p kind pcid la) = refl
failing_event-request head events i (MovCr4Pge p on) = refl

-- the same of a request that was told of the event and found to be this one
pub failing_event-by : (head : Head) (events : List Event) (i : ℕ) (e : Event) (p : ℕ) (told r : Request) → p ≡ processor_of e → told ≡ request_of e → told ≡ r → failing_request head events i p r ≡ failing_event head events i e
failing_event-by head events i e p told r own asks is =
    ap (λ q. failing_request head events i q r) own
    ∙ ap (failing_request head events i (processor_of e)) (sym is ∙ asks)
    ∙ failing_event-request head events i e
