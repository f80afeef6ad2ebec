use Rattle.std.proofs.Common.{◌≡◌, ◌<◌, ◌^◌, List, [], Ok, length, refl, arith}
use Rattle.std.proofs.KnownBytes.{Appends-nil, Keeps-refl}
use Rattle.std.proofs.lemmas.Result.{err_from_is_err_and}
use Rattle.pg_event.specs.declared.event.Event.{Event}
use Rattle.pg_event.specs.Spelling.{record_bytes}
use Rattle.pg_certify.specs.Certified.{IsCertified, IsDenied}
use Rattle.pg_answers.specs.declared.shown.Naming.TheVariants.{Named, Denied}
use Rattle.pg_answers.specs.Answers.{IsRejection}
use Rattle.pg_answers.specs.Naming.{IsNaming, with_events}
use Rattle.pg_answers.proofs.GivenTexts.{memory_fails, text_told}
use Rattle.pg_certify.proofs.Named.{same_count, well_alike}
use Rattle.pg_answers.proofs.Named.{is_named}
use Rattle.pg_answers.proofs.naming.write_found.Goals as goal

pub write_events-requires-clause-count : goal.write_events-requires-clause-count
write_events-requires-clause-count g c =
    let r = c.args.history.now in
    let found : List Event = c.in-Yes.found.items in
    let certified : IsCertified r.head r.events found = rw c.in-Yes.is at c.in_ok-found.ensures in
    let same : length found ≡ length r.events = same_count found r.events certified.same in
    let count : length r.events < 2 ^ 32 = c.events-events.ensures.count in
    rw c.deref.ensures.value (omega (arith, same, count))

pub write_events-requires-clause-well : goal.write_events-requires-clause-well
write_events-requires-clause-well g c =
    let r = c.args.history.now in
    let found : List Event = c.in-Yes.found.items in
    let certified : IsCertified r.head r.events found = rw c.in-Yes.is at c.in_ok-found.ensures in
    rw c.deref.ensures.value (well_alike r.head found r.events certified.same c.events-events.ensures.well)

pub returns-in_err-found : goal.returns-in_err-found
returns-in_err-found g c = λ input reads read.
    let p = err_from_is_err_and c.from_residual.result c.from_residual.ensures.1 in
    rw (p.1, p.2) (memory_fails IsNaming 1 input _ c.args.history.now read (Keeps-refl _) refl)

pub returns-in-Yes : goal.returns-in-Yes
returns-in-Yes g c = λ input reads read.
    let r = c.args.history.now in
    let found : List Event = c.in-Yes.found.items in
    let certified : IsCertified r.head r.events found = rw c.in-Yes.is at c.in_ok-found.ensures in
    let named = is_named r found c.events-events.ensures.well certified in
    let wrote = c.write_events.ensures in
    text_told IsNaming 1 input _ r reads read Named (record_bytes (with_events r found)) named c.write_events.result (rw c.deref.ensures.value at wrote.text) wrote.device wrote.named

pub returns-in_err-rejection-in-No : goal.returns-in_err-rejection-in-No
returns-in_err-rejection-in-No g c = λ input reads read.
    let p = err_from_is_err_and c.from_residual-in_err-rejection-in-No.result c.from_residual-in_err-rejection-in-No.ensures.1 in
    rw (p.1, p.2) (memory_fails IsNaming 1 input _ c.args.history.now read (Keeps-refl _) refl)

pub returns-in_err-text-in-No : goal.returns-in_err-text-in-No
returns-in_err-text-in-No g c = λ input reads read.
    let p = err_from_is_err_and c.from_residual-in_err-text-in-No.result c.from_residual-in_err-text-in-No.ensures.1 in
    rw (p.1, p.2) (memory_fails IsNaming 1 input _ c.args.history.now read (Keeps-refl _) refl)

pub returns-in_ok-text-in-No : goal.returns-in_ok-text-in-No
returns-in_ok-text-in-No g c = λ input reads read.
    let r = c.args.history.now in
    let n = c.in-No.event in
    let denied : IsDenied r.head r.events n = rw c.in-No.is at c.in_ok-found.ensures in
    let count : length r.events < 2 ^ 32 = c.events-events.ensures.count in
    let runs = c.denied_events_have_no_run.ensures r.head r.events n c.events-events.ensures.well (omega (arith, count)) denied in
    let text = c.in_ok-text-in-No.text in
    let x = c.in_ok-rejection-in-No.rejection in
    let is : IsRejection r x = (n, record { denied = denied; none = runs.0; before = runs.1 }, c.in_ok-rejection-in-No.ensures) in
    text_told IsNaming 1 input _ r reads read (Denied text) [] ((x, is, c.in_ok-text-in-No.ensures), refl) (Ok (Denied text)) (Appends-nil _) refl refl
