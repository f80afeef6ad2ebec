use Rattle.std.proofs.Common.{◌≡◌, Bool, true, false, Result, Ok, Err, ap, sym, ◌∙◌}
use Rattle.std.specs.Prelude.{IfOk}
use Rattle.pg_event.specs.declared.control.Control.{Control}
use Rattle.pg_event.specs.Values.{control_at}
use Rattle.pg_reach.specs.declared.walker.Walker.{Walker}
use Rattle.pg_reach.specs.Asking.{AreLate}
use Rattle.pg_reach.proofs.Cases.{all_found, processor_there}
use Rattle.pg_reach.proofs.finder.find.Goals as goal

apart : {b : Bool} → b ≡ true → b ≡ false → ⊥
apart h k = cc

both_ok : {T E : Type 0} {P Q R : T → Type 0} (x : Result T E) → ((a : T) → P a → Q a → R a) → IfOk x P → IfOk x Q → IfOk x R
both_ok (Ok a) f p q = f a p q
both_ok (Err e) f p q = p

pub control_at-pcid-requires : goal.control_at-pcid-requires
control_at-pcid-requires c = processor_there c.args.seen.now.head (record { p = c.in-Some.p; la = c.in-Some.la; pcid = 0; number = 0; freshest = false }) c.args.event.now (c.in-Some.ensures 0 0 false) c.requires.well

pub returns-else-wants_page-clause-all : goal.returns-else-wants_page-clause-all
returns-else-wants_page-clause-all c =
    let v : Walker = record { p = c.in-Some.p; la = c.in-Some.la; pcid = c.control_at-pcid.result.pcid; number = c.args.number; freshest = c.args.freshest } in
    let now : (control_at c.args.seen.now.head c.args.seen.now.events v.p v.number).pcid ≡ v.pcid = ap (λ (d : Control). d.pcid) (sym c.control_at-pcid.ensures.control) in
    all_found c.args.seen.now v c.args.event.now c.in_ok-own.own (c.in-Some.ensures v.pcid v.number v.freshest) now c.in_ok-own.ensures.all (λ page. absurd (apart (c.wants_page.ensures ∙ page) c.if-wants_page.false))

pub returns-then-wants_page-clause-all : goal.returns-then-wants_page-clause-all
returns-then-wants_page-clause-all c =
    let v : Walker = record { p = c.in-Some.p; la = c.in-Some.la; pcid = c.control_at-pcid.result.pcid; number = c.args.number; freshest = c.args.freshest } in
    let now : (control_at c.args.seen.now.head c.args.seen.now.events v.p v.number).pcid ≡ v.pcid = ap (λ (d : Control). d.pcid) (sym c.control_at-pcid.ensures.control) in
    both_ok c.search_globals.result (λ found fresher globals.
    let late : AreLate c.args.seen.now v c.args.event.now found = λ ws witness alike ends. fresher ws (c.in_ok-own.ensures.all ws witness alike ends) in
    all_found c.args.seen.now v c.args.event.now found (c.in-Some.ensures v.pcid v.number v.freshest) now late (λ page. globals)) c.search_globals.ensures.fresher c.search_globals.ensures.all
