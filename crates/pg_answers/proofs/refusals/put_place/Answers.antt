use Rattle.std.proofs.Common.{◌≡◌, ◌∙◌, List, ℕ, ◌++◌, codes, decimal, ap, sym, subst}
use Rattle.std.proofs.lemmas.Result.{err_from_is_err_and}
use Rattle.pg_codec.proofs.Written.{puts_same}
use Rattle.pg_codec.proofs.Segments.{puts_then, puts_fails}
use Rattle.pg_event.specs.declared.refusal.Refusal.{Refusal}
use Rattle.pg_event.specs.declared.refusal.Refusal.TheVariants.{Malformed}
use Rattle.pg_codec.specs.Writing.{Puts}
use Rattle.pg_report.specs.Numbers.{rule_number}
use Rattle.pg_report.specs.declared.error.AuditError.{AuditError}
use Rattle.pg_report.specs.declared.error.AuditError.TheVariants.{Refused}
use Rattle.pg_answers.specs.Refusals.{place_text}
use Rattle.pg_answers.proofs.refusals.put_place.Goals as goal

abbrev at_event : ℕ → List ℕ
at_event event = codes " event " ++ decimal event

abbrev by_rule : ℕ → List ℕ
by_rule number = codes " rule " ++ decimal number

pub returns-in_err-put_number-in-Refused-Malformed : goal.returns-in_err-put_number-in-Refused-Malformed
returns-in_err-put_number-in-Refused-Malformed g c =
    let at = c.in-Refused-Malformed in
    let inner : at.field-0 ≡ Malformed at.event at.rule = rw at.is at at.field-0-is in
    let error_is = sym (at.is ∙ ap (λ (r : Refusal). Refused r) inner) in
    let p = err_from_is_err_and c.from_residual.result c.from_residual.ensures.1 in
    let P : AuditError → Type 0 = λ error. Puts {X = Unit {0}} g.W.Sink (place_text error) c.args.errors.now c.put_number.new.errors c.from_residual.result in
    subst P error_is (rw (p.1, p.2) (puts_fails {X = Unit {0}} {Y = Unit {0}} g.W.Sink (at_event at.event) (by_rule (rule_number at.rule)) _ _ c.in_err-put_number-in-Refused-Malformed.field-0.0 c.in_err-put_number-in-Refused-Malformed.ensures))

pub returns-in_ok-put_number-in-Refused-Malformed : goal.returns-in_ok-put_number-in-Refused-Malformed
returns-in_ok-put_number-in-Refused-Malformed g c =
    let at = c.in-Refused-Malformed in
    let inner : at.field-0 ≡ Malformed at.event at.rule = rw at.is at at.field-0-is in
    let error_is = sym (at.is ∙ ap (λ (r : Refusal). Refused r) inner) in
    let last = c.put_number-in-Refused-Malformed in
    let P : AuditError → Type 0 = λ error. Puts {X = Unit {0}} g.W.Sink (place_text error) c.args.errors.now last.new.errors last.result in
    subst P error_is (puts_then g.W.Sink (at_event at.event) (by_rule (rule_number at.rule)) _ _ _ _ _ c.in_ok-put_number-in-Refused-Malformed.ensures
    (puts_same g.W.Sink _ _ _ _ last.result (ap by_rule c.rule_number.ensures) last.ensures))
