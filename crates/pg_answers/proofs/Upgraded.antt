-- The same events in a record of version 2, and what is written for them.
use Rattle.std.proofs.Common.{◌≡◌, ℕ, Bool, true, false, cond, ltb, List, [], ◌∷◌, ◌++◌, length, Option, Some, None, Ok, Err, IfOk, IfSome, refl, sym, ap, subst, ◌∙◌, append_assoc, arith, inr}
use Rattle.std.specs.Prelude.{Result}
use Rattle.std.specs.List.{AllByRecursion}
use Rattle.std.specs.Int.{w32}
use Rattle.pg_entry.specs.Rules.{all_rules}
use Rattle.pg_event.specs.declared.refusal.Refusal.TheVariants as refusals
use Rattle.pg_event.specs.declared.event.Event.{Event}
use Rattle.pg_event.specs.declared.event.Event.TheVariants.{Write, Access, Assist, MovCr3, Invlpg, Invpcid, MovCr4Pge}
use Rattle.pg_event.specs.declared.event.Malformed.TheVariants as rules
use Rattle.pg_event.specs.declared.version.Version.{Version}
use Rattle.pg_event.specs.declared.version.Version.TheVariants as versions
use Rattle.pg_event.specs.Heads.{Head, HoldsToAll, most_processors}
use Rattle.pg_event.specs.Form.{broken_rule, breaks_assist, breaks_word_address, breaks_linear_address}
use Rattle.pg_event.specs.Witness.{first_bad}
use Rattle.pg_event.specs.Spelling.{Recorded, Spells, IsHead, IsRecord, record_bytes, header_bytes, segments_bytes, end_bytes}
use Rattle.pg_event.specs.Reading.{byte_at, number_at, is_between, magic_at, version_at, processor_at, starts_at, header_at}
use Rattle.pg_event.proofs.Fields.{from_bind, from_passing, ok_bind, ok_is}
use Rattle.pg_event.proofs.Headers.{header_again, most_processors_le}
use Rattle.pg_codec.specs.Parts.{version_said, is_two}
use Rattle.pg_run_of.proofs.Whole.{accepted_records_run}
use Rattle.pg_report.specs.declared.report.Report.{Report}
use Rattle.pg_report.specs.declared.error.AuditError.{AuditError}
use Rattle.pg_report.specs.declared.error.AuditError.TheVariants as errors
use Rattle.pg_report.specs.Changes.{Change, Works}
use Rattle.pg_report.specs.Intake.{ReadsRecord, TellsDevice}
use Rattle.pg_report.specs.Text.{report_of}
use Rattle.pg_report.specs.Audits.{WritesText, SpellsOne, TellsFailures}
use Rattle.pg_report.proofs.Verdicts.{one, none_bad}
use Rattle.pg_answers.proofs.GivenTexts.{of_error}
use Rattle.pg_answers.specs.declared.shown.ReportText.{ReportText}
use Rattle.pg_answers.specs.Upgrades.{upgraded, GivesUpgrade, HasWrittenUpgrade, IsUpgrade, report_in}

-- ---- the version that a record says

said : (bytes : List ℕ) (x : Head × List ℕ) → header_at bytes ≡ Ok x → (rest : List ℕ) × (version_said bytes ≡ Ok (x.0.version, rest))
unfolding header_at
said bytes x e =
    from_bind (magic_at bytes) _ x e (λ a a_is e.
    from_bind (version_at a.1) _ x e (λ b b_is e.
    from_passing (is_between 36 52) refusals.HeaderField (byte_at b.1) _ x e (λ c c_is m e.
    from_passing (λ n. ltb n 16) refusals.HeaderField (byte_at c.1) _ x e (λ d d_is flags e.
    from_passing (is_between 1 (most_processors b.0)) refusals.HeaderField (processor_at b.0 d.1) _ x e (λ f f_is count e.
    from_passing (is_between 1 65536) refusals.HeaderField (number_at w32 f.1) _ x e (λ g g_is size e.
    from_bind (starts_at c.0 f.0 g.1) _ x e (λ h h_is e.
    let made : Head = record { version = b.0; cfg = record { flags = record { 0 = d.0 }; m = c.0; rules = all_rules }; segment = g.0; processors = h.0 } in
    let is : version_said bytes ≡ Ok b = ok_bind (magic_at bytes) _ _ a_is ∙ b_is in
    subst (λ (y : Head × List ℕ). (rest : List ℕ) × (version_said bytes ≡ Ok (y.0.version, rest))) (ok_is (made, h.1) x e) (b.1, is))))))))

one_said : (version : Version) (rest : List ℕ) → is_two (Ok (version, rest)) ≡ false → version ≡ versions.One
one_said versions.One rest old = refl
one_said versions.Two rest old = absurd cc

is_old : (bytes : List ℕ) (r : Recorded) → Spells bytes r → is_two (version_said bytes) ≡ false → r.head.version ≡ versions.One
is_old bytes r spells old =
    let segments : List ℕ = segments_bytes r.head 0 (length r.events) r.events in
    let end : List ℕ = end_bytes (length r.events) in
    let at : header_at bytes ≡ Ok (r.head, segments ++ end) = ap header_at (spells.1 ∙ append_assoc (header_bytes r.head) segments end) ∙ header_again r.head (segments ++ end) spells.0.head spells.2 in
    let is = said bytes (r.head, segments ++ end) at in
    one_said r.head.version is.0 (sym (ap is_two is.1) ∙ old)

-- ---- what is a record stays one

abbrev pub two : Head → Head
two head = record head { version = versions.Two }

-- the last of the rules decides
last_rule : (a b c d e f g : Bool) → (f ≡ false → g ≡ false)
    → cond a (Some rules.Processor) (cond b (Some rules.WordAddress) (cond c (Some rules.LinearAddress) (cond d (Some rules.Operand) (cond e (Some rules.Invpcid) (cond f (Some rules.Flags) None))))) ≡ None
    → cond a (Some rules.Processor) (cond b (Some rules.WordAddress) (cond c (Some rules.LinearAddress) (cond d (Some rules.Operand) (cond e (Some rules.Invpcid) (cond g (Some rules.Flags) None))))) ≡ None
last_rule true b c d e f g still h = absurd cc
last_rule false true c d e f g still h = absurd cc
last_rule false false true d e f g still h = absurd cc
last_rule false false false true e f g still h = absurd cc
last_rule false false false false true f g still h = absurd cc
last_rule false false false false false true g still h = absurd cc
last_rule false false false false false false g still h = let is = still refl in cc

still_assist : (version : Version) (flags : ℕ) → breaks_assist version flags ≡ false → breaks_assist versions.Two flags ≡ false
still_assist versions.One flags h = absurd cc
still_assist versions.Two flags h = h

still_well : (head : Head) (e : Event) → broken_rule head e ≡ None → broken_rule (two head) e ≡ None
still_well head (Write p addr value) h = h
still_well head (Access p flags la outcome moments) h = h
still_well head (Assist p flags la word moments) h =
    let e : Event = Assist p flags la word moments in
    last_rule _ (breaks_word_address head e) (breaks_linear_address e) false false (breaks_assist head.version flags) (breaks_assist versions.Two flags) (still_assist head.version flags) h
still_well head (MovCr3 p operand) h = h
still_well head (Invlpg p la) h = h
still_well head (Invpcid p kind pcid la) h = h
still_well head (MovCr4Pge p on) h = h

pub all_well : (head : Head) (events : List Event) → AllByRecursion (λ e. broken_rule head e ≡ None) events → AllByRecursion (λ e. broken_rule (two head) e ≡ None) events
all_well head [] well = tt
all_well head (e ∷ events) well = (still_well head e well.0, all_well head events well.1)

pub still_head : (head : Head) → IsHead head → IsHead (two head)
still_head head is = record {
  low = is.low;
  high = is.high;
  flags = is.flags;
  some = is.some;
  few = let most = most_processors_le head.version in omega (arith, is.few, most);
  size = is.size;
  limit = is.limit;
  starts = is.starts;
}

still_record : (r : Recorded) → IsRecord r → IsRecord (upgraded r)
still_record r is = record {
  head = still_head r.head is.head;
  count = is.count;
  fits = is.fits;
  well = all_well r.head r.events is.well;
}

spelled : (r : Recorded) → IsRecord r → HoldsToAll r.head → SpellsOne (record_bytes (upgraded r)) (upgraded r)
spelled r is all = one (record_bytes (upgraded r)) (upgraded r) (still_record r is, refl, all)

-- the header of the new record, made of the parts of the old one
pub two_head : (old seen new : Head) (processors : List (ℕ × Bool)) → seen ≡ old → processors ≡ seen.processors → new ≡ record (two seen) { processors = processors } → new ≡ two old
two_head old seen new processors h is made = made ∙ ap (λ (xs : List (ℕ × Bool)). record (two seen) { processors = xs }) is ∙ ap two h

pub made_whole : (r new : Recorded) (events : List Event) → new.head ≡ two r.head → new.events ≡ [] → events ≡ r.events → record { head = new.head; events = new.events ++ events } ≡ upgraded r
made_whole r new events h none is =
    let R : Head → List Event → Recorded = λ head es. record { head = head; events = es } in
    ap (λ (head : Head). R head (new.events ++ events)) h ∙ ap (λ (es : List Event). R (two r.head) (es ++ events)) none ∙ ap (R (two r.head)) is

-- ---- what is written for them

module _ (input output : Change) (r : Recorded) (reads : IfSome input.old.bytes (λ bytes. ReadsRecord versions.One bytes (Ok r))) (read : TellsDevice {A = Recorded} input (Ok r)) where
  module _ (new : Recorded) (is : new ≡ upgraded r) where
    upgrade_written : (report : Report) → report ≡ report_of new → WritesText output (record_bytes new) {A = Unit {0}} (Ok tt) → Works output → IsUpgrade input output (Ok report)
    upgrade_written report told wrote worked = record {
      gives = gives input.old.bytes reads;
      written = (r, told ∙ ap report_of is, subst (λ (x : Recorded). WritesText output (record_bytes x) {A = Unit {0}} (Ok tt)) is wrote);
      failures = (read, worked);
    }
      where
        gives : (left : Option (List ℕ)) → IfSome left (λ bytes. ReadsRecord versions.One bytes (Ok r)) → IfSome left (λ bytes. GivesUpgrade bytes input output (Ok report))
        gives None reads = tt
        gives (Some bytes) reads =
            let W : Recorded → Type 0 = λ x. WritesText output (record_bytes x) {A = Unit {0}} (Ok tt) in
            let whole : IsRecord (upgraded r) = still_record r reads.0.0 in
            let its : report ≡ report_of (upgraded r) = told ∙ ap report_of is in (
              r,
              one bytes r reads.0,
              is_old bytes r reads.0 reads.1,
              record_bytes (upgraded r),
              spelled r reads.0.0 reads.0.2,
              (
                subst W is wrote,
                its,
                λ yes. accepted_records_run (upgraded r) whole (none_bad (first_bad (upgraded r).head (upgraded r).events) (sym (ap (λ (x : Report). x.verdict) its) ∙ yes)),
              ),
            )

    upgrade_fails : (e : AuditError) → WritesText output (record_bytes new) {A = Unit {0}} (Err e) → TellsDevice {A = Unit {0}} output (Err e) → IsUpgrade input output (Err e)
    upgrade_fails e wrote written = record { gives = gives input.old.bytes e reads (subst W is wrote) written; written = some e (subst W is wrote) written; failures = tells e wrote written }
      where
        W : Recorded → Type 0
        W x = WritesText output (record_bytes x) {A = Unit {0}} (Err e)

        gives : (left : Option (List ℕ)) (e : AuditError) → IfSome left (λ bytes. ReadsRecord versions.One bytes (Ok r)) → WritesText output (record_bytes (upgraded r)) {A = Unit {0}} (Err e) → TellsDevice {A = Unit {0}} output (Err e)
            → IfSome left (λ bytes. GivesUpgrade bytes input output (Err e))
        gives None e reads wrote written = tt
        gives (Some bytes) (errors.Refused d) reads wrote written = absurd wrote
        gives (Some bytes) errors.Device reads wrote written =
            inr ((read, written), (r, one bytes r reads.0, is_old bytes r reads.0 reads.1, record_bytes (upgraded r), spelled r reads.0.0 reads.0.2, wrote))
        gives (Some bytes) errors.Memory reads wrote written = wrote
        gives (Some bytes) errors.Thread reads wrote written = absurd wrote
        gives (Some bytes) errors.Checkers reads wrote written = absurd wrote

        some : (e : AuditError) → WritesText output (record_bytes (upgraded r)) {A = Unit {0}} (Err e) → TellsDevice {A = Unit {0}} output (Err e) → HasWrittenUpgrade input output (Err e)
        some (errors.Refused d) wrote written = absurd wrote
        some errors.Device wrote written = inr ((read, written), r, wrote)
        some errors.Memory wrote written = wrote
        some errors.Thread wrote written = absurd wrote
        some errors.Checkers wrote written = absurd wrote

        tells : (e : AuditError) → WritesText output (record_bytes new) {A = Unit {0}} (Err e) → TellsDevice {A = Unit {0}} output (Err e) → TellsFailures {A = Report} input output (Err e)
        tells (errors.Refused d) wrote written = absurd wrote
        tells errors.Device wrote written = inr (read, written)
        tells errors.Memory wrote written = (read, written)
        tells errors.Thread wrote written = absurd wrote
        tells errors.Checkers wrote written = absurd wrote

  pub upgrade_told : (told : Result ReportText AuditError) → WritesText output (record_bytes (upgraded r)) told → TellsDevice output told → IfOk told (λ t. t.report ≡ report_of (upgraded r)) → IsUpgrade input output (report_in told)
  upgrade_told (Ok t) wrote worked is = upgrade_written (upgraded r) refl t.report is wrote worked
  upgrade_told (Err e) wrote failed is = upgrade_fails (upgraded r) refl e (of_error ReportText Unit output (record_bytes (upgraded r)) e wrote) failed
