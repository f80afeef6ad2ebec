-- What was found for a reason, as JSON. The field `finding` is the word with which its line begins;
-- the others are
--
--     moments              level, moment, above (moment or event), limit
--     `wished`             `wished`, level, found
--     pcids                pcid, moment, other_pcid, other_moment
--     dropped              entry (structure entry or translation), level, by (an event)
--     held                 word, value, is, moment
--     rights               rights, allowed, user, ac, operation, by (SMAP, SMEP or null)
--     expected             outcome
--     accessed, dirty      word, value
--     assist               moment, word, found or rights: what does not fit
use Rattle.std.specs.Prelude.{ℕ, Bool, List, Option, Some, None, codes, slice_get}
use Rattle.pg_entry.specs.declared.AccessKind.{AccessKind}
use Rattle.pg_entry.specs.declared.Kind.{Kind}
use Rattle.pg_entry.specs.declared.Level.{Level}
use Rattle.pg_entry.specs.declared.Rights.{Rights}
use Rattle.pg_event.specs.declared.event.Event.{Event}
use Rattle.pg_event.specs.declared.event.Outcome.{Outcome}
use Rattle.pg_event.specs.declared.event.Outcome.TheVariants.{Page, Fault}
use Rattle.pg_explain.specs.declared.finding.Tagged.{Tagged}
use Rattle.pg_explain.specs.declared.finding.Limit.{Limit}
use Rattle.pg_explain.specs.declared.finding.Limit.TheVariants as limits
use Rattle.pg_explain.specs.declared.finding.Wish.{Wish}
use Rattle.pg_explain.specs.declared.finding.Misfit.{Misfit}
use Rattle.pg_explain.specs.declared.finding.Misfit.TheVariants as misfits
use Rattle.pg_explain.specs.declared.finding.Prevention.{Prevention}
use Rattle.pg_explain.specs.declared.finding.Prevention.TheVariants.{Smap, Smep}
use Rattle.pg_explain.specs.declared.finding.Finding.{Finding}
use Rattle.pg_explain.specs.declared.finding.Finding.TheVariants as findings
use Rattle.pg_explain.specs.Names.{level_number, rights_text}
use Rattle.pg_explain.specs.Text.{kind_name, wish_name}
use Rattle.pg_show_json.specs.Tree.{Json, nothing, flag, count, text, object, hex}
use Rattle.pg_show_json.specs.Tree.{Fields, no_fields, field}
use Rattle.pg_show_json.specs.Events.{op_name, outcome_json}
use Rattle.pg_show_json.specs.Entries.{with_held}
use Rattle.pg_show_json.specs.Lasts.{event_at}

abbrev pub named : List ℕ → Fields → Fields
named word others = field (codes "finding") (text word) others

abbrev pub limit_name : Limit → List ℕ
limit_name (limits.Moment w) = codes "moment"
limit_name (limits.Event number) = codes "event"

abbrev pub limit_number : Limit → ℕ
limit_number (limits.Moment w) = w
limit_number (limits.Event number) = number

abbrev pub order_fields : Level → ℕ → Limit → Fields
order_fields level moment limit =
    named (codes "moments") (field (codes "level") (count (level_number level))
    (field (codes "moment") (count moment) (field (codes "above") (text (limit_name limit))
    (field (codes "limit") (count (limit_number limit)) no_fields))))

abbrev pub wish_fields : Level → Wish → Kind → Fields
wish_fields level wish kind =
    named (codes "wished") (field (codes "wished") (text (wish_name wish))
    (field (codes "level") (count (level_number level))
    (field (codes "found") (text (kind_name kind)) no_fields)))

abbrev pub tags_fields : Tagged → Tagged → Fields
tags_fields one other =
    named (codes "pcids") (field (codes "pcid") (hex one.pcid)
    (field (codes "moment") (count one.moment) (field (codes "other_pcid") (hex other.pcid)
    (field (codes "other_moment") (count other.moment) no_fields))))

abbrev pub drop_fields : List ℕ → List Event → Level → ℕ → Fields
drop_fields name events level at =
    named (codes "dropped") (field (codes "entry") (text name)
    (field (codes "level") (count (level_number level))
    (field (codes "by") (event_at at (slice_get events at)) no_fields)))

abbrev pub held_fields : ℕ → ℕ → ℕ → Kind → Fields
held_fields moment address value kind =
    named (codes "held") (with_held address value kind
    (field (codes "moment") (count moment) no_fields))

abbrev pub prevention_json : Option Prevention → Json
prevention_json None = nothing
prevention_json (Some Smap) = text (codes "SMAP")
prevention_json (Some Smep) = text (codes "SMEP")

abbrev pub right_fields : Rights → AccessKind → Bool → Option Prevention → Fields
right_fields rights access is_allowed prevention =
    named (codes "rights") (field (codes "rights") (text (rights_text rights))
    (field (codes "allowed") (flag is_allowed) (field (codes "user") (flag access.user)
    (field (codes "ac") (flag access.ac) (field (codes "operation") (text (op_name access.op))
    (field (codes "by") (prevention_json prevention) no_fields))))))

abbrev pub flag_fields : List ℕ → ℕ → ℕ → Fields
flag_fields name address value =
    named name (field (codes "word") (hex address) (field (codes "value") (hex value) no_fields))

abbrev pub misfit_of : Misfit → Fields
misfit_of (misfits.Moment w) = field (codes "moment") (count w) no_fields
misfit_of (misfits.Word address) = field (codes "word") (hex address) no_fields
misfit_of (misfits.Kind kind) = field (codes "found") (text (kind_name kind)) no_fields
misfit_of (misfits.Rights rights) = field (codes "rights") (text (rights_text rights)) no_fields

abbrev pub misfit_fields : Misfit → Fields
misfit_fields misfit = named (codes "assist") (misfit_of misfit)

abbrev pub expected_fields : Outcome → Fields
expected_fields expected =
    named (codes "expected") (field (codes "outcome") (outcome_json expected) no_fields)

abbrev pub finding_fields : List Event → Finding → Fields
finding_fields events (findings.Order level moment limit) = order_fields level moment limit
finding_fields events (findings.Entry level wish kind) = wish_fields level wish kind
finding_fields events (findings.Context first other) = tags_fields first other
finding_fields events (findings.StructureDropped level at) =
    drop_fields (codes "structure entry") events level at
finding_fields events (findings.TranslationDropped level at) =
    drop_fields (codes "translation") events level at
finding_fields events (findings.ForeignPcid read current) = tags_fields read current
finding_fields events (findings.NotAtEvent moment address value kind) =
    held_fields moment address value kind
finding_fields events (findings.Rights rights access is_allowed prevention) =
    right_fields rights access is_allowed prevention
finding_fields events (findings.Answer expected) = expected_fields (Page expected)
finding_fields events (findings.Code expected) = expected_fields (Fault expected)
finding_fields events (findings.Accessed level address value) =
    flag_fields (codes "accessed") address value
finding_fields events (findings.Dirty address value) =
    flag_fields (codes "dirty") address value
finding_fields events (findings.Assist misfit) = misfit_fields misfit

abbrev pub finding_json : List Event → Finding → Json
finding_json events finding = object (finding_fields events finding)
