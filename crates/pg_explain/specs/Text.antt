-- The text of an explanation, a fact a line.
--
--     event: LINE                             the event, as it is shown
--     level L: moment M pcid HEX [HEX] = HEX KIND, WRITTEN
--                                             for each entry of the walk down to the first that is
--                                             no table: its word, what it is, and who wrote it
--     FINDING                                 what was found for the reason
--     final: no moments prove this DEED       where none do
--     last: ..                                then when it would last have been witnessed (`Lasts`)
--     other moments would: M ..               else the freshest that do
use Rattle.std.specs.Prelude.{ℕ, Bool, if◌then◌else◌, List, [], ◌++◌}
use Rattle.std.specs.Prelude.{Option, Some, None, codes, decimal, slice_get}
use Rattle.std.specs.List.{flat_map}
use Rattle.pg_entry.specs.declared.AccessKind.{AccessKind}
use Rattle.pg_entry.specs.declared.Kind.{Kind}
use Rattle.pg_entry.specs.declared.Kind.TheVariants as kinds
use Rattle.pg_entry.specs.declared.Level.{Level}
use Rattle.pg_entry.specs.declared.Rights.{Rights}
use Rattle.pg_event.specs.declared.event.Event.{Event}
use Rattle.pg_event.specs.declared.event.Event.TheVariants.{Write, Access, Assist, MovCr3, Invlpg}
use Rattle.pg_event.specs.declared.event.Event.TheVariants.{Invpcid, MovCr4Pge}
use Rattle.pg_event.specs.declared.event.Want.{Want}
use Rattle.pg_event.specs.declared.event.Want.TheVariants as wants
use Rattle.pg_explain.specs.declared.entry.WalkEntry.{WalkEntry}
use Rattle.pg_explain.specs.declared.explainer.Explanation.{Explanation}
use Rattle.pg_explain.specs.declared.finding.Tagged.{Tagged}
use Rattle.pg_explain.specs.declared.finding.Limit.{Limit}
use Rattle.pg_explain.specs.declared.finding.Limit.TheVariants as limits
use Rattle.pg_explain.specs.declared.finding.Wish.{Wish}
use Rattle.pg_explain.specs.declared.finding.Wish.TheVariants as wishes
use Rattle.pg_explain.specs.declared.finding.Misfit.{Misfit}
use Rattle.pg_explain.specs.declared.finding.Misfit.TheVariants as misfits
use Rattle.pg_explain.specs.declared.finding.Prevention.{Prevention}
use Rattle.pg_explain.specs.declared.finding.Prevention.TheVariants.{Smap, Smep}
use Rattle.pg_explain.specs.declared.finding.Finding.{Finding}
use Rattle.pg_explain.specs.declared.finding.Finding.TheVariants as findings
use Rattle.pg_explain.specs.Names.{level_number, rights_text}
use Rattle.pg_search.specs.declared.last.Last.{Last}
use Rattle.pg_explain.specs.Lasts.{taken_text}
use Rattle.pg_explain.specs.Line.{hex, word_text, numbers_text, kind_text, code_text}
use Rattle.pg_explain.specs.Walk.{down_to_end}
pub use Rattle.pg_explain.specs.Line.{line_at, numbered_text}

abbrev pub kind_name : Kind → List ℕ
kind_name kinds.Absent = codes "absent"
kind_name kinds.Reserved = codes "reserved"
kind_name (kinds.Table addr) = codes "table"
kind_name (kinds.Leaf frame shift global_bit) = codes "leaf"

-- ---- the walk

-- a word, what it holds, and what that is
abbrev pub held_text : ℕ → ℕ → Kind → List ℕ
held_text address value kind =
    word_text address ++ (codes " = " ++ (hex value ++ (codes " " ++ kind_name kind)))

abbrev pub read_text : Level → ℕ → ℕ → List ℕ
read_text level moment pcid =
    codes "level " ++ (decimal (level_number level) ++ (codes ": moment " ++ (decimal moment
    ++ (codes " pcid " ++ (hex pcid ++ codes " ")))))

abbrev pub writer_text : Option ℕ → List ℕ
writer_text None = codes ", never written\n"
writer_text (Some event) = codes ", written by event " ++ (decimal event ++ codes "\n")

abbrev pub entry_text : WalkEntry → List ℕ
entry_text x =
    read_text x.step.level x.step.moment x.pcid
    ++ (held_text x.step.address x.step.value x.kind ++ writer_text x.writer)

abbrev pub walk_text : List WalkEntry → List ℕ
walk_text walk = flat_map entry_text (down_to_end walk)

-- ---- the finding

abbrev pub limit_text : Limit → List ℕ
limit_text (limits.Moment w) = codes "moment " ++ decimal w
limit_text (limits.Event number) = codes "event " ++ decimal number

abbrev pub order_text : Level → ℕ → Limit → List ℕ
order_text level moment limit =
    codes "moments: level " ++ (decimal (level_number level) ++ (codes " at " ++ (decimal moment
    ++ (codes " is above " ++ limit_text limit))))

abbrev pub want_name : Want → List ℕ
want_name wants.Leaf = codes "leaf"
want_name wants.Absent = codes "absent"
want_name wants.Reserved = codes "reserved"
want_name wants.Present = codes "table or leaf"

abbrev pub wish_name : Wish → List ℕ
wish_name wishes.Table = codes "table"
wish_name (wishes.Last want) = want_name want

abbrev pub wish_text : Level → Wish → Kind → List ℕ
wish_text level wish kind =
    codes "wished: " ++ (wish_name wish ++ (codes " at level " ++ (decimal (level_number level)
    ++ (codes ", found " ++ kind_name kind))))

abbrev pub tag_text : Tagged → List ℕ
tag_text t = hex t.pcid ++ (codes " at moment " ++ decimal t.moment)

abbrev pub tags_text : Tagged → Tagged → List ℕ
tags_text one other = codes "pcids: " ++ (tag_text one ++ (codes ", " ++ tag_text other))

-- an entry of a cache that was dropped, and the event that did it
abbrev pub drop_text : List ℕ → List Event → Level → ℕ → List ℕ
drop_text name events level at =
    codes "dropped: " ++ (name ++ (codes " of level " ++ (decimal (level_number level)
    ++ (codes " by " ++ numbered_text events at))))

abbrev pub now_text : ℕ → ℕ → ℕ → Kind → List ℕ
now_text moment address value kind =
    codes "held: " ++ (held_text address value kind
    ++ (codes " at the event, read at moment " ++ decimal moment))

abbrev pub verb : Bool → List ℕ
verb is_allowed = if is_allowed then codes " allow " else codes " deny "

-- what alone denies the access, if something of these does
abbrev pub by_text : Option Prevention → List ℕ
by_text None = []
by_text (Some Smap) = codes " by SMAP"
by_text (Some Smep) = codes " by SMEP"

abbrev pub right_text : Rights → AccessKind → Bool → Option Prevention → List ℕ
right_text rights access is_allowed prevention =
    codes "rights: " ++ (rights_text rights
    ++ (verb is_allowed ++ (kind_text access ++ by_text prevention)))

-- a flag of a word that is 0
abbrev pub flag_text : List ℕ → ℕ → ℕ → List ℕ
flag_text name address value =
    name ++ (word_text address ++ (codes " = " ++ (hex value ++ codes " is 0")))

abbrev pub misfit_text : Misfit → List ℕ
misfit_text (misfits.Moment w) =
    codes "assist: read at moment " ++ (decimal w ++ codes ", not at the event")
misfit_text (misfits.Word address) =
    codes "assist: the word read last is " ++ word_text address
misfit_text (misfits.Kind kind) =
    codes "assist: dirty wishes leaf, found " ++ kind_name kind
misfit_text (misfits.Rights rights) =
    codes "assist: dirty is denied by rights " ++ rights_text rights

abbrev pub finding_text : List Event → Finding → List ℕ
finding_text events (findings.Order level moment limit) = order_text level moment limit
finding_text events (findings.Entry level wish kind) = wish_text level wish kind
finding_text events (findings.Context first other) = tags_text first other
finding_text events (findings.StructureDropped level at) =
    drop_text (codes "structure entry") events level at
finding_text events (findings.TranslationDropped level at) =
    drop_text (codes "translation") events level at
finding_text events (findings.ForeignPcid read current) = tags_text read current
finding_text events (findings.NotAtEvent moment address value kind) =
    now_text moment address value kind
finding_text events (findings.Rights rights access is_allowed prevention) =
    right_text rights access is_allowed prevention
finding_text events (findings.Answer expected) = codes "expected: " ++ hex expected
finding_text events (findings.Code expected) = codes "expected: " ++ code_text expected
finding_text events (findings.Accessed level address value) =
    flag_text (codes "accessed: bit 5 of ") address value
finding_text events (findings.Dirty address value) =
    flag_text (codes "dirty: bit 6 of ") address value
finding_text events (findings.Assist misfit) = misfit_text misfit

-- ---- the whole

-- what the event is
abbrev pub deed_name : Option Event → List ℕ
deed_name None = codes "event"
deed_name (Some (Write p addr value)) = codes "event"
deed_name (Some (Access p flags la outcome moments)) = codes "access"
deed_name (Some (Assist p flags la word moments)) = codes "assist"
deed_name (Some (MovCr3 p operand)) = codes "event"
deed_name (Some (Invlpg p la)) = codes "event"
deed_name (Some (Invpcid p kind pcid la)) = codes "event"
deed_name (Some (MovCr4Pge p on)) = codes "event"

abbrev pub last_text : List ℕ → Option (List ℕ) → List ℕ
last_text deed None = codes "final: no moments prove this " ++ (deed ++ codes "\n")
last_text deed (Some ws) = codes "other moments would:" ++ (numbers_text ws ++ codes "\n")

-- where no moments prove an event, when it would last have been witnessed
abbrev pub ended_text : List Event → Option (List ℕ) → Option Last → List ℕ
ended_text events None last = taken_text events last
ended_text events (Some ws) last = []

abbrev pub head_text : List Event → ℕ → List ℕ
head_text events number = codes "event: " ++ (numbered_text events number ++ codes "\n")

-- the text of an explanation, where these are the events of its run
abbrev pub explanation_text : List Event → Explanation → List ℕ
explanation_text events x =
    head_text events x.number ++ (walk_text x.walk.items
    ++ (finding_text events x.finding
    ++ (codes "\n" ++ (last_text (deed_name (slice_get events x.number)) x.other
    ++ ended_text events x.other x.last))))
