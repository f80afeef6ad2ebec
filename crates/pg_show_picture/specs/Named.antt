-- Which events and entries of an explanation are drawn: each event that it names, and each entry of
-- the walk that its text tells.
use Rattle.std.specs.Prelude.{ℕ, ◌+◌, Bool, false, ◌||◌, ◌==◌, if◌then◌else◌}
use Rattle.std.specs.Prelude.{List, [], ◌∷◌, Option, Some, None, take}
use Rattle.std.specs.List.{list_any}
use Rattle.pg_entry.specs.declared.Level.{Level}
use Rattle.pg_event.specs.declared.event.Event.{Event}
use Rattle.pg_explain.specs.declared.entry.WalkEntry.{WalkEntry}
use Rattle.pg_explain.specs.declared.explainer.Explanation.{Explanation}
use Rattle.pg_explain.specs.declared.finding.Finding.{Finding}
use Rattle.pg_explain.specs.declared.finding.Finding.TheVariants as findings
use Rattle.pg_explain.specs.Findings.{dropper}
use Rattle.pg_explain.specs.Lasts.{taker}
use Rattle.pg_explain.specs.Names.{level_number}
use Rattle.pg_explain.specs.Walk.{down_to_end}

-- the entries that are drawn: a walk has four levels
abbrev pub drawn : List WalkEntry → List WalkEntry
drawn walk = down_to_end (take 4 walk)

abbrev pub is_at : ℕ → Option ℕ → Bool
is_at j None = false
is_at j (Some k) = k == j

abbrev pub drop_at : Level → Level → ℕ → Option ℕ
drop_at here level at = if level_number here == level_number level then Some at else None

-- the event by which the entry of this level had to go
abbrev pub dropper_of : Level → Finding → Option ℕ
dropper_of here (findings.Order level moment limit) = None
dropper_of here (findings.Entry level wish kind) = None
dropper_of here (findings.Context first other) = None
dropper_of here (findings.StructureDropped level at) = drop_at here level at
dropper_of here (findings.TranslationDropped level at) = drop_at here level at
dropper_of here (findings.ForeignPcid read current) = None
dropper_of here (findings.NotAtEvent moment address value kind) = None
dropper_of here (findings.Rights rights access allowed prevention) = None
dropper_of here (findings.Answer expected) = None
dropper_of here (findings.Code expected) = None
dropper_of here (findings.Accessed level address value) = None
dropper_of here (findings.Dirty address value) = None
dropper_of here (findings.Assist misfit) = None

abbrev pub is_dropper : Explanation → ℕ → Bool
is_dropper x j = is_at j (dropper x.finding)

abbrev pub is_taker : Explanation → ℕ → Bool
is_taker x j = is_at j (taker x.other x.last)

-- whether an event wrote one of these entries
abbrev pub is_writer : List WalkEntry → ℕ → Bool
is_writer walk j = list_any (λ e. is_at j e.writer) walk

abbrev pub is_named : Explanation → List WalkEntry → ℕ → Bool
is_named x walk j = j == x.number || (is_dropper x j || (is_taker x j || is_writer walk j))

-- the numbers of these events that are named, where the first has this number
abbrev pub named_from : Explanation → List WalkEntry → ℕ → List Event → List ℕ
named_from x walk j [] = []
named_from x walk j (e ∷ es) =
    if is_named x walk j then j ∷ named_from x walk (j + 1) es else named_from x walk (j + 1) es

-- the numbers of the events that an explanation names, ascending, each once
abbrev pub named : Explanation → List WalkEntry → List Event → List ℕ
named x walk events = named_from x walk 0 events
