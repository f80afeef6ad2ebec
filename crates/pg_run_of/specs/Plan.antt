-- The run that moments name: each access and each assist fills its entries at their moments, and
-- each moment has its event.
use Rattle.std.specs.Prelude.{◌≡◌, ℕ, ◌+◌, ◌==◌, Bool, false, true, if◌then◌else◌, List, [], ◌∷◌}
use Rattle.std.specs.Prelude.{◌++◌, map, filter}
use Rattle.std.specs.List.{flat_map, AllByRecursion}
use Rattle.pg_entry.specs.declared.Level.{Level}
use Rattle.pg_entry.specs.declared.Level.TheVariants.{Four, Three, Two, One}
use Rattle.pg_entry.specs.Kinds.{table_of}
use Rattle.pg_event.specs.declared.event.Event.{Event}
use Rattle.pg_event.specs.declared.meaning.Request.{Request}
use Rattle.pg_event.specs.declared.meaning.Request.TheVariants as requests
use Rattle.pg_event.specs.Form.{processor_of}
use Rattle.pg_event.specs.Meaning.{request_of}
use Rattle.pg_event.specs.declared.event.Want.{Want}
use Rattle.pg_event.specs.declared.event.Want.TheVariants.{Present}
use Rattle.pg_event.specs.Heads.{Head}
use Rattle.pg_event.specs.Values.{mem_at, control_at}
use Rattle.pg_event.specs.Walk.{Reading, readings, root_of}
use Rattle.pg_event.specs.Wants.{want_of, uses_last}
use Rattle.pg_event.specs.declared.walk.Parent.{Parent}
use Rattle.pg_machine.specs.declared.step.Step.{Step}
use Rattle.pg_machine.specs.declared.step.Step.TheVariants.{Fill4, Fill3, Fill2, FillLeaf, Drop, Do}
use Rattle.pg_run_of.specs.declared.fill.Fill.{Fill}
use Rattle.pg_run_of.specs.declared.visit.Visit.{Visit}

-- the step that fills the table of a level
abbrev pub table_fill : ℕ → ℕ → Level → Parent → Step
table_fill p la Four from = Fill4 p la
table_fill p la Three from = Fill3 p la from
table_fill p la Two from = Fill2 p la from
table_fill p la One from = FillLeaf p la One from

-- the fill of a leaf, or else of a table, that a walk of p reads at a level at a moment
abbrev pub fill_by : Bool → ℕ → ℕ → Level → Parent → ℕ → Fill
fill_by is_leaf p la level from w = record {
  moment = w;
  visit = record { p = p; la = la; level = level; from = from };
  is_leaf = is_leaf;
}

-- the step of a fill
abbrev pub step_of : Fill → Step
step_of f =
    let v = f.visit in
    if f.is_leaf then FillLeaf v.p v.la v.level v.from else table_fill v.p v.la v.level v.from

-- the fill of the entry that was read last, at a moment, where it is used: it is a leaf then
abbrev pub leaf_fills : Want → ℕ → ℕ → Level → Parent → ℕ → List Fill
leaf_fills want p la level from w =
    if uses_last want then fill_by true p la level from w ∷ [] else []

-- where a walk goes on from a reading
abbrev pub parent_of : ℕ → Reading → Parent
parent_of m r = record { table = table_of m r.value; rights = r.rights }

-- the fills of a walk from a table on, in the order of its levels: each reading but the last gives
-- a table
abbrev pub walk_fills : ℕ → Want → ℕ → ℕ → Parent → List Reading → List Fill
walk_fills m want p la from [] = []
walk_fills m want p la from (r ∷ []) = leaf_fills want p la r.level from r.moment
walk_fills m want p la from (r ∷ s ∷ rs) =
    fill_by false p la r.level from r.moment ∷ walk_fills m want p la (parent_of m r) (s ∷ rs)

-- the fills of a walk from where it stands on, by moments
abbrev pub fills_from : Head → List Event → Want → Visit → List ℕ → List Fill
fills_from head events want v ws =
    let m = head.cfg.m in
    walk_fills m want v.p v.la v.from
    (readings m (mem_at events) v.la v.level v.from.table v.from.rights ws)

-- the table that a walk of p starts in at a moment
abbrev pub root_at : Head → List Event → ℕ → ℕ → Parent
root_at head events p w = root_of (control_at head events p w)

-- the fills of a walk of p from its root on
abbrev pub moments_fills : Head → List Event → Want → ℕ → ℕ → List ℕ → List Fill
moments_fills head events want p la [] = []
moments_fills head events want p la (w ∷ ws) =
    let root : Visit = record { p = p; la = la; level = Four; from = root_at head events p w } in
    fills_from head events want root (w ∷ ws)

-- the fills of what is asked of a walk of p: an access has some, and an update those of the levels
-- above its entry
abbrev pub request_fills : Head → List Event → ℕ → Request → List Fill
request_fills head events p requests.Nothing = []
request_fills head events p (requests.Access kind la outcome moments) =
    moments_fills head events (want_of outcome) p la moments
request_fills head events p (requests.Update kind la word dirty moments) =
    moments_fills head events Present p la moments

-- the fills of an event
abbrev pub event_fills : Head → List Event → Event → List Fill
event_fills head events e = request_fills head events (processor_of e) (request_of e)

-- the fills of all events, in the order of the events
abbrev pub fills_of : Head → List Event → List Fill
fills_of head events = flat_map (event_fills head events) events

-- the steps of the fills at a moment
abbrev pub fills_at : ℕ → List Fill → List Step
fills_at w fills = map step_of (filter (λ f. f.moment == w) fills)

-- events from a moment on, the fills of each moment just before its event
abbrev pub steps_from : List Fill → ℕ → List Event → List Step
steps_from fills w [] = []
steps_from fills w (e ∷ es) = fills_at w fills ++ Do e ∷ steps_from fills (w + 1) es

abbrev pub steps_of : Head → List Event → List Step
steps_of head events = steps_from (fills_of head events) 0 events

abbrev pub is_drop : Step → Bool
is_drop (Fill4 p la) = false
is_drop (Fill3 p la from) = false
is_drop (Fill2 p la from) = false
is_drop (FillLeaf p la level from) = false
is_drop (Drop p member) = true
is_drop (Do e) = false

abbrev pub DropsNothing : List Step → Type 0
DropsNothing steps = AllByRecursion (λ step. is_drop step ≡ false) steps
