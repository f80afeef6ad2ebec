-- The objects of a trace, in the trace-event format that trace viewers read. All are of process 0,
-- and each processor is a thread of it. An object has, by its phase `ph`,
--
--     M                the name of the process, or of a thread
--     X                an event: ts is when it began and dur how long it lasted, both counted in
--                      events; its name is its line without moments, and args its JSON. That of a
--                      rejected event has `rejected`, why it is, and the colour `terrible`
--     s, f             the two ends of an arrow with an id, at the event that led to the rejected
--                      one, and at that
use Rattle.std.specs.Prelude.{ℕ, zero, suc, ◌+◌, Bool, ◌==◌, if◌then◌else◌}
use Rattle.std.specs.Prelude.{List, [], ◌∷◌, ◌++◌, Option, Some, None, codes, decimal}
use Rattle.pg_event.specs.declared.event.Event.{Event}
use Rattle.pg_event.specs.Form.{processor_of}
use Rattle.pg_explain.specs.Denied.{claim_line}
use Rattle.pg_show_json.specs.Tree.{Json, count, text, object, Fields, no_fields, field, json_text}
use Rattle.pg_show_json.specs.Events.{event_fields}
use Rattle.pg_show_trace.specs.declared.mark.Source.{Source}
use Rattle.pg_show_trace.specs.Marks.{Marking, cause_name, role_name}

-- the track of a processor, in front of other fields
abbrev pub with_place : ℕ → Fields → Fields
with_place p others = field (codes "pid") (count 0) (field (codes "tid") (count p) others)

-- an object behind others
abbrev pub next_text : Json → List ℕ
next_text j = codes ",\n" ++ json_text j

-- ---- names

abbrev pub name_json : List ℕ → Json
name_json name = object (field (codes "name") (text name) no_fields)

abbrev pub named_fields : List ℕ → ℕ → List ℕ → Fields
named_fields kind p name =
    field (codes "ph") (text (codes "M")) (field (codes "name") (text kind)
    (with_place p (field (codes "args") (name_json name) no_fields)))

abbrev pub process_json : Json
process_json = object (named_fields (codes "process_name") 0 (codes "record"))

abbrev pub thread_json : ℕ → Json
thread_json p = object (named_fields (codes "thread_name") p (codes "cpu " ++ decimal p))

-- those of so many processors, from this one on
abbrev pub threads_text : ℕ → ℕ → List ℕ
threads_text p zero = []
threads_text p (suc n) = next_text (thread_json p) ++ threads_text (p + 1) n

abbrev pub first_text : List ℕ
first_text = codes "{\"traceEvents\":[\n" ++ json_text process_json

abbrev pub opening_text : ℕ → List ℕ
opening_text processors = first_text ++ threads_text 0 processors

-- ---- events

-- an event with this number that began at a number and lasted so long
abbrev pub slice_fields : ℕ → ℕ → ℕ → Event → Fields → Fields
slice_fields from long number e others =
    field (codes "ph") (text (codes "X")) (field (codes "name") (text (claim_line number e))
    (with_place (processor_of e)
    (field (codes "ts") (count from) (field (codes "dur") (count long) others))))

abbrev pub slice_text : ℕ → ℕ → ℕ → Event → Fields → List ℕ
slice_text from long number e others =
    next_text (object (slice_fields from long number e others))

abbrev pub args_fields : Fields → Fields
args_fields args = field (codes "args") (object args) no_fields

-- why an event is rejected
abbrev pub rejected_json : Marking → Json
rejected_json m = object (
    field (codes "reason") (text (cause_name m.cause))
    (field (codes "text") (text m.words) no_fields))

abbrev pub marked_fields : Marking → Fields → Fields
marked_fields m args =
    field (codes "cname") (text (codes "terrible"))
    (args_fields (field (codes "rejected") (rejected_json m) args))

abbrev pub others_if : Bool → Marking → Fields → Fields
others_if is_marked m args = if is_marked then marked_fields m args else args_fields args

-- of an event with this number, where this one is rejected, if any is
abbrev pub others_of : Option Marking → ℕ → Fields → Fields
others_of None number args = args_fields args
others_of (Some m) number args = others_if (m.number == number) m args

-- an event of a record with one order
abbrev pub item_text : Option Marking → ℕ → Event → List ℕ
item_text mark number e =
    slice_text number 1 number e (others_of mark number (event_fields number e))

-- ---- arrows

abbrev pub arrow_fields : List ℕ → ℕ → List ℕ → ℕ → ℕ → Fields
arrow_fields kind id name p at =
    field (codes "ph") (text kind) (field (codes "name") (text name)
    (field (codes "cat") (text (codes "rejection")) (field (codes "id") (count id)
    (with_place p (field (codes "ts") (count at) no_fields)))))

abbrev pub end_fields : ℕ → List ℕ → Marking → Fields
end_fields id name m =
    field (codes "bp") (text (codes "e")) (arrow_fields (codes "f") id name m.p m.number)

abbrev pub arrow_text : Marking → ℕ → Source → List ℕ
arrow_text m id x =
    next_text (object (arrow_fields (codes "s") id (role_name x.role) x.p x.number))
    ++ next_text (object (end_fields id (role_name x.role) m))

-- from these events, where the first arrow has this id
abbrev pub arrows_from : Marking → ℕ → List Source → List ℕ
arrows_from m id [] = []
arrows_from m id (x ∷ xs) = arrow_text m id x ++ arrows_from m (id + 1) xs

abbrev pub arrows_text : Option Marking → List ℕ
arrows_text None = []
arrows_text (Some m) = arrows_from m 0 m.sources

abbrev pub closing_text : List ℕ
closing_text = codes "\n]}\n"

abbrev pub ending_text : Option Marking → List ℕ
ending_text mark = arrows_text mark ++ closing_text
