-- What a call that reads answers, against the reading function on lists.
use Rattle.std.specs.Prelude.{◌≡◌, ◌≢◌, ◌<◌, ℕ, Bool, true, false, List, [], ◌∷◌, ◌++◌, length}
use Rattle.std.specs.Prelude.{drop, ◌-◌}
use Rattle.std.specs.Prelude.{Option}
use Rattle.std.specs.Prelude.{Some, None, Result, Ok, Err, OnOk, IfOk, IfSome, ◌==◌}
use Rattle.std.specs.Io.KnownBytes.{prepend_known, Keeps, IsAtEnd}
use Rattle.pg_event.specs.declared.refusal.Refusal.{Refusal}
use Rattle.pg_event.specs.declared.event.Event.{Event}
use Rattle.pg_event.specs.Form.{broken_rule}
use Rattle.pg_event.specs.Heads.{Head}
use Rattle.pg_event.specs.Reading.{◌>>=◌, Part, well_formed_at, event_at}
use Rattle.pg_event.specs.Laws.{AreBytes}
use Rattle.pg_codec.specs.declared.error.ReadError.{ReadError}
use Rattle.pg_codec.specs.declared.error.ReadError.TheVariants as errors
use Rattle.pg_codec.specs.declared.stream.Source.{Ghosts}
use Rattle.pg_codec.specs.Streams.{RaisesFailures, FailsWithDevice}

-- a function over a slice, seen by view, answers what reading gives
abbrev pub Gives : {X A : Type 0} → (X → A × List ℕ) → Result X Refusal → Part A → Type 0
Gives view (Ok x) part = part ≡ Ok (view x)
Gives view (Err e) part = part ≡ Err e

-- a result with its value seen by view
abbrev pub seen : {X A E : Type 0} → (X → A) → Result X E → Result A E
seen view (Ok x) = Ok (view x)
seen view (Err e) = Err e

-- what a reader has left: what it pulled and has not read, and what its source has
unfoldable pub left_of : List ℕ → Option (List ℕ) → Option (List ℕ)
left_of unread left = prepend_known unread left

-- this part was read, and its rest is left
abbrev pub GivesRest : {A : Type 0} → A → Option (List ℕ) → Part A → Type 0
GivesRest x None part = ⊥
GivesRest x (Some rest) part = part ≡ Ok (x, rest)

-- a refusal is the first of the part; an I/O error or running out of memory says nothing of it
abbrev pub Fails : {A : Type 0} → ReadError → Part A → Type 0
Fails (errors.Refused e) part = part ≡ Err e
Fails errors.Device part = Unit {0}
Fails errors.Memory part = Unit {0}
Fails errors.Failed part = ⊥

-- the bytes of a part that was read are let go, all but so many
abbrev pub Takes : {A : Type 0} → List ℕ → List ℕ → Result (A × ℕ) Refusal →
    Result A ReadError → Type 0
Takes old new (Ok part) result = (new ≡ drop (length old - part.1) old) × (result ≡ Ok part.0)
Takes old new (Err e) result = (new ≡ old) × (result ≡ Err (errors.Refused e))

-- What a call answered that had these bytes left and has those now is what reading the bytes
-- gives, unless memory ran out or the device failed.
abbrev pub Reads : {A : Type 0} → Option (List ℕ) → Option (List ℕ) → Result A ReadError →
    (List ℕ → Part A) → Type 0
Reads None new result read = Unit {0}
Reads (Some bytes) new (Ok x) read = GivesRest x new (read bytes)
Reads (Some bytes) new (Err e) read = Fails e (read bytes)

-- what was read is bytes from the front
abbrev pub Took : Option (List ℕ) → Option (List ℕ) → Type 0
Took None new = Unit {0}
Took (Some bytes) None = ⊥
Took (Some bytes) (Some rest) = (text : List ℕ) × AreBytes text × (bytes ≡ text ++ rest)

abbrev pub is_device : ReadError → Bool
is_device (errors.Refused e) = false
is_device errors.Device = true
is_device errors.Memory = false
is_device errors.Failed = false

-- what is left of bytes that were pulled and not read, and of the source that they came from
abbrev pub left_in : {R : Type 0} → Ghosts R → List ℕ × R → Option (List ℕ)
left_in g input = left_of input.0 (g.left input.1)

-- A call pulls the part that read gives: it answers the next part of what was left and takes its
-- bytes, or that part's first refusal, or that memory ran out or the device failed in this call.
pub record Pulls {R A : Type 0} (g : Ghosts R) (read : List ℕ → Part A) (old new : List ℕ × R)
    (result : Result A ReadError) : Type 0 where
  pub reads : Reads (left_in g old) (left_in g new) result read
  pub took : OnOk result (Took (left_in g old) (left_in g new))
  pub device : FailsWithDevice is_device (g.failed old.1) (g.failed new.1) result
  pub live : result ≢ Err errors.Failed

-- the bytes of the longest part that is read at once: an access in a record of version 2
abbrev pub longest_part : ℕ
longest_part = 38

-- A call pulls ahead: nothing that was left is lost, and the longest part is at hand, or all that
-- is left.
pub record Prepares {R X E : Type 0} (g : Ghosts R) (old new : List ℕ × R) (result : Result X E)
    : Type 0 where
  pub kept : OnOk result (Keeps (left_in g old) (left_in g new))
  pub enough : OnOk result (length new.0 < longest_part → IsAtEnd (g.left new.1))
  pub failures : RaisesFailures (g.failed old.1) (g.failed new.1) result

-- A call finds whether what is left passes a test, and loses nothing that is.
pub record Finds {R E : Type 0} (g : Ghosts R) (test : List ℕ → Bool) (old new : List ℕ × R)
    (result : Result Bool E) : Type 0 where
  pub value : IfOk result (λ passes. IfSome (left_in g old) (λ bytes. passes ≡ test bytes))
  pub kept : OnOk result (Keeps (left_in g old) (left_in g new))
  pub failures : RaisesFailures (g.failed old.1) (g.failed new.1) result

-- whether nothing is left
abbrev pub FindsEnd : {R E : Type 0} → Ghosts R → List ℕ × R → List ℕ × R → Result Bool E → Type 0
FindsEnd g old new result = Finds g (λ bytes. length bytes == 0) old new result

-- an event that was read has to be well formed
abbrev pub judged : Head → ℕ → Part Event → Part Event
judged head i part = part >>= λ e. well_formed_at i (broken_rule head e.0) e

-- an event was read, whatever its number, and added, and so many bytes are left
abbrev pub Adds : List Event → List Event → Option ℕ → (ℕ → Part Event) → Type 0
Adds old new (Some left) part =
    (i : ℕ) → (x : Event × List ℕ) × (part i ≡ Ok x) × (length x.1 ≡ left) × (new ≡ old ++ x.0 ∷ [])
Adds old new None part = Unit {0}

-- a call pulls a well-formed event and adds it
abbrev pub PullsEvent : {R : Type 0} → Ghosts R → Head → ℕ → List ℕ × R → List ℕ × R →
    List Event → List Event → Result (Unit {0}) ReadError → Type 0
PullsEvent g head i old new before after (Ok done) =
    (e : Event) × Pulls g (event_at head i) old new (Ok e) × (after ≡ before ++ e ∷ [])
    × (broken_rule head e ≡ None)
PullsEvent g head i old new before after (Err e) =
    Pulls {A = Event} g (event_at head i) old new (Err e)
