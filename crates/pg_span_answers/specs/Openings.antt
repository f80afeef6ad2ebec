-- What opening the file of a name may give.
use Rattle.std.specs.Prelude.{◌≡◌, ℕ, List, Option, Some, None}
use Rattle.std.specs.Borrow.{Bor}
use Rattle.std.specs.Fn.{FnReturnsAt, Shared}
use Rattle.pg_codec.specs.declared.stream.Source as sources
use Rattle.pg_report.specs.Changes.{Change, drawn}

-- a source that is left changed so, or none
abbrev pub Opening : Type 1
Opening = List ℕ → Option Change → Type 0

abbrev pub opens : {F S : Type 0} → Shared F (Bor (List ℕ) × Unit {0}) (Option S) →
    sources.Ghosts S → F → Opening
opens {F} {S} call source opener name None = FnReturnsAt call opener name None
opens {F} {S} call source opener name (Some file) =
    (old : S) × (new : S) × FnReturnsAt call opener name (Some old) × (file ≡ drawn source old new)
