-- Spans by parts, of which each has those of some PCIDs.
use Rattle.std.specs.Prelude.{ℕ, ◌%◌, ◌==◌, if◌then◌else◌, List, [], ◌∷◌, map, slice_index_or, Vec}
use Rattle.pg_event.specs.declared.control.Control.{Control}
use Rattle.pg_timeline.specs.declared.timeline.Span.{Span}
use Rattle.pg_reach.specs.Stays.{AreThose}

-- the spans of a part, none where it lacks
abbrev pub part_at : {A : Type 0} → List (Vec (Span Control) A) → ℕ → List (Span Control)
part_at parts k = slice_index_or (map (λ part. part.items) parts) k []

-- what a span of one part adds to another
abbrev pub own_of : ℕ → ℕ → Span Control → List (Span Control)
own_of place k span = if place == k then span ∷ [] else []

-- the spans of the PCIDs with this remainder
abbrev pub ArePart : ℕ → List (Span Control) → List (Span Control) → Type 0
ArePart k spans part = AreThose (λ q. q % 64) k spans part

-- the parts of some spans
abbrev pub AreParts : {A : Type 0} → List (Span Control) → List (Vec (Span Control) A) → Type 0
AreParts spans parts = (k : ℕ) → ArePart k spans (part_at parts k)
