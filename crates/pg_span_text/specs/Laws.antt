-- A law of the tests that stand in a cause.
use Rattle.std.specs.Prelude.{◌≡◌, ℕ, true, false}
use Rattle.pg_entry.specs.declared.Rules.{Rules}
use Rattle.pg_entry.specs.declared.Level.{Level}
use Rattle.pg_event.specs.declared.control.Control.{Control}
use Rattle.pg_event.specs.declared.event.Event.{Event}
use Rattle.pg_event.specs.Invalidation.{level_shift, structure_key, translation_key}
use Rattle.pg_event.specs.Invalidation.{must_drop_structure, must_drop_translation}
use Rattle.pg_span_text.specs.Drops.{drops_page}

-- an event after which a page is said to be read must drop the translations of its addresses by
-- pages of each size, but for global ones, and the paging-structure-cache entry of each level
abbrev pub DropsAllOfAPage : Type 0
DropsAllOfAPage = (rules : Rules) (c : Control) (pcid la : ℕ) (e : Event) (level : Level) →
    drops_page rules c pcid la e ≡ true →
    (must_drop_translation rules c e (translation_key pcid (level_shift level) false la) ≡ true)
    × (must_drop_structure rules c e (structure_key pcid level la) ≡ true)
