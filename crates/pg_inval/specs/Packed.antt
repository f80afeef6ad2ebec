-- The invalidation that an entry of the log has.
use Rattle.pg_event.specs.declared.invalidation.Invalidation.{Invalidation}
use Rattle.pg_event.specs.declared.invalidation.Invalidation.TheVariants as invalidations
use Rattle.pg_inval.specs.declared.packed.Packed.{Packed}
use Rattle.pg_inval.specs.declared.packed.Packed.TheVariants.{Nothing, Address, Page, Pcid}
use Rattle.pg_inval.specs.declared.packed.Packed.TheVariants.{Everything}

abbrev pub invalidation_of : Packed → Invalidation
invalidation_of Nothing = invalidations.Nothing
invalidation_of (Address structures translations globals pcid la) =
    invalidations.Address pcid la structures translations globals
invalidation_of (Page pcid la) = invalidations.Page pcid la
invalidation_of (Pcid pcid) = invalidations.Pcid pcid
invalidation_of (Everything globals) = invalidations.Everything globals
