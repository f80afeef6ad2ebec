-- No invalidation has a key twice.
use Rattle.std.proofs.Common.{ℕ, true, false, refl}
use Rattle.pg_event.specs.declared.invalidation.Invalidation.{Invalidation}
use Rattle.pg_event.specs.declared.invalidation.Invalidation.TheVariants.{Nothing, Address, Page, Pcid, Everything}
use Rattle.pg_inval.specs.declared.class.Class.{Class}
use Rattle.pg_inval.specs.declared.class.Class.TheVariants.{Pages, LargePages, GlobalPages, Regions, Spaces}
use Rattle.pg_inval.specs.Classes.{keys_in}
use Rattle.pg_inval.specs.Lists.{AreDistinct}

pub keys_in-distinct : (c : Class) (p : ℕ) (i : Invalidation) → AreDistinct (keys_in c p i)
keys_in-distinct Pages p Nothing = tt
keys_in-distinct Pages p (Address pcid la s true g) = (refl, tt)
keys_in-distinct Pages p (Address pcid la s false g) = tt
keys_in-distinct Pages p (Page pcid la) = (refl, tt)
keys_in-distinct Pages p (Pcid pcid) = tt
keys_in-distinct Pages p (Everything true) = tt
keys_in-distinct Pages p (Everything false) = tt
keys_in-distinct LargePages p Nothing = tt
keys_in-distinct LargePages p (Address pcid la s true g) = (refl, (refl, tt))
keys_in-distinct LargePages p (Address pcid la s false g) = tt
keys_in-distinct LargePages p (Page pcid la) = (refl, (refl, tt))
keys_in-distinct LargePages p (Pcid pcid) = tt
keys_in-distinct LargePages p (Everything true) = tt
keys_in-distinct LargePages p (Everything false) = tt
keys_in-distinct GlobalPages p Nothing = tt
keys_in-distinct GlobalPages p (Address pcid la s t true) = (refl, (refl, (refl, tt)))
keys_in-distinct GlobalPages p (Address pcid la s t false) = tt
keys_in-distinct GlobalPages p (Page pcid la) = (refl, (refl, (refl, tt)))
keys_in-distinct GlobalPages p (Pcid pcid) = tt
keys_in-distinct GlobalPages p (Everything true) = tt
keys_in-distinct GlobalPages p (Everything false) = tt
keys_in-distinct Regions p Nothing = tt
keys_in-distinct Regions p (Address pcid la true t g) = (refl, (refl, (refl, tt)))
keys_in-distinct Regions p (Address pcid la false t g) = tt
keys_in-distinct Regions p (Page pcid la) = tt
keys_in-distinct Regions p (Pcid pcid) = tt
keys_in-distinct Regions p (Everything true) = tt
keys_in-distinct Regions p (Everything false) = tt
keys_in-distinct Spaces p Nothing = tt
keys_in-distinct Spaces p (Address pcid la s t g) = tt
keys_in-distinct Spaces p (Page pcid la) = (refl, tt)
keys_in-distinct Spaces p (Pcid pcid) = (refl, (refl, tt))
keys_in-distinct Spaces p (Everything true) = (refl, (refl, tt))
keys_in-distinct Spaces p (Everything false) = (refl, tt)
