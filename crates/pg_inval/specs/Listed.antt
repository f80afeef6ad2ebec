-- The lists of all classes.
use Rattle.std.specs.Prelude.{List}
use Rattle.pg_inval.specs.declared.class.Class.TheVariants.{Pages, LargePages, GlobalPages}
use Rattle.pg_inval.specs.declared.class.Class.TheVariants.{Regions, Spaces}
use Rattle.pg_inval.specs.declared.listed.Listed.{Listed}
use Rattle.pg_inval.specs.declared.log.LogEntry.{LogEntry}
use Rattle.pg_inval.specs.Lists.{IsListed}

-- the lists of each class have the first entries of a log
pub record AreListed (log : List LogEntry) (l : Listed) : Type 0 where
  pub pages : IsListed Pages log l.pages.known l.pages.by_key.entries
  pub large_pages : IsListed LargePages log l.large_pages.known l.large_pages.by_key.entries
  pub global_pages : IsListed GlobalPages log l.global_pages.known l.global_pages.by_key.entries
  pub regions : IsListed Regions log l.regions.known l.regions.by_key.entries
  pub spaces : IsListed Spaces log l.spaces.known l.spaces.by_key.entries
