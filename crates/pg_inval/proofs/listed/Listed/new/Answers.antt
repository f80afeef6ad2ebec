use Rattle.pg_inval.specs.declared.class.Class.TheVariants.{Pages, LargePages, GlobalPages, Regions, Spaces}
use Rattle.pg_inval.proofs.listed.Listed.new.Goals as goal

pub returns : goal.returns
returns c = λ log. record {
  pages = c.new.ensures Pages log;
  large_pages = c.new-2.ensures LargePages log;
  global_pages = c.new-3.ensures GlobalPages log;
  regions = c.new-4.ensures Regions log;
  spaces = c.new-5.ensures Spaces log;
}
