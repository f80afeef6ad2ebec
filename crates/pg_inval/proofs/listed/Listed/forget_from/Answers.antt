use Rattle.pg_inval.specs.declared.class.Class.TheVariants.{Pages, LargePages, GlobalPages, Regions, Spaces}
use Rattle.pg_inval.proofs.listed.Listed.forget_from.Goals as goal

pub returns : goal.returns
returns c = λ log rising count listed. record {
  pages = c.forget_from.ensures Pages log rising count listed.pages;
  large_pages = c.forget_from-2.ensures LargePages log rising count listed.large_pages;
  global_pages = c.forget_from-3.ensures GlobalPages log rising count listed.global_pages;
  regions = c.forget_from-4.ensures Regions log rising count listed.regions;
  spaces = c.forget_from-5.ensures Spaces log rising count listed.spaces;
}
