use Rattle.pg_chain.proofs.past.Past.new.Goals as goal

pub returns : goal.returns
returns c = record {
  versions = c.new.ensures.start;
  controls = c.in_ok-new.ensures.start;
  drops = c.new-3.ensures.start c.args.header.now;
}
