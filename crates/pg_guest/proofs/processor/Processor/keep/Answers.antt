use Rattle.std.proofs.Common.{sym}
use Rattle.pg_entry.specs.Kinds.{kind_of}
use Rattle.pg_world.specs.Walks.{moments_of}
use Rattle.pg_guest.specs.Held.{seen}
use Rattle.pg_guest.proofs.Kept.{table_kept, page_kept}
use Rattle.pg_guest.proofs.Read.{leaf_so}
use Rattle.pg_guest.proofs.processor.Processor.keep.Goals as goal

pub keep_table-requires-clause-table : goal.keep_table-requires-clause-table
keep_table-requires-clause-table c =
    rw (c.requires.width, c.moments_with-moments.ensures)
    (table_kept c.args.cfg c.args.walk.now.level c.args.value c.in-Table.addr c.args.moment (moments_of c.args.walk.now.moments) c.requires.range.0 (sym c.in-Table.ensures.kind) c.requires.moments)

pub keep_leaf-requires-clause-page : goal.keep_leaf-requires-clause-page
keep_leaf-requires-clause-page c =
    rw (c.requires.width, c.moments_with-moments.ensures)
    (page_kept c.args.cfg c.args.walk.now.level c.args.value c.in-Leaf.frame c.in-Leaf.shift c.args.moment c.in-Leaf.global_bit (moments_of c.args.walk.now.moments) c.requires.range.0 (sym c.in-Leaf.ensures.kind) c.requires.moments)

pub returns-in-Leaf-clause-turn : goal.returns-in-Leaf-clause-turn
returns-in-Leaf-clause-turn c = λ r unfinished.
    leaf_so r (seen c.args.self.now) c.args.walk.now _ c.args.value c.in-Leaf.frame c.in-Leaf.shift c.in-Leaf.global_bit c.dirty.result c.combine-rights.result c.moments_with-moments.result _
    (kind_of c.args.cfg c.args.walk.now.level c.args.value) c.combine-rights.ensures c.dirty.ensures c.moments_with-moments.ensures c.in-Leaf.ensures.kind (c.keep_leaf.ensures.turn r unfinished)
