use Rattle.pg_pool.proofs.Fitting.{fits_end, all_noted}
use Rattle.pg_pool.proofs.windows.OfWindowSegments.finish.Goals as goal

pub returns-clause-fits : goal.returns-clause-fits
returns-clause-fits c = λ run fits. fits_end c.note_rest.result c.args.self.now.window.now run c.note_rest.new.self fits.head fits.before fits.next fits.is (c.note_rest.ensures fits.head fits.before fits.next fits.amid)

pub returns-clause-ends : goal.returns-clause-ends
returns-clause-ends c = λ run fits. all_noted c.note_rest.result c.args.self.now.window.now run c.note_rest.new.self fits.head fits.before fits.next fits.is (c.note_rest.ensures fits.head fits.before fits.next fits.amid)
