use Rattle.pg_span_run.proofs.Peeking.{says_same}
use Rattle.pg_span_run.proofs.peeked.Peeked.says_spans.Goals as goal

pub returns : goal.returns
returns g c =
    let done = c.in_ok-fill.ensures in
    record {
      value = says_same c.args.self.now.unread c.fill.new.self (g.R.Source.left c.args.self.now.inner) (g.R.Source.left c.fill.new.source) c.says_spans.result done.kept done.enough (rw c.as_slice.ensures at c.says_spans.ensures);
      kept = done.kept;
      failures = done.failures;
    }
