use Rattle.pg_moment.proofs.log.+cut_logged.Given as goal

abbrev pub decreases-cut_logged : goal.decreases-cut_logged
decreases-cut_logged l = l.count
