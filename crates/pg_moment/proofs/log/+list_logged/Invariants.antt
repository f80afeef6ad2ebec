use Rattle.pg_moment.proofs.log.+list_logged.Given as goal

abbrev pub decreases-list_logged : goal.decreases-list_logged
decreases-list_logged l = l.count
