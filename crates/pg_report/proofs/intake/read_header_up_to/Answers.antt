use Rattle.pg_report.proofs.intake.read_header_up_to.Goals as goal

pub returns-in-One-clause-pulls : goal.returns-in-One-clause-pulls
returns-in-One-clause-pulls g c = rw c.in-One.is (rw c.requires at c.read_old_header.ensures.pulls)

pub returns-in-One-clause-head : goal.returns-in-One-clause-head
returns-in-One-clause-head g c = c.read_old_header.ensures.head

pub returns-in-One-clause-stage : goal.returns-in-One-clause-stage
returns-in-One-clause-stage g c = c.read_old_header.ensures.stage

pub returns-in-Two-clause-pulls : goal.returns-in-Two-clause-pulls
returns-in-Two-clause-pulls g c = rw c.in-Two.is (rw c.requires at c.read_header.ensures.pulls)

pub returns-in-Two-clause-head : goal.returns-in-Two-clause-head
returns-in-Two-clause-head g c = c.read_header.ensures.head

pub returns-in-Two-clause-stage : goal.returns-in-Two-clause-stage
returns-in-Two-clause-stage g c = c.read_header.ensures.stage
