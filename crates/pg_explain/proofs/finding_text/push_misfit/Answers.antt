use Rattle.pg_explain.proofs.finding_text.push_misfit.Goals as goal

pub returns-in-Kind : goal.returns-in-Kind
returns-in-Kind c = rw (c.in-Kind.is, ← c.kind_name.ensures) c.push_both.ensures

pub returns-in-Rights : goal.returns-in-Rights
returns-in-Rights c = rw (c.in-Rights.is, ← c.rights_text.ensures) c.push_both-in-Rights.ensures

pub returns-in-Moment : goal.returns-in-Moment
returns-in-Moment c = rw c.in-Moment.is c.write.ensures.bytes

pub returns-in-Word : goal.returns-in-Word
returns-in-Word c = rw c.in-Word.is c.push_named_word.ensures
