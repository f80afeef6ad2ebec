use Rattle.pg_explain.proofs.finding_text.push_finding.Goals as goal

pub returns-in-Order : goal.returns-in-Order
returns-in-Order c = rw c.in-Order.is c.push_order.ensures

pub returns-in-Entry : goal.returns-in-Entry
returns-in-Entry c = rw c.in-Entry.is c.push_wish.ensures

pub returns-in-Context : goal.returns-in-Context
returns-in-Context c = rw c.in-Context.is c.push_tags.ensures

pub returns-in-StructureDropped : goal.returns-in-StructureDropped
returns-in-StructureDropped c = rw c.in-StructureDropped.is c.push_drop.ensures

pub returns-in-TranslationDropped : goal.returns-in-TranslationDropped
returns-in-TranslationDropped c = rw c.in-TranslationDropped.is c.push_drop-in-TranslationDropped.ensures

pub returns-in-ForeignPcid : goal.returns-in-ForeignPcid
returns-in-ForeignPcid c = rw c.in-ForeignPcid.is c.push_tags-in-ForeignPcid.ensures

pub returns-in-NotAtEvent : goal.returns-in-NotAtEvent
returns-in-NotAtEvent c = rw c.in-NotAtEvent.is c.push_now.ensures

pub returns-in-Rights : goal.returns-in-Rights
returns-in-Rights c = rw c.in-Rights.is c.push_right.ensures

pub returns-in-Answer : goal.returns-in-Answer
returns-in-Answer c = rw c.in-Answer.is c.push_expected.ensures

pub returns-in-Code : goal.returns-in-Code
returns-in-Code c = rw c.in-Code.is c.push_expected_code.ensures

pub returns-in-Accessed : goal.returns-in-Accessed
returns-in-Accessed c = rw c.in-Accessed.is c.push_flag.ensures

pub returns-in-Dirty : goal.returns-in-Dirty
returns-in-Dirty c = rw c.in-Dirty.is c.push_flag-in-Dirty.ensures

pub returns-in-Assist : goal.returns-in-Assist
returns-in-Assist c = rw c.in-Assist.is c.push_misfit.ensures
