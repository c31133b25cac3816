use Rattle.rpki_answers.proofs.verdict_document.files.add_about.Goals as goal

pub returns-in-Notes : goal.returns-in-Notes
returns-in-Notes c = rw c.in-Notes.is c.add_noted.ensures

pub returns-in-BehindCertificate : goal.returns-in-BehindCertificate
returns-in-BehindCertificate c = rw c.in-BehindCertificate.is c.add_left_of_member.ensures

pub returns-in-BehindList : goal.returns-in-BehindList
returns-in-BehindList c = rw c.in-BehindList.is c.add_left_of_list.ensures

pub returns-in-NoList : goal.returns-in-NoList
returns-in-NoList c = rw c.in-NoList.is c.add_not_a_list.ensures
