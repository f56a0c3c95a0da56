use Rattle.properties_tables.proofs.ill_formed.body_to_search.Goals as goal

pub returns-in-IllFormed : goal.returns-in-IllFormed
returns-in-IllFormed c = rw c.in-IllFormed.is c.body_to_decode.ensures

pub returns-in-Zero : goal.returns-in-Zero
returns-in-Zero c = rw c.in-Zero.is c.body_with_zeros.ensures

pub returns-in-NonAscii : goal.returns-in-NonAscii
returns-in-NonAscii c = rw c.in-NonAscii.is c.whole_body.ensures

pub returns-in-MarkInside : goal.returns-in-MarkInside
returns-in-MarkInside c = rw c.in-MarkInside.is c.body_with_marks.ensures

pub returns-in-Misread : goal.returns-in-Misread
returns-in-Misread c = rw c.in-Misread.is c.body_misread.ensures
