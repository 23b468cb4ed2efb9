use Rattle.speedy_lines.proofs.by_name.answer_lent.Goals as goal

pub returns-in-CowStr : goal.returns-in-CowStr
returns-in-CowStr g c = rw c.in-CowStr.is c.answer_as.ensures

pub returns-in-CowU8 : goal.returns-in-CowU8
returns-in-CowU8 g c = rw c.in-CowU8.is c.answer_as-in-CowU8.ensures

pub returns-in-CowU16 : goal.returns-in-CowU16
returns-in-CowU16 g c = rw c.in-CowU16.is c.answer_as-in-CowU16.ensures

pub returns-in-StrRef : goal.returns-in-StrRef
returns-in-StrRef g c = rw c.in-StrRef.is c.answer_as-in-StrRef.ensures

pub returns-in-BytesRef : goal.returns-in-BytesRef
returns-in-BytesRef g c = rw c.in-BytesRef.is c.answer_as-in-BytesRef.ensures

pub returns-in-BytesRef4 : goal.returns-in-BytesRef4
returns-in-BytesRef4 g c = rw c.in-BytesRef4.is c.answer_as-in-BytesRef4.ensures

pub returns-in-ViewI8 : goal.returns-in-ViewI8
returns-in-ViewI8 g c = rw c.in-ViewI8.is c.answer_as-in-ViewI8.ensures

pub returns-in-ArrayViewI8x4 : goal.returns-in-ArrayViewI8x4
returns-in-ArrayViewI8x4 g c = rw c.in-ArrayViewI8x4.is c.answer_as-in-ArrayViewI8x4.ensures
