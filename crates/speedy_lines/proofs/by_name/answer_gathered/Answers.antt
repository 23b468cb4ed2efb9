use Rattle.speedy_lines.proofs.by_name.answer_gathered.Goals as goal

pub returns-in-SetU16 : goal.returns-in-SetU16
returns-in-SetU16 g c = rw c.in-SetU16.is c.answer_as.ensures

pub returns-in-MapU8U8 : goal.returns-in-MapU8U8
returns-in-MapU8U8 g c = rw c.in-MapU8U8.is c.answer_as-in-MapU8U8.ensures

pub returns-in-MapStringVecU16 : goal.returns-in-MapStringVecU16
returns-in-MapStringVecU16 g c = rw c.in-MapStringVecU16.is c.answer_as-in-MapStringVecU16.ensures

pub returns-in-IndexSetU16 : goal.returns-in-IndexSetU16
returns-in-IndexSetU16 g c = rw c.in-IndexSetU16.is c.answer_as-in-IndexSetU16.ensures

pub returns-in-IndexMapU8U8 : goal.returns-in-IndexMapU8U8
returns-in-IndexMapU8U8 g c = rw c.in-IndexMapU8U8.is c.answer_as-in-IndexMapU8U8.ensures
