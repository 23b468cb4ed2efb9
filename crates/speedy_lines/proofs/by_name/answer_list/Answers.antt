use Rattle.speedy_lines.proofs.by_name.answer_list.Goals as goal

pub returns-in-String : goal.returns-in-String
returns-in-String g c = rw c.in-String.is c.answer_as.ensures

pub returns-in-BoxedStr : goal.returns-in-BoxedStr
returns-in-BoxedStr g c = rw c.in-BoxedStr.is c.answer_as-in-BoxedStr.ensures

pub returns-in-VecU8 : goal.returns-in-VecU8
returns-in-VecU8 g c = rw c.in-VecU8.is c.answer_as-in-VecU8.ensures

pub returns-in-VecU16 : goal.returns-in-VecU16
returns-in-VecU16 g c = rw c.in-VecU16.is c.answer_as-in-VecU16.ensures

pub returns-in-BoxedSliceU16 : goal.returns-in-BoxedSliceU16
returns-in-BoxedSliceU16 g c = rw c.in-BoxedSliceU16.is c.answer_as-in-BoxedSliceU16.ensures

pub returns-in-SmallVecU16x4 : goal.returns-in-SmallVecU16x4
returns-in-SmallVecU16x4 g c = rw c.in-SmallVecU16x4.is c.answer_as-in-SmallVecU16x4.ensures

pub returns-in-VecChar : goal.returns-in-VecChar
returns-in-VecChar g c = rw c.in-VecChar.is c.answer_as-in-VecChar.ensures

pub returns-in-VecUnit : goal.returns-in-VecUnit
returns-in-VecUnit g c = rw c.in-VecUnit.is c.answer_as-in-VecUnit.ensures

pub returns-in-VecOptString : goal.returns-in-VecOptString
returns-in-VecOptString g c = rw c.in-VecOptString.is c.answer_as-in-VecOptString.ensures
