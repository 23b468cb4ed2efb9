use Rattle.speedy_lines.proofs.by_name.answer_composed.Goals as goal

pub returns-in-OptU16 : goal.returns-in-OptU16
returns-in-OptU16 g c = rw c.in-OptU16.is c.answer_as.ensures

pub returns-in-ResU16U8 : goal.returns-in-ResU16U8
returns-in-ResU16U8 g c = rw c.in-ResU16U8.is c.answer_as-in-ResU16U8.ensures

pub returns-in-RangeU16 : goal.returns-in-RangeU16
returns-in-RangeU16 g c = rw c.in-RangeU16.is c.answer_as-in-RangeU16.ensures

pub returns-in-RangeInclU16 : goal.returns-in-RangeInclU16
returns-in-RangeInclU16 g c = rw c.in-RangeInclU16.is c.answer_as-in-RangeInclU16.ensures

pub returns-in-TupleU8U16U32 : goal.returns-in-TupleU8U16U32
returns-in-TupleU8U16U32 g c = rw c.in-TupleU8U16U32.is c.answer_as-in-TupleU8U16U32.ensures

pub returns-in-ArrayU16x4 : goal.returns-in-ArrayU16x4
returns-in-ArrayU16x4 g c = rw c.in-ArrayU16x4.is c.answer_as-in-ArrayU16x4.ensures

pub returns-in-BoxU16 : goal.returns-in-BoxU16
returns-in-BoxU16 g c = rw c.in-BoxU16.is c.answer_as-in-BoxU16.ensures
