use Rattle.speedy_lines.proofs.by_name.answer_number.Goals as goal

pub returns-in-U8 : goal.returns-in-U8
returns-in-U8 g c = rw c.in-U8.is c.answer_as.ensures

pub returns-in-U16 : goal.returns-in-U16
returns-in-U16 g c = rw c.in-U16.is c.answer_as-in-U16.ensures

pub returns-in-U32 : goal.returns-in-U32
returns-in-U32 g c = rw c.in-U32.is c.answer_as-in-U32.ensures

pub returns-in-U64 : goal.returns-in-U64
returns-in-U64 g c = rw c.in-U64.is c.answer_as-in-U64.ensures

pub returns-in-U128 : goal.returns-in-U128
returns-in-U128 g c = rw c.in-U128.is c.answer_as-in-U128.ensures

pub returns-in-I8 : goal.returns-in-I8
returns-in-I8 g c = rw c.in-I8.is c.answer_as-in-I8.ensures

pub returns-in-I16 : goal.returns-in-I16
returns-in-I16 g c = rw c.in-I16.is c.answer_as-in-I16.ensures

pub returns-in-I32 : goal.returns-in-I32
returns-in-I32 g c = rw c.in-I32.is c.answer_as-in-I32.ensures

pub returns-in-I64 : goal.returns-in-I64
returns-in-I64 g c = rw c.in-I64.is c.answer_as-in-I64.ensures

pub returns-in-I128 : goal.returns-in-I128
returns-in-I128 g c = rw c.in-I128.is c.answer_as-in-I128.ensures

pub returns-in-Usize : goal.returns-in-Usize
returns-in-Usize g c = rw c.in-Usize.is c.answer_as-in-Usize.ensures

pub returns-in-Varint : goal.returns-in-Varint
returns-in-Varint g c = rw c.in-Varint.is c.answer_as-in-Varint.ensures

pub returns-in-NonZeroU8 : goal.returns-in-NonZeroU8
returns-in-NonZeroU8 g c = rw c.in-NonZeroU8.is c.answer_as-in-NonZeroU8.ensures

pub returns-in-NonZeroU16 : goal.returns-in-NonZeroU16
returns-in-NonZeroU16 g c = rw c.in-NonZeroU16.is c.answer_as-in-NonZeroU16.ensures

pub returns-in-NonZeroI32 : goal.returns-in-NonZeroI32
returns-in-NonZeroI32 g c = rw c.in-NonZeroI32.is c.answer_as-in-NonZeroI32.ensures
