use Rattle.speedy_lines.proofs.by_name.answer_own.Goals as goal

pub returns-in-Frame : goal.returns-in-Frame
returns-in-Frame g c = rw c.in-Frame.is c.answer_as.ensures

pub returns-in-Enum : goal.returns-in-Enum
returns-in-Enum g c = rw c.in-Enum.is c.answer_as-in-Enum.ensures

pub returns-in-DerivedEnum : goal.returns-in-DerivedEnum
returns-in-DerivedEnum g c = rw c.in-DerivedEnum.is c.answer_as-in-DerivedEnum.ensures

pub returns-in-Record : goal.returns-in-Record
returns-in-Record g c = rw c.in-Record.is c.answer_as-in-Record.ensures

pub returns-in-Tree : goal.returns-in-Tree
returns-in-Tree g c = rw c.in-Tree.is c.answer_as-in-Tree.ensures
