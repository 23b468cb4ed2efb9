use Rattle.speedy_lines.proofs.by_name.answer_leaf.Goals as goal

pub returns-in-Bool : goal.returns-in-Bool
returns-in-Bool g c = rw c.in-Bool.is c.answer_as.ensures

pub returns-in-Char : goal.returns-in-Char
returns-in-Char g c = rw c.in-Char.is c.answer_as-in-Char.ensures

pub returns-in-Unit : goal.returns-in-Unit
returns-in-Unit g c = rw c.in-Unit.is c.answer_as-in-Unit.ensures

pub returns-in-Endianness : goal.returns-in-Endianness
returns-in-Endianness g c = rw c.in-Endianness.is c.answer_as-in-Endianness.ensures

pub returns-in-Uuid : goal.returns-in-Uuid
returns-in-Uuid g c = rw c.in-Uuid.is c.answer_as-in-Uuid.ensures

pub returns-in-Ipv4 : goal.returns-in-Ipv4
returns-in-Ipv4 g c = rw c.in-Ipv4.is c.answer_as-in-Ipv4.ensures

pub returns-in-Ipv6 : goal.returns-in-Ipv6
returns-in-Ipv6 g c = rw c.in-Ipv6.is c.answer_as-in-Ipv6.ensures

pub returns-in-Ip : goal.returns-in-Ip
returns-in-Ip g c = rw c.in-Ip.is c.answer_as-in-Ip.ensures

pub returns-in-Duration : goal.returns-in-Duration
returns-in-Duration g c = rw c.in-Duration.is c.answer_as-in-Duration.ensures
