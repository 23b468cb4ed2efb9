use Rattle.std.specs.Prelude.{◌≡◌, ℕ, List, ◌++◌, drop}
use Rattle.std.proofs.Common.{ap, sym, ◌∙◌, arith}
use Rattle.speedy.specs.declared.endianness.Endianness.TheVariants.{LittleEndian}
use Rattle.speedy.specs.Mode.{plain_mode}
use Rattle.speedy_protocol.proofs.HeaderLemmas.{first, second, shrunk, none_first, first_plain, second_plain}
use Rattle.speedy_protocol.proofs.RefusalLemmas.{prefix_read, refused_short}
use Rattle.speedy_protocol.proofs.headers.header_2.Goals as goal

pub returns-in-Ok-whole_header_2-clause-first : goal.returns-in-Ok-whole_header_2-clause-first
returns-in-Ok-whole_header_2-clause-first c =
    let mode = plain_mode LittleEndian in
    let header = c.in-Ok-whole_header_2.newer in
    let read = prefix_read _ _ c.in-Ok-whole_header_2.ensures.1.value in
    let parts = shrunk mode _ _ header.version header.flags header.session read in
    (parts.1 ++ drop c.in-Ok-whole_header_2.ensures.0 c.args.start.now.header.items, (parts.0, parts.2, parts.4))

pub returns-in-Ok-whole_header_2-clause-older : goal.returns-in-Ok-whole_header_2-clause-older
returns-in-Ok-whole_header_2-clause-older c = λ few.
    let mode = plain_mode LittleEndian in
    let header = c.in-Ok-whole_header_2.newer in
    let read = prefix_read _ _ c.in-Ok-whole_header_2.ensures.1.value in
    let parts = shrunk mode _ _ header.version header.flags header.session read in
    let older = prefix_read _ _ c.in-Ok.ensures.1.value in
    let same = (c.one_prefix.ensures mode _ _ _ _ _ _ parts.2 older.1 (sym parts.4 ∙ older.2)).0 in
    let versions = ap (λ (both : ℕ × ℕ). both.0) same in
    absurd (let enough = c.if-older-lt2.false in omega arith)

pub returns-in-Err-whole_header_2-clause-refused : goal.returns-in-Err-whole_header_2-clause-refused
returns-in-Err-whole_header_2-clause-refused c =
    let mode = plain_mode LittleEndian in
    refused_short 12 (second mode) (second_plain mode) (c.no_encoding_is_below_least-2.ensures _)
    c.in-Err-whole_header_2.ensures.1

pub returns-in-Err-clause-refused : goal.returns-in-Err-clause-refused
returns-in-Err-clause-refused c =
    let mode = plain_mode LittleEndian in
    let none = refused_short 4 (first mode) (first_plain mode) (c.no_encoding_is_below_least.ensures _)
    c.in-Err.ensures.1 in
    (none.0, none_first mode _ none.1)
