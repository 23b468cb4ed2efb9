-- How values are written that are encoded as codes: as their codes are.
use Rattle.std.specs.Prelude.{ℕ, List, Result}
use Rattle.speedy_base.specs.declared.error.Error.{Error}
use Rattle.speedy_layout.specs.Encoding.{Encodes}
use Rattle.speedy_layout.specs.Laws.{Codec}
use Rattle.speedy_write.specs.Writing.{WriterState, Writes}
use Rattle.speedy_write.specs.Sequences.{Writes-as, one_length}

-- a code was written, and so a value that is encoded as it
pub encoded_written : {E : Type 0} {gives : Error → E → Type 0} {U V : Type 0} {codes : Codec U} {values : Codec V}
    {u : U} {v : V} {result : Result (Unit {0}) E} {old new : WriterState} {appended : List ℕ → Type 0}
    → Encodes codes values u v → Writes gives codes.format u result old new appended
    → Writes gives values.format v result old new appended
encoded_written {codes = codes} {values = values} {u = u} {v = v} {old = old} is w =
    let laws = values.laws old.mode in
    Writes-as {F = codes.format} (is.refuses old.mode) (is.written old.mode)
    (λ b h.
    let x = is.has_encoding old.mode b (laws.written_encodes v b h) in
    let d = (codes.laws old.mode).has_written u x.0 x.1 in
    (d.0, d.1, one_length laws v d.0 b (is.written old.mode d.0 d.1) h))
    (is.has_encoding old.mode) w
