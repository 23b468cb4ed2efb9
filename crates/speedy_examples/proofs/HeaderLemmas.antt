-- Constants at the front of bytes.
use Rattle.std.specs.Prelude.{◌≡◌, ℕ, List, ◌++◌, Bool, IsTrue, Result, Ok, Err, OnOk}
use Rattle.std.proofs.Common.{sym, ◌∙◌, ap}
use Rattle.speedy.specs.declared.error.Error.{Error}
use Rattle.speedy.specs.Codes.{coding, Accepts-exact_means}
use Rattle.speedy.specs.Mode.{Mode}
use Rattle.speedy.specs.Reading.{ReaderState, Reads}
use Rattle.speedy.specs.Texts.{constant_bytes, raw_bytes}

-- bytes from which a constant was read begin with it
pub constant_begins : {E A : Type 0} {gives : Error → E → Type 0}
    {eof : E → Bool} {constant : List ℕ} (mode : Mode) (result : Result A E)
    {old new : ReaderState} → IsTrue old.fixed.tells
    → Reads gives eof (λ (_ : A). constant) (constant_bytes mode constant) result old new
    → OnOk result ((rest : List ℕ) × (old.remaining ≡ constant ++ rest))
unfolding constant_bytes coding raw_bytes
constant_begins mode (Ok x) {new = new} told r =
    let read = r.answer.prefix_is in
    let is = Accepts-exact_means mode.strict _ _ _ _ read.stands in
    (new.remaining, r.answer.taken told ∙ ap (λ s. s ++ new.remaining) (sym read.code_is.0 ∙ is.0))
constant_begins mode (Err e) told r = tt
