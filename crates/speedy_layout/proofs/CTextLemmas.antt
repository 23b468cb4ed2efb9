-- Where the first NUL stands in bytes.
use Rattle.std.specs.Prelude.{◌≡◌, ◌≢◌, ℕ, suc, ◌+◌, ◌<◌, List, ◌∷◌, ◌++◌, length, take, drop, Some}
use Rattle.std.proofs.Common.{sym, ◌∙◌, ap, arith, get_or, add-one}
use Rattle.std.proofs.Math.Seq.{drop-cons}
use Rattle.std.proofs.lemmas.Bool.{eqb-true, eq-eqb}
use Rattle.std.proofs.lemmas.List.{get_or-take, length-take-le, take-append-drop}
use Rattle.std.proofs.lemmas.List.Elements.{All-from_get_or}
use Rattle.memchr.specs.Find.{IsFirstByte, is_byte}
use Rattle.speedy_layout.specs.CText.{NulWithin}

pub nul_found : (bytes : List ℕ) (k : ℕ) → IsFirstByte (is_byte 0) bytes (Some k) → NulWithin bytes (k + 1)
nul_found bytes k h =
    let within : k < length bytes = h.0.high in
    let sized : length (take k bytes) ≡ k = length-take-le k bytes (omega arith) in
    record {
      before = take k bytes;
      behind = drop (k + 1) bytes;
      whole_is = sym (take-append-drop k bytes)
          ∙ ap (λ x. take k bytes ++ x) (rw (add-one, drop-cons bytes k 0)
          (ap (λ b. b ∷ drop (suc k) bytes) (eqb-true _ _ h.1)));
      has_none = All-from_get_or (λ b. b ≢ 0) (take k bytes) 0 (λ i lt is.
          h.0.before i (omega arith) (omega arith)
          (eq-eqb (get_or bytes i 0) 0 (sym (get_or-take k bytes i 0 (omega arith)) ∙ is)));
      so_many = omega arith;
    }
