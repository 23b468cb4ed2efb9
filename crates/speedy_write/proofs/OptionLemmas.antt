-- A value that may be absent, and is.
use Rattle.std.specs.Prelude.{◌≡◌, ℕ, List, [], ◌++◌, length, false, Option, None, Result, refl}
use Rattle.std.proofs.Common.{sym, ◌∙◌, ap, subst, inl}
use Rattle.std.proofs.lemmas.List.{append-nil}
use Rattle.std.specs.Option.{option_map}
use Rattle.speedy_base.specs.declared.error.Error.{Error}
use Rattle.speedy_base.specs.Mode.{Mode}
use Rattle.speedy_layout.specs.Format.{Format}
use Rattle.speedy_layout.specs.Flags.{flag, option}
use Rattle.speedy_layout.specs.Sequences.{sequence}
use Rattle.speedy_layout.specs.Tuples.{unit}
use Rattle.speedy_write.specs.Writing.{WriterState, Writes}
use Rattle.speedy_write.specs.Sequences.{Writes-as}

prefix_alone : (b prefix suffix : List ℕ) → b ≡ prefix ++ suffix → suffix ≡ [] → prefix ≡ b
prefix_alone b prefix suffix whole none = sym (whole ∙ (ap (λ x. prefix ++ x) none ∙ append-nil prefix))

-- it is written as the flag
pub absent_written : {E : Type 0} {gives : Error → E → Type 0} {A V : Type 0} {result : Result (Unit {0}) E}
    {old new : WriterState} {appended : List ℕ → Type 0} (F : Mode → Format V) (seen : A → V) (value : Option A)
    → value ≡ None → Writes gives flag false result old new appended
    → Writes gives (λ mode. option mode (F mode)) (option_map seen value) result old new appended
unfolding sequence unit
absent_written {gives = gives} {V = V} {result = result} {old = old} {new = new} {appended = appended} F seen
    value absent w =
    let written : Writes gives (λ mode. option mode (F mode)) None result old new appended =
    Writes-as (λ _ k. inl k) (λ b h. record {
      prefix = b;
      suffix = [];
      whole_is = sym (append-nil b);
      first_is = h;
      second_is = refl;
    })
    (λ b h. (h.prefix, h.first_is, ap length (prefix_alone b h.prefix h.suffix h.whole_is h.second_is)))
    (λ b h. (h.prefix, h.first_is)) w in
    subst (λ (v : Option V). Writes gives (λ mode. option mode (F mode)) v result old new appended)
    (sym (ap (option_map seen) absent)) written
