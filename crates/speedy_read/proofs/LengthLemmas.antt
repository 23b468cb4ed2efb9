-- Parts that tell a length are read, and then a value of that length.
use Rattle.std.specs.Prelude.{◌≡◌, ℕ, List, Bool, Result, Ok, Err, refl}
use Rattle.speedy_base.specs.declared.error.Error.{Error}
use Rattle.speedy_base.specs.Mode.{Mode}
use Rattle.speedy_layout.specs.Codecs.{Codec}
use Rattle.speedy_layout.specs.Lengths.{Counting, told_codec, told_length, with_length_codec}
use Rattle.speedy_layout.specs.Format.{Format}
use Rattle.speedy_read.specs.Reading.{ReaderState, Reads}
use Rattle.speedy_read.specs.ReadingLemmas.{refused_as, got_as}
use Rattle.speedy_read.specs.Sequences.{Composes, sequence_composes}

pub with_length_composes : {N B V : Type 0} (is_told : N → Type 0) (told : N → ℕ) (numbers : B → N) (field : List ℕ)
    (before : Codec B) (counting : Counting V) (f : Mode)
    → Composes ((told_codec is_told numbers before).format f) (λ b. (counting.of_length (told (numbers b))).format f)
    ((with_length_codec is_told told numbers field before counting).format f) (λ b v. (b, v))
with_length_composes {B = B} {V = V} is_told told numbers field before counting f =
    let c = sequence_composes (λ (p : B × V). p) {join = λ (b : B) (v : V). (b, v)}
    {M = λ b. told_length field ((counting.of_length (told (numbers b))).format f)}
    (λ b. counting.within f (told (numbers b))) (λ b v s h. refl) in
    record {
      joins = c.joins;
      splits = c.splits;
      names_first = c.names_first;
      names_second = c.names_second;
      malformed = c.malformed;
      wrong_length = c.wrong_length;
      asks_first = c.asks_first;
      asks_second = c.asks_second;
    }

-- what was read is also read where the same is seen of it in another way
pub shown_as : {E A V : Type 0} {gives : Error → E → Type 0} {eof : E → Bool} {seen seen' : A → V} {F : Format V}
    {result : Result A E} {old new : ReaderState} → ((x : A) → seen' x ≡ seen x)
    → Reads gives eof seen F result old new → Reads gives eof seen' F result old new
shown_as {result = Ok x} same r = got_as (same x) r
shown_as {result = Err e} same r = refused_as refl r
