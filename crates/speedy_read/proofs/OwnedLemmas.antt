-- Reads of what owns its content.
use Rattle.std.specs.Prelude.{◌≡◌, Bool, Result, Ok, Err, refl}
use Rattle.std.proofs.Common.{inl}
use Rattle.speedy_base.specs.declared.error.ErrorKind.TheVariants as kinds
use Rattle.speedy_base.specs.declared.error.Error.{Error}
use Rattle.speedy_base.specs.Error.{error_of}
use Rattle.speedy_layout.specs.Format.{Format}
use Rattle.speedy_layout.specs.Owned.{owned_content}
use Rattle.speedy_layout.specs.Sequences.{asks_memory}
use Rattle.speedy_read.specs.Reading.{ReaderState, Kept, Reads}
use Rattle.speedy_read.specs.Codes.{Covers, refused_covered, got_covered}

owned_covers : {V : Type 0} {L : Format V} → Covers L (owned_content L)
unfolding owned_content
owned_covers = record {
  under = λ v s h. (v, h);
  names = λ kind h. h;
  malformed = λ bytes _ h. inl h;
  wrong_length = λ bytes _ h. inl h;
  asks = asks_memory;
}

-- what covers another format covers it where both are owned
pub owned_covers_owned : {U V : Type 0} {L : Format U} {N : Format V} → Covers L N
    → Covers (owned_content L) (owned_content N)
unfolding owned_content
owned_covers_owned c = record {
  under = c.under;
  names = c.names;
  malformed = c.malformed;
  wrong_length = c.wrong_length;
  asks = record { lending = c.asks.lending; hashed = c.asks.hashed; memory = λ t. t };
}

-- what is owned is read as its content
pub owned_read : {E : Type 0} {gives : Error → E → Type 0} {eof : E → Bool} {V : Type 0} {L : Format V}
    {old new : ReaderState} {A : Type 0} {seen' : A → V} {result : Result A E} → Reads gives eof seen' L result old new
    → Reads gives eof seen' (owned_content L) result old new
unfolding owned_content
owned_read {result = Ok x} r = got_covered (λ s h. h) r
owned_read {result = Err e} r = refused_covered owned_covers refl r

-- want of memory for it
pub memory_refused : {E : Type 0} {gives : Error → E → Type 0} {eof : E → Bool} {V : Type 0} (L : Format V)
    {old new : ReaderState} {A : Type 0} {seen' : A → V} {e : E} → Kept old new → new.faults ≡ old.faults
    → gives (error_of kinds.OutOfMemory) e → Reads gives eof seen' (owned_content L) (Err e) old new
unfolding owned_content
memory_refused L k clean g = record { kept = k; answer = inl (inl (g, inl refl, clean)) }
