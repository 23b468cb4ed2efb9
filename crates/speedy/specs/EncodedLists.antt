-- Lists that lie where they were read: which list bytes encode, and how many bytes items have.
use Rattle.std.specs.Prelude.{◌≡◌, ℕ, List, [], length, IsTrue, ◌⊎◌, Result, MatchResult, Option, MatchOption}
use Rattle.std.proofs.Math.Logic.{∥∥₁_elim, ∥∥₁_prop}
use Rattle.std.specs.Coded.{Coded-set, coded_list, coded_ℕ}
use mathlib.Core.HLevel.{Σ_prop_path}
use Rattle.std.proofs.Common.{sym, ◌∙◌, refl}
use Rattle.speedy_base.specs.declared.endianness.Endianness.{Endianness}
use Rattle.speedy_base.specs.declared.error.Error.{Error}
use Rattle.speedy_base.specs.declared.error.ErrorKind.TheVariants as kinds
use Rattle.speedy_base.specs.Error.{error_of, Errors}
use Rattle.speedy_base.specs.Mode.{Mode, plain_mode}
use Rattle.speedy_layout.specs.Codecs.{Codec}
use Rattle.speedy_layout.specs.Format.{Each}
use Rattle.speedy_layout.specs.Lists.{each_decodes, repeat}
use Rattle.speedy_read.specs.WaysOfReading.{Counts, RefusesBufferIf}
use Rattle.speedy_write.specs.Writing.{WriterState, WritesAs}
use Rattle.speedy.specs.InPlace.{InPlaceCodec}
use Rattle.speedy.specs.Prefixes.{BeginsWithNone}

-- the bytes are an encoding of each of so many items, one after another
abbrev pub EncodesItems : {V : Type 0} → Codec V → Endianness → ℕ → List V → List ℕ → Type 0
EncodesItems codec order count items bytes =
    (length items ≡ count) × Each (codec.format (plain_mode order)).encodes items bytes

-- the list of so many items whose encodings the bytes are, one after another
abbrev pub IsEncodedList : {V : Type 0} → Codec V → Endianness → ℕ → List ℕ → Type 0
IsEncodedList {V = V} codec order count bytes = (items : List V) × ∥ EncodesItems codec order count items bytes ∥₁

-- there is at most one, since what is seen of an item is data
pub one_list : {V : Type 0} (item : InPlaceCodec V) (order : Endianness) (count : ℕ) (bytes : List ℕ) (vs ws : List V)
    → ∥ EncodesItems item.codec order count vs bytes ∥₁ → ∥ EncodesItems item.codec order count ws bytes ∥₁ → vs ≡ ws
one_list item order count bytes vs ws h k =
    let same = Coded-set (coded_list item.coded) vs ws in
    ∥∥₁_elim h same (λ x. ∥∥₁_elim k same (λ y.
    (each_decodes (item.codec.laws (plain_mode order)) vs ws bytes bytes [] [] (x.0 ∙ sym y.0) x.1 y.1 refl).0))

pub list_once : {V : Type 0} (item : InPlaceCodec V) (order : Endianness) (count : ℕ) (bytes : List ℕ)
    → IsProp (IsEncodedList item.codec order count bytes)
list_once item order count bytes = λ x y. Σ_prop_path (λ _. ∥∥₁_prop) (one_list item order count bytes x.0 y.0 x.1 y.1)

-- it has so many items
pub counted : {V : Type 0} (codec : Codec V) (order : Endianness) (count : ℕ) (bytes : List ℕ)
    (list : IsEncodedList codec order count bytes) → length list.0 ≡ count
counted codec order count bytes list = ∥∥₁_elim list.1 (Coded-set coded_ℕ _ _) (λ h. h.0)

-- What is said of so many items at the front of bytes: how many bytes they have; or what the bytes are refused with, or
-- that memory lacks, for items that take some.
abbrev pub Measures : {E V : Type 0} → Errors E → Codec V → Mode → ℕ → Result ℕ E → List ℕ → Type 0
Measures {V = V} errors codec mode count result bytes =
    let format = repeat count (codec.format mode) in
    MatchResult result (λ size. (items : List V) × Counts (format.encodes items) size bytes)
    (λ e. (errors.from_gives (error_of kinds.OutOfMemory) e × IsTrue format.asks.memory)
    ⊎ RefusesBufferIf errors.from_gives errors.eof (Unit {0}) format.names format e bytes)

-- What the write of the value says that bytes begin with: how many bytes encode it, and the write of it.
abbrev pub WritesFirst : {E S V : Type 0} (gives : Error → E → Type 0) (state : S → WriterState)
    (appends : S → List ℕ → S → Type 0) → Codec V → Endianness → List ℕ → Option (ℕ × Result (Unit {0}) E) → S → S
    → Type 0
WritesFirst {V = V} gives state appends codec order bytes result old new =
    let format = codec.format (plain_mode order) in
    MatchOption result (IsTrue format.asks.memory ⊎ BeginsWithNone format bytes)
    (λ done. (v : V) × Counts (format.encodes v) done.0 bytes
    × WritesAs gives state appends (λ w. w) codec.format v done.1 old new)
