-- Flags, tags, and values of the format that one chooses.
use Rattle.std.specs.Prelude.{◌≡◌, ℕ, ◌+◌, ◌^◌, ◌<◌, ◌≤◌, Bool, true, false, Option, Some, None, Result, Ok, Err, refl}
use Rattle.std.proofs.Common.{sym, ◌∙◌, subst, arith}
use Rattle.speedy_base.specs.Digits.{digits}
use Rattle.speedy_base.specs.DigitsLemmas.{EncodesNumber-digits}
use Rattle.speedy_base.specs.Mode.{Mode}
use Rattle.speedy_layout.specs.Format.{either_asks, Format}
use Rattle.speedy_layout.specs.Laws.{Codec, Laws-less}
use Rattle.speedy_layout.specs.Codes.{ReadsWider, Codebook, IsCode, coding_codec}
use Rattle.speedy_layout.specs.Numbers.{unsigned_number, unsigned_codec}
use Rattle.speedy_layout.specs.Sequences.{AsksAtMost, sequence, sequence_laws, sequence_written, asks_left, asks_right}
use Rattle.speedy_layout.specs.Sequences.{told_apart}
use Rattle.speedy_layout.specs.Tuples.{unit, unit_codec}

-- ---- flags

-- the bytes of a flag
abbrev pub IsFlag : Bool → ℕ → Type 0
IsFlag true n = 0 < n
IsFlag false n = n ≡ 0

-- how a flag is written
abbrev pub written_flag : Bool → ℕ
written_flag true = 1
written_flag false = 0

-- a byte stands for true unless it is 0, and true is written as 1
abbrev pub flag_code : Codebook ℕ Bool
flag_code = record { means = λ n b. IsFlag b n; chosen = λ n b. n ≡ written_flag b; refusals = λ _. ⊥ }

-- a flag above 1 is read as true, and not written
pub flag_reads_wider : ReadsWider flag_code
flag_reads_wider = record { code = 2; value = true; meant = omega arith; not_chosen = λ e. omega arith }

one_flag : (b c : Bool) (n : ℕ) → IsFlag b n → IsFlag c n → b ≡ c
one_flag true true n h k = refl
one_flag false false n h k = refl
one_flag true false n h k = absurd (omega arith)
one_flag false true n h k = absurd (omega arith)

written_flag_is : (b : Bool) → IsFlag b (written_flag b)
written_flag_is true = omega arith
written_flag_is false = refl

written_flag-below : (b : Bool) → written_flag b < 256 ^ 1
written_flag-below true = omega arith
written_flag-below false = omega arith

pub flag_is_code : (mode : Mode) → IsCode flag_code (unsigned_number 1 mode)
unfolding unsigned_number
flag_is_code mode = record {
  one_meaning = λ n v w h k. one_flag v w n h k;
  one_chosen = λ _ n m v h k. h ∙ sym k;
  tells = λ e. absurd (cc);
  chosen_means = λ n v h. subst (IsFlag v) (sym h) (written_flag_is v);
  has_chosen = λ v b h. (
    digits mode.order 1 (written_flag v),
    record {
      code = written_flag v;
      code_is = EncodesNumber-digits 1 mode.order (written_flag v) (written_flag-below v);
      stands = refl;
    },
  );
  chosen_shortest = λ _ v b d h k. let l = h.code_is.width_is in let m = k.code_is.width_is in omega arith;
  refusals_own = λ kind h. absurd h;
}

-- a flag: one byte
abbrev pub flag_codec : Codec Bool
flag_codec = coding_codec flag_code (unsigned_codec 1) flag_is_code

abbrev pub flag : Mode → Format Bool
flag = flag_codec.format

-- ---- a value that a flag or a tag chooses

-- what follows one that is true, and one that is false
abbrev pub Branch : Type 0 → Type 0 → Bool → Type 0
Branch V W true = V
Branch V W false = W

abbrev pub branch : {V W : Type 0} → Format V → Format W → (b : Bool) → Format (Branch V W b)
branch L M true = L
branch L M false = M

-- a flag or a tag, then a value of the format that it chooses
abbrev pub variant : {U V W : Type 0} → (U → (b : Bool) × Branch V W b) → Format Bool → Format V → Format W → Format U
variant split tags L M = sequence split tags (either_asks L.asks M.asks) (branch L M)

pub branch_asks : {V W : Type 0} (L : Format V) (M : Format W) (b : Bool)
    → AsksAtMost (branch L M b).asks (either_asks L.asks M.asks)
branch_asks L M true = asks_left L.asks M.asks
branch_asks L M false = asks_right L.asks M.asks

-- its least size is that of the tag, and as many bytes more as each of the two has
abbrev pub variant_codec : {U V W : Type 0} (split : U → (b : Bool) × Branch V W b)
    (join : (b : Bool) → Branch V W b → U) → ((v : U) → join (split v).0 (split v).1 ≡ v) → Codec Bool
    → (first : Codec V) (second : Codec W) (n : ℕ) → n ≤ first.least → n ≤ second.least → Codec U
variant_codec split join suffix tags first second n in_first in_second = record {
  least = tags.least + n;
  format = λ f. variant split (tags.format f) (first.format f) (second.format f);
  laws = λ f. sequence_laws (tags.laws f)
      (elim [ true ↦ Laws-less in_first (first.laws f) | false ↦ Laws-less in_second (second.laws f) ])
      (branch_asks (first.format f) (second.format f)) (told_apart split join suffix);
  same_written = λ f strict. sequence_written split _ _ (tags.same_written f strict)
      (elim [ true ↦ first.same_written f strict | false ↦ second.same_written f strict ]);
}

-- ---- options and results

-- a value that may be absent: true and the value, or false
abbrev pub option_parts : {V : Type 0} → Option V → (b : Bool) × Branch V (Unit {0}) b
option_parts (Some v) = (true, v)
option_parts None = (false, tt)

abbrev pub option_join : {V : Type 0} → (b : Bool) → Branch V (Unit {0}) b → Option V
option_join true v = Some v
option_join false _ = None

abbrev pub option : {V : Type 0} → Mode → Format V → Format (Option V)
option mode L = variant option_parts (flag mode) L unit

-- one of two values: true and the first, or false and the second
abbrev pub alternative_parts : {V W : Type 0} → Result V W → (b : Bool) × Branch V W b
alternative_parts (Ok v) = (true, v)
alternative_parts (Err w) = (false, w)

abbrev pub alternative_join : {V W : Type 0} → (b : Bool) → Branch V W b → Result V W
alternative_join true v = Ok v
alternative_join false w = Err w

abbrev pub alternative : {V W : Type 0} → Mode → Format V → Format W → Format (Result V W)
alternative mode L M = variant alternative_parts (flag mode) L M

pub option_back : {V : Type 0} (v : Option V) → option_join (option_parts v).0 (option_parts v).1 ≡ v
option_back (Some v) = refl
option_back None = refl

pub alternative_back : {V W : Type 0} (v : Result V W)
    → alternative_join (alternative_parts v).0 (alternative_parts v).1 ≡ v
alternative_back (Ok v) = refl
alternative_back (Err w) = refl

abbrev pub option_codec : {V : Type 0} → Codec V → Codec (Option V)
option_codec value =
    variant_codec option_parts option_join option_back flag_codec value unit_codec 0 (omega arith) (omega arith)

abbrev pub alternative_codec : {V W : Type 0} → Codec V → Codec W → Codec (Result V W)
alternative_codec first second =
    variant_codec alternative_parts alternative_join alternative_back flag_codec first second 0 (omega arith)
    (omega arith)
