-- Integers of variable length are read as their first byte, and then the bytes that it says follow.
use Rattle.std.specs.Prelude.{◌≡◌, ℕ, ◌+◌, ◌-◌, ◌≤◌, List, [], ◌∷◌, ◌++◌, length, take, drop, Bool, IsTrue, Ok, Err}
use Rattle.std.specs.Prelude.{Result, IsErrAnd, refl, ◌<◌}
use Rattle.std.proofs.Common.{sym, ◌∙◌, ap, ap₂, subst, arith, inl, inr}
use Rattle.std.proofs.lemmas.List.{append-nil, length-take-le, take_all, length-append}
use Rattle.speedy_base.specs.declared.error.Error.{Error}
use Rattle.speedy_base.specs.declared.error.ErrorKind.TheVariants as kinds
use Rattle.speedy_base.specs.Digits.{AreBytes, EncodesNumber, number}
use Rattle.speedy_base.specs.DigitsLemmas.{EncodesNumber-is_one_byte}
use Rattle.speedy_base.specs.Mode.{Mode}
use Rattle.speedy_layout.specs.Codes.{ReadsWider, coding, Accepts-exact, Accepts-demanded}
use Rattle.speedy_layout.specs.Sequences.{sequence}
use Rattle.speedy_layout.specs.Numbers.{unsigned_number}
use Rattle.speedy_layout.specs.Texts.{raw_bytes}
use Rattle.speedy_layout.specs.Varint.{varint, IsFirstByte, StartsVarint, StartsVarint-same, varint-starts, IsFewest}
use Rattle.speedy_layout.specs.Varint.{VarintParts, varint_code, first_byte, first_byte_code, low_first}
use Rattle.speedy_layout.specs.Varint.{prefixed_digits, prefixed_asks, varint_is_code, varint-chosen, prefixed-is}
use Rattle.speedy_layout.specs.Varint.{prefixed-encoded, varint_laws}
use Rattle.speedy_read.specs.Reading.{ReaderKind, ReaderState, IsTold, Undecodable, Reads, Peeks}
use Rattle.speedy_read.specs.ReadingLemmas.{tells_still, KeptByPeek-after, part_refused, Peeks-passed}
use Rattle.speedy_read.specs.Sequences.{Composes, sequence_composes, refused_first, refused_second, got_both}
use Rattle.speedy_read.specs.Sequences.{peek_refused_first}
use Rattle.speedy_read.specs.Codes.{got_covered, code_refused, code_read, code_not_written, exact_code_read}
use Rattle.speedy_read.specs.Codes.{refused_covered, unaccepted, peek_refused_covered, codes_cover}
use Rattle.speedy_base.specs.Error.{error_of}
use Rattle.speedy_read.proofs.ByteLemmas.{short_of}
use Rattle.speedy_read.proofs.NumberLemmas.{bytes_cover_digits}
use Rattle.speedy_base.specs.declared.endianness.Endianness.TheVariants.{LittleEndian}

-- more bytes than the number needs are read as it, and not written
reads_wider : {first n : ℕ} {tail : List ℕ} → VarintParts first tail n → (IsFewest (length tail) n → ⊥)
    → ReadsWider varint_code
reads_wider {n = n} {tail = tail} parts not_fewest = record {
  code = ((length tail, parts.low), parts.rest);
  value = n;
  meant = parts.value_is;
  not_chosen = λ h. not_fewest h.0;
}

-- a first byte and its digits are read one after the other
prefixed_composes : (mode : Mode)
    → Composes (first_byte.format mode) (λ p. unsigned_number p.0 (low_first mode))
    (prefixed_digits.format mode) (λ p n. (p, n))
prefixed_composes mode = sequence_composes (λ p. p) (prefixed_asks mode) (λ u w s h. refl)

-- a byte below 128 holds a number by itself
short_parts : (first : ℕ) → first < 128 → VarintParts first [] first
unfolding number
short_parts first short = record {
  low = first;
  rest = 0;
  first_is = record { at_most_eight = omega arith; low_is_below = short; byte_is = omega arith };
  tail_is = record { width_is = refl; are_bytes = tt; value_is = refl };
  value_is = omega arith;
}

short_fewest : (first : ℕ) → first < 128 → IsFewest 0 first
short_fewest first short = record {
  at_most_eight = omega arith;
  enough = omega (arith, short);
  no_shorter = λ j l. absurd (omega arith);
}

module _ {E : Type 0} {gives : Error → E → Type 0} {eof : E → Bool} (mode : Mode) {old : ReaderState} where
  -- where the first byte is refused, the integer is
  pub varint_first_refused : {new : ReaderState} {A B : Type 0} {seen : A → ℕ} {seen' : B → ℕ} {e : E}
      {result : Result B E} → IsErrAnd result (λ x. x ≡ e)
      → Reads gives eof seen (unsigned_number 1 mode) (Err e) old new
      → Reads gives eof seen' (varint mode) result old new
  unfolding varint
  varint_first_refused passed r =
      code_refused mode varint_code {seen = λ (p : (ℕ × ℕ) × ℕ). p} passed
      (refused_first (prefixed_composes mode) {seen = λ (p : ℕ × ℕ). p} refl
      (code_refused mode first_byte_code refl r))

  pub varint_first_not_peeked : {new : ReaderState} {A B : Type 0} {seen : A → ℕ} {seen' : B → ℕ} {e : E}
      {result : Result B E} → IsErrAnd result (λ x. x ≡ e)
      → Peeks gives eof seen (unsigned_number 1 mode) (Err e) old new
      → Peeks gives eof seen' (varint mode) result old new
  unfolding varint
  varint_first_not_peeked passed r =
      peek_refused_covered (codes_cover mode varint_code) {seen = λ (p : (ℕ × ℕ) × ℕ). p} passed
      (peek_refused_first (prefixed_composes mode) {seen = λ (p : ℕ × ℕ). p}
      (peek_refused_covered (codes_cover mode first_byte_code) refl r))

  first_byte_read : {mid : ReaderState} {first : ℕ} (more low : ℕ) → IsFirstByte more low first
      → Reads gives eof (λ n. n) (unsigned_number 1 mode) (Ok first) old mid
      → Reads gives eof (λ (p : ℕ × ℕ). p) (first_byte.format mode) (Ok (more, low)) old mid
  first_byte_read more low h r =
      exact_code_read mode (λ (byte : ℕ) (p : ℕ × ℕ). IsFirstByte p.0 p.1 byte) (λ kind. ⊥) h r

  -- where the bytes after it are, the integer is
  pub varint_rest_refused : {mid new : ReaderState} {first : ℕ} (more : ℕ) → StartsVarint more first
      → Reads gives eof (λ n. n) (unsigned_number 1 mode) (Ok first) old mid
      → {A B : Type 0} {seen : A → List ℕ} {seen' : B → ℕ} {e : E} {result : Result B E} {size : ℕ} → size ≡ more
      → IsErrAnd result (λ x. x ≡ e)
      → Reads gives eof seen (raw_bytes size) (Err e) mid new → Reads gives eof seen' (varint mode) result old new
  unfolding varint
  varint_rest_refused {mid = mid} {new = new} more starts one {seen = seen} {e = e} sized passed r =
      code_refused mode varint_code {seen = λ (p : (ℕ × ℕ) × ℕ). p} passed
      (refused_second (prefixed_composes mode) (first_byte.laws mode)
      (first_byte_read more starts.0 starts.1 one) refl
      (refused_covered (bytes_cover_digits more (low_first mode)) {seen' = λ (n : ℕ). n} refl
      (subst (λ (n : ℕ). Reads gives eof seen (raw_bytes n) (Err e) mid new) sized r)))

  -- the first byte, the digits after it and their number
  prefixed_read : {mid new : ReaderState} {first n : ℕ} {A : Type 0} {seen : A → List ℕ} {x : A}
      → (parts : VarintParts first (seen x) n)
      → Reads gives eof (λ n. n) (unsigned_number 1 mode) (Ok first) old mid → (size : ℕ)
      → Reads gives eof seen (raw_bytes size) (Ok x) mid new
      → Reads gives eof (λ (p : (ℕ × ℕ) × ℕ). p) (prefixed_digits.format mode)
      (Ok ((length (seen x), parts.low), parts.rest)) old new
  unfolding raw_bytes unsigned_number
  prefixed_read {seen = seen} {x = x} parts one size r =
      got_both (prefixed_composes mode) (first_byte_read (length (seen x)) parts.low parts.first_is one)
      (got_covered {seen' = λ (n : ℕ). n} {y = parts.rest}
      (λ s is. subst (EncodesNumber (length (seen x)) LittleEndian parts.rest) is.0 parts.tail_is) r) refl

  -- make the integer, if they are the fewest or no canonical encoding is demanded
  pub varint_answered : {mid new : ReaderState} {first n : ℕ} {A : Type 0} {seen : A → List ℕ} {x : A}
      → VarintParts first (seen x) n → (IsTrue mode.strict → IsFewest (length (seen x)) n)
      → Reads gives eof (λ n. n) (unsigned_number 1 mode) (Ok first) old mid → (size : ℕ)
      → Reads gives eof seen (raw_bytes size) (Ok x) mid new → Reads gives eof (λ n. n) (varint mode) (Ok n) old new
  unfolding varint
  varint_answered {n = n} {seen = seen} {x = x} parts fewest one size r =
      code_read mode varint_code {seen' = λ (n : ℕ). n} parts.value_is
      (λ strict. varint-chosen n parts (fewest strict)) (prefixed_read parts one size r)

  -- a first byte that says that none follows is the integer
  pub short_answered : {mid : ReaderState} {first : ℕ} → first < 128
      → Reads gives eof (λ n. n) (unsigned_number 1 mode) (Ok first) old mid
      → Reads gives eof (λ n. n) (varint mode) (Ok first) old mid
  unfolding varint unsigned_number short_parts
  short_answered {first = first} short one =
      let parts = short_parts first short in
      let encodes = (prefixed_digits.format mode).encodes ((0, first), 0) in
      let stands : (s : List ℕ) → (unsigned_number 1 mode).encodes first s → encodes s =
      λ s h. subst encodes (sym (EncodesNumber-is_one_byte mode.order first s h))
      (prefixed-encoded mode 0 first 0 first [] parts.first_is parts.tail_is) in
      code_read mode varint_code {seen = λ (p : (ℕ × ℕ) × ℕ). p} {seen' = λ (n : ℕ). n} parts.value_is
      (λ strict. varint-chosen first parts (short_fewest first short)) (got_covered stands one)

  -- and are refused where one is demanded and they are not
  pub varint_not_written : {mid new : ReaderState} {first n : ℕ} {A : Type 0} {seen : A → List ℕ} {x : A} {e : E}
      → VarintParts first (seen x) n → IsTrue mode.strict → (IsFewest (length (seen x)) n → ⊥)
      → gives (error_of kinds.NotWrittenForm) e
      → Reads gives eof (λ n. n) (unsigned_number 1 mode) (Ok first) old mid → (size : ℕ)
      → Reads gives eof seen (raw_bytes size) (Ok x) mid new
      → Reads gives eof (λ n. n) (varint mode) (Err e) old new
  unfolding varint
  varint_not_written {seen = seen} {x = x} parts strict not_fewest given one size r =
      code_not_written mode varint_code (prefixed_digits.laws mode) (reads_wider parts not_fewest) strict
      (λ v h. not_fewest (subst (IsFewest (length (seen x))) ((varint_is_code mode).chosen_means (
        (length (seen x), parts.low),
        parts.rest,
      ) v h ∙ sym parts.value_is) h.0)) given (prefixed_read parts one size r)

-- room for what follows a first byte
pub rest_sized : (more first : ℕ) (room : List ℕ) → length room ≡ 8 → StartsVarint more first
    → length (take more room) ≡ more
rest_sized more first room l h = let small = h.1.at_most_eight in length-take-le more room (omega arith)

-- ---- peeks

-- room for a first byte too
pub whole_sized : (more first : ℕ) (room : List ℕ) → length room ≡ 9 → StartsVarint more first
    → length (take (more + 1) room) ≡ more + 1
whole_sized more first room l h = let small = h.1.at_most_eight in length-take-le (more + 1) room (omega arith)

-- an encoding that begins with this first byte has n bytes in all
whole_length : (mode : Mode) (more first n : ℕ) (bytes rest others : List ℕ) → StartsVarint more first
    → (varint mode).encodes n bytes → bytes ++ rest ≡ first ∷ others → length bytes ≡ more + 1
whole_length mode more first n bytes rest others starts h e =
    let start = varint-starts mode n bytes h in
    let joined : start.0 ∷ (start.1 ++ rest) ≡ first ∷ others = ap (λ x. x ++ rest) (sym start.2) ∙ e in
    let firsts : start.0 ≡ first = (cc) in
    let same =
    StartsVarint-same more (length start.1) first starts (subst (StartsVarint (length start.1)) firsts start.3) in
    ap length start.2 ∙ omega arith

-- bytes after the first one are those of the whole
begins : (bytes more others : List ℕ) (first : ℕ) → 1 ≤ length bytes → bytes ++ more ≡ first ∷ others
    → bytes ++ more ≡ (first ∷ take (length bytes - 1) (drop 1 bytes)) ++ more
begins [] more others first l e = absurd (omega arith)
begins (b ∷ bytes) more others first l e =
    let heads : b ≡ first = (cc) in
    ap₂ (λ c x. c ∷ (x ++ more)) heads (sym (take_all (length (b ∷ bytes) - 1) bytes (omega arith)))

-- where fewer bytes follow than the first one says, nothing is malformed
rest_not_malformed : (mode : Mode) (more first : ℕ) (bytes rest : List ℕ) → StartsVarint more first
    → bytes ≡ first ∷ rest → length bytes < more + 1 → (varint mode).malformed bytes → ⊥
unfolding varint coding sequence unsigned_number
rest_not_malformed mode more first bytes rest starts is few (inl (inl (inl h))) = h
rest_not_malformed mode more first bytes rest starts is few (inl (inl (inr h))) =
    let whole : h.code ∷ h.rest ≡ first ∷ rest =
    sym (h.whole_is ∙ ap (λ x. x ++ h.rest) (EncodesNumber-is_one_byte mode.order h.code h.prefix h.code_is)) ∙ is in
    let same : first ≡ h.code = (cc) in
    h.nothing (more, starts.0)
    (Accepts-exact mode.strict _ _ h.code (more, starts.0) (subst (IsFirstByte more starts.0) same starts.1))
rest_not_malformed mode more first bytes rest starts is few (inl (inr h)) = h.1.second_is
rest_not_malformed mode more first bytes rest starts is few (inr h) =
    let p = prefixed-is mode h.code h.prefix h.code_is in
    let whole : p.first ∷ (p.tail ++ h.rest) ≡ first ∷ rest =
    ap (λ x. x ++ h.rest) (sym p.whole_is) ∙ (sym h.whole_is ∙ is) in
    let firsts : p.first ≡ first = (cc) in
    let same =
    StartsVarint-same more h.code.0.0 first starts (subst (StartsVarint h.code.0.0) firsts (h.code.0.1, p.first_is)) in
    let l =
    ap length h.whole_is ∙ (length-append h.prefix h.rest ∙ ap (λ n. n + length h.rest) (ap length p.whole_is)) in
    let w = p.width_is in
    omega arith

module _ {E : Type 0} {gives : Error → E → Type 0} {eof : E → Bool} (mode : Mode) {first : ℕ} where
  -- where the bytes after a first byte are not there, no integer is
  rest_undecodable : {e : E} (more : ℕ) (bytes rest : List ℕ) → StartsVarint more first → bytes ≡ first ∷ rest
      → Undecodable gives eof (raw_bytes (more + 1)) e bytes → Undecodable gives eof (varint mode) e bytes
  unfolding raw_bytes
  rest_undecodable more bytes rest starts is un = record {
    no_prefix = λ n prefix tail split h. un.no_prefix prefix prefix tail split (
      refl,
      whole_length mode more first n prefix tail rest starts h (sym split ∙ is),
    );
    too_short = λ n after h. un.too_short (bytes ++ after) after (
      refl,
      whole_length mode more first n (bytes ++ after) [] (rest ++ after) starts h
          (append-nil (bytes ++ after) ∙ ap (λ x. x ++ after) is),
    );
    malformed =
        λ bad. absurd (rest_not_malformed mode more first bytes rest starts is (short_of (more + 1) bytes un) bad);
    wrong_length = λ wrong.
        absurd (rest_not_malformed mode more first bytes rest starts is (short_of (more + 1) bytes un)
        ((varint_laws mode).wrong_length_malformed bytes wrong));
  }

  -- what remains begins with the byte that was peeked
  first_remaining : {old mid : ReaderState}
      (one : Peeks gives eof (λ n. n) (unsigned_number 1 mode) (Ok first) old mid) → IsTrue old.fixed.tells
      → old.remaining ≡ first ∷ one.answer.rest
  unfolding unsigned_number
  first_remaining one told = one.answer.stands told ∙ ap (λ x. x ++ one.answer.rest)
      (EncodesNumber-is_one_byte mode.order first one.answer.prefix one.answer.prefix_is)

  -- what remains is a first byte, those after it and the rest
  whole_remaining : {A : Type 0} {seen : A → List ℕ} (count : ℕ) {old mid new : ReaderState} {x : A} (more : ℕ)
      (one : Peeks gives eof (λ n. n) (unsigned_number 1 mode) (Ok first) old mid) → count ≡ more + 1
      → (r : Peeks gives eof seen (raw_bytes count) (Ok x) mid new) → IsTrue old.fixed.tells
      → old.remaining ≡ (first ∷ take (length (seen x) - 1) (drop 1 (seen x))) ++ r.answer.rest
  unfolding raw_bytes
  whole_remaining {seen = seen} count {old = old} {x = x} more one sized r told =
      let all = r.answer.stands (tells_still one.kept.fixed told) in
      let bytes = sym r.answer.prefix_is.0 in
      let whole : old.remaining ≡ seen x ++ r.answer.rest =
      sym (one.kept.remaining told) ∙ (all ∙ ap (λ x. x ++ r.answer.rest) bytes) in
      whole ∙ begins (seen x) r.answer.rest one.answer.rest first
      (let l = r.answer.prefix_is.1 in let m = ap length bytes in omega arith) (sym whole ∙ first_remaining one told)

  module _ {A B : Type 0} {seen : A → List ℕ} {seen' : B → ℕ} (count : ℕ) {old mid new : ReaderState} where
    -- where the first byte and those after it are refused, the integer is
    pub rest_not_peeked : {e : E} {result : Result B E} (more : ℕ) → count ≡ more + 1 → StartsVarint more first
        → Peeks gives eof (λ n. n) (unsigned_number 1 mode) (Ok first) old mid → IsErrAnd result (λ x. x ≡ e)
        → Peeks gives eof seen (raw_bytes count) (Err e) mid new
        → Peeks gives eof seen' (varint mode) result old new
    unfolding raw_bytes varint coding sequence unsigned_number
    rest_not_peeked {e = e} more sized starts one passed r = Peeks-passed passed (record {
      kept = KeptByPeek-after one.kept r.kept;
      answer =
          elim r.answer [
            | inl h ↦ inl (
              h.0,
              subst (λ (kind : ReaderKind). IsTrue kind.peeks_ask_memory) one.kept.fixed h.1,
              h.2 ∙ one.answer.no_fault,
            )
            | inr h ↦ inr (part_refused new one.kept.fixed one.answer.no_fault (λ t. t) (λ t. t) (λ kind h. absurd h)
                (λ told because.
                let same = one.kept.remaining told.tells in
                let there : IsTold (raw_bytes count) mid = record {
                  tells = tells_still one.kept.fixed told.tells;
                  are_bytes = subst AreBytes (sym same) told.are_bytes;
                  fit = let l = ap length same in let f = told.fit in omega arith;
                  lends = λ t. absurd (cc);
                } in
                rest_undecodable more old.remaining one.answer.rest starts (first_remaining one told.tells)
                (subst (λ (n : ℕ). Undecodable gives eof (raw_bytes n) e old.remaining) sized
                (subst (Undecodable gives eof (raw_bytes count) e) same (because there))))
                h)
          ];
    })

    -- a first byte and those after it are what the read takes
    pub varint_peeked : {x : A} {y : B} (more : ℕ)
        → Peeks gives eof (λ n. n) (unsigned_number 1 mode) (Ok first) old mid
        → (varint mode).encodes (seen' y) (first ∷ take (length (seen x) - 1) (drop 1 (seen x))) → count ≡ more + 1
        → Peeks gives eof seen (raw_bytes count) (Ok x) mid new → Peeks gives eof seen' (varint mode) (Ok y) old new
    varint_peeked {x = x} more one encoded sized r = record {
      kept = KeptByPeek-after one.kept r.kept;
      answer = record {
        prefix = first ∷ take (length (seen x) - 1) (drop 1 (seen x));
        rest = r.answer.rest;
        prefix_is = encoded;
        stands = whole_remaining count more one sized r;
        no_fault = r.answer.no_fault ∙ one.answer.no_fault;
      };
    }

    -- and are refused where the canonical encoding is demanded and they are not
    pub varint_peek_not_written : {x : A} {n : ℕ} {e : E} (more : ℕ)
        → Peeks gives eof (λ n. n) (unsigned_number 1 mode) (Ok first) old mid
        → VarintParts first (take (length (seen x) - 1) (drop 1 (seen x))) n → IsTrue mode.strict
        → (IsFewest (length (take (length (seen x) - 1) (drop 1 (seen x)))) n → ⊥)
        → gives (error_of kinds.NotWrittenForm) e → count ≡ more + 1
        → Peeks gives eof seen (raw_bytes count) (Ok x) mid new
        → Peeks gives eof seen' (varint mode) (Err e) old new
    unfolding varint coding
    varint_peek_not_written {x = x} {n = n} more one parts strict not_fewest given sized r =
        let tail = take (length (seen x) - 1) (drop 1 (seen x)) in
        record {
          kept = KeptByPeek-after one.kept r.kept;
          answer = inr (inr (record {
            no_fault = r.answer.no_fault ∙ one.answer.no_fault;
            kind = inr (kinds.NotWrittenForm, inl (inr (inr (strict, refl, reads_wider parts not_fewest))), given);
            because = λ told.
                unaccepted mode varint_code (prefixed_digits.laws mode) _
                (prefixed-encoded mode (length tail) parts.low parts.rest first tail parts.first_is parts.tail_is)
                (whole_remaining count more one sized r told.tells)
                (λ v h. not_fewest (subst (IsFewest (length tail)) ((varint_is_code mode).chosen_means (
                  (length tail, parts.low),
                  parts.rest,
                ) v (Accepts-demanded mode.strict varint_code ((length tail, parts.low), parts.rest) v strict h)
                ∙ sym parts.value_is)
                (Accepts-demanded mode.strict varint_code ((length tail, parts.low), parts.rest) v strict h).0))
                (kinds.NotWrittenForm, inr (strict, refl, reads_wider parts not_fewest), given);
          }));
        }
