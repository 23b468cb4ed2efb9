-- Reads of values and of items make reads of all of the bytes.
use Rattle.std.specs.Prelude.{map, ◌≡◌, ℕ, ◌+◌, ◌*◌, ◌<◌, ◌≤◌, List, [], ◌∷◌, ◌++◌, length, Bool, false}
use Rattle.std.specs.Prelude.{⊤, IsTrue, ◌⊎◌, Option, Some, None, MatchOption, Result}
use Rattle.std.specs.Prelude.{Ok, Err, IsErrAnd, refl}
use Rattle.std.specs.Result.{is_ok, is_err}
use Rattle.std.specs.Prelude.{cond}
use Rattle.std.proofs.Common.{sym, ◌∙◌, ap, subst, arith, inl, inr}
use Rattle.std.proofs.lemmas.Bool.{true≢false, cases_lt}
use Rattle.std.proofs.lemmas.Nat.{mul-le}
use Rattle.std.proofs.lemmas.List.{append-nil, append_assoc, length-append, nil_from_length, map-append, length-map}
use Rattle.speedy_base.specs.declared.error.ErrorKind.{ErrorKind}
use Rattle.speedy_base.specs.declared.error.ErrorKind.TheVariants as kinds
use Rattle.speedy_base.specs.declared.error.Error.{Error}
use Rattle.speedy_base.specs.declared.device.Faults.{Faults}
use Rattle.speedy_base.specs.MemoryDevices.{no_faults}
use Rattle.speedy_base.specs.Mode.{Mode}
use Rattle.speedy_base.specs.Error.{error_of, IsNamed-more, passed_on}
use Rattle.speedy_layout.specs.Codes.{coding}
use Rattle.speedy_layout.specs.Format.{Format, Each, Parts, Parts-joined}
use Rattle.speedy_layout.specs.Laws.{Laws}
use Rattle.speedy_layout.specs.Lengths.{Counting, list_counting}
use Rattle.speedy_layout.specs.Lists.{repeat, vector}
use Rattle.speedy_layout.specs.Numbers.{unsigned_number}
use Rattle.speedy_layout.specs.Owned.{borrowed_content, owned_content}
use Rattle.speedy_layout.specs.Rests.{EndsInItem, rest, rest_misfits}
use Rattle.speedy_layout.specs.Sequences.{asks_left, asks_right, sequence}
use Rattle.speedy_layout.specs.Texts.{each_byte_is, raw_bytes, text_of_length}
use Rattle.speedy_layout.specs.Tuples.{pair}
use Rattle.speedy_layout.specs.Wholes.{IsCut, Misfits, followed_misfits, value_misfits}
use Rattle.speedy_layout.specs.Codecs.{Codec}
use Rattle.speedy_read.specs.Reading.{ReaderKind, ReaderState, Kept, IsTold, refusing_kinds, IsEnd, Excused}
use Rattle.speedy_read.specs.Reading.{Undecodable, Reads}
use Rattle.speedy_read.specs.ReadingLemmas.{Kept-same, Kept-after, IsTold-after, no_parts}
use Rattle.speedy_read.specs.ReadingLemmas.{ReadSoFar, none_so_far, prefixes_nest}
use Rattle.speedy_read.specs.Wholes.{HaveSize, InMemory, ReadsWhole}
use Rattle.speedy_read.proofs.ListLemmas.{next_item, item_more}

-- no call of a device fails in a read of bytes in memory, so what excuses it is want of memory
memory_excused : {E : Type 0} (gives : Error → E → Type 0) (takes : Bool) (e : E) (old new : ReaderState)
    → old.fixed.asks_memory ≡ false → old.faults ≡ no_faults → new.faults ≡ no_faults
    → Excused gives takes e old new → gives (error_of kinds.OutOfMemory) e × IsTrue takes
memory_excused gives takes e old new never before since (inl (h, inl t, _)) = (h, t)
memory_excused gives takes e old new never before since (inl (h, inr t, _)) = absurd (true≢false (sym t ∙ never))
memory_excused gives takes e old new never before since (inr fault) =
    let a = ap (λ (f : Faults). f.count) before in
    let b = ap (λ (f : Faults). f.count) since in
    absurd (elim fault.0 [ inl more ↦ omega arith | inr most ↦ omega arith ])

-- why no value has all of the bytes, where a part was undecodable
pub record WhyNot {E V : Type 0} (gives : Error → E → Type 0) (eof : E → Bool) (F : Format V) (misfits : Misfits)
    (e : E) (bytes : List ℕ) : Type 0 where
  pub none : (v : V) → F.encodes v bytes → ⊥
  pub many : misfits.too_many bytes → gives (error_of kinds.OutOfRangeLength) e
  pub few : misfits.too_few bytes → IsTrue (eof e)

module _ {E : Type 0} {gives : Error → E → Type 0} {eof : E → Bool} {V B : Type 0} {F : Format V} {misfits : Misfits}
    {seen : B → V} {old : ReaderState} where
  -- what `?` passes on is refused as it was
  pub ReadsWhole-passed : {e : E} {result : Result B E} {new : ReaderState} → IsErrAnd result (λ x. x ≡ e)
      → ReadsWhole gives eof seen F misfits (Err e) old new → ReadsWhole gives eof seen F misfits result old new
  ReadsWhole-passed {e = e} {result = result} {new = new} passed r =
      subst (λ (x : Result B E). ReadsWhole gives eof seen F misfits x old new) (passed_on result e passed) r

  -- another value of the same bytes is read, or refused, where the same is seen of it
  pub whole_as : {A : Type 0} {first : A → V} {x : A} {y : B} {new : ReaderState} → seen y ≡ first x
      → ReadsWhole gives eof first F misfits (Ok x) old new → ReadsWhole gives eof seen F misfits (Ok y) old new
  whole_as same r =
      record { kept = r.kept; answer = subst (λ (v : V). F.encodes v old.remaining) (sym same) r.answer }

  pub not_whole_as : {A : Type 0} {first : A → V} {e : E} {result : Result B E} {new : ReaderState}
      → IsErrAnd result (λ x. x ≡ e) → ReadsWhole gives eof first F misfits (Err e) old new
      → ReadsWhole gives eof seen F misfits result old new
  not_whole_as passed r = ReadsWhole-passed passed (record { kept = r.kept; answer = r.answer })

  -- a part L that is refused from `mid` on, so that the bytes are those of no value
  pub part_not_whole : {A U : Type 0} {part : A → U} {L : Format U} {e : E} {result : Result B E}
      {mid new : ReaderState}
      → IsErrAnd result (λ x. x ≡ e) → Kept old mid → InMemory mid → InMemory new
      → (IsTrue L.asks.memory → IsTrue F.asks.memory) → (IsTrue L.asks.lending → IsTrue F.asks.lending)
      → ((kind : ErrorKind) → L.names kind → F.names kind)
      → (IsTold F old → Undecodable gives eof L e mid.remaining → WhyNot gives eof F misfits e old.remaining)
      → Reads gives eof part L (Err e) mid new → ReadsWhole gives eof seen F misfits result old new
  part_not_whole {L = L} {e = e} {mid = mid} {new = new} passed kept before since memory lends names why r =
      ReadsWhole-passed passed (record {
        kept = Kept-after kept r.kept;
        answer = elim r.answer [
          | inl excused ↦
              let want = memory_excused gives L.asks.memory e mid new before.asks_no_memory before.no_fault
              since.no_fault excused in
              inl (want.0, memory want.1)
          | inr refused ↦ inr (record {
            kind = elim refused.kind [
              | inl ended ↦ inl (subst (λ (kind : ReaderKind). IsEnd gives eof kind.ends_by_device e) kept.fixed ended)
              | inr named ↦ inr (IsNamed-more gives {names = refusing_kinds L mid.fixed.lends}
                  {more = λ kind. refusing_kinds F old.fixed.lends kind ⊎ (kind ≡ kinds.OutOfRangeLength)} e
                  (λ kind h. inl (as_part kind h)) named)
            ];
            because = λ told. (why told (refused.because (IsTold-after kept lends told))).none;
            too_many = λ told. (why told (refused.because (IsTold-after kept lends told))).many;
            too_few = λ told. (why told (refused.because (IsTold-after kept lends told))).few;
          })
        ];
      }) where
        as_part : (kind : ErrorKind) → refusing_kinds L mid.fixed.lends kind → refusing_kinds F old.fixed.lends kind
        as_part kind (inl h) = inl (names kind h)
        as_part kind (inr h) =
            inr (lends h.0, subst (λ (kind : ReaderKind). kind.lends ≡ false) kept.fixed h.1, h.2)

  -- the bytes are too many or too few, which are refused as a length
  pub length_not_whole : {e : E} {new : ReaderState} → gives (error_of kinds.OutOfRangeLength) e → Kept old new
      → (IsTold F old → (v : V) → F.encodes v old.remaining → ⊥) → (misfits.too_few old.remaining → ⊥)
      → ReadsWhole gives eof seen F misfits (Err e) old new
  length_not_whole given kept none enough = record {
    kept = kept;
    answer = inr (record {
      kind = inr (kinds.OutOfRangeLength, inr refl, given);
      because = none;
      too_many = λ told many. given;
      too_few = λ told few. absurd (enough few);
    });
  }

-- ---- values of a layout

-- where a value was read, the bytes are not cut within one
uncut : {E : Type 0} {gives : Error → E → Type 0} {eof : E → Bool} {V A : Type 0} {F : Format V} {seen : A → V}
    {strict : Bool} {least : ℕ} → Laws strict least F → {x : A} {old new : ReaderState} → InMemory old
    → Reads gives eof seen F (Ok x) old new → IsCut F old.remaining → ⊥
uncut laws {x = x} {old = old} {new = new} before r cut =
    let got = r.answer in
    let whole = old.remaining ++ cut.more in
    let joined = sym (append_assoc got.prefix new.remaining cut.more)
    ∙ (ap (λ s. s ++ cut.more) (sym (got.taken before.tells)) ∙ sym (append-nil whole)) in
    let same = laws.decodes _ cut.value got.prefix whole (new.remaining ++ cut.more) [] got.prefix_is cut.encoded
    joined in
    cut.some (no_parts new.remaining cut.more same.2).1

module _ {E : Type 0} {gives : Error → E → Type 0} {eof : E → Bool} {V A : Type 0} {F : Format V} {seen : A → V}
    {strict : Bool} {least : ℕ} (laws : Laws strict least F) {old new : ReaderState} where
  pub value_refused : {e : E} {result : Result A E} → IsErrAnd result (λ x. x ≡ e) → InMemory old → InMemory new
      → Reads gives eof seen F (Err e) old new → ReadsWhole gives eof seen F (value_misfits F) result old new
  value_refused passed before since r =
      part_not_whole passed Kept-same before since (λ t. t) (λ t. t) (λ kind h. h)
      (λ told un. record {
        none = λ v h. un.no_prefix v old.remaining [] (sym (append-nil old.remaining)) h;
        many = λ h.
            elim h [
              | inl wrong ↦ un.wrong_length wrong
              | inr on ↦ absurd (un.no_prefix on.value on.prefix on.rest on.whole_is on.encoded)
            ];
        few = λ cut. un.too_short cut.value cut.more cut.encoded;
      }) r

  module _ {x : A} (before : InMemory old) (r : Reads gives eof seen F (Ok x) old new) where
    -- bytes are left behind the value
    pub value_left : {e : E} → 0 < length new.remaining → gives (error_of kinds.OutOfRangeLength) e
        → ReadsWhole gives eof seen F (value_misfits F) (Err e) old new
    value_left some given =
        length_not_whole given r.kept (λ told v h.
        let got = r.answer in
        let same = laws.decodes v (seen x) old.remaining got.prefix [] new.remaining h got.prefix_is
        (append-nil old.remaining ∙ got.taken before.tells) in
        let none = ap length same.2 in
        omega arith) (λ cut. uncut laws before r cut)

    -- none is left
    pub value_whole : length new.remaining ≡ 0 → ReadsWhole gives eof seen F (value_misfits F) (Ok x) old new
    value_whole none = record {
      kept = r.kept;
      answer =
          let got = r.answer in
          let all = got.taken before.tells
          ∙ (ap (λ s. got.prefix ++ s) (nil_from_length new.remaining none) ∙ append-nil got.prefix) in
          subst (F.encodes (seen x)) (sym all) got.prefix_is;
    }

-- ---- parts with a layout, and then a whole value

module _ {E : Type 0} {gives : Error → E → Type 0} {eof : E → Bool} {U W A D : Type 0} {L : Format U}
    {first : A → U} {seen : D → U × W} where
  pub first_not_whole : (M : Format W) (misfits : Misfits) {old new : ReaderState} {e : E} {result : Result D E}
      → IsErrAnd result (λ x. x ≡ e) → InMemory old → InMemory new
      → Reads gives eof first L (Err e) old new
      → ReadsWhole gives eof seen (pair L M) (followed_misfits L misfits) result old new
  unfolding sequence
  first_not_whole M misfits passed before since r =
      part_not_whole passed Kept-same before since (asks_left L.asks M.asks).memory (asks_left L.asks M.asks).lending
      (λ kind h. inl h)
      (λ told un. record {
        none = λ v h. un.no_prefix v.0 h.prefix h.suffix h.whole_is h.first_is;
        many = λ h.
            elim h [
              | inl wrong ↦ un.wrong_length wrong
              | inr x ↦ absurd (un.no_prefix x.0 x.1.prefix x.1.suffix x.1.whole_is x.1.first_is)
            ];
        few = λ h.
            elim h [
              | inl cut ↦ un.too_short cut.value cut.more cut.encoded
              | inr x ↦ absurd (un.no_prefix x.0 x.1.prefix x.1.suffix x.1.whole_is x.1.first_is)
            ];
      }) r

  module _ {strict : Bool} {least : ℕ} (laws : Laws strict least L) {B : Type 0} {M : Format W} {misfits : Misfits}
      {second : B → W} {old mid new : ReaderState} {x : A} (before : InMemory old)
      (r : Reads gives eof first L (Ok x) old mid) where
    pub second_not_whole : {e : E} {result : Result D E} → IsErrAnd result (λ x. x ≡ e)
        → ReadsWhole gives eof second M misfits (Err e) mid new
        → ReadsWhole gives eof seen (pair L M) (followed_misfits L misfits) result old new
    unfolding sequence
    second_not_whole {e = e} passed k = ReadsWhole-passed passed (record {
      kept = Kept-after r.kept k.kept;
      answer = elim k.answer [
        | inl want ↦ inl (want.0, (asks_right L.asks M.asks).memory want.1)
        | inr refused ↦ inr (record {
          kind = elim refused.kind [
            | inl ended ↦ inl (subst (λ (kind : ReaderKind). IsEnd gives eof kind.ends_by_device e) r.kept.fixed ended)
            | inr named ↦ inr (IsNamed-more gives e as_second named)
          ];
          because = λ told v h.
              let same = laws.decodes (first x) v.0 r.answer.prefix h.prefix mid.remaining h.suffix r.answer.prefix_is
              h.first_is (sym (r.answer.taken told.tells) ∙ h.whole_is) in
              refused.because (IsTold-after r.kept (asks_right L.asks M.asks).lending told) v.1
              (subst (M.encodes v.1) (sym same.2) h.second_is);
          too_many = λ told h.
              elim h [
                | inl wrong ↦
                    let bad = subst L.malformed (r.answer.taken told.tells)
                    (laws.wrong_length_malformed old.remaining wrong) in
                    absurd (laws.malformed_undecodable (first x) r.answer.prefix mid.remaining bad r.answer.prefix_is)
                | inr y ↦
                    refused.too_many (IsTold-after r.kept (asks_right L.asks M.asks).lending told)
                    (behind misfits.too_many y.0 y.1)
              ];
          too_few = λ told h.
              elim h [
                | inl cut ↦ absurd (uncut laws before r cut)
                | inr y ↦
                    refused.too_few (IsTold-after r.kept (asks_right L.asks M.asks).lending told)
                    (behind misfits.too_few y.0 y.1)
              ];
        })
      ];
    }) where
      -- what stands behind the first part stands where it was read
      behind : (P : List ℕ → Type 0) (u : U) → Parts (L.encodes u) P old.remaining → P mid.remaining
      behind P u h =
          let same = laws.decodes (first x) u r.answer.prefix h.prefix mid.remaining h.suffix r.answer.prefix_is
          h.first_is (sym (r.answer.taken before.tells) ∙ h.whole_is) in
          subst P (sym same.2) h.second_is

      as_second : (kind : ErrorKind) → refusing_kinds M mid.fixed.lends kind ⊎ (kind ≡ kinds.OutOfRangeLength)
          → refusing_kinds (pair L M) old.fixed.lends kind ⊎ (kind ≡ kinds.OutOfRangeLength)
      as_second kind (inl (inl h)) = inl (inl (inr (first x, h)))
      as_second kind (inl (inr h)) = inl (inr (
        (asks_right L.asks M.asks).lending h.0,
        subst (λ (kind : ReaderKind). kind.lends ≡ false) r.kept.fixed h.1,
        h.2,
      ))
      as_second kind (inr h) = inr h

    pub both_whole : {y : B} {z : D} → ReadsWhole gives eof second M misfits (Ok y) mid new
        → seen z ≡ (first x, second y)
        → ReadsWhole gives eof seen (pair L M) (followed_misfits L misfits) (Ok z) old new
    unfolding sequence
    both_whole {y = y} {z = z} k is = record {
      kept = Kept-after r.kept k.kept;
      answer = subst (λ (p : U × W). Parts (L.encodes p.0) (M.encodes p.1) old.remaining) (sym is)
          (subst (Parts (L.encodes (first x)) (M.encodes (second y))) (sym (r.answer.taken before.tells))
          (Parts-joined r.answer.prefix mid.remaining r.answer.prefix_is k.answer));
    }

-- ---- the rest of the bytes, of a length that they tell

-- some bytes are at least one
some_length : (bytes : List ℕ) → (bytes ≡ [] → ⊥) → 1 ≤ length bytes
some_length [] some = absurd (some refl)
some_length (b ∷ bytes) some = omega arith

-- items of a size that are fewer have fewer bytes
fewer_bytes : (n m size : ℕ) → 0 < size → n < m → (n + 1) * size ≤ m * size
fewer_bytes n m size some fewer = mul-le (n + 1) size m size (omega arith) (omega arith)

more_bytes : (n size : ℕ) → (n + 1) * size ≡ n * size + size
more_bytes n size = grind arith

-- so as many bytes are those of as many items
same_number : (n m size : ℕ) → 0 < size → n * size ≡ m * size → n ≡ m
same_number n m size some same =
    elim (cases_lt n m) [
      | inl fewer ↦
          let less = fewer_bytes n m size some fewer in
          let more = more_bytes n size in
          absurd (omega arith)
      | inr enough ↦ elim (cases_lt m n) [
        | inl fewer ↦
            let less = fewer_bytes m n size some fewer in
            let more = more_bytes m size in
            absurd (omega arith)
        | inr most ↦ omega arith
      ]
    ]

-- and no whole ones end within one
within_one : (k n size : ℕ) → 0 < size → k * size < n * size → n * size < (k + 1) * size → ⊥
within_one k n size some above below =
    elim (cases_lt k n) [
      | inl fewer ↦ let less = fewer_bytes k n size some fewer in omega arith
      | inr enough ↦ let less = mul-le n size k size enough (omega arith) in omega arith
    ]

module _ {E : Type 0} {gives : Error → E → Type 0} {eof : E → Bool} {V A : Type 0} (f : Mode) (counting : Counting V)
    {seen : A → V} {size : ℕ} (some : 0 < size) (sized : (n : ℕ) (v : V) (bytes : List ℕ)
    → ((counting.of_length n).format f).encodes v bytes → length bytes ≡ n * size) {n : ℕ} {old new : ReaderState}
    (before : InMemory old) (since : InMemory new) (is : n * size ≡ length old.remaining) where
  pub sized_whole : (result : Result A E) → Reads gives eof seen ((counting.of_length n).format f) result old new
      → ReadsWhole gives eof seen (rest f counting) (rest_misfits f counting) result old new
  unfolding rest
  sized_whole (Ok x) r = record {
    kept = r.kept;
    answer =
        let got = r.answer in
        let taken = got.taken before.tells in
        let long = ap length taken ∙ length-append got.prefix new.remaining in
        let own = sized n (seen x) got.prefix got.prefix_is in
        let none = nil_from_length new.remaining (omega arith) in
        let all = taken ∙ (ap (λ s. got.prefix ++ s) none ∙ append-nil got.prefix) in
        let count = counting.is_count f n (seen x) got.prefix got.prefix_is in (
          subst (λ m. ((counting.of_length m).format f).encodes (seen x) old.remaining) (sym count)
              (subst (((counting.of_length n).format f).encodes (seen x)) (sym all) got.prefix_is),
          λ nothing.
              let zero = is ∙ ap length nothing in
              count ∙ same_number n 0 size some (omega arith),
        );
  }
  sized_whole (Err e) r =
      part_not_whole refl Kept-same before since (counting.within f n).memory (counting.within f n).lending
      (λ kind h. inl (n, h))
      (λ told un. record {
        none = λ v h.
            let count = same_number (counting.count v) n size some
            (sym (sized (counting.count v) v old.remaining h.0) ∙ sym is) in
            un.no_prefix v old.remaining [] (sym (append-nil old.remaining))
            (subst (λ m. ((counting.of_length m).format f).encodes v old.remaining) count h.0);
        many = λ h. absurd h;
        few = λ h.
            let before = sized h.n h.before h.prefix h.before_is in
            let after = sized (h.n + 1) h.after (old.remaining ++ h.more) h.after_is in
            let long = ap length h.whole_is ∙ length-append h.prefix h.rest in
            let longer = length-append old.remaining h.more in
            let one = some_length h.rest h.some in
            let two = some_length h.more h.lacks in
            absurd (within_one h.n n size some (omega arith) (omega arith));
      }) r

-- the same of what has as many bytes as its length says
pub bytes_whole : {E : Type 0} {gives : Error → E → Type 0} {eof : E → Bool} {V A : Type 0} (f : Mode)
    (counting : Counting V) {seen : A → V} → ((n : ℕ) (v : V) (bytes : List ℕ)
    → ((counting.of_length n).format f).encodes v bytes → length bytes ≡ n) → {n : ℕ} {old new : ReaderState}
    → InMemory old → InMemory new → n ≡ length old.remaining → (result : Result A E)
    → Reads gives eof seen ((counting.of_length n).format f) result old new
    → ReadsWhole gives eof seen (rest f counting) (rest_misfits f counting) result old new
bytes_whole f counting bytewise {n = n} before since is =
    sized_whole f counting {size = 1} (omega arith) (λ m v bytes h. bytewise m v bytes h ∙ omega arith) before since
    (omega (arith, is))

-- and of items that each have as many
items_sized : {V : Type 0} (F : Format V) {size : ℕ} → ((v : V) (bytes : List ℕ) → F.encodes v bytes
    → length bytes ≡ size) → (vs : List V) (bytes : List ℕ) → Each F.encodes vs bytes
    → length bytes ≡ length vs * size
items_sized F sized [] bytes h = ap length h ∙ omega arith
items_sized F {size = size} sized (v ∷ vs) bytes h =
    let one = sized v h.prefix h.first_is in
    let more = items_sized F sized vs h.suffix h.second_is in
    let l = ap length h.whole_is ∙ length-append h.prefix h.suffix in
    omega (arith, one, more, l)

vector_sized : {V : Type 0} (F : Format V) {size : ℕ} → ((v : V) (bytes : List ℕ) → F.encodes v bytes
    → length bytes ≡ size) → (n : ℕ) (vs : List V) (bytes : List ℕ) → (vector n F).encodes vs bytes
    → length bytes ≡ n * size
unfolding vector owned_content repeat
vector_sized F {size = size} sized n vs bytes h = items_sized F sized vs bytes h.1 ∙ ap (λ m. m * size) h.0

-- what tells how many items of a size there are
abbrev pub AreWhole : Option ℕ → ℕ → ℕ → Type 0
AreWhole size count bytes = MatchOption size ⊥ (λ each. (0 < each) × (count * each ≡ bytes))

pub items_at_once : {E : Type 0} {gives : Error → E → Type 0} {eof : E → Bool} {V A : Type 0} (f : Mode)
    (item : Codec V) {seen : A → List V} (size : Option ℕ) → MatchOption size ⊤ (λ each. HaveSize each item)
    → (n : ℕ) {left : ℕ} → AreWhole size n left → {old new : ReaderState} → InMemory old → InMemory new
    → left ≡ length old.remaining → (result : Result A E)
    → Reads gives eof seen (vector n (item.format f)) result old new
    → ReadsWhole gives eof seen (rest f (list_counting item)) (rest_misfits f (list_counting item)) result old new
items_at_once f item (Some each) have n whole before since is =
    sized_whole f (list_counting item) {size = each} whole.0
    (λ m vs bytes h. vector_sized (item.format f) (λ v bytes h. have f v bytes h) m vs bytes h) before since
    (whole.1 ∙ is)
items_at_once f item None have n whole before since is = absurd whole

-- a text, and bytes, are as long as the bytes that encode them
pub text_bytewise : (f : Mode) (n : ℕ) (v bytes : List ℕ) → (text_of_length f n).encodes v bytes → length bytes ≡ n
unfolding text_of_length owned_content coding raw_bytes
text_bytewise f n v bytes h = h.code_is.1

pub borrowed_bytewise : (f : Mode) (n : ℕ) (v bytes : List ℕ) → (borrowed_content (text_of_length f n)).encodes v bytes
    → length bytes ≡ n
unfolding borrowed_content
borrowed_bytewise f n v bytes h = text_bytewise f n v bytes h

pub bytes_bytewise : (f : Mode) (n : ℕ) (v bytes : List ℕ)
    → (borrowed_content (vector n (unsigned_number 1 f))).encodes v bytes → length bytes ≡ n
unfolding borrowed_content vector owned_content repeat unsigned_number
bytes_bytewise f n v bytes h = ap length (sym (each_byte_is f.order v bytes h.1)) ∙ h.0

-- ---- items until the bytes end

module _ {V : Type 0} {strict : Bool} {least : ℕ} {F : Format V} (laws : Laws strict least F) where
  -- as many items as there are, or more, leave nothing
  none_left : (vs ws : List V) (s t r : List ℕ) → length ws ≤ length vs → Each F.encodes vs s → Each F.encodes ws t
      → s ++ r ≡ t → r ≡ []
  none_left vs [] s t r fewer h k e = (no_parts s r (e ∙ k)).1
  none_left [] (w ∷ ws) s t r fewer h k e = absurd (omega arith)
  none_left (v ∷ vs) (w ∷ ws) s t r fewer h k e =
      let joined = sym (append_assoc h.prefix h.suffix r) ∙ (ap (λ x. x ++ r) (sym h.whole_is) ∙ (e ∙ k.whole_is)) in
      let first = laws.decodes v w h.prefix k.prefix (h.suffix ++ r) k.suffix h.first_is k.first_is joined in
      none_left vs ws h.suffix k.suffix r (omega arith) h.second_is k.second_is first.2

  -- where one item takes no byte, none does
  takes_none : (v : V) → F.encodes v [] → (ws : List V) (t : List ℕ) → Each F.encodes ws t → t ≡ []
  takes_none v h [] t k = k
  takes_none v h (w ∷ ws) t k =
      let same = laws.decodes v w [] k.prefix k.prefix [] h k.first_is (sym (append-nil k.prefix)) in
      k.whole_is ∙ (ap (λ s. s ++ k.suffix) (sym same.1) ∙ takes_none v h ws k.suffix k.second_is)

-- from old to now items were read, each of some bytes, and n bytes are left
pub record ItemsTaken {T V : Type 0} (seen : T → V) (F : Format V) (items : List T) (n : ℕ) (old now : ReaderState)
    : Type 0 where
  pub so_far : ReadSoFar (Each F.encodes (map seen items)) old now
  pub left_is : n ≡ length now.remaining
  pub some : length items + n ≤ length old.remaining

pub no_items_taken : {T V : Type 0} {seen : T → V} {F : Format V} {items : List T} {n : ℕ} {old : ReaderState}
    → items ≡ [] → n ≡ length old.remaining → ItemsTaken seen F items n old old
no_items_taken {seen = seen} {F = F} {items = items} {n = n} {old = old} none is =
    subst (λ xs. ItemsTaken seen F xs n old old) (sym none)
    (record { so_far = none_so_far refl; left_is = is; some = omega arith })

-- what was pushed, where there was room
pub pushed : {T A E : Type 0} {now more : List T} (was : List T) (r : Result A E) → is_err r ≡ false
    → now ≡ cond (is_ok r) more was → now ≡ more
pushed was (Ok x) h is = is
pushed was (Err e) h is = absurd (cc)

-- all items of a format
abbrev all_items : {V : Type 0} → Codec V → Mode → Format (List V)
all_items item f = rest f (list_counting item)

module _ {T V : Type 0} {seen : T → V} (item : Codec V) (f : Mode) {items : List T} {n : ℕ} {old mid : ReaderState}
    (taken : ItemsTaken seen (item.format f) items n old mid) (before : InMemory old) where
  -- the bytes are those of no list, as the next item is none
  none_is_next : 0 < n → ((w : V) (prefix more : List ℕ) → mid.remaining ≡ prefix ++ more
      → (item.format f).encodes w prefix → ⊥) → (ws : List V) → (all_items item f).encodes ws old.remaining → ⊥
  unfolding rest vector owned_content repeat
  none_is_next some none ws h =
      let got = taken.so_far.got in
      let vs = map seen items in
      let is = sym (got.taken before.tells) in
      elim (cases_lt (length vs) (length ws)) [
        | inl more ↦
            let next = next_item (item.laws f) vs ws got.prefix old.remaining mid.remaining [] more got.prefix_is
            h.0.1 (is ∙ sym (append-nil old.remaining)) in
            none next.0 next.1 next.2 next.3 next.4
        | inr fewer ↦
            let nothing = ap length
            (none_left (item.laws f) vs ws got.prefix old.remaining mid.remaining fewer got.prefix_is h.0.1 is) in
            let left = taken.left_is in
            absurd (omega arith)
      ]

  -- an item more is added
  pub item_taken : {E : Type 0} {gives : Error → E → Type 0} {eof : E → Bool} {x : T} {more : List T} {m : ℕ}
      {new : ReaderState} → Reads gives eof seen (item.format f) (Ok x) mid new → IsTrue mid.fixed.tells
      → (m ≡ n → ⊥) → m ≡ length new.remaining → more ≡ items ++ x ∷ []
      → ItemsTaken seen (item.format f) more m old new × (m < n)
  item_taken {x = x} {m = m} {new = new} read tells other is added =
      let got = read.answer in
      let long = ap length (got.taken tells) ∙ length-append got.prefix new.remaining in
      let left = taken.left_is in
      let enough = taken.some in
      let count = length-append items (x ∷ []) in (
        subst (λ xs. ItemsTaken seen (item.format f) xs m old new) (sym added) (record {
          so_far = item_more (item.format f) (map seen items) taken.so_far read (map-append seen items (x ∷ []));
          left_is = is;
          some = omega arith;
        }),
        omega arith,
      )

  -- where the bytes end within an item, so do those that are left, or they begin with one
  ends_in_next : EndsInItem f (list_counting item) old.remaining → (P : Type 0)
      → ((w : V) (more : List ℕ) → (item.format f).encodes w (mid.remaining ++ more) → P)
      → ((w : V) (prefix more : List ℕ) → mid.remaining ≡ prefix ++ more → (item.format f).encodes w prefix → ⊥) → P
  unfolding vector owned_content repeat
  ends_in_next h P cut none =
      let got = taken.so_far.got in
      let vs = map seen items in
      let whole = old.remaining ++ h.more in
      let joined = sym (append_assoc got.prefix mid.remaining h.more)
      ∙ ap (λ x. x ++ h.more) (sym (got.taken before.tells)) in
      elim (cases_lt (length vs) (length h.after)) [
        | inl more ↦
            let next = next_item (item.laws f) vs h.after got.prefix whole (mid.remaining ++ h.more) [] more
            got.prefix_is h.after_is.1 (joined ∙ sym (append-nil whole)) in
            elim (prefixes_nest mid.remaining h.more next.1 next.2 next.3) [
              | inl longer ↦ cut next.0 longer.0 (subst ((item.format f).encodes next.0) longer.1 next.4)
              | inr shorter ↦ absurd (none next.0 next.1 shorter.0 shorter.1 next.4)
            ]
        | inr fewer ↦
            let left = none_left (item.laws f) vs h.after got.prefix whole (mid.remaining ++ h.more) fewer got.prefix_is
            h.after_is.1 joined in
            absurd (h.lacks (no_parts mid.remaining h.more left).1)
      ]

  module _ {E : Type 0} {gives : Error → E → Type 0} {eof : E → Bool} {B : Type 0} {shown : B → List V} where
    -- an item is refused
    pub item_not_whole : {e : E} {result : Result B E} {new : ReaderState} → 0 < n → IsErrAnd result (λ x. x ≡ e)
        → InMemory mid → InMemory new → Reads gives eof seen (item.format f) (Err e) mid new
        → ReadsWhole gives eof shown (all_items item f) (rest_misfits f (list_counting item)) result old new
    unfolding rest vector owned_content repeat
    item_not_whole {e = e} some passed between since r =
        part_not_whole passed taken.so_far.kept between since (λ _. refl) (λ t. t) (λ kind h. inl (0, h))
        (λ told un. record {
          none = λ ws h. none_is_next some un.no_prefix ws h;
          many = λ h. absurd h;
          few = λ h. ends_in_next h (IsTrue (eof e)) un.too_short un.no_prefix;
        }) r

    module _ {x : T} {new : ReaderState} (read : Reads gives eof seen (item.format f) (Ok x) mid new) where
      -- it took no byte
      pub item_takes_none : {e : E} → 0 < n → IsTrue mid.fixed.tells → n ≡ length new.remaining
          → gives (error_of kinds.OutOfRangeLength) e
          → ReadsWhole gives eof shown (all_items item f) (rest_misfits f (list_counting item)) (Err e) old new
      unfolding rest vector owned_content repeat
      item_takes_none some tells same given =
          length_not_whole given (Kept-after taken.so_far.kept read.kept) (λ told ws h.
          let got = read.answer in
          let long = ap length (got.taken tells) ∙ length-append got.prefix new.remaining in
          let left = taken.left_is in
          let none = nil_from_length got.prefix (omega arith) in
          let all = ap length (takes_none (item.laws f) (seen x)
          (subst ((item.format f).encodes (seen x)) none got.prefix_is) ws old.remaining h.0.1) in
          let enough = taken.some in
          absurd (omega arith))
          (λ h.
          let got = read.answer in
          let long = ap length (got.taken tells) ∙ length-append got.prefix new.remaining in
          let left = taken.left_is in
          let none = nil_from_length got.prefix (omega arith) in
          let all = takes_none (item.laws f) (seen x)
          (subst ((item.format f).encodes (seen x)) none got.prefix_is) h.after (old.remaining ++ h.more)
          h.after_is.1 in
          h.lacks (no_parts old.remaining h.more all).1)

      -- there is no room for it
      pub item_wants_memory : {e : E} → gives (error_of kinds.OutOfMemory) e
          → ReadsWhole gives eof shown (all_items item f) (rest_misfits f (list_counting item)) (Err e) old new
      unfolding rest
      item_wants_memory given = record {
        kept = Kept-after taken.so_far.kept read.kept;
        answer = inl (given, refl);
      }

    -- no byte is left
    pub items_whole : {y : B} → n ≡ 0 → shown y ≡ map seen items
        → ReadsWhole gives eof shown (all_items item f) (rest_misfits f (list_counting item)) (Ok y) old mid
    unfolding rest vector owned_content repeat
    items_whole {y = y} none is = record {
      kept = taken.so_far.kept;
      answer =
          let got = taken.so_far.got in
          let left = taken.left_is in
          let rest_is = nil_from_length mid.remaining (omega arith) in
          let all = got.taken before.tells ∙ (ap (λ s. got.prefix ++ s) rest_is ∙ append-nil got.prefix) in
          let count = ap length is ∙ length-map items seen in
          let enough = taken.some in (
            (
              refl,
              subst (Each (item.format f).encodes (shown y)) (sym all)
                  (subst (λ vs. Each (item.format f).encodes vs got.prefix) (sym is) got.prefix_is),
            ),
            λ nothing. (let bytes = ap length nothing in omega arith),
          );
    }
