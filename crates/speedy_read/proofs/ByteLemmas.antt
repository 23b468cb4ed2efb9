-- Bytes that are read or skipped a chunk at a time.
use Rattle.std.specs.Prelude.{◌≡◌, ℕ, ◌+◌, ◌-◌, ◌<◌, ◌≤◌, List, [], ◌++◌, length, take, drop, replicate, Bool}
use Rattle.std.specs.Prelude.{Ok, Err, Result, IsErrAnd, refl}
use Rattle.std.proofs.Common.{sym, ◌∙◌, ap, ap₂, subst, arith, inl, inr}
use Rattle.std.proofs.lemmas.Bool.{cases_lt}
use Rattle.std.proofs.lemmas.List.{append-nil, drop_all, length-append, length-drop, length-take-le, length-replicate}
use Rattle.std.proofs.lemmas.List.{take_all, take_at, take-append-drop}
use borrow.Rule.Slice.PartMut.{put_mid, post_of}
use Rattle.std.proofs.Math.Seq.{take-append_seam}
use Rattle.speedy_base.specs.declared.error.Error.{Error}
use Rattle.speedy_base.specs.Digits.{EncodesNumber, AreBytes}
use Rattle.speedy_base.specs.Mode.{Mode}
use Rattle.speedy_layout.specs.Format.{Each}
use Rattle.speedy_layout.specs.Lists.{vector, repeat}
use Rattle.speedy_layout.specs.Numbers.{unsigned_number}
use Rattle.speedy_layout.specs.Owned.{owned_content}
use Rattle.speedy_layout.specs.Texts.{raw_bytes, any_bytes, each_byte, each_byte_is}
use Rattle.speedy_layout.specs.Sequences.{asks_memory, asks_same}
use Rattle.speedy_read.specs.Reading.{ReaderState, Reads, Undecodable}
use Rattle.speedy_read.specs.ReadingLemmas.{Kept-after, IsTold-after, part_refused, Got-as, ReadSoFar, more_so_far}
use Rattle.speedy_read.specs.ReadingLemmas.{all_so_far, Reads-passed}
use Rattle.speedy_read.specs.Codes.{Covers, refused_covered}

-- the front of a chunk that was filled
pub prefix_of : (n : ℕ) (xs ys : List ℕ) → length xs ≡ n → take n (xs ++ ys) ≡ xs
prefix_of n xs ys e = subst (λ (m : ℕ). take m (xs ++ ys) ≡ xs) e (take-append_seam xs ys)

-- what lies behind a list
pub behind : (bytes zeros slice : List ℕ) (start : ℕ) → slice ≡ bytes ++ zeros → start ≡ length bytes
    → length (take (length slice - start) (drop start slice)) ≡ length zeros
behind bytes zeros slice start is at =
    let whole : length slice ≡ length bytes + length zeros = ap length is ∙ length-append bytes zeros in
    let left = length-drop start slice in
    length-take-le (length slice - start) (drop start slice) (omega (arith, left)) ∙ omega (arith, whole, at)

-- what is put behind a list, where zeros stood, in a slice of a vector of n items
pub filled_behind : (bytes zeros items slice output : List ℕ) (start len : ℕ) → items ≡ bytes ++ zeros → slice ≡ items
    → start ≡ length bytes → length slice ≡ len → length output ≡ length zeros
    → let put : List ℕ = put_mid start (length slice - start) slice output in
    take len (put ++ drop (length put) items) ≡ bytes ++ output
filled_behind bytes zeros items slice output start len is same at all sized =
    let here : slice ≡ bytes ++ zeros = same ∙ is in
    let put = put_mid start (length slice - start) slice output in
    let whole : length slice ≡ length bytes + length zeros = ap length here ∙ length-append bytes zeros in
    let prefix : take start slice ≡ bytes = ap (take start) here ∙ take_at bytes zeros start (sym at) in
    let nothing : post_of start (length slice - start) slice ≡ [] =
    drop_all (length slice - start) (drop start slice) (omega (arith, length-drop start slice)) in
    let put_is : put ≡ bytes ++ output = ap₂ ◌++◌ prefix (ap (λ l. output ++ l) nothing ∙ append-nil output) in
    let long : length put ≡ len = ap length put_is ∙ (length-append bytes output ∙ omega (arith, sized, whole, all)) in
    let rest : drop (length put) items ≡ [] = drop_all (length put) items (omega (arith, long, all, ap length same)) in
    ap (take len) (ap (λ l. put ++ l) rest ∙ append-nil put) ∙ (take_all len put (omega (arith, long)) ∙ put_is)

-- n bytes were taken so far
abbrev pub SkippedSoFar : ℕ → ReaderState → ReaderState → Type 0
SkippedSoFar count old new = ReadSoFar (λ s. length s ≡ count) old new

-- just these bytes were
abbrev pub BytesSoFar : List ℕ → ReaderState → ReaderState → Type 0
BytesSoFar bytes old new = ReadSoFar (λ s. s ≡ bytes) old new

-- numbers of one digit are read where as many bytes are
any_bytes_cover : (n : ℕ) (mode : Mode) → Covers (any_bytes n) (vector n (unsigned_number 1 mode))
unfolding any_bytes vector owned_content repeat unsigned_number
any_bytes_cover n mode = record {
  under = λ v s h. (tt, ap length (sym (each_byte_is mode.order v s h.1)) ∙ h.0);
  names = λ kind h. absurd h;
  malformed = λ bytes are h. absurd h;
  wrong_length = λ bytes are h. absurd h;
  asks = asks_memory;
}

-- bytes of which no prefix has n are fewer than n
pub short_of : {E : Type 0} {gives : Error → E → Type 0} {eof : E → Bool} {e : E} (size : ℕ) (bytes : List ℕ)
    → Undecodable gives eof (raw_bytes size) e bytes → length bytes < size
unfolding raw_bytes
short_of size bytes un =
    elim (cases_lt (length bytes) size) [
      | inl h ↦ h
      | inr h ↦
          absurd (un.no_prefix (take size bytes) (take size bytes) (drop size bytes) (sym (take-append-drop size bytes))
          (refl, length-take-le size bytes h))
    ]

module _ {E : Type 0} {gives : Error → E → Type 0} {eof : E → Bool} {old mid new : ReaderState} {A : Type 0}
    {seen : A → List ℕ} (size : ℕ) where
  -- a chunk more was taken
  pub more_skipped : {x : A} (count all : ℕ) → SkippedSoFar count old mid
      → Reads gives eof seen (raw_bytes size) (Ok x) mid new → count + size ≡ all → SkippedSoFar all old new
  unfolding raw_bytes
  more_skipped count all so_far read is = more_so_far so_far read (λ s t h k. length-append s t ∙ (ap₂ ◌+◌ h k.1 ∙ is))

  pub more_bytes : {x : A} (bytes all : List ℕ) → BytesSoFar bytes old mid
      → Reads gives eof seen (raw_bytes size) (Ok x) mid new → all ≡ bytes ++ seen x → BytesSoFar all old new
  unfolding raw_bytes
  more_bytes bytes all so_far read is = more_so_far so_far read (λ s t h k. ap₂ ◌++◌ h (sym k.0) ∙ sym is)

  -- a chunk was refused
  pub chunk_refused : {B : Type 0} {seen' : B → Unit {0}} {e : E} {result : Result B E} {total : ℕ} (count : ℕ)
      → count + size ≤ total → SkippedSoFar count old mid → IsErrAnd result (λ x. x ≡ e)
      → Reads gives eof seen (raw_bytes size) (Err e) mid new → Reads gives eof seen' (any_bytes total) result old new
  unfolding raw_bytes any_bytes
  chunk_refused {e = e} {total = total} count within so_far passed read = Reads-passed passed (record {
    kept = Kept-after so_far.kept read.kept;
    answer = part_refused new so_far.kept.fixed so_far.got.no_fault (λ t. t) (λ t. t) (λ kind h. h)
        (λ told because.
        let un = because (IsTold-after so_far.kept (λ t. t) told) in
        let short = short_of size mid.remaining un in
        let sizes : length old.remaining ≡ count + length mid.remaining =
        ap length (so_far.got.taken told.tells)
        ∙ (length-append so_far.got.prefix mid.remaining ∙ ap (λ n. n + length mid.remaining) so_far.got.prefix_is) in
        record {
          no_prefix = λ v prefix rest is l. let m = ap length is ∙ length-append prefix rest in let s = short in
              let k = sizes in absurd (omega arith);
          too_short = λ v more l.
              let missing = replicate (size - length mid.remaining) 0 in
              un.too_short (mid.remaining ++ missing) missing (
                refl,
                length-append mid.remaining missing
                    ∙ (ap (λ n. length mid.remaining + n) (length-replicate (size - length mid.remaining) 0)
                    ∙ omega (arith, short)),
              );
          malformed = λ bad. absurd bad;
          wrong_length = λ wrong. absurd wrong;
        })
        read.answer;
  })

  pub bytes_refused : {B : Type 0} {seen' : B → List ℕ} {e : E} {result : Result B E} {total : ℕ} (mode : Mode)
      (count : ℕ) (bytes : List ℕ) → length bytes ≡ count → count + size ≤ total → BytesSoFar bytes old mid
      → IsErrAnd result (λ x. x ≡ e)
      → Reads gives eof seen (raw_bytes size) (Err e) mid new
      → Reads gives eof seen' (vector total (unsigned_number 1 mode)) result old new
  bytes_refused {total = total} mode count bytes l within so_far passed read =
      let skipped : SkippedSoFar count old mid = record {
        kept = so_far.kept;
        got = Got-as (λ s h. ap length h ∙ l) so_far.got;
      } in
      refused_covered (any_bytes_cover total mode) passed
      (chunk_refused {seen' = λ (u : Unit {0}). u} count within skipped refl read)

module _ {E : Type 0} {gives : Error → E → Type 0} {eof : E → Bool} {B : Type 0} {old new : ReaderState} where
  -- all were taken
  pub all_skipped : {seen' : B → Unit {0}} {x : B} {count : ℕ} → SkippedSoFar count old new
      → Reads gives eof seen' (any_bytes count) (Ok x) old new
  unfolding any_bytes
  all_skipped so_far = all_so_far so_far (λ s h. h)

  pub all_bytes : {seen' : B → List ℕ} {y : B} {n : ℕ} (mode : Mode) → BytesSoFar (seen' y) old new
      → length (seen' y) ≡ n → AreBytes (seen' y)
      → Reads gives eof seen' (vector n (unsigned_number 1 mode)) (Ok y) old new
  unfolding vector owned_content repeat unsigned_number
  all_bytes {seen' = seen'} {y = y} mode so_far l are =
      all_so_far so_far (λ s h. (
        l,
        subst (λ (x : List ℕ). Each (EncodesNumber 1 mode.order) (seen' y) x) (sym h)
            (each_byte mode.order (seen' y) are),
      ))

-- n bytes are read where any n bytes are
any_cover_raw : (n : ℕ) → Covers (any_bytes n) (raw_bytes n)
unfolding any_bytes raw_bytes
any_cover_raw n = record {
  under = λ v s h. (tt, h.1);
  names = λ kind h. absurd h;
  malformed = λ bytes are h. absurd h;
  wrong_length = λ bytes are h. absurd h;
  asks = asks_same;
}

-- some of n bytes were read, and then the others
pub rest_read : {E : Type 0} {gives : Error → E → Type 0} {eof : E → Bool} {A : Type 0} {seen seen' : A → List ℕ}
    {old mid new : ReaderState} (size total : ℕ) (prefix : List ℕ) (result : Result A E)
    → BytesSoFar prefix old mid → length prefix + size ≡ total → ((x : A) → seen' x ≡ prefix ++ seen x)
    → Reads gives eof seen (raw_bytes size) result mid new → Reads gives eof seen' (raw_bytes total) result old new
unfolding raw_bytes
rest_read {seen' = seen'} size total prefix (Ok x) so_far sized same read =
    all_so_far
    (more_so_far {more = λ s. (seen' x ≡ s) × (length s ≡ total)} so_far read
    (λ s t h k. (same x ∙ ap₂ ◌++◌ (sym h) k.0, length-append s t ∙ (ap₂ ◌+◌ (ap length h) k.1 ∙ sized))))
    (λ s h. h)
rest_read size total prefix (Err e) so_far sized same read =
    let skipped : SkippedSoFar (length prefix) _ _ = record {
      kept = so_far.kept;
      got = Got-as (λ s h. ap length h) so_far.got;
    } in
    refused_covered (any_cover_raw total) refl
    (chunk_refused size {seen' = λ (u : Unit {0}). u} (length prefix) (omega (arith, sized)) skipped refl read)
