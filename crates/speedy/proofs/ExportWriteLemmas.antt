-- What a check says of bytes that were written of a view.
use Rattle.std.specs.Prelude.{◌≡◌, ℕ, ◌<◌, ◌≤◌, List, ◌++◌, length, take, drop, ◌⊎◌}
use Rattle.std.proofs.Common.{◌∙◌, ap, refl, subst, sym, arith, inl, inr}
use Rattle.std.proofs.Math.Seq.{take-append_seam}
use Rattle.std.proofs.lemmas.Bool.{cases_lt}
use Rattle.std.proofs.lemmas.List.{length-append}
use Rattle.speedy_base.specs.declared.endianness.Endianness.{Endianness}
use Rattle.speedy_base.specs.declared.endianness.Endianness.TheVariants.{LittleEndian, BigEndian}
use Rattle.speedy_base.specs.Mode.{plain_mode}
use Rattle.speedy_layout.specs.Codecs.{Codec}
use Rattle.speedy.specs.declared.exports.Unshown.{Unshown}
use Rattle.speedy.specs.declared.exports.Unshown.TheVariants as unshown
use Rattle.speedy.specs.Exports.{number_of_order, number_of_unshown, Checks, ChecksIn, Reads, TakesWhole, Writes}
use Rattle.speedy.specs.Exports.{WritesAgain}

-- what shows nothing has the number of an error
some_number : (why : Unshown) → 0 < number_of_unshown why
some_number unshown.Character = omega arith
some_number unshown.Tag = omega arith
some_number unshown.Text = omega arith
some_number unshown.List = omega arith

-- a number that is no more than one is that of an order
order_of_number : (number : ℕ) → (1 < number → ⊥) → (it : Endianness) × (number ≡ number_of_order it)
order_of_number number known = elim (cases_lt number 1) [
  | inl zero ↦ (LittleEndian, omega (arith, zero))
  | inr some ↦ elim (cases_lt 1 number) [
    | inl many ↦ absurd (known many)
    | inr one ↦ (BigEndian, omega (arith, some, one))
  ]
]

zero_or_not : (n : ℕ) → (n ≡ 0) ⊎ (n ≡ 0 → ⊥)
zero_or_not n = elim (cases_lt n 1) [
  | inl zero ↦ inl (omega (arith, zero))
  | inr some ↦ inr (λ zero. omega (arith, some, zero))
]

-- what stands at the front of bytes, of which it is so many
front_of : (front rest all : List ℕ) (size : ℕ) → size ≡ length front → all ≡ front ++ rest → take size all ≡ front
front_of front rest all size same whole =
    ap (λ n. take n all) same ∙ ap (λ bytes. take (length front) bytes) whole ∙ take-append_seam front rest

-- what was written is taken by a check as it was written
pub written_is_checked : {A V W : Type 0} {seen : A → V} {shows : A → W → Type 0} {codec : Codec V} (view : W)
    (order size answer found : ℕ) (old new more : List ℕ) → Writes seen shows codec view order 0 size old new
    → Checks codec order (take size new ++ more) answer found → TakesWhole codec order answer found size
written_is_checked {codec = codec} view order size answer found old new more writes checks =
    let it = order_of_number order (λ many. let none = writes.unknown.1 many in omega (arith, none)) in
    let laws = codec.laws (plain_mode it.0) in
    elim (writes.known it.0 it.1) [
      | inr unshown ↦ absurd (omega (arith, some_number unshown.1.0, unshown.1.1))
      | inl shown ↦
          let written = shown.3.written refl in
          let bytes = written.0 in
          let encodes = laws.written_encodes _ bytes written.1.is_written in
          let front = front_of bytes (drop size old) new size written.2 written.3 in
          let checked = subst (λ b. ChecksIn (codec.format (plain_mode it.0)) (b ++ more) answer found) front
          (checks.known it.0 it.1) in
          elim (zero_or_not answer) [
            | inl zero ↦
                let begins = checked.encoded zero in
                let prefix = begins.2.0 in
                let same = laws.decodes _ _ bytes prefix more begins.1 encodes begins.2.1 begins.2.2 in
                let lengths = length-append bytes more in
                let alike = ap length same.1 in
                let rests = ap length same.2 in
                inr (zero, omega (arith, begins.3, lengths, alike, rests, written.2))
            | inr refused ↦ elim (checked.refused refused) [
              | inl want ↦ inl (want.0, (it.0, it.1, want.1))
              | inr none ↦ absurd (none _ more (bytes, encodes, refl))
            ]
          ]
    ]

-- what a read shows is written again as the canonical encoding of what was read
pub read_is_written : {A V W : Type 0} {seen : A → V} {shows : A → W → Type 0} {codec : Codec V} (view before : W)
    (order size room : ℕ) (bytes old new : List ℕ) → Reads seen shows codec order bytes 0 size before view
    → Writes seen shows codec view order 0 room old new
    → WritesAgain codec order (take size bytes) (take room new)
read_is_written {seen = seen} {codec = codec} view before order size room bytes old new reads writes it is =
    let format = codec.format (plain_mode it) in
    let laws = codec.laws (plain_mode it) in
    let read = (reads.known it is).shown refl in
    let begins = read.2 in
    let prefix = begins.0 in
    let lengths = ap length begins.2 ∙ length-append prefix read.1 in
    let taken = front_of prefix read.1 bytes size (omega (arith, lengths, read.3)) begins.2 in
    elim (writes.known it is) [
      | inr unshown ↦ absurd (omega (arith, some_number unshown.1.0, unshown.1.1))
      | inl shown ↦
          let written = shown.3.written refl in
          let same = shown.2 read.0 read.4 in
          let encodes = subst (λ v. format.encodes v prefix) same begins.1 in
          let put = front_of written.0 (drop room old) new room written.2 written.3 in
          let less = written.1.shortest prefix encodes in (
            seen shown.0,
            subst (λ b. format.encodes (seen shown.0) b) (sym taken) encodes,
            subst (λ b. format.writes (seen shown.0) b) (sym put) written.1.is_written,
            subst (λ b. length (take room new) ≤ length b) (sym taken)
                (subst (λ b. length b ≤ length prefix) (sym put) less),
          )
    ]
