-- Parts that may be missing at the end of the bytes, with all that would stand behind them.
use Rattle.std.specs.Prelude.{◌≡◌, ℕ, ◌≤◌, List, [], ◌++◌, length, Bool, false, Option, Some, None, ◌⊎◌, refl}
use Rattle.std.proofs.Common.{sym, ◌∙◌, ap, arith, inl, inr}
use Rattle.std.proofs.lemmas.List.{append-nil}
use Rattle.speedy_base.specs.declared.error.ErrorKind.TheVariants as kinds
use Rattle.speedy_layout.specs.Codes.{one_kind}
use Rattle.speedy_layout.specs.Format.{Format}
use Rattle.speedy_layout.specs.Laws.{Laws, Codec, Decided, WritesToo}
use Rattle.speedy_layout.specs.Lists.{both_none}
use Rattle.speedy_layout.specs.Sequences.{sequence, sequence_written}
use Rattle.speedy_layout.specs.Tuples.{pair}
use Rattle.speedy_layout.specs.Wholes.{Misfits, WholeLaws, WholeCodec, followed_laws, followed_misfits}

-- the encodings of a format that have bytes; a value that takes none is refused
unfoldable pub some_bytes : {V : Type 0} → Format V → Format V
some_bytes F = record F {
  encodes = λ v b. F.encodes v b × (b ≡ [] → ⊥);
  writes = λ v b. F.writes v b × (b ≡ [] → ⊥);
  names = λ kind. F.names kind ⊎ (kind ≡ kinds.OutOfRangeLength);
  refuses_writing = λ kind. F.refuses_writing kind ⊎ (kind ≡ kinds.OutOfRangeLength);
}

-- none is no bytes, and a value is its own
abbrev pub Present : {V : Type 0} → (V → List ℕ → Type 0) → Option V → List ℕ → Type 0
Present encodes None b = b ≡ []
Present encodes (Some v) b = encodes v b

-- the values of a format, or none where the bytes end
unfoldable pub unless_none : {V : Type 0} → Format V → Format (Option V)
unless_none F = record {
  encodes = Present F.encodes;
  writes = Present F.writes;
  names = F.names;
  refuses_writing = F.refuses_writing;
  malformed = λ _. ⊥;
  wrong_length = λ _. ⊥;
  asks = F.asks;
}

-- A part and all behind it, or none of them where the bytes end.
abbrev pub unless_end : {U W : Type 0} → Format U → Format W → Format (Option (U × W))
unless_end L M = unless_none (pair (some_bytes L) M)

pub some_bytes_laws : {V : Type 0} {strict : Bool} {least : ℕ} {F : Format V} → Laws strict least F
    → Laws strict least (some_bytes F)
unfolding some_bytes
some_bytes_laws {F = F} laws = record {
  decodes = λ v w s t r q h k e. laws.decodes v w s t r q h.0 k.0 e;
  tells = λ v w s t h k. laws.tells v w s t h.0 k.0;
  written_encodes = λ v b h. (laws.written_encodes v b h.0, h.1);
  written_alone = λ strict v b h. (laws.written_alone strict v b h.0, h.1);
  shortest = λ v b c h k. laws.shortest v b c h.0 k.0;
  least_size = λ v b h. laws.least_size v b h.0;
  has_written = λ v b h.
      let w = laws.has_written v b h.0 in (
        w.0,
        (
          w.1,
          λ none. h.1 (sym (laws.decodes v v w.0 b b [] (laws.written_encodes v w.0 w.1) h.0
              (ap (λ s. s ++ b) none ∙ sym (append-nil b))).1 ∙ none),
        ),
      );
  one_written = λ unhashed v b c h k. laws.one_written unhashed v b c h.0 k.0;
  malformed_undecodable = λ v prefix rest bad h. laws.malformed_undecodable v prefix rest bad h.0;
  wrong_length_malformed = laws.wrong_length_malformed;
  names_own = λ kind named. elim named [
    | inl h ↦ laws.names_own kind h
    | inr h ↦ one_kind kinds.OutOfRangeLength tt kind h
  ];
  refuses_own = λ kind refused. elim refused [
    | inl h ↦ laws.refuses_own kind h
    | inr h ↦ one_kind kinds.OutOfRangeLength tt kind h
  ];
}

present_as : {V : Type 0} {R S : V → List ℕ → Type 0} → ((v : V) (b : List ℕ) → R v b → S v b)
    → (v : Option V) (b : List ℕ) → Present R v b → Present S v b
present_as f None b h = h
present_as f (Some v) b h = f v b h

module _ {V : Type 0} {strict : Bool} {F : Format V} (laws : WholeLaws strict F)
    (some : (v : V) (b : List ℕ) → F.encodes v b → b ≡ [] → ⊥) where
  one_present : (v w : Option V) (b : List ℕ) → Present F.encodes v b → Present F.encodes w b → v ≡ w
  one_present None None b h k = refl
  one_present None (Some w) b h k = absurd (some w b k h)
  one_present (Some v) None b h k = absurd (some v b h k)
  one_present (Some v) (Some w) b h k = ap (λ (x : V). Some x) (laws.one_value v w b h k)

  present_tells : (v w : Option V) (s t : List ℕ) → Present F.encodes v s → Present F.encodes w t → Decided (v ≡ w)
  present_tells None None s t h k = inl refl
  present_tells None (Some w) s t h k = inr (λ e. absurd (cc))
  present_tells (Some v) None s t h k = inr (λ e. absurd (cc))
  present_tells (Some v) (Some w) s t h k =
      elim (laws.tells v w s t h k) [
        | inl e ↦ inl (ap (λ (x : V). Some x) e)
        | inr n ↦ inr (λ e. n (let same : v ≡ w = cc in same))
      ]

  present_written : (v : Option V) (b : List ℕ) → Present F.encodes v b → (w : List ℕ) × Present F.writes v w
  present_written None b h = ([], refl)
  present_written (Some v) b h = laws.has_written v b h

  present_shortest : (v : Option V) (b c : List ℕ) → Present F.writes v b → Present F.encodes v c
      → length b ≤ length c
  present_shortest None b c h k = let l = ap length (h ∙ sym k) in omega arith
  present_shortest (Some v) b c h k = laws.shortest v b c h k

  present_once : F.asks.hashed ≡ false → (v : Option V) (b c : List ℕ) → Present F.writes v b → Present F.writes v c
      → b ≡ c
  present_once unhashed None b c h k = h ∙ sym k
  present_once unhashed (Some v) b c h k = laws.one_written unhashed v b c h k

  pub unless_none_laws : WholeLaws strict (unless_none F)
  unfolding unless_none
  unless_none_laws = record {
    one_value = one_present;
    tells = present_tells;
    written_encodes = λ v b h. present_as (λ x b k. laws.written_encodes x b k) v b h;
    written_alone = λ demanded v b h. present_as (λ x b k. laws.written_alone demanded x b k) v b h;
    shortest = present_shortest;
    has_written = present_written;
    one_written = present_once;
    names_own = laws.names_own;
    refuses_own = laws.refuses_own;
  }

-- a value that takes bytes and all behind it take some
pub pair_some : {U W : Type 0} (L : Format U) (M : Format W) (v : U × W) (b : List ℕ)
    → (pair (some_bytes L) M).encodes v b → b ≡ [] → ⊥
unfolding sequence some_bytes
pair_some L M v b h none = h.first_is.1 (both_none h.prefix h.suffix (sym h.whole_is ∙ none)).0

pub unless_end_laws : {U W : Type 0} {strict : Bool} {least : ℕ} {L : Format U} {M : Format W} → Laws strict least L
    → WholeLaws strict M → WholeLaws strict (unless_end L M)
unless_end_laws {L = L} {M = M} laws more =
    unless_none_laws (followed_laws (some_bytes_laws laws) more) (pair_some L M)

-- what misfits them: some bytes that misfit a part and all behind it
abbrev pub unless_end_misfits : {U : Type 0} → Format U → Misfits → Misfits
unless_end_misfits L behind =
    let parts = followed_misfits (some_bytes L) behind in
    record {
      too_many = λ bytes. (bytes ≡ [] → ⊥) × parts.too_many bytes;
      too_few = λ bytes. (bytes ≡ [] → ⊥) × parts.too_few bytes;
    }

some_bytes_written : {V : Type 0} {F G : Format V} → WritesToo F G → WritesToo (some_bytes F) (some_bytes G)
unfolding some_bytes
some_bytes_written same = record { too = λ v b h. (same.too v b h.0, h.1) }

unless_none_written : {V : Type 0} {F G : Format V} → WritesToo F G → WritesToo (unless_none F) (unless_none G)
unfolding unless_none
unless_none_written same = record { too = present_as same.too }

pub unless_end_written : {U W : Type 0} {L K : Format U} {M N : Format W} → WritesToo L K → WritesToo M N
    → WritesToo (unless_end L M) (unless_end K N)
unless_end_written first second =
    unless_none_written (sequence_written (λ p. p) _ _ (some_bytes_written first) (λ _. second))

abbrev pub unless_end_codec : {U W : Type 0} → Codec U → WholeCodec W → WholeCodec (Option (U × W))
unless_end_codec first second = record {
  format = λ f. unless_end (first.format f) (second.format f);
  misfits = λ f. unless_end_misfits (first.format f) (second.misfits f);
  laws = λ f. unless_end_laws (first.laws f) (second.laws f);
  same_written = λ f strict. unless_end_written (first.same_written f strict) (second.same_written f strict);
}
