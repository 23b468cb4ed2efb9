-- Parts that tell the number of bytes of the value behind them, which fills just so many.
use Rattle.std.specs.Prelude.{◌≡◌, ℕ, ◌+◌, List, ◌++◌, length, Bool, false, ◌⊎◌, refl}
use Rattle.std.proofs.Common.{sym, ◌∙◌, ap, subst, arith, inl, inr}
use Rattle.speedy_base.specs.declared.error.ErrorKind.{ErrorKind}
use Rattle.speedy_base.specs.declared.error.ErrorKind.TheVariants as kinds
use Rattle.speedy_base.specs.Mode.{Mode}
use Rattle.speedy_layout.specs.Codecs.{Codec}
use Rattle.speedy_layout.specs.Codes.{Accepts, Accepts-is, Accepts-means, Codebook, IsCode, coding, coding_laws}
use Rattle.speedy_layout.specs.Format.{Asks, Format, IsOwnKind}
use Rattle.speedy_layout.specs.Frames.{AreCounted, frame_asks, frame_code}
use Rattle.speedy_layout.specs.Laws.{Laws, Laws-asking, Laws-less, WritesToo}
use Rattle.speedy_layout.specs.Lengths.{told_codec, told_length, told_length_laws, told_length_written}
use Rattle.speedy_layout.specs.Sequences.{AsksAtMost, asks_same, sequence, sequence_laws, sequence_written}
use Rattle.speedy_layout.specs.Texts.{raw_bytes, raw_bytes_laws}
use Rattle.speedy_layout.specs.Wholes.{Misfits, WholeLaws, WholeCodec}
use Rattle.speedy_read.specs.Frames.{filling}

-- the value is written in n bytes
abbrev pub WrittenIn : {V : Type 0} → Format V → V → ℕ → Type 0
WrittenIn F v n = (bytes : List ℕ) × F.writes v bytes × (n ≡ length bytes)

-- n bytes, of which reading asks so much
abbrev pub bytes_asking : Asks → ℕ → Format (List ℕ)
bytes_asking asks n = record (raw_bytes n) { asks = asks }

-- What bytes stand for whose number is told: a value that all of them encode, and that is written in as many.
abbrev pub told_frame_code : {V : Type 0} → Format V → Codebook (List ℕ) V
told_frame_code F = record {
  means = λ bytes v. F.encodes v bytes × AreCounted bytes × WrittenIn F v (length bytes);
  chosen = λ bytes v. F.writes v bytes × AreCounted bytes;
  refusals = λ kind. F.names kind ⊎ (kind ≡ kinds.OutOfRangeLength);
}

-- bytes at whose start stands a value that fills n bytes, and is written in no n
pub record Overlong {V : Type 0} (f : Mode) (F : Format V) (misfits : Misfits) (n : ℕ) (bytes : List ℕ) : Type 0 where
  pub value : V
  pub prefix : List ℕ
  pub rest : List ℕ
  pub whole_is : bytes ≡ prefix ++ rest
  pub fills : (filling f F misfits n).encodes value prefix
  pub other : WrittenIn F value n → ⊥

-- A value that fills n bytes, and is written in as many. It is refused as one that fills them is, and one that is
-- written in fewer as a length that is wrong.
unfoldable pub told_frame : {V : Type 0} → Mode → Format V → Misfits → ℕ → Format V
told_frame f F misfits n = record (coding f (told_frame_code F) (bytes_asking (frame_asks F.asks) n)) {
  names = (filling f F misfits n).names;
  refuses_writing = F.refuses_writing;
  malformed = λ bytes. (filling f F misfits n).malformed bytes ⊎ Overlong f F misfits n bytes;
  wrong_length = λ bytes. (filling f F misfits n).wrong_length bytes ⊎ Overlong f F misfits n bytes;
}

-- ---- laws

-- what is accepted as a value is encoded by it
pub filling_means : {V : Type 0} (f : Mode) {F : Format V} → WholeLaws f.strict F → (v : V) (u : List ℕ)
    → Accepts f.strict (frame_code F) u v → F.encodes v u × AreCounted u
filling_means f {F = F} laws v u h =
    Accepts-means f.strict (frame_code F) u v (λ k. (laws.written_encodes v u k.0, k.1)) h

pub told_frame_means : {V : Type 0} (f : Mode) {F : Format V} → WholeLaws f.strict F → (v : V) (u : List ℕ)
    → Accepts f.strict (told_frame_code F) u v → F.encodes v u × AreCounted u × WrittenIn F v (length u)
told_frame_means f {F = F} laws v u h =
    Accepts-means f.strict (told_frame_code F) u v (λ k. (laws.written_encodes v u k.0, k.1, (u, k.0, refl))) h

pub raw_length : (n : ℕ) (u bytes : List ℕ) → (raw_bytes n).encodes u bytes → length u ≡ n
unfolding raw_bytes
raw_length n u bytes h = ap length h.0 ∙ h.1

bytes_unhashed : (n : ℕ) → (raw_bytes n).asks.hashed ≡ false
unfolding raw_bytes
bytes_unhashed n = refl

pub bytes_asking_laws : {strict : Bool} (asks : Asks) (n : ℕ) → Laws strict 0 (bytes_asking asks n)
bytes_asking_laws asks n = Laws-asking asks (λ _. bytes_unhashed n) (omega arith) (raw_bytes_laws n)

told_frame_is_code : {V : Type 0} {strict : Bool} {F : Format V} → WholeLaws strict F → (n : ℕ)
    → IsCode (told_frame_code F) (bytes_asking (frame_asks F.asks) n)
unfolding raw_bytes
told_frame_is_code laws n = record {
  one_meaning = λ u v w h k. laws.one_value v w u h.0 k.0;
  one_chosen = λ none u w v h k. laws.one_written none v u w h.0 k.0;
  tells = λ _ decided v w s t h k. laws.tells v w h.code k.code h.stands.0 k.stands.0;
  chosen_means = λ u v h. (laws.written_encodes v u h.0, h.1, (u, h.0, refl));
  has_chosen = λ v bytes h.
      let takes = h.stands.2 in
      let same = takes.2 in
      let counted = h.stands.1 in
      let long = ap length h.code_is.0 ∙ h.code_is.1 in (
        takes.0,
        record { code = takes.0; code_is = (refl, sym same ∙ long); stands = (takes.1, omega arith) },
      );
  chosen_shortest = λ _ v b d h k. let l = h.code_is.1 in let m = k.code_is.1 in omega arith;
  refusals_own = λ kind h.
      elim h [
        | inl named ↦ laws.names_own kind named
        | inr is ↦ subst IsOwnKind (sym is) tt
      ];
}

-- what encodes a value in its frame fills that
pub told_frame_fills : {V : Type 0} (f : Mode) {F : Format V} (misfits : Misfits) → WholeLaws f.strict F → (n : ℕ)
    (v : V) (s : List ℕ) → (told_frame f F misfits n).encodes v s → (filling f F misfits n).encodes v s
unfolding told_frame coding
told_frame_fills f {F = F} misfits laws n v s h =
    let means = told_frame_means f laws v h.code h.stands in
    record {
      code = h.code;
      code_is = h.code_is;
      stands = Accepts-is f.strict (frame_code F) h.code v (means.0, means.1)
          (λ strict. (laws.written_alone strict v h.code means.0, means.1));
    }

-- bytes that are refused begin with no value in its frame
malformed_alone : {V : Type 0} (f : Mode) {F : Format V} (misfits : Misfits) → WholeLaws f.strict F → (n : ℕ) (v : V)
    (prefix rest : List ℕ) → (told_frame f F misfits n).malformed (prefix ++ rest)
    → (told_frame f F misfits n).encodes v prefix → ⊥
unfolding told_frame coding
malformed_alone f {F = F} misfits laws n v prefix rest (inl (inl bad)) h =
    (raw_bytes_laws {strict = f.strict} n).malformed_undecodable h.code prefix rest bad h.code_is
malformed_alone f {F = F} misfits laws n v prefix rest (inl (inr x)) h =
    let fills = told_frame_fills f misfits laws n v prefix h in
    let same = (raw_bytes_laws {strict = f.strict} n).decodes x.code fills.code x.prefix prefix x.rest rest x.code_is
    fills.code_is (sym x.whole_is) in
    x.nothing v (subst (λ u. Accepts f.strict (frame_code F) u v) (sym same.0) fills.stands)
malformed_alone f {F = F} misfits laws n v prefix rest (inr x) h =
    let same = (raw_bytes_laws {strict = f.strict} n).decodes x.fills.code h.code x.prefix prefix x.rest rest
    x.fills.code_is h.code_is (sym x.whole_is) in
    let means = told_frame_means f laws v h.code h.stands in
    let other = filling_means f laws x.value x.fills.code x.fills.stands in
    let value = laws.one_value v x.value h.code means.0 (subst (F.encodes x.value) same.0 other.0) in
    let takes = subst (λ y. WrittenIn F y (length h.code)) value means.2 in
    let long = raw_length n h.code prefix h.code_is in
    x.other (takes.0, takes.1, sym long ∙ takes.2)

named_own : {V : Type 0} (f : Mode) {F : Format V} (misfits : Misfits) → WholeLaws f.strict F → (n : ℕ)
    (kind : ErrorKind) → (told_frame f F misfits n).names kind → IsOwnKind kind
unfolding told_frame coding
named_own f misfits laws n kind (inl h) = (raw_bytes_laws {strict = f.strict} n).names_own kind h
named_own f misfits laws n kind (inr (inl (inl h))) = laws.names_own kind h
named_own f misfits laws n kind (inr (inl (inr is))) = subst IsOwnKind (sym is) tt
named_own f misfits laws n kind (inr (inr demand)) = subst IsOwnKind (sym demand.1) tt

-- and bytes of a wrong length are refused
wrong_malformed : {V : Type 0} (f : Mode) (F : Format V) (misfits : Misfits) (n : ℕ) (b : List ℕ)
    → (told_frame f F misfits n).wrong_length b → (told_frame f F misfits n).malformed b
unfolding told_frame coding
wrong_malformed f F misfits n b (inl wrong) = inl (inr wrong.nothing)
wrong_malformed f F misfits n b (inr over) = inr over

pub told_frame_laws : {V : Type 0} (f : Mode) {F : Format V} (misfits : Misfits) → WholeLaws f.strict F → (n : ℕ)
    → Laws f.strict 0 (told_frame f F misfits n)
unfolding told_frame
told_frame_laws f {F = F} misfits laws n =
    let coded = coding_laws f (bytes_asking_laws (frame_asks F.asks) n) (told_frame_is_code laws n) in
    record {
      decodes = coded.decodes;
      tells = coded.tells;
      written_encodes = coded.written_encodes;
      written_alone = coded.written_alone;
      shortest = coded.shortest;
      least_size = coded.least_size;
      has_written = coded.has_written;
      one_written = coded.one_written;
      malformed_undecodable = malformed_alone f misfits laws n;
      wrong_length_malformed = wrong_malformed f F misfits n;
      names_own = named_own f misfits laws n;
      refuses_own = laws.refuses_own;
    }

pub told_frame_asks : {V : Type 0} (f : Mode) (F : Format V) (misfits : Misfits) (n : ℕ)
    → AsksAtMost (told_frame f F misfits n).asks (frame_asks F.asks)
unfolding told_frame coding
told_frame_asks f F misfits n = asks_same

-- a value is written in its frame as it is without one
pub told_frame_same_written : {V : Type 0} (f g : Mode) {F G : Format V} (misfits others : Misfits) (n : ℕ)
    → WritesToo F G → WritesToo (told_frame f F misfits n) (told_frame g G others n)
unfolding told_frame coding raw_bytes
told_frame_same_written f g misfits others n same = record {
  too = λ v b h.
      record { code = h.code; code_is = h.code_is; stands = (same.too v h.code h.stands.0, h.stands.1) };
}

-- Parts whose numbers tell a length, and behind them a value that fills so many bytes.
abbrev pub with_frame_codec : {N B V : Type 0} → (N → Type 0) → (N → ℕ) → (B → N) → List ℕ → Codec B → WholeCodec V
    → Codec (B × V)
with_frame_codec {B = B} {V = V} is_told told numbers field before value = record {
  least = before.least;
  format = λ f. sequence (λ (p : B × V). p) ((told_codec is_told numbers before).format f)
      (frame_asks (value.format f).asks)
      (λ b. told_length field (told_frame f (value.format f) (value.misfits f) (told (numbers b))));
  laws = λ f. Laws-less {n = before.least + 0} (omega arith)
      (sequence_laws {n = before.least} {m = 0} ((told_codec is_told numbers before).laws f)
      (λ b. told_length_laws field (told_frame_laws f (value.misfits f) (value.laws f) (told (numbers b))))
      (λ b. told_frame_asks f (value.format f) (value.misfits f) (told (numbers b))) (λ v w e. e));
  same_written = λ f strict. sequence_written (λ (p : B × V). p) _ _
      ((told_codec is_told numbers before).same_written f strict)
      (λ b. told_length_written field
      (told_frame_same_written f (record f { strict = strict }) (value.misfits f)
      (value.misfits (record f { strict = strict })) (told (numbers b)) (value.same_written f strict)));
}
