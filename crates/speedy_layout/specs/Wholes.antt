-- Values that have all of the bytes. Their encodings may begin longer ones, so that no layout says where they end.
use Rattle.std.specs.Prelude.{◌≡◌, ℕ, ◌≤◌, List, [], ◌++◌, length, Bool, false, IsTrue, ◌⊎◌, refl}
use Rattle.std.proofs.Common.{sym, ◌∙◌, ap, ap₂, subst, arith, inl, inr}
use Rattle.std.proofs.lemmas.List.{length-append}
use Rattle.speedy_base.specs.declared.error.ErrorKind.{ErrorKind}
use Rattle.speedy_base.specs.Mode.{Mode}
use Rattle.speedy_layout.specs.Format.{Format, IsOwnKind, Parts, Parts-joined}
use Rattle.speedy_layout.specs.Laws.{Laws, Codec, Decided, SameWritten}
use Rattle.speedy_layout.specs.Sequences.{neither, sequence, sequence_written, Parts-as}
use Rattle.speedy_layout.specs.Tuples.{pair}

-- The laws of a format of whole values, under a demand for the canonical encoding or none.
pub record WholeLaws {V : Type 0} (strict : Bool) (F : Format V) : Type 0 where
  -- all of the bytes encode at most one value
  pub one_value : (v w : V) (b : List ℕ) → F.encodes v b → F.encodes w b → v ≡ w
  -- whether two values that have encodings are the same is decided
  pub tells : (v w : V) (s t : List ℕ) → F.encodes v s → F.encodes w t → Decided (v ≡ w)
  -- what is written encodes the value
  pub written_encodes : (v : V) (b : List ℕ) → F.writes v b → F.encodes v b
  -- and under a demand for the canonical encoding, what encodes the value is written
  pub written_alone : IsTrue strict → (v : V) (b : List ℕ) → F.encodes v b → F.writes v b
  -- no encoding is shorter than what is written
  pub shortest : (v : V) (b c : List ℕ) → F.writes v b → F.encodes v c → length b ≤ length c
  -- a value that has an encoding has a written one
  pub has_written : (v : V) (b : List ℕ) → F.encodes v b → (w : List ℕ) × F.writes v w
  -- just one, where no part is hashed
  pub one_written : F.asks.hashed ≡ false → (v : V) (b c : List ℕ) → F.writes v b → F.writes v c → b ≡ c
  -- the kinds that a type names are its own
  pub names_own : (kind : ErrorKind) → F.names kind → IsOwnKind kind
  -- and so are those that its writing is refused with
  pub refuses_own : (kind : ErrorKind) → F.refuses_writing kind → IsOwnKind kind

-- Which bytes, all of them, are too many or too few for a value.
pub record Misfits : Type 1 where
  -- bytes are left behind a value, or a length in it is wrong: they are refused as a length that is out of range
  pub too_many : List ℕ → Type 0
  -- the bytes end within a value: they are refused as an end
  pub too_few : List ℕ → Type 0

-- A format of whole values under each mode, with its laws.
pub record WholeCodec (V : Type 0) : Type 1 where
  -- which bytes, all of them, encode which values
  pub format : Mode → Format V
  -- and which are too many or too few
  pub misfits : Mode → Misfits
  -- bytes encode at most one value, and a shortest encoding is written
  pub laws : (f : Mode) → WholeLaws f.strict (format f)
  -- which one is written, only the order says
  pub same_written : SameWritten format

-- the laws of a layout, where no byte stands behind a value
pub whole_laws : {V : Type 0} {strict : Bool} {least : ℕ} {F : Format V} → Laws strict least F → WholeLaws strict F
whole_laws laws = record {
  one_value = λ v w b h k. (laws.decodes v w b b [] [] h k refl).0;
  tells = laws.tells;
  written_encodes = laws.written_encodes;
  written_alone = laws.written_alone;
  shortest = laws.shortest;
  has_written = laws.has_written;
  one_written = laws.one_written;
  names_own = laws.names_own;
  refuses_own = laws.refuses_own;
}

-- bytes that end within an encoding
pub record IsCut {V : Type 0} (F : Format V) (bytes : List ℕ) : Type 0 where
  pub value : V
  pub more : List ℕ
  pub encoded : F.encodes value (bytes ++ more)
  pub some : more ≡ [] → ⊥

-- bytes that go on behind an encoding
pub record GoesOn {V : Type 0} (F : Format V) (bytes : List ℕ) : Type 0 where
  pub value : V
  pub prefix : List ℕ
  pub rest : List ℕ
  pub whole_is : bytes ≡ prefix ++ rest
  pub encoded : F.encodes value prefix
  pub some : rest ≡ [] → ⊥

-- what misfits a value of a layout, where no byte stands behind it
abbrev pub value_misfits : {V : Type 0} → Format V → Misfits
value_misfits F = record { too_many = λ bytes. F.wrong_length bytes ⊎ GoesOn F bytes; too_few = IsCut F }

-- and what misfits parts with a layout that a whole value follows
abbrev pub followed_misfits : {U : Type 0} → Format U → Misfits → Misfits
followed_misfits {U = U} L behind = record {
  too_many = λ bytes. L.wrong_length bytes ⊎ ((u : U) × Parts (L.encodes u) behind.too_many bytes);
  too_few = λ bytes. IsCut L bytes ⊎ ((u : U) × Parts (L.encodes u) behind.too_few bytes);
}

-- the values of a layout, whole
abbrev pub whole_codec : {V : Type 0} → Codec V → WholeCodec V
whole_codec value = record {
  format = value.format;
  misfits = λ f. value_misfits (value.format f);
  laws = λ f. whole_laws (value.laws f);
  same_written = value.same_written;
}

-- ---- parts with a layout, and then a whole value

module _ {U W : Type 0} {strict : Bool} {least : ℕ} {L : Format U} {M : Format W} (laws : Laws strict least L)
    (more : WholeLaws strict M) where
  pub followed_laws : WholeLaws strict (pair L M)
  unfolding sequence
  followed_laws = record {
    one_value = one_value;
    tells = λ v w s t h k.
        elim (laws.tells v.0 w.0 h.prefix k.prefix h.first_is k.first_is) [
          | inl first ↦
              elim (more.tells v.1 w.1 h.suffix k.suffix h.second_is k.second_is) [
                | inl second ↦ inl (both first second)
                | inr n ↦ inr (λ e. n (ap (λ (p : U × W). p.1) e))
              ]
          | inr n ↦ inr (λ e. n (ap (λ (p : U × W). p.0) e))
        ];
    written_encodes = λ v b h. Parts-as (laws.written_encodes v.0) (more.written_encodes v.1) h;
    written_alone = λ s v b h. Parts-as (laws.written_alone s v.0) (more.written_alone s v.1) h;
    shortest = λ v b c h k.
        let first = laws.shortest v.0 h.prefix k.prefix h.first_is k.first_is in
        let second = more.shortest v.1 h.suffix k.suffix h.second_is k.second_is in
        let l = ap length h.whole_is ∙ length-append h.prefix h.suffix in
        let o = ap length k.whole_is ∙ length-append k.prefix k.suffix in
        omega arith;
    has_written = λ v b h.
        let first = laws.has_written v.0 h.prefix h.first_is in
        let second = more.has_written v.1 h.suffix h.second_is in (
          first.0 ++ second.0,
          Parts-joined first.0 second.0 first.1 second.1,
        );
    one_written = λ u v b c h k.
        let no = neither L.asks.hashed M.asks.hashed u in
        let first = laws.one_written no.0 v.0 h.prefix k.prefix h.first_is k.first_is in
        let second = more.one_written no.1 v.1 h.suffix k.suffix h.second_is k.second_is in
        h.whole_is ∙ (cc) ∙ sym k.whole_is;
    names_own = λ kind named. elim named [ inl h ↦ laws.names_own kind h | inr h ↦ more.names_own kind h.1 ];
    refuses_own = λ kind refused. elim refused [ inl h ↦ laws.refuses_own kind h | inr h ↦ more.refuses_own kind h.1 ];
  } where
    both : {u x : U} {y z : W} → u ≡ x → y ≡ z → let v : U × W = (u, y) in let w : U × W = (x, z) in v ≡ w
    both first second = ap₂ (λ (u : U) (y : W). let v : U × W = (u, y) in v) first second

    one_value : (v w : U × W) (b : List ℕ) → Parts (L.encodes v.0) (M.encodes v.1) b
        → Parts (L.encodes w.0) (M.encodes w.1) b → v ≡ w
    one_value v w b h k =
        let first = laws.decodes v.0 w.0 h.prefix k.prefix h.suffix k.suffix h.first_is k.first_is
        (sym h.whole_is ∙ k.whole_is) in
        let second = more.one_value v.1 w.1 k.suffix (subst (M.encodes v.1) first.2 h.second_is) k.second_is in
        both first.0 second

-- parts with a layout, and then a whole value
abbrev pub followed_codec : {U W : Type 0} → Codec U → WholeCodec W → WholeCodec (U × W)
followed_codec first second = record {
  format = λ f. pair (first.format f) (second.format f);
  misfits = λ f. followed_misfits (first.format f) (second.misfits f);
  laws = λ f. followed_laws (first.laws f) (second.laws f);
  same_written = λ f strict. sequence_written (λ p. p) _ _ (first.same_written f strict)
      (λ _. second.same_written f strict);
}
