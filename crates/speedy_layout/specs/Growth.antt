-- Formats that grow: what a newer form wrote to an older reader, and the other way round.
use Rattle.std.specs.Prelude.{◌≡◌, List, ℕ, [], length, None, refl}
use Rattle.std.proofs.Common.{sym, ap, subst}
use Rattle.std.proofs.lemmas.List.{append-nil}
use Rattle.speedy_base.specs.Digits.{AreBytes}
use Rattle.speedy_base.specs.DigitsLemmas.{AreBytes-append_parts}
use Rattle.speedy_base.specs.Mode.{Mode}
use Rattle.speedy_layout.specs.Codecs.{unsigned_codec}
use Rattle.speedy_layout.specs.Codes.{coding, Accepts-is, Accepts-means}
use Rattle.speedy_layout.specs.Format.{Format}
use Rattle.speedy_layout.specs.Frames.{frame, frame_code}
use Rattle.speedy_layout.specs.Growing.{unless_end, unless_end_laws, unless_none}
use Rattle.speedy_layout.specs.Laws.{Laws}
use Rattle.speedy_layout.specs.Lengths.{Counting, list_counting}
use Rattle.speedy_layout.specs.Lists.{repeat, vector}
use Rattle.speedy_layout.specs.Numbers.{unsigned_number}
use Rattle.speedy_layout.specs.Owned.{owned_content}
use Rattle.speedy_layout.specs.Rests.{rest, rest_laws}
use Rattle.speedy_layout.specs.Sequences.{sequence}
use Rattle.speedy_layout.specs.Texts.{raw_bytes, each_byte}
use Rattle.speedy_layout.specs.Tuples.{pair}
use Rattle.speedy_layout.specs.Wholes.{WholeLaws, whole_laws, followed_laws}

-- bytes of any number, which a reader passes over that does not know what they encode
abbrev pub passed_bytes : Counting (List ℕ)
passed_bytes = list_counting (unsigned_codec 1)

passed_over : (f : Mode) (b : List ℕ) → AreBytes b → (rest f passed_bytes).encodes b b
unfolding rest vector owned_content repeat unsigned_number
passed_over f b are = ((refl, each_byte f.order b are), λ none. ap length none)

-- What a newer form wrote, with more parts behind the first ones, are the same first parts to an older one, which
-- passes over the rest.
pub newer_read : {U W : Type 0} (f : Mode) (L : Format U) (M : Format W) (v : U) (w : W) (b : List ℕ) → AreBytes b
    → (pair L M).encodes (v, w) b → (passed : List ℕ) × (pair L (rest f passed_bytes)).encodes (v, passed) b
unfolding sequence
newer_read f L M v w b are h = (
  h.suffix,
  record {
    prefix = h.prefix;
    suffix = h.suffix;
    whole_is = h.whole_is;
    first_is = h.first_is;
    second_is = passed_over f h.suffix (AreBytes-append_parts h.prefix h.suffix (subst AreBytes h.whole_is are)).1;
  },
)

-- What an older form wrote, which ends behind the first parts, are the same first parts to a newer one, and none of the
-- later.
pub older_read : {U V W : Type 0} (L : Format U) (N : Format V) (M : Format W) (v : U) (b : List ℕ)
    → L.encodes v b → (pair L (unless_end N M)).encodes (v, None) b
unfolding sequence unless_none
older_read L N M v b h =
    record { prefix = b; suffix = []; whole_is = sym (append-nil b); first_is = h; second_is = refl }

-- what is read of the bytes of a frame is read of the frame
frame_read : {V U : Type 0} (f : Mode) (number : Format ℕ) {F : Format V} {G : Format U} → WholeLaws f.strict F
    → WholeLaws f.strict G → (v : V) (R : U → Type 0)
    → ((b : List ℕ) → AreBytes b → F.encodes v b → (u : U) × R u × G.encodes u b)
    → (s : List ℕ) → AreBytes s → (frame f number F).encodes v s → (u : U) × R u × (frame f number G).encodes u s
unfolding frame coding sequence raw_bytes
frame_read f number {F = F} {G = G} laws other v R read s are h =
    let means =
    Accepts-means f.strict (frame_code F) h.code v (λ k. (laws.written_encodes v h.code k.0, k.1)) h.stands in
    let all = (AreBytes-append_parts h.code_is.prefix h.code_is.suffix (subst AreBytes h.code_is.whole_is are)).1 in
    let u = read h.code (subst AreBytes (sym h.code_is.second_is.0) all) means.0 in (
      u.0,
      u.1,
      record {
        code = h.code;
        code_is = h.code_is;
        stands = Accepts-is f.strict (frame_code G) h.code u.0 (u.2, means.1)
            (λ strict. (other.written_alone strict u.0 h.code u.2, means.1));
      },
    )

module _ {U : Type 0} (f : Mode) (number : Format ℕ) {least : ℕ} {L : Format U} (laws : Laws f.strict least L) where
  -- a frame of a newer form, to an older one
  pub newer_frame_read : {W : Type 0} {M : Format W} → WholeLaws f.strict M → (v : U) (w : W) (s : List ℕ)
      → AreBytes s → (frame f number (pair L M)).encodes (v, w) s
      → (passed : List ℕ) × (frame f number (pair L (rest f passed_bytes))).encodes (v, passed) s
  newer_frame_read {M = M} more v w s are h =
      let u = frame_read f number (followed_laws laws more) (followed_laws laws (rest_laws f passed_bytes)) (v, w)
      (λ (u : U × List ℕ). u.0 ≡ v)
      (λ b bytes k. let r = newer_read f L M v w b bytes k in ((v, r.0), refl, r.1)) s are h in
      (u.0.1, subst (λ (x : U). (frame f number (pair L (rest f passed_bytes))).encodes (x, u.0.1) s) u.1 u.2)

  -- and one of an older form, to a newer one
  pub older_frame_read : {V W : Type 0} {n : ℕ} {N : Format V} {M : Format W} → Laws f.strict n N
      → WholeLaws f.strict M → (v : U) (s : List ℕ) → AreBytes s → (frame f number L).encodes v s
      → (frame f number (pair L (unless_end N M))).encodes (v, None) s
  older_frame_read {N = N} {M = M} next more v s are h =
      let u = frame_read f number (whole_laws laws) (followed_laws laws (unless_end_laws next more)) v
      (λ u. u ≡ (v, None)) (λ b bytes k. ((v, None), refl, older_read L N M v b k)) s are h in
      subst (λ x. (frame f number (pair L (unless_end N M))).encodes x s) u.1 u.2
