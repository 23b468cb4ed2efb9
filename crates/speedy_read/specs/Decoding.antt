-- How values are decoded from codes that were read: values of another type, each of which means a value or is refused.
use Rattle.std.specs.Prelude.{◌≡◌, ℕ, List, ◌++◌, Bool, IsTrue, ◌⊎◌, Result, Ok, Err, MatchResult, refl}
use Rattle.std.proofs.Common.{sym, ◌∙◌, ap, subst, inl, inr}
use Rattle.speedy_base.specs.declared.error.ErrorKind.{ErrorKind}
use Rattle.speedy_base.specs.declared.error.ErrorKind.TheVariants as kinds
use Rattle.speedy_base.specs.Error.{Errors, IsNamed, IsNamed-more, error_of}
use Rattle.speedy_base.specs.Mode.{Mode}
use Rattle.speedy_layout.specs.Codes.{Codebook, IsCode, ReadsWider, IsDemand, coding, coding_codec, exact_code, Accepts}
use Rattle.speedy_layout.specs.Codes.{Accepts-is, Accepts-means, Accepts-demanded, subset_codec}
use Rattle.speedy_layout.specs.Codes.{subset_is_code}
use Rattle.speedy_layout.specs.Format.{IsOwnKind}
use Rattle.speedy_layout.specs.Laws.{Codec}
use Rattle.speedy_read.specs.Codes.{Covers, codes_cover, got_covered, unaccepted}
use Rattle.speedy_read.specs.Reading.{ReaderState, Undecodable, Reads, refusing_kinds}

-- each encoding of a value is one of a code, and both have one least size
pub record IsCoded {U V : Type 0} (codes : Codec U) (values : Codec V) : Type 0 where
  pub covers : (mode : Mode) → Covers (codes.format mode) (values.format mode)
  pub least : codes.least ≡ values.least

pub coded : {U V : Type 0} (c : Codebook U V) (codes : Codec U) (is : (mode : Mode) → IsCode c (codes.format mode))
    → IsCoded codes (coding_codec c codes is)
coded c codes is = record { covers = λ mode. codes_cover mode c; least = refl }

-- What a code is decoded to, under a demand for the canonical encoding or none: a value that each encoding of the code
-- encodes, or an error where none begins an encoding of any.
pub record Decodes {E U V B : Type 0} (errors : Errors E) (strict : Bool) (codes : Codec U) (values : Codec V)
    (code : U) (seen : B → V) (result : Result B E) : Type 0 where
  pub decoded : (mode : Mode) → mode.strict ≡ strict → MatchResult result
      (λ y. (s : List ℕ) → (codes.format mode).encodes code s → (values.format mode).encodes (seen y) s)
      (λ e. IsNamed errors.from_gives (values.format mode).names e
      × ((s rest : List ℕ) → (codes.format mode).encodes code s
      → Undecodable errors.from_gives errors.eof (values.format mode) e (s ++ rest)))

-- a code that was read and decoded is a value that was read
pub decoded_read : {E U V A B : Type 0} {errors : Errors E} {codes : Codec U} {values : Codec V}
    {seen : A → U} {seen' : B → V} {x : A} {old new : ReaderState} {strict : Bool} (result : Result B E)
    → strict ≡ new.mode.strict → Decodes errors strict codes values (seen x) seen' result
    → Reads errors.from_gives errors.eof seen (codes.format old.mode) (Ok x) old new
    → Reads errors.from_gives errors.eof seen' (values.format old.mode) result old new
decoded_read {old = old} {new = new} (Ok y) is d r =
    got_covered (d.decoded old.mode (sym (is ∙ ap (λ (m : Mode). m.strict) r.kept.mode))) r
decoded_read {errors = errors} {values = values} {old = old} {new = new} (Err e) is d r =
    let refused = d.decoded old.mode (sym (is ∙ ap (λ (m : Mode). m.strict) r.kept.mode)) in
    record {
      kept = r.kept;
      answer = inr (record {
        no_fault = r.answer.no_fault;
        kind = inr (IsNamed-more errors.from_gives {more = refusing_kinds (values.format old.mode) old.fixed.lends} e
            (λ kind h. inl h) refused.0);
        because = λ told. subst (λ (bytes : List ℕ).
            Undecodable errors.from_gives errors.eof (values.format old.mode) e bytes)
            (sym (r.answer.taken told.tells)) (refused.1 r.answer.prefix new.remaining r.answer.prefix_is);
      });
    }

module _ {E U V B : Type 0} {errors : Errors E} {strict : Bool} (c : Codebook U V) (codes : Codec U)
    (is : (mode : Mode) → IsCode c (codes.format mode)) {u : U} {seen : B → V} where
  -- a code is decoded to the value that it means, where it is chosen for it under a demand
  pub decoded_as : {y : B} → c.means u (seen y) → (IsTrue strict → c.chosen u (seen y))
      → Decodes errors strict codes (coding_codec c codes is) u seen (Ok y)
  unfolding coding
  decoded_as {y = y} means chosen = record {
    decoded = λ mode same s h. record {
      code = u;
      code_is = h;
      stands = Accepts-is mode.strict c u (seen y) means (λ demanded. chosen (sym same ∙ demanded));
    };
  }

  -- a code that is accepted as no value is refused
  not_accepted : {e : E} → ((mode : Mode) → mode.strict ≡ strict → ((v : V) → Accepts mode.strict c u v → ⊥)
      × IsNamed errors.from_gives (λ kind. c.refusals kind ⊎ IsDemand mode.strict c kind) e)
      → Decodes errors strict codes (coding_codec c codes is) u seen (Err e)
  unfolding coding
  not_accepted {e = e} refused = record {
    decoded = λ mode same. let why = refused mode same in (
      IsNamed-more errors.from_gives
          {more = λ kind. (codes.format mode).names kind ⊎ (c.refusals kind ⊎ IsDemand mode.strict c kind)} e
          (λ kind h. inr h) why.1,
      λ s rest h. unaccepted mode c (codes.laws mode) rest h refl why.0 why.1,
    );
  }

  -- so is one that means nothing
  pub means_nothing : {e : E} → ((v : V) → c.means u v → ⊥) → IsNamed errors.from_gives c.refusals e
      → Decodes errors strict codes (coding_codec c codes is) u seen (Err e)
  means_nothing {e = e} nothing named = not_accepted (λ mode same. (
    λ v h. nothing v (Accepts-means mode.strict c u v ((is mode).chosen_means u v) h),
    IsNamed-more errors.from_gives {more = λ kind. c.refusals kind ⊎ IsDemand mode.strict c kind} e
        (λ kind h. inl h) named,
  ))

  -- and, under a demand, one that is chosen for no value
  pub not_chosen : {e : E} → ReadsWider c → IsTrue strict → ((v : V) → c.chosen u v → ⊥)
      → errors.from_gives (error_of kinds.NotWrittenForm) e
      → Decodes errors strict codes (coding_codec c codes is) u seen (Err e)
  not_chosen wider demanded unchosen given = not_accepted (λ mode same. (
    λ v h. unchosen v (Accepts-demanded mode.strict c u v (same ∙ demanded) h),
    (kinds.NotWrittenForm, inr (same ∙ demanded, refl, wider), given),
  ))

module _ {E U V B : Type 0} {errors : Errors E} {strict : Bool} (means : U → V → Type 0)
    (refusals : ErrorKind → Type 0) (codes : Codec U)
    (is : (mode : Mode) → IsCode (exact_code means refusals) (codes.format mode)) {u : U} {seen : B → V} where
  -- of an exact code one fact is enough
  pub decoded_exactly : {y : B} → means u (seen y)
      → Decodes errors strict codes (coding_codec (exact_code means refusals) codes is) u seen (Ok y)
  decoded_exactly h = decoded_as _ codes is h (λ _. h)

  -- and an error of the one kind, where a code means nothing
  pub refused_exactly : {kind : ErrorKind} {e : E} → ((v : V) → means u v → ⊥) → refusals kind
      → errors.from_gives (error_of kind) e
      → Decodes errors strict codes (coding_codec (exact_code means refusals) codes is) u seen (Err e)
  refused_exactly {kind = kind} nothing own given = means_nothing _ codes is nothing (kind, own, given)

module _ {E V B : Type 0} {errors : Errors E} {strict : Bool} (pass : V → Type 0) (refusal : ErrorKind)
    (own : IsOwnKind refusal) (whole : Codec V) {u : V} {seen : B → V} where
  -- a value that passes a test is decoded as it is
  pub subset_decoded : {y : B} → seen y ≡ u → pass (seen y)
      → Decodes errors strict whole (subset_codec pass refusal own whole) u seen (Ok y)
  subset_decoded same passed = decoded_exactly _ _ whole (λ mode. subset_is_code pass refusal own) (sym same, passed)

  -- and one that does not is refused
  pub subset_refused : {e : E} → (pass u → ⊥) → errors.from_gives (error_of refusal) e
      → Decodes errors strict whole (subset_codec pass refusal own whole) u seen (Err e)
  subset_refused fails given =
      refused_exactly _ _ whole (λ mode. subset_is_code pass refusal own)
      (λ v h. fails (subst pass (sym h.0) h.1)) refl given

pub ruleset decoded = (decoded_exactly, refused_exactly, subset_decoded, subset_refused)
