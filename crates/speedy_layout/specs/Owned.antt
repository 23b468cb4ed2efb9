-- What owns or borrows a value, and adds no byte of its own.
use Rattle.std.specs.Prelude.{ℕ, Bool, true, false}
use Rattle.std.proofs.Common.{arith}
use Rattle.speedy_layout.specs.Format.{Format}
use Rattle.speedy_layout.specs.Laws.{Laws, Codec, Laws-asking, WritesToo}

-- a value that is read into memory of its own
unfoldable pub owned_content : {V : Type 0} → Format V → Format V
owned_content F = record F { asks = record F.asks { memory = true } }

-- a value that is borrowed: it can be read only from a reader that lends, without a request for memory; its bytes are
-- refused as before
unfoldable pub borrowed_content : {V : Type 0} → Format V → Format V
borrowed_content F = record F { asks = record F.asks { lending = true; memory = false } }

module _ {V : Type 0} {strict : Bool} {least : ℕ} {F : Format V} (laws : Laws strict least F) where
  pub owned_content_laws : Laws strict least (owned_content F)
  unfolding owned_content
  owned_content_laws = Laws-asking (record F.asks { memory = true }) (λ h. h) (omega arith) laws

  pub borrowed_content_laws : Laws strict least (borrowed_content F)
  unfolding borrowed_content
  borrowed_content_laws = Laws-asking (record F.asks { lending = true; memory = false }) (λ h. h) (omega arith) laws

module _ {V : Type 0} {F G : Format V} (same : WritesToo F G) where
  pub owned_written : WritesToo (owned_content F) (owned_content G)
  unfolding owned_content
  owned_written = record { too = same.too }

  pub borrowed_written : WritesToo (borrowed_content F) (borrowed_content G)
  unfolding borrowed_content
  borrowed_written = record { too = same.too }

abbrev pub owned_codec : {V : Type 0} → Codec V → Codec V
owned_codec c = record {
  least = c.least;
  format = λ f. owned_content (c.format f);
  laws = λ f. owned_content_laws (c.laws f);
  same_written = λ f strict. owned_written (c.same_written f strict);
}

abbrev pub borrowed_codec : {V : Type 0} → Codec V → Codec V
borrowed_codec c = record {
  least = c.least;
  format = λ f. borrowed_content (c.format f);
  laws = λ f. borrowed_content_laws (c.laws f);
  same_written = λ f strict. borrowed_written (c.same_written f strict);
}
