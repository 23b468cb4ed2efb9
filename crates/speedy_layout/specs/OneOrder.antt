-- Numbers whose bytes lie in one order, whatever that of the mode is.
use Rattle.std.specs.Prelude.{ℕ, List}
use Rattle.speedy_base.specs.declared.endianness.Endianness.{Endianness}
use Rattle.speedy_base.specs.Mode.{Mode}
use Rattle.speedy_layout.specs.FixedNumbers.{AreFixed, encoded_in}
use Rattle.speedy_layout.specs.Laws.{Codec}

-- the mode with another order
abbrev pub in_order : Endianness → Mode → Mode
in_order order mode = record mode { order = order }

-- values that are encoded as under that order, in both orders
abbrev pub one_order_codec : {V : Type 0} → Endianness → Codec V → Codec V
one_order_codec order values = record {
  least = values.least;
  format = λ f. values.format (in_order order f);
  laws = λ f. values.laws (in_order order f);
  same_written = λ f. values.same_written (in_order order f);
}

-- so a number of one order is a number of as many bytes
pub one_order_fixed : {V : Type 0} {size : ℕ} {values : Codec V} {shown : Endianness → List ℕ → V}
    (order : Endianness) → AreFixed size values shown
    → AreFixed size (one_order_codec order values) (λ _. shown order)
one_order_fixed order are = let fixed = are.is_fixed in record {
  least_is = are.least_is;
  is_fixed = record {
    has_bytes = fixed.has_bytes;
    at_most = fixed.at_most;
    encodes = λ mode. fixed.encodes (in_order order mode);
    writes = λ mode. fixed.writes (in_order order mode);
    length_is = λ _. fixed.length_is order;
    none_malformed = λ mode. fixed.none_malformed (in_order order mode);
  };
  decodes = λ _. are.decodes order;
}

-- which is encoded alike under each mode
pub one_order_alike : {V : Type 0} {size : ℕ} {values : Codec V} {shown : Endianness → List ℕ → V}
    (order : Endianness) → AreFixed size values shown → (mode : Mode) (v : V) (bytes : List ℕ)
    → encoded_in values.format order v bytes → ((one_order_codec order values).format mode).encodes v bytes
one_order_alike {values = values} order are mode v bytes h =
    (values.laws (in_order order mode)).written_encodes v bytes
    (are.is_fixed.writes (in_order order mode) v bytes h)
