-- Which code a value of a type of one's own is encoded as: for `using`, which wants a file of this crate.
pub use Rattle.speedy_layout.specs.Encoding.{Encodes, encoded_as, number_encoded, subset_encoded, length_encoded}
pub use Rattle.speedy_layout.specs.Encoding.{encoded}
