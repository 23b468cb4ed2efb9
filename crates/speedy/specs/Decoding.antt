-- Which value of a type of one's own a code is decoded to: for `using`, which wants a file of this crate.
pub use Rattle.speedy_read.specs.Decoding.{IsCoded, coded, Decodes, decoded_read, decoded_as, means_nothing, not_chosen}
pub use Rattle.speedy_read.specs.Decoding.{decoded_exactly, refused_exactly, subset_decoded, subset_refused, decoded}
