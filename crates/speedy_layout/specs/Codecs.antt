-- Each codec, under one name: a format under each mode, its least size and its laws.
pub use Rattle.speedy_layout.specs.Laws.{Codec}
pub use Rattle.speedy_layout.specs.Codes.{coding_codec, subset_codec}
pub use Rattle.speedy_layout.specs.Numbers.{unsigned_codec, signed_codec, usize_codec, length_codec}
pub use Rattle.speedy_layout.specs.OneOrder.{one_order_codec}
pub use Rattle.speedy_layout.specs.NonZero.{non_zero_codec, signed_non_zero_codec}
pub use Rattle.speedy_layout.specs.Varint.{varint_codec}
pub use Rattle.speedy_layout.specs.Leaves.{character_codec, byte_order_codec, duration_codec}
pub use Rattle.speedy_layout.specs.Addresses.{address_codec, ip_address_codec}
pub use Rattle.speedy_layout.specs.Texts.{raw_bytes_codec, constant_codec, text_codec, prefixed_text_codec}
pub use Rattle.speedy_layout.specs.Padding.{padding_codec, zeros_codec}
pub use Rattle.speedy_layout.specs.CText.{nul_ended_codec, nul_ended_text_codec}
pub use Rattle.speedy_layout.specs.Until.{entry_codec, until_codec}
pub use Rattle.speedy_layout.specs.Owned.{owned_codec, borrowed_codec}
pub use Rattle.speedy_layout.specs.Tuples.{unit_codec, pair_codec}
pub use Rattle.speedy_layout.specs.Flags.{flag_codec, option_codec, alternative_codec}
pub use Rattle.speedy_layout.specs.Lists.{vector_codec, list_codec, prefixed_list_codec}
pub use Rattle.speedy_layout.specs.Maps.{tree_map_codec, hash_map_codec, index_map_codec}
pub use Rattle.speedy_layout.specs.Sets.{tree_set_codec, hash_set_codec, index_set_codec}
pub use Rattle.speedy_layout.specs.Wholes.{WholeCodec, whole_codec, followed_codec}
