-- The types of the program.
use Rattle.std.specs.Prelude.{ℕ, ◌==◌, List, [], ◌∷◌, Bool, true, not, ◌&&◌, IsTrue, codes, ◌⊎◌, refl}
use Rattle.std.specs.Ordering.{nat_cmp}
use Rattle.std.specs.String.{string_bytes, string_cmp}
use Rattle.std.specs.declared.alloc.Global.{Global}
use Rattle.std.specs.Int.{w8, w16, w32, w64, w128}
use Rattle.speedy.specs.Choices.{Choices, unit_case, one_case, either_case, tagged}
use Rattle.speedy.specs.Codecs.{pair_codec, unsigned_codec}
use Rattle.speedy.specs.Mode.{Mode}
use Rattle.speedy.specs.Format.{Format}
use Rattle.speedy.specs.Numbers.{unsigned_number, signed_number, usize_number}
use Rattle.speedy.specs.NonZero.{non_zero_number, signed_non_zero_number}
use Rattle.speedy.specs.Leaves.{character, byte_order, duration}
use Rattle.speedy.specs.Addresses.{address, ip_address}
use Rattle.speedy.specs.Flags.{flag, option, alternative}
use Rattle.speedy.specs.Tuples.{unit, pair}
use Rattle.speedy.specs.Lists.{list, vector, prefixed_list}
use Rattle.speedy.specs.SeenItems.{IsLess}
use Rattle.speedy.specs.Maps.{tree_map, index_map}
use Rattle.speedy.specs.Sets.{tree_set, index_set}
use Rattle.speedy.specs.Texts.{text, raw_bytes, constant_bytes, prefixed_text}
use Rattle.speedy.specs.Owned.{owned_content, borrowed_content}
use Rattle.speedy.specs.Varint.{varint}
use Rattle.speedy_lines.specs.declared.names.NumberName.{NumberName}
use Rattle.speedy_lines.specs.declared.names.NumberName.TheVariants as number_names
use Rattle.speedy_lines.specs.declared.names.LeafName.{LeafName}
use Rattle.speedy_lines.specs.declared.names.LeafName.TheVariants as leaf_names
use Rattle.speedy_lines.specs.declared.names.ComposedName.{ComposedName}
use Rattle.speedy_lines.specs.declared.names.ComposedName.TheVariants as composed_names
use Rattle.speedy_lines.specs.declared.names.ListName.{ListName}
use Rattle.speedy_lines.specs.declared.names.ListName.TheVariants as list_names
use Rattle.speedy_lines.specs.declared.names.GatheredName.{GatheredName}
use Rattle.speedy_lines.specs.declared.names.GatheredName.TheVariants as gathered_names
use Rattle.speedy_lines.specs.declared.names.LentName.{LentName}
use Rattle.speedy_lines.specs.declared.names.LentName.TheVariants as lent_names
use Rattle.speedy_lines.specs.declared.names.OwnName.{OwnName}
use Rattle.speedy_lines.specs.declared.names.OwnName.TheVariants as own_names
use Rattle.speedy_lines.specs.Trees.{tree_format}
use Rattle.speedy_lines.specs.declared.names.TypeName.{TypeName}
use Rattle.speedy_lines.specs.declared.names.TypeName.TheVariants as families

-- no byte is a space
abbrev pub has_no_space : List ℕ → Bool
has_no_space [] = true
has_no_space (b ∷ text) = not (b == 32) && has_no_space text

-- a type as lines name it: its name, its least size and its format
pub record Named : Type 1 where
  pub text : List ℕ
  pub no_space : IsTrue (has_no_space text)
  pub Seen : Type 0
  pub least : ℕ
  pub format : Mode → Format Seen

abbrev by : {V : Type 0} → (text : List ℕ) → IsTrue (has_no_space text) → ℕ → (Mode → Format V) → Named
by {V = V} text no_space least format = record {
  text = text;
  no_space = no_space;
  Seen = V;
  least = least;
  format = format;
}

-- numbers in their order
abbrev LessNumber : ℕ → ℕ → Type 0
LessNumber = IsLess (λ (n : ℕ). n) nat_cmp

-- texts in the order of their bytes
abbrev LessText : List ℕ → List ℕ → Type 0
LessText = IsLess (string_bytes {Z = Global}) string_cmp

-- numbers of one, two and four bytes
abbrev three_numbers : Mode → Format (ℕ × (ℕ × ℕ))
three_numbers mode =
    pair (unsigned_number 1 mode) (pair (unsigned_number 2 mode) (unsigned_number 4 mode))

-- each type of the program, by family
abbrev pub named_number : NumberName → Named
named_number number_names.U8 = by (codes "u8") refl 1 (unsigned_number 1)
named_number number_names.U16 = by (codes "u16") refl 2 (unsigned_number 2)
named_number number_names.U32 = by (codes "u32") refl 4 (unsigned_number 4)
named_number number_names.U64 = by (codes "u64") refl 8 (unsigned_number 8)
named_number number_names.U128 = by (codes "u128") refl 16 (unsigned_number 16)
named_number number_names.I8 = by (codes "i8") refl 1 (signed_number w8)
named_number number_names.I16 = by (codes "i16") refl 2 (signed_number w16)
named_number number_names.I32 = by (codes "i32") refl 4 (signed_number w32)
named_number number_names.I64 = by (codes "i64") refl 8 (signed_number w64)
named_number number_names.I128 = by (codes "i128") refl 16 (signed_number w128)
named_number number_names.Usize = by (codes "usize") refl 8 usize_number
named_number number_names.Varint = by (codes "varint") refl 1 varint
named_number number_names.NonZeroU8 = by (codes "nonzero_u8") refl 1 (non_zero_number 1)
named_number number_names.NonZeroU16 = by (codes "nonzero_u16") refl 2 (non_zero_number 2)
named_number number_names.NonZeroI32 = by (codes "nonzero_i32") refl 4 (signed_non_zero_number w32)

abbrev pub named_leaf : LeafName → Named
named_leaf leaf_names.Bool = by (codes "bool") refl 1 flag
named_leaf leaf_names.Char = by (codes "char") refl 4 character
named_leaf leaf_names.Unit = by (codes "unit") refl 0 (λ _. unit)
named_leaf leaf_names.Endianness = by (codes "endianness") refl 1 byte_order
named_leaf leaf_names.Uuid = by (codes "uuid") refl 16 (λ _. raw_bytes 16)
named_leaf leaf_names.Ipv4 = by (codes "ipv4") refl 4 (address 4)
named_leaf leaf_names.Ipv6 = by (codes "ipv6") refl 16 (address 16)
named_leaf leaf_names.Ip = by (codes "ip") refl 5 ip_address
named_leaf leaf_names.Duration = by (codes "duration") refl 12 duration

abbrev pub named_composed : ComposedName → Named
named_composed composed_names.OptU16 =
    by (codes "opt_u16") refl 1 (λ mode. option mode (unsigned_number 2 mode))
named_composed composed_names.ResU16U8 = by (codes "res_u16_u8") refl 1
    (λ mode. alternative mode (unsigned_number 2 mode) (unsigned_number 1 mode))
named_composed composed_names.RangeU16 =
    by (codes "range_u16") refl 4 (λ mode. pair (unsigned_number 2 mode) (unsigned_number 2 mode))
named_composed composed_names.RangeInclU16 =
    by (codes "range_incl_u16") refl 4 (λ mode. pair (unsigned_number 2 mode) (unsigned_number 2 mode))
named_composed composed_names.TupleU8U16U32 = by (codes "tuple_u8_u16_u32") refl 7 three_numbers
named_composed composed_names.ArrayU16x4 =
    by (codes "array_u16_4") refl 8 (λ mode. vector 4 (unsigned_number 2 mode))
named_composed composed_names.BoxU16 =
    by (codes "box_u16") refl 2 (λ mode. owned_content (unsigned_number 2 mode))

abbrev pub named_list : ListName → Named
named_list list_names.String = by (codes "string") refl 4 text
named_list list_names.BoxedStr = by (codes "boxed_str") refl 4 text
named_list list_names.VecU8 = by (codes "vec_u8") refl 4 (λ mode. list mode (unsigned_number 1 mode))
named_list list_names.VecU16 = by (codes "vec_u16") refl 4 (λ mode. list mode (unsigned_number 2 mode))
named_list list_names.BoxedSliceU16 =
    by (codes "boxed_u16") refl 4 (λ mode. list mode (unsigned_number 2 mode))
named_list list_names.SmallVecU16x4 =
    by (codes "small_vec_u16_4") refl 4 (λ mode. list mode (unsigned_number 2 mode))
named_list list_names.VecChar = by (codes "vec_char") refl 4 (λ mode. list mode (character mode))
named_list list_names.VecUnit = by (codes "vec_unit") refl 4 (λ mode. list mode unit)
named_list list_names.VecOptString =
    by (codes "vec_opt_string") refl 4 (λ mode. list mode (option mode (text mode)))

abbrev pub named_gathered : GatheredName → Named
named_gathered gathered_names.SetU16 =
    by (codes "set_u16") refl 4 (λ mode. tree_set mode LessNumber (unsigned_number 2 mode))
named_gathered gathered_names.MapU8U8 = by (codes "map_u8_u8") refl 4
    (λ mode. tree_map mode LessNumber (unsigned_number 1 mode) (unsigned_number 1 mode))
named_gathered gathered_names.MapStringVecU16 = by (codes "map_string_vec_u16") refl 4
    (λ mode. tree_map mode LessText (text mode) (list mode (unsigned_number 2 mode)))
named_gathered gathered_names.IndexSetU16 =
    by (codes "index_set_u16") refl 4 (λ mode. index_set mode (unsigned_number 2 mode))
named_gathered gathered_names.IndexMapU8U8 = by (codes "index_map_u8_u8") refl 4
    (λ mode. index_map mode (unsigned_number 1 mode) (unsigned_number 1 mode))

abbrev pub named_lent : LentName → Named
named_lent lent_names.CowStr = by (codes "cow_str") refl 4 text
named_lent lent_names.CowU8 = by (codes "cow_u8") refl 4 (λ mode. list mode (unsigned_number 1 mode))
named_lent lent_names.CowU16 = by (codes "cow_u16") refl 4 (λ mode. list mode (unsigned_number 2 mode))
named_lent lent_names.StrRef = by (codes "str_ref") refl 4 (λ mode. borrowed_content (text mode))
named_lent lent_names.BytesRef =
    by (codes "bytes_ref") refl 4 (λ mode. borrowed_content (list mode (unsigned_number 1 mode)))
named_lent lent_names.BytesRef4 =
    by (codes "bytes_ref_4") refl 4 (λ mode. borrowed_content (vector 4 (unsigned_number 1 mode)))
named_lent lent_names.ViewI8 =
    by (codes "view_i8") refl 4 (λ mode. borrowed_content (list mode (signed_number w8 mode)))
named_lent lent_names.ArrayViewI8x4 =
    by (codes "array_view_i8_4") refl 4 (λ mode. borrowed_content (vector 4 (signed_number w8 mode)))

-- nothing behind the tag 0, 1 or 2
abbrev three_cases : Choices (Unit {0} ⊎ (Unit {0} ⊎ Unit {0}))
three_cases = either_case (unit_case 0) (either_case (unit_case 1) (unit_case 2))

-- nothing behind the tag 0, and three numbers behind the tags 1 and 2
abbrev cases_of_numbers : Choices (Unit {0} ⊎ (ℕ × (ℕ × ℕ) ⊎ ℕ × (ℕ × ℕ)))
cases_of_numbers =
    let numbers = pair_codec (unsigned_codec 1) (pair_codec (unsigned_codec 2) (unsigned_codec 4)) in
    either_case (unit_case 0) (either_case (one_case 1 numbers) (one_case 2 numbers))

abbrev pub named_own : OwnName → Named
named_own own_names.Frame = by (codes "frame") refl 4 (λ mode. pair (constant_bytes mode (codes "SP"))
    (pair (prefixed_list (varint mode) (varint mode)) (prefixed_text mode (unsigned_number 1 mode))))
named_own own_names.Enum = by (codes "enum") refl 4 (tagged (unsigned_number 4) three_cases)
named_own own_names.DerivedEnum = by (codes "derived_enum") refl 4 (tagged (unsigned_number 4) cases_of_numbers)
named_own own_names.Record = by (codes "record") refl 24 (λ mode. pair (unsigned_number 8 mode)
    (pair (text mode) (pair (list mode (unsigned_number 1 mode))
    (pair (list mode (signed_number w64 mode)) (tagged (unsigned_number 4) three_cases mode)))))
named_own own_names.Tree = by (codes "tree") refl 5 tree_format

abbrev pub named : TypeName → Named
named (families.Number name) = named_number name
named (families.Leaf name) = named_leaf name
named (families.Composed name) = named_composed name
named (families.List name) = named_list name
named (families.Gathered name) = named_gathered name
named (families.Lent name) = named_lent name
named (families.Own name) = named_own name
