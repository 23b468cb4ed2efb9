-- The definitions that the contracts of the calls cite, and the lemmas that proofs about types of one's own cite.
pub use Rattle.speedy_base.specs.Device
pub use Rattle.speedy_base.specs.DeviceLemmas
pub use Rattle.speedy_base.specs.MemoryDevices
pub use Rattle.speedy_base.specs.Digits
pub use Rattle.speedy_base.specs.DigitsLemmas
pub use Rattle.speedy_base.specs.Mode
pub use Rattle.speedy_base.specs.Error
pub use Rattle.speedy_base.specs.ErrorKind
pub use Rattle.speedy_base.specs.FailedCalls
pub use Rattle.speedy_base.specs.Ring
pub use Rattle.speedy_base.specs.Signed
pub use Rattle.speedy_base.specs.SignedLemmas
pub use Rattle.speedy_layout.specs.OneMoreItem
pub use Rattle.speedy_layout.specs.Addresses
pub mod CaseArms
pub use Rattle.speedy_layout.specs.Choices
pub use Rattle.speedy_layout.specs.Codecs
pub use Rattle.speedy_layout.specs.Codes
pub use Rattle.speedy_layout.specs.CollectionLengths
pub mod Encoding
pub use Rattle.speedy_layout.specs.GathersToLemmas
pub use Rattle.speedy_layout.specs.GathersTo
pub use Rattle.speedy_layout.specs.IndexMaps
pub use Rattle.speedy_layout.specs.StdMaps
pub use Rattle.speedy_layout.specs.StdSets
pub use Rattle.speedy_layout.specs.FixedNumbers
pub use Rattle.speedy_layout.specs.Flags
pub use Rattle.speedy_layout.specs.Floats
pub use Rattle.speedy_layout.specs.Format
pub use Rattle.speedy_layout.specs.Frames
pub use Rattle.speedy_layout.specs.GatheredLemmas
pub use Rattle.speedy_layout.specs.GatheredLengths
pub use Rattle.speedy_layout.specs.Gathering
pub use Rattle.speedy_layout.specs.Equality
pub mod Keys
pub use Rattle.speedy_layout.specs.Laws
pub use Rattle.speedy_layout.specs.Leaves
pub use Rattle.speedy_layout.specs.Lengths as LayoutLengths
pub use Rattle.speedy_layout.specs.Lists
pub use Rattle.speedy_layout.specs.Maps
pub use Rattle.speedy_layout.specs.Members
pub use Rattle.speedy_layout.specs.NonZero
pub use Rattle.speedy_layout.specs.Numbers
pub use Rattle.speedy_layout.specs.OneOrder
pub use Rattle.speedy_layout.specs.Orders
pub use Rattle.speedy_layout.specs.Owned
pub use Rattle.speedy_layout.specs.Padding
pub use Rattle.speedy_layout.specs.CText
pub use Rattle.speedy_layout.specs.Until
pub use Rattle.speedy_layout.specs.EqualityOfMaps
pub use Rattle.speedy_layout.specs.SeenItems
pub use Rattle.speedy_layout.specs.Prefixed
pub use Rattle.speedy_layout.specs.Sequences
pub use Rattle.speedy_layout.specs.Sets
pub use Rattle.speedy_layout.specs.Texts
pub use Rattle.speedy_layout.specs.Tuples
pub use Rattle.speedy_layout.specs.Utf8Lemmas
pub use Rattle.speedy_layout.specs.Varint
pub use Rattle.speedy_layout.specs.ViewIters
pub use Rattle.speedy_layout.specs.Views
pub use Rattle.speedy_layout.specs.Wholes
pub use Rattle.speedy_layout.specs.Rests
pub use Rattle.speedy_layout.specs.Growing
pub use Rattle.speedy_layout.specs.Growth
pub use Rattle.speedy_layout.specs.Zigzag
pub use Rattle.speedy_read.specs.Buffers
pub use Rattle.speedy_read.specs.Codes as ReadCodes
pub use Rattle.speedy_read.specs.Collections as ReadCollections
pub use Rattle.speedy_read.specs.BehindCounts as ReadBehindCounts
pub use Rattle.speedy_read.specs.BytesModel
pub mod Decoding
pub use Rattle.speedy_read.specs.Flags as ReadFlags
pub use Rattle.speedy_read.specs.Frames as ReadFrames
pub use Rattle.speedy_read.specs.Lending
pub use Rattle.speedy_read.specs.OwnedModel
pub use Rattle.speedy_read.specs.Padding as ReadPadding
pub use Rattle.speedy_read.specs.CText as ReadCText
pub use Rattle.speedy_read.specs.Cases as ReadCases
pub use Rattle.speedy_read.specs.Reading
pub use Rattle.speedy_read.specs.ReadingLemmas
pub use Rattle.speedy_read.specs.RoundTrip
pub use Rattle.speedy_read.specs.Sequences as ReadSequences
pub use Rattle.speedy_read.specs.StreamModel
pub use Rattle.speedy_read.specs.Streams
pub use Rattle.speedy_read.specs.UntilEnd
pub use Rattle.speedy_read.specs.WaysOfReading
pub use Rattle.speedy_read.specs.Wholes as ReadWholes
pub use Rattle.speedy_read.proofs.ListLemmas as ReadItems
pub use Rattle.speedy_write.specs.Buffering
pub use Rattle.speedy_write.specs.Codes as WriteCodes
pub use Rattle.speedy_write.specs.Collections as WriteCollections
pub use Rattle.speedy_write.specs.CollectorLemmas
pub use Rattle.speedy_write.specs.CollectorModels
pub use Rattle.speedy_write.specs.Collectors
pub use Rattle.speedy_write.specs.BehindCounts as WriteBehindCounts
pub use Rattle.speedy_write.specs.Counting
pub use Rattle.speedy_write.specs.FixedBytes
pub use Rattle.speedy_write.specs.Lengths
pub use Rattle.speedy_write.specs.Cases as WriteCases
pub use Rattle.speedy_write.specs.Pushing
pub use Rattle.speedy_write.specs.Sequences as WriteSequences
pub use Rattle.speedy_write.specs.WaysOfWriting
pub use Rattle.speedy_write.specs.Wholes as WriteWholes
pub use Rattle.speedy_write.specs.Writing
pub use Rattle.speedy_write.proofs.ListLemmas as WriteItems
pub mod Prefixes
pub mod InPlace
pub mod EncodedLists
pub mod Exports
pub mod Levels
pub mod ReadLevels
pub mod WriteLevels
pub mod ToldFrames
pub mod Layers
pub mod ReadLayers
pub mod WriteLayers
pub mod TaggedLayers
pub mod ViewArms
