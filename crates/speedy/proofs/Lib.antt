pub mod EncodedLemmas
pub mod EncodedReadLemmas
pub mod ExportLemmas
pub mod ExportWriteLemmas
pub mod PrefixLemmas
pub mod ShownListLemmas
pub mod ToldFrameLemmas
