pub mod StoredFilesLemmas
