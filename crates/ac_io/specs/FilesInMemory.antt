-- Files in memory, as contracts see them, and what a load and a save of them answer and leave.
use Rattle.std.specs.Prelude.{◌≡◌, ◌≢◌, ℕ, ◌<◌, ◌≤◌, ◌⊎◌, List, length, find, Contains, Option, Some, None, Result, Ok, Err, Vec}
use Rattle.std.specs.declared.alloc.Global.{Global}
use Rattle.ac_io.specs.declared.files.LoadFault.{LoadFault}
use Rattle.ac_io.specs.declared.files.LoadFault.TheVariants.{Failed, Long, OutOfMemory}
use Rattle.ac_io.specs.declared.files.SaveFault.{SaveFault}
use Rattle.ac_io.specs.declared.files.SaveFault.TheVariants.{Failed as SaveFailed, OutOfMemory as NoMemory}
use Rattle.ac_io.specs.StoredFile.{StoredFile, has_name, bytes_of, room_of}
use Rattle.ac_io.specs.Counts.{one_more}

-- the files by name, the numbers of the calls that are to fail, how many calls there were, and the counts of faults
pub record FilesInMemory : Type 0 where
  pub files : List StoredFile
  pub failing : List ℕ
  pub calls : ℕ
  pub failed_loads : ℕ
  pub failed_saves : ℕ

-- the file of a name
abbrev pub file_of : FilesInMemory → List ℕ → Option StoredFile
file_of held name = find (has_name name) held.files

-- the contents of a name
abbrev pub contents_of : FilesInMemory → List ℕ → Option (List ℕ)
contents_of held name = bytes_of (file_of held name)

-- a save under the name of fewer bytes than this needs no memory
abbrev pub spare_of : FilesInMemory → List ℕ → ℕ
spare_of held name = room_of (file_of held name)

-- every other name has its contents and its spare
abbrev pub SameOtherFiles : List ℕ → FilesInMemory → FilesInMemory → Type 0
SameOtherFiles name old new = (other : List ℕ) → other ≢ name → file_of new other ≡ file_of old other

-- the next call is to fail
abbrev pub IsToFail : FilesInMemory → Type 0
IsToFail held = Contains held.failing held.calls

-- when each answer of a load comes
abbrev pub IsLoadAnswer : FilesInMemory → List ℕ → ℕ → Result (Vec ℕ Global) LoadFault → Type 0
IsLoadAnswer held name limit (Ok found) = ¬ (IsToFail held) × (contents_of held name ≡ Some found.items) × (length found.items ≤ limit)
IsLoadAnswer held name limit (Err Failed) = IsToFail held ⊎ (contents_of held name ≡ None)
IsLoadAnswer held name limit (Err Long) = ¬ (IsToFail held) × ((told : List ℕ) × (contents_of held name ≡ Some told) × (limit < length told))
IsLoadAnswer held name limit (Err OutOfMemory) = ¬ (IsToFail held)

-- what a load leaves: the calls are counted, but for one that was refused memory, and so are the failed loads
abbrev pub LoadLeaves : Result (Vec ℕ Global) LoadFault → FilesInMemory → FilesInMemory → Type 0
LoadLeaves (Ok found) old new = new ≡ record old { calls = one_more old.calls }
LoadLeaves (Err Failed) old new = new ≡ record old { calls = one_more old.calls; failed_loads = one_more old.failed_loads }
LoadLeaves (Err Long) old new = new ≡ record old { calls = one_more old.calls }
LoadLeaves (Err OutOfMemory) old new = new ≡ old

-- when each answer of a save comes
abbrev pub IsSaveAnswer : FilesInMemory → List ℕ → List ℕ → Result (Unit {0}) SaveFault → Type 0
IsSaveAnswer held name bytes (Ok _) = ¬ (IsToFail held)
IsSaveAnswer held name bytes (Err SaveFailed) = IsToFail held
IsSaveAnswer held name bytes (Err NoMemory) = ¬ (IsToFail held) × (spare_of held name ≤ length bytes)

-- what a save leaves beside the files: the calls are counted, but for one that was refused memory, and so are the
-- failed saves
abbrev pub SaveCounts : Result (Unit {0}) SaveFault → FilesInMemory → FilesInMemory → Type 0
SaveCounts (Ok _) old new = new ≡ record old { files = new.files; calls = one_more old.calls }
SaveCounts (Err SaveFailed) old new = new ≡ record old { files = new.files; calls = one_more old.calls; failed_saves = one_more old.failed_saves }
SaveCounts (Err NoMemory) old new = new ≡ record old { files = new.files }
