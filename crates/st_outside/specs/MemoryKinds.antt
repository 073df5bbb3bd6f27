-- What files and a sink in memory hold, and what they do with a call.
use Rattle.std.specs.Prelude.{ℕ, List, [], ◌≡◌, ◌≢◌, ◌≤◌, ◌⊎◌, length, min, Contains, string_bytes, Option}
use Rattle.st_outside.specs.declared.memory_files.MemoryFiles.{MemoryFiles}
use Rattle.st_outside.specs.declared.memory_sink.MemorySink.{MemorySink}
use Rattle.std.specs.declared.string.String.{String}
use Rattle.std.specs.declared.vec.Vec.{Vec}
use Rattle.std.specs.declared.alloc.Global.{Global}
use Rattle.st_outside.specs.Faults.{risen}
use Rattle.st_outside.specs.Memory.{place, bytes_of, count_of}

-- the bytes of a name, and its count
abbrev pub told_by : MemoryFiles → List ℕ → Option (List ℕ)
told_by m name = bytes_of (λ file. string_bytes file.0) (λ file. file.1.items) m.files.items name

abbrev pub faults_by : MemoryFiles → List ℕ → ℕ
faults_by m name = count_of (λ file. string_bytes file.0) m.files.items m.counts.items m.others name

-- how many calls were made, and how many have failed, over all names
abbrev pub read_calls : MemoryFiles → ℕ
read_calls m = m.calls

abbrev pub read_faults : MemoryFiles → ℕ
read_faults m = m.failed

-- the largest number of bytes that one call gives
abbrev pub largest_read : MemoryFiles → ℕ
largest_read m = m.most

-- the next call is listed, or the name is not held
abbrev pub ReadFails : MemoryFiles → List ℕ → Type 0
ReadFails m name = Contains m.failing.items (risen m.calls) ⊎ (length m.files.items ≤ place (λ file. string_bytes file.0) m.files.items name)

-- the two names have no count in common: another pair holds the other name, or only one of both is held
abbrev pub IsCountedApart : MemoryFiles → List ℕ → List ℕ → Type 0
IsCountedApart m name other = place (λ file. string_bytes file.0) m.files.items other ≢ place (λ file. string_bytes file.0) m.files.items name

-- one call later, with the same files and the same list
pub record NextRead (old new : MemoryFiles) : Type 0 where
  pub calls : new.calls ≡ risen old.calls
  pub files : new.files ≡ old.files
  pub failing : new.failing ≡ old.failing
  pub most : new.most ≡ old.most

-- new files: nothing was called, nothing has failed
pub record NewFiles (files : List (String Global × Vec ℕ Global)) (listed : List ℕ) (largest : ℕ) (m : MemoryFiles) : Type 0 where
  pub told : (name : List ℕ) → told_by m name ≡ bytes_of (λ file. string_bytes file.0) (λ file. file.1.items) files name
  pub counts : (name : List ℕ) → faults_by m name ≡ 0
  pub calls : m.calls ≡ 0
  pub failed : m.failed ≡ 0
  pub failing : m.failing.items ≡ listed
  pub most : m.most ≡ largest

-- the bytes that a sink has taken, and the room that is left
abbrev pub taken_by : MemorySink → List ℕ
taken_by s = s.bytes.items

abbrev pub room_left : MemorySink → ℕ
room_left s = s.room

-- how many calls were made, and how many have failed
abbrev pub write_calls : MemorySink → ℕ
write_calls s = s.calls

abbrev pub write_faults : MemorySink → ℕ
write_faults s = s.faults

-- how much of a piece the sink can take
abbrev pub share : MemorySink → List ℕ → ℕ
share s piece = min (min (length piece) s.most) s.room

-- the next call is listed, or the piece has something and nothing of it can be taken
abbrev pub WriteFails : MemorySink → List ℕ → Type 0
WriteFails s piece = Contains s.failing.items (risen s.calls) ⊎ ((share s piece ≡ 0) × (piece ≢ []))

-- one call later, with the same list
pub record NextWrite (old new : MemorySink) : Type 0 where
  pub calls : new.calls ≡ risen old.calls
  pub failing : new.failing ≡ old.failing
  pub most : new.most ≡ old.most

-- a new sink: nothing was taken, nothing has failed
pub record NewSink (space : ℕ) (listed : List ℕ) (largest : ℕ) (s : MemorySink) : Type 0 where
  pub bytes : s.bytes.items ≡ []
  pub room : s.room ≡ space
  pub failing : s.failing.items ≡ listed
  pub most : s.most ≡ largest
  pub calls : s.calls ≡ 0
  pub faults : s.faults ≡ 0
