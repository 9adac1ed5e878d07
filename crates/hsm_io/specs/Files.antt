-- What a bench keeps of its files.
use Rattle.std.specs.Prelude.{◌≡◌, ◌≢◌, ◌≤◌, ◌⊎◌, ℕ, List, ◌++◌, take, Option, Some, Bool, true, false}
use Rattle.hsm_io.specs.Stream.{Stream, unread}
use Rattle.hsm_io.specs.Outside.{Rose}

-- The bytes of each named file, where told; whether a file is out, and its name where told; how often opening or
-- reading a file has failed; the name that was opened last, and the last one whose file could not be opened or read.
pub record FileSide : Type 0 where
  pub bytes_of : List ℕ → Option (List ℕ)
  pub is_out : Bool
  pub name_out : Option (List ℕ)
  pub faults : ℕ
  pub last_name : List ℕ
  pub bad_name : List ℕ

-- the part of a name that a bench keeps
abbrev pub kept_name : List ℕ → List ℕ
kept_name name = take 4096 name

-- What opening a file of this name leaves. Of the file nothing was read, and it has not failed.
pub record Opened (before after : FileSide) (name : List ℕ) (stream : Option Stream) (file_faults : ℕ) : Type 0 where
  pub bytes : (bytes : List ℕ) → before.bytes_of name ≡ Some bytes → (stream ≡ Some (unread bytes)) × (after.name_out ≡ Some name)
  pub no_other_name : (other : List ℕ) → after.name_out ≡ Some other → other ≡ name
  pub others : (other : List ℕ) → (after.bytes_of other ≡ before.bytes_of other) ⊎ (other ≡ name)
  pub no_fault : file_faults ≡ 0
  pub still_out : after.is_out ≡ true
  pub count : after.faults ≡ before.faults
  pub last : after.last_name ≡ kept_name name
  pub bad : after.bad_name ≡ before.bad_name

-- What opening leaves where it gives no file: the count rose, and the name is the bad one.
pub record NotOpened (before after : FileSide) (name : List ℕ) : Type 0 where
  pub files : (other : List ℕ) → after.bytes_of other ≡ before.bytes_of other
  pub none_out : after.is_out ≡ false
  pub rose : Rose before.faults after.faults
  pub later : before.faults ≤ after.faults
  pub last : after.last_name ≡ kept_name name
  pub bad : after.bad_name ≡ kept_name name

-- What closing a file leaves: its bytes are those read and those left, and that it failed is passed on.
pub record Closed (before after : FileSide) (stream : Option Stream) (file_faults : ℕ) : Type 0 where
  pub back : (name : List ℕ) → before.name_out ≡ Some name → (s : Stream) → stream ≡ Some s → after.bytes_of name ≡ Some (s.was_read ++ s.left)
  pub others : (other : List ℕ) → (after.bytes_of other ≡ before.bytes_of other) ⊎ (before.name_out ≡ Some other)
  pub none_out : after.is_out ≡ false
  pub last : after.last_name ≡ before.last_name
  pub clean : file_faults ≡ 0 → (after.faults ≡ before.faults) × (after.bad_name ≡ before.bad_name)
  pub failed : file_faults ≢ 0 → (Rose before.faults after.faults) × (before.faults ≤ after.faults) × (after.bad_name ≡ before.last_name)
