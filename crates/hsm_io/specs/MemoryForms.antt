-- The memory forms: what each holds, and what each call answers and leaves.
use Rattle.std.specs.Prelude.{ℕ, ◌+◌, ◌-◌, ◌^◌, ◌==◌, min, List, [], ◌++◌, length, take, drop, slice_set, find, Bool, false, ◌||◌, nat_le, if◌then◌else◌, Option, Some, None, is_some, option_map, bytes_eq}
use Rattle.std.specs.List.{list_any, position_or_len}
use Rattle.hsm_io.specs.Stream.{Stream, unread}
use Rattle.hsm_io.specs.Files.{FileSide, kept_name}
use Rattle.hsm_io.specs.declared.source.Got.{Got}
use Rattle.hsm_io.specs.declared.source.Got.TheVariants.{Bytes, End, Failed as GotFailed}
use Rattle.hsm_io.specs.declared.sink.Put.{Put}
use Rattle.hsm_io.specs.declared.sink.Put.TheVariants.{Took, Failed as PutFailed}

-- one more, up to the last value of a count
abbrev pub one_more : ℕ → ℕ
one_more n = min (n + 1) (2 ^ 64 - 1)

-- Whether the list names this call. It holds numbers of 32 bits, so the last value of a count is in no list.
abbrev pub is_listed : List ℕ → ℕ → Bool
is_listed numbers call = list_any (λ number. number == call) numbers

-- A sink in memory: what was written, how much fits, the numbers of the writes that fail, the number of the next write,
-- and how many have failed.
pub record SinkState : Type 0 where
  pub bytes : List ℕ
  pub room : ℕ
  pub bad_writes : List ℕ
  pub calls : ℕ
  pub faults : ℕ

-- A write fails exactly where its number is listed or the room is full. Else it takes as much as fits.
abbrev pub put_of : SinkState → List ℕ → Put
put_of sink piece =
    if is_listed sink.bad_writes sink.calls || nat_le sink.room (length sink.bytes)
    then PutFailed else (Took (min (length piece) (sink.room - length sink.bytes)))

-- what a write leaves
abbrev pub after_write : SinkState → List ℕ → Put → SinkState
after_write sink piece (Took n) = record sink { bytes = sink.bytes ++ take n piece; calls = one_more sink.calls }
after_write sink piece PutFailed = record sink { calls = one_more sink.calls; faults = one_more sink.faults }

-- A file in memory that is out of its bench: what was read and what is left, the numbers of the reads that fail, the
-- number of the next read, and how many have failed.
pub record FileState : Type 0 where
  pub stream : Stream
  pub bad_reads : List ℕ
  pub calls : ℕ
  pub faults : ℕ

-- A read fails exactly where its number is listed. Else it gives as many bytes as the room holds, or the end where
-- none is left.
abbrev pub got_of : FileState → ℕ → Got
got_of file room =
    if is_listed file.bad_reads file.calls then GotFailed
    else (if length file.stream.left == 0 then End else (Bytes (min room (length file.stream.left))))

-- a stream of which n more bytes were read
abbrev pub read_on : ℕ → Stream → Stream
read_on n stream = record { was_read = stream.was_read ++ take n stream.left; left = drop n stream.left }

-- what a read leaves
abbrev pub after_read : FileState → Got → FileState
after_read file (Bytes n) = record file { stream = read_on n file.stream; calls = one_more file.calls }
after_read file End = record file { calls = one_more file.calls }
after_read file GotFailed = record file { calls = one_more file.calls; faults = one_more file.faults }

-- A file in a bench: its name, its bytes, and the numbers of its reads that fail, counted from each opening.
pub record NamedFile : Type 0 where
  pub name : List ℕ
  pub bytes : List ℕ
  pub bad_reads : List ℕ

-- the first file of this name
abbrev pub file_of : List NamedFile → List ℕ → Option NamedFile
file_of files name = find (λ file. bytes_eq file.name name) files

-- the place of the first file of this name, or the number of files where none has it
abbrev pub place_of : List NamedFile → List ℕ → ℕ
place_of files name = position_or_len (λ file. bytes_eq file.name name) files

-- the files, the first of this name with these bytes and these reads that fail
abbrev pub with_file : List NamedFile → List ℕ → List ℕ → List ℕ → List NamedFile
with_file files name bytes bad_reads =
    slice_set files (place_of files name) (record { name = name; bytes = bytes; bad_reads = bad_reads })

-- The files of a bench in memory: the files, of which the one that is out has lent its bytes; the name of the file that is out; the
-- numbers of the openings that fail, the number of the next opening, and the count for files; the last name and the bad one.
pub record FilesState : Type 0 where
  pub files : List NamedFile
  pub out : Option (List ℕ)
  pub bad_files : List ℕ
  pub calls : ℕ
  pub faults : ℕ
  pub last_name : List ℕ
  pub bad_name : List ℕ

-- whether the file of this name is out
abbrev pub is_out_name : Option (List ℕ) → List ℕ → Bool
is_out_name None name = false
is_out_name (Some out) name = bytes_eq out name

-- what a bench in memory tells of its files: all bytes, but of the file that is out
abbrev pub file_side : FilesState → FileSide
file_side bench = record {
  bytes_of = λ name. if is_out_name bench.out name then None else option_map (λ file. file.bytes) (file_of bench.files name);
  is_out = is_some bench.out;
  name_out = bench.out;
  faults = bench.faults;
  last_name = bench.last_name;
  bad_name = bench.bad_name;
}

-- a file that was just opened: nothing of it was read, and its reads are numbered from 0
abbrev pub just_opened : NamedFile → FileState
just_opened file = record { stream = unread file.bytes; bad_reads = file.bad_reads; calls = 0; faults = 0 }

-- An opening gives no file exactly where its number is listed or no file has the name. Else it gives the first file of
-- the name, of which nothing was read.
abbrev pub opened_of : FilesState → List ℕ → Option FileState
opened_of bench name =
    if is_listed bench.bad_files bench.calls then None
    else option_map just_opened (file_of bench.files name)

-- what an opening leaves
abbrev pub after_open : FilesState → List ℕ → Option FileState → FilesState
after_open bench name None = record bench {
  calls = one_more bench.calls;
  faults = one_more bench.faults;
  last_name = kept_name name;
  bad_name = kept_name name;
}
after_open bench name (Some file) = record bench {
  files = with_file bench.files name [] [];
  out = Some name;
  calls = one_more bench.calls;
  last_name = kept_name name;
}

-- the files with the one back that was out
abbrev pub files_back : Option (List ℕ) → List NamedFile → FileState → List NamedFile
files_back None files file = files
files_back (Some name) files file = with_file files name (file.stream.was_read ++ file.stream.left) file.bad_reads

-- what closing leaves: the file is back, and where a read of it failed the count rose and the last name is the bad one
abbrev pub after_close : FilesState → FileState → FilesState
after_close bench file = record bench {
  files = files_back bench.out bench.files file;
  out = None;
  faults = if file.faults == 0 then bench.faults else one_more bench.faults;
  bad_name = if file.faults == 0 then bench.bad_name else bench.last_name;
}

-- A clock in memory: the moment that it gave last, 0 at first, and the moments to come.
pub record ClockState : Type 0 where
  pub last : ℕ
  pub to_come : List ℕ
