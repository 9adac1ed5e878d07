-- The place of the file that is out of a bench in memory.
use Rattle.std.specs.Prelude.{◌≡◌, ◌<◌, ℕ, List, [], length, Option, Some, None, slice_index_or}
use Rattle.hsm_io.specs.MemoryForms.{NamedFile, FilesState, place_of}

-- the name of the file at a place
abbrev pub name_at : List NamedFile → ℕ → List ℕ
name_at files place = (slice_index_or files place (record { name = []; bytes = []; bad_reads = [] })).name

-- the name of the file that is out
abbrev pub name_out : List NamedFile → Option ℕ → Option (List ℕ)
name_out files None = None
name_out files (Some place) = Some (name_at files place)

-- the file that is out is the first of its name
abbrev pub HasPlace : List NamedFile → Option ℕ → Type 0
HasPlace files None = Unit {0}
HasPlace files (Some place) = (place < length files) × (place_of files (name_at files place) ≡ place)

-- the file that is out is among the files of the bench
abbrev pub HoldsOut : FilesState → Type 0
HoldsOut bench = (name : List ℕ) → bench.out ≡ Some name → place_of bench.files name < length bench.files
