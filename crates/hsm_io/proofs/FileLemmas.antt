-- What opening and closing do to the files of a bench in memory.
use Rattle.std.proofs.Common.{◌≡◌, ◌⊎◌, ◌<◌, ◌≤◌, ◌+◌, ◌-◌, ◌^◌, ◌∙◌, ◌++◌, ◌∷◌, [], ℕ, zero, suc, min, List, length, get_or, set, Bool, true, false, cond, Option, Some, None, is_some, option_map, not, length-set, refl, sym, ap, ap₂, subst, arith, inl, inr, bytes_eq, position}
use Rattle.std.specs.List.{position_or_len, slice_get}
use Rattle.std.proofs.lemmas.Grind.{common_steps}
use Rattle.std.proofs.lemmas.Bool.{cases_Bool, eq-eqb, ne_eqb}
use Rattle.std.proofs.lemmas.List.{get_or-set_same}
use Rattle.std.proofs.lemmas.List.Folds.{find_at, find-set, find_past, position_or_len-set}
use Rattle.std.proofs.lemmas.List.Quantifiers.{position-Some}
use Rattle.std.proofs.lemmas.Slice.Eq.{bytes_eq-Decides}
use Rattle.hsm_io.specs.Stream.{Stream, unread}
use Rattle.hsm_io.specs.Files.{Opened, NotOpened, Closed, kept_name}
use Rattle.hsm_io.specs.MemoryForms.{NamedFile, FileState, FilesState, file_of, place_of, with_file, is_listed, one_more, just_opened, file_side, opened_of, after_open, after_close, files_back, is_out_name}
use Rattle.hsm_io.specs.Places.{name_at, HasPlace, HoldsOut}

pub same_name : (a b : List ℕ) → bytes_eq a b ≡ true → a ≡ b
same_name a b = (bytes_eq-Decides a b).0

pub own_name : (a : List ℕ) → bytes_eq a a ≡ true
own_name a = (bytes_eq-Decides a a).1 refl

pub slice_get_at : {X : Type 0} (xs : List X) (i : ℕ) (d : X) → i < length xs → slice_get xs i ≡ Some (get_or xs i d)
slice_get_at [] i d h = absurd (omega arith)
slice_get_at (x ∷ xs) zero d h = refl
slice_get_at (x ∷ xs) (suc i) d h = slice_get_at xs i d (omega arith)

pub slice_get_past : {X : Type 0} (xs : List X) (i : ℕ) → length xs ≤ i → slice_get xs i ≡ None
slice_get_past [] i h = refl
slice_get_past (x ∷ xs) zero h = absurd (omega arith)
slice_get_past (x ∷ xs) (suc i) h = slice_get_past xs i (omega arith)

-- the file that a place was found for
pub record FoundAt (files : List NamedFile) (name : List ℕ) (i : ℕ) (d : NamedFile) : Type 0 where
  pub within : i < length files
  pub named : (get_or files i d).name ≡ name
  pub place : place_of files name ≡ i
  pub file : file_of files name ≡ Some (get_or files i d)

pub found_at : (files : List NamedFile) (name : List ℕ) (i : ℕ) (d : NamedFile) → position (λ f. bytes_eq f.name name) files ≡ Some i → FoundAt files name i d
found_at files name i d e =
    let p : NamedFile → Bool = λ f. bytes_eq f.name name in
    let found = position-Some p files i d e in
    let place : position_or_len p files ≡ i = grind (arith, common_steps) in
    record {
      within = found.0;
      named = same_name _ name found.1;
      place = place;
      file = find_at p files ∙ ap (slice_get files) place ∙ slice_get_at files i d found.0;
    }

-- ---- what an opening gives and leaves

answer_by : (listed : Bool) (files : List NamedFile) (name : List ℕ) (i : ℕ) (file : FileState) (d : NamedFile)
    → cond listed None (position (λ f. bytes_eq f.name name) files) ≡ Some i → d ≡ get_or files i d
    → file ≡ just_opened d
    → FoundAt files name i d × (Some file ≡ cond listed None (option_map just_opened (file_of files name)))
answer_by true files name i file d e at is = absurd cc
answer_by false files name i file d e at is =
    let found = found_at files name i d e in
    let there : file_of files name ≡ Some d = found.file ∙ ap (λ (f : NamedFile). Some f) (sym at) in
    let same : Some file ≡ option_map just_opened (Some d) = ap (λ (f : FileState). Some f) is in
    (found, same ∙ sym (ap (option_map just_opened) there))

pub opens_with : (bench : FilesState) (name : List ℕ) (i : ℕ) (file : FileState) (d : NamedFile)
    → cond (is_listed bench.bad_files bench.calls) None (position (λ f. bytes_eq f.name name) bench.files) ≡ Some i → d ≡ get_or bench.files i d
    → file ≡ just_opened d
    → FoundAt bench.files name i d × (Some file ≡ opened_of bench name)
opens_with bench name i file d e at is = answer_by (is_listed bench.bad_files bench.calls) bench.files name i file d e at is

none_by : (listed : Bool) (files : List NamedFile) (name : List ℕ)
    → cond listed None (position (λ f. bytes_eq f.name name) files) ≡ None
    → cond listed None (option_map just_opened (file_of files name)) ≡ None
none_by true files name e = refl
none_by false files name e =
    let p : NamedFile → Bool = λ f. bytes_eq f.name name in
    let past : length files ≤ position_or_len p files = grind (arith, common_steps) in
    ap (option_map just_opened) (find_at p files ∙ slice_get_past files (position_or_len p files) past)

pub opens_none : (bench : FilesState) (name : List ℕ)
    → cond (is_listed bench.bad_files bench.calls) None (position (λ f. bytes_eq f.name name) bench.files) ≡ None → None ≡ opened_of bench name
opens_none bench name e = sym (none_by (is_listed bench.bad_files bench.calls) bench.files name e)

-- the name at a place that was written
pub name_written : (files : List NamedFile) (i : ℕ) (left : NamedFile) (name : List ℕ) → i < length files → left.name ≡ name → name_at (set files i left) i ≡ name
name_written files i left name within e = ap (λ (f : NamedFile). f.name) (get_or-set_same files i left _ within) ∙ e

pub place_kept : (files : List NamedFile) (name : List ℕ) (i : ℕ) (d left : NamedFile) → FoundAt files name i d → left.name ≡ name → HasPlace (set files i left) (Some i)
place_kept files name i d left found e =
    let p : NamedFile → Bool = λ f. bytes_eq f.name name in
    let passes : p left ≡ p (get_or files i d) = ap (λ (n : List ℕ). bytes_eq n name) (e ∙ sym found.named) in (
      omega (arith, found.within, length-set files i left),
      ap (place_of (set files i left)) (name_written files i left name found.within e) ∙ position_or_len-set p files i left d passes ∙ found.place,
    )

pub opens_after : (bench : FilesState) (files : List NamedFile) (out : Option (List ℕ)) (bad : List ℕ) (calls faults : ℕ) (last worst : List ℕ)
    → record { files = files; out = out; bad_files = bad; calls = calls; faults = faults; last_name = last; bad_name = worst } ≡ bench
    → (name kept : List ℕ) (i next : ℕ) (d left : NamedFile) (file : FileState) → FoundAt files name i d
    → left ≡ record { name = name; bytes = []; bad_reads = [] } → next ≡ min (calls + 1) (2 ^ 64 - 1) → kept ≡ kept_name name
    → record { files = set files i left; out = Some (name_at (set files i left) i); bad_files = bad; calls = next; faults = faults; last_name = kept; bad_name = worst }
    ≡ after_open bench name (Some file)
opens_after bench files out bad calls faults last worst was name kept i next d left file found is count keeps =
    let new : FilesState = record { files = set files i left; out = Some (name_at (set files i left) i); bad_files = bad; calls = next; faults = faults; last_name = kept; bad_name = worst } in
    let old : FilesState = record { files = files; out = out; bad_files = bad; calls = calls; faults = faults; last_name = last; bad_name = worst } in
    let named : name_at (set files i left) i ≡ name = name_written files i left name found.within (ap (λ (f : NamedFile). f.name) is) in
    let written : set files i left ≡ with_file files name [] [] = ap₂ (λ (k : ℕ) (f : NamedFile). set files k f) (sym found.place) is in
    let same : new ≡ after_open old name (Some file) =
    ap₂ (λ (fs : List NamedFile) (n : List ℕ). record { files = fs; out = Some n; bad_files = bad; calls = next; faults = faults; last_name = kept; bad_name = worst }) written named
    ∙ ap₂ (λ (k : ℕ) (n : List ℕ). record { files = with_file files name [] []; out = Some name; bad_files = bad; calls = k; faults = faults; last_name = n; bad_name = worst }) count keeps in
    subst (λ (b : FilesState). new ≡ after_open b name (Some file)) was same

-- all that an opening does which finds a file, from the fields of the bench
pub opens : (bench : FilesState) (files : List NamedFile) (out : Option (List ℕ)) (bad : List ℕ) (calls faults : ℕ) (last worst : List ℕ)
    → record { files = files; out = out; bad_files = bad; calls = calls; faults = faults; last_name = last; bad_name = worst } ≡ bench
    → (name kept : List ℕ) (i next : ℕ) (d left : NamedFile) (file : FileState)
    → cond (is_listed bench.bad_files bench.calls) None (position (λ f. bytes_eq f.name name) bench.files) ≡ Some i → d ≡ get_or files i d
    → file ≡ just_opened d → left ≡ record { name = d.name; bytes = []; bad_reads = [] } → next ≡ min (calls + 1) (2 ^ 64 - 1) → kept ≡ kept_name name
    → (Some file ≡ opened_of bench name) × HasPlace (set files i left) (Some i)
    × (record { files = set files i left; out = Some (name_at (set files i left) i); bad_files = bad; calls = next; faults = faults; last_name = kept; bad_name = worst }
    ≡ after_open bench name (Some file))
opens bench files out bad calls faults last worst was name kept i next d left file e at is lent count keeps =
    let old : FilesState = record { files = files; out = out; bad_files = bad; calls = calls; faults = faults; last_name = last; bad_name = worst } in
    let Finds : FilesState → Type 0 = λ b. cond (is_listed b.bad_files b.calls) None (position (λ f. bytes_eq f.name name) b.files) ≡ Some i in
    let Answered : FilesState → Type 0 = λ b. Some file ≡ opened_of b name in
    let there = opens_with old name i file d (subst Finds (sym was) e) at is in
    let named : d.name ≡ name = ap (λ (f : NamedFile). f.name) at ∙ there.0.named in
    let emptied : left ≡ record { name = name; bytes = []; bad_reads = [] } = lent ∙ ap (λ (n : List ℕ). record { name = n; bytes = []; bad_reads = [] }) named in (
      subst Answered was there.1,
      place_kept files name i d left there.0 (ap (λ (f : NamedFile). f.name) emptied),
      opens_after bench files out bad calls faults last worst was name kept i next d left file there.0 emptied count keeps,
    )

-- ---- what the bench tells of it

-- the first place that passes, or what stands for none
first_passes : {X : Type 0} (p : X → Bool) (xs : List X) (d : X) → p d ≡ true → p (get_or xs (position_or_len p xs) d) ≡ true
first_passes p [] d e = e
first_passes p (x ∷ xs) d e = by (p x) refl (first_passes p xs d e)
  where
    by : (b : Bool) → p x ≡ b → p (get_or xs (position_or_len p xs) d) ≡ true → p (get_or (x ∷ xs) (cond (not b) (1 + position_or_len p xs) 0) d) ≡ true
    by true found later = found
    by false past later =
        let at : suc (position_or_len p xs) ≡ 1 + position_or_len p xs = omega arith in
        subst (λ (k : ℕ). p (get_or (x ∷ xs) k d) ≡ true) at later

-- a file of another name is not written
other_file : (files : List NamedFile) (name other bytes bad : List ℕ) → bytes_eq name other ≡ false → file_of (with_file files name bytes bad) other ≡ file_of files other
other_file files name other bytes bad e =
    let p : NamedFile → Bool = λ f. bytes_eq f.name name in
    let q : NamedFile → Bool = λ f. bytes_eq f.name other in
    let v : NamedFile = record { name = name; bytes = bytes; bad_reads = bad } in
    let there : (get_or files (position_or_len p files) v).name ≡ name = same_name _ name (first_passes p files v (own_name name)) in
    find_past q files (place_of files name) v v (ap (λ (n : List ℕ). bytes_eq n other) there ∙ e) e

-- no name is out where no file is
no_name_out : (out : Option (List ℕ)) (name : List ℕ) → is_some out ≡ false → is_out_name out name ≡ false
no_name_out None name e = refl
no_name_out (Some out) name e = absurd cc

told_unread : (listed : Bool) (o : Option NamedFile) (file : FileState) (bytes : List ℕ)
    → Some file ≡ cond listed None (option_map just_opened o)
    → option_map (λ f. f.bytes) o ≡ Some bytes → Some file.stream ≡ Some (unread bytes)
told_unread true o file bytes e told = absurd cc
told_unread false None file bytes e told = absurd cc
told_unread false (Some f) file bytes e told =
    let same : file ≡ just_opened f = cc in
    let all : f.bytes ≡ bytes = cc in
    ap (λ (g : FileState). Some g.stream) same ∙ ap (λ (b : List ℕ). Some (unread b)) all

no_fault_yet : (listed : Bool) (o : Option NamedFile) (file : FileState)
    → Some file ≡ cond listed None (option_map just_opened o) → file.faults ≡ 0
no_fault_yet true o file e = absurd cc
no_fault_yet false None file e = absurd cc
no_fault_yet false (Some f) file e =
    let same : file ≡ just_opened f = cc in
    ap (λ (g : FileState). g.faults) same

pub opened : (bench : FilesState) (name : List ℕ) (file : FileState) → is_some bench.out ≡ false → Some file ≡ opened_of bench name
    → Opened (file_side bench) (file_side (after_open bench name (Some file))) name (Some file.stream) file.faults
opened bench name file none answer = record {
  bytes = λ bytes told. (
    told_unread (is_listed bench.bad_files bench.calls) (file_of bench.files name) file bytes answer
        (sym (ap (λ (b : Bool). cond b None (option_map (λ f. f.bytes) (file_of bench.files name))) (no_name_out bench.out name none)) ∙ told),
    refl,
  );
  no_other_name = λ other e. cc;
  others = λ other. elim (cases_Bool (bytes_eq name other)) [
    | inl same ↦ inr (sym (same_name name other same))
    | inr differs ↦ inl (
        ap (λ (b : Bool). cond b None (option_map (λ f. f.bytes) (file_of (with_file bench.files name [] []) other))) differs
        ∙ ap (option_map (λ f. f.bytes)) (other_file bench.files name other [] [] differs)
        ∙ sym (ap (λ (b : Bool). cond b None (option_map (λ f. f.bytes) (file_of bench.files other))) (no_name_out bench.out other none)))
  ];
  no_fault = no_fault_yet (is_listed bench.bad_files bench.calls) (file_of bench.files name) file answer;
  still_out = refl;
  count = refl;
  last = refl;
  bad = refl;
}

pub not_opened : (bench : FilesState) (name : List ℕ) → is_some bench.out ≡ false → bench.faults < 2 ^ 64 → NotOpened (file_side bench) (file_side (after_open bench name None)) name
not_opened bench name none small = record {
  files = λ other. refl;
  none_out = none;
  rose = omega arith;
  later = omega (arith, small);
  last = refl;
  bad = refl;
}

-- ---- what closing leaves

others_by : (out : Option (List ℕ)) (files : List NamedFile) (file : FileState) (other : List ℕ)
    → (option_map (λ f. f.bytes) (file_of (files_back out files file) other) ≡ cond (is_out_name out other) None (option_map (λ f. f.bytes) (file_of files other)))
    ⊎ (out ≡ Some other)
others_by None files file other = inl refl
others_by (Some name) files file other =
    let bytes = file.stream.was_read ++ file.stream.left in
    elim (cases_Bool (bytes_eq name other)) [
      | inl same ↦ inr (ap (λ (n : List ℕ). Some n) (same_name name other same))
      | inr differs ↦ inl (
          ap (option_map (λ f. f.bytes)) (other_file files name other bytes file.bad_reads differs)
          ∙ sym (ap (λ (b : Bool). cond b None (option_map (λ f. f.bytes) (file_of files other))) differs))
    ]

put_under : (files : List NamedFile) (name : List ℕ) (file : FileState) (s : Stream) → place_of files name < length files → Some file.stream ≡ Some s
    → option_map (λ f. f.bytes) (file_of (with_file files name (file.stream.was_read ++ file.stream.left) file.bad_reads) name) ≡ Some (s.was_read ++ s.left)
put_under files name file s within told =
    let p : NamedFile → Bool = λ f. bytes_eq f.name name in
    let v : NamedFile = record { name = name; bytes = file.stream.was_read ++ file.stream.left; bad_reads = file.bad_reads } in
    let same : file.stream ≡ s = cc in
    ap (option_map (λ f. f.bytes)) (find-set p files (place_of files name) v refl within (own_name name))
    ∙ ap (λ (t : Stream). Some (t.was_read ++ t.left)) same

pub closed : (bench : FilesState) (file : FileState) → HoldsOut bench → bench.faults < 2 ^ 64
    → Closed (file_side bench) (file_side (after_close bench file)) (Some file.stream) file.faults
closed bench file held small = record {
  back = λ name out s told.
      ap (λ (o : Option (List ℕ)). option_map (λ f. f.bytes) (file_of (files_back o bench.files file) name)) out
      ∙ put_under bench.files name file s (held name out) told;
  others = λ other. others_by bench.out bench.files file other;
  none_out = refl;
  last = refl;
  clean = λ e.
      let zero = eq-eqb file.faults 0 e in (
        ap (λ (b : Bool). cond b bench.faults (one_more bench.faults)) zero,
        ap (λ (b : Bool). cond b bench.bad_name bench.last_name) zero,
      );
  failed = λ e.
      let some = ne_eqb file.faults 0 e in
      let count = ap (λ (b : Bool). cond b bench.faults (one_more bench.faults)) some in (
        omega (arith, count),
        omega (arith, count, small),
        ap (λ (b : Bool). cond b bench.bad_name bench.last_name) some,
      );
}
