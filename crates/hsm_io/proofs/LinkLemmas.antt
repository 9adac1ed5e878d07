-- What a link in memory reads, and what a door in memory gives.
use Rattle.std.proofs.Common.{◌≡◌, ◌∙◌, ◌≤◌, ℕ, List, [], ◌∷◌, ◌++◌, length, take, map, All, Some, refl, sym, ap, ap₂, subst, append-nil, length-append, arith}
use Rattle.std.proofs.lemmas.List.{take-append-le}
use Rattle.hsm_io.specs.Stream.{Stream, Passes}
use Rattle.hsm_io.specs.Outside.{Read}
use Rattle.hsm_io.specs.Connections.{Traffic, Doorway, Exchanges, ReadLink, Comes}
use Rattle.hsm_io.specs.MemoryLinks.{LinkState, IsUntouched, traffic_of, taken_of}
use Rattle.hsm_io.specs.declared.source.Got.{Got}
use Rattle.hsm_io.specs.declared.source.Got.TheVariants.{Bytes, End as GotEnd, Failed as GotFailed}
use Rattle.hsm_io.specs.declared.door.Came.TheVariants.{Link}

-- what a link tells of which this was read and that was written
abbrev pub beside : Stream → List ℕ → Traffic
beside stream written = record { was_read = stream.was_read; left = stream.left; written = written }

-- bytes that passed from the front of a room were read from a link, to which nothing was written
exchanges_read : (old new : Stream) (written front rest : List ℕ) (n : ℕ) → n ≤ length front → Passes old new (take n front)
    → Exchanges (beside old written) (beside new written) (take n (front ++ rest)) []
exchanges_read old new written front rest n fits p =
    let same : take n front ≡ take n (front ++ rest) = sym (take-append-le n front rest fits) in
    record {
      left = p.left ∙ ap (λ (x : List ℕ). x ++ new.left) same;
      was_read = p.was_read ∙ ap (λ (x : List ℕ). old.was_read ++ x) same;
      written = sym (append-nil written);
    }

-- a read into the front of a room is one of a link
pub reads_over : (old new : Stream) (written front rest : List ℕ) (got : Got) → Read (Some old) (Some new) front got
    → ReadLink (Some (beside old written)) (Some (beside new written)) (front ++ rest) got
reads_over old new written front rest (Bytes n) p =
    let q = p.2 old refl in
    let same : q.0 ≡ new = cc in
    let passes : Passes old new (take n front) = subst (λ (s : Stream). Passes old s (take n front)) same q.2 in
    let all = exchanges_read old new written front rest n p.1 passes in (
      p.0,
      omega (arith, p.1, length-append front rest),
      λ s told.
          let was : beside old written ≡ s = cc in
          (beside new written, refl, subst (λ (t : Traffic). Exchanges t (beside new written) (take n (front ++ rest)) []) was all),
    )
reads_over old new written front rest GotEnd p =
    let same : new ≡ old = cc in (
      ap (λ (s : Stream). Some (beside s written)) same,
      λ t told.
          let was : beside old written ≡ t = cc in
          ap (λ (s : Traffic). s.left) (sym was) ∙ p.1 old refl,
    )
reads_over old new written front rest GotFailed p =
    let same : new ≡ old = cc in
    ap (λ (s : Stream). Some (beside s written)) same

-- what a door tells that has these links to come and took those back
abbrev pub told_by : List LinkState → List LinkState → Doorway
told_by to_come taken = record { to_come = map (λ link. link.input.stream.left) to_come; taken = map taken_of taken }

-- the first link to come, of which nothing was read or written, is given
pub comes_first : (links rest taken : List LinkState) (link : LinkState) → links ≡ link ∷ rest → All IsUntouched links
    → Comes (Some (told_by links taken)) (Some (told_by rest taken)) (λ (k : LinkState). Some (traffic_of k)) (Link link)
comes_first links rest taken link first untouched d told =
    let was : told_by links taken ≡ d = cc in
    let clean = subst (λ (ks : List LinkState). All IsUntouched ks) first untouched 0 link (omega arith) in (
      link.input.stream.left,
      map (λ (k : LinkState). k.input.stream.left) rest,
      ap (λ (w : Doorway). w.to_come) (sym was) ∙ ap (map (λ (k : LinkState). k.input.stream.left)) first,
      ap₂ (λ (a b : List ℕ). Some (record { was_read = a; left = link.input.stream.left; written = b })) clean.0 clean.1,
      ap (λ (w : Doorway). Some (record { to_come = map (λ (k : LinkState). k.input.stream.left) rest; taken = w.taken })) was,
    )
