-- What each call that answers values says and leaves: refused for the room of its row of values, refused by what it calls, and
-- taken. Assumes nothing.
use Rattle.std.specs.Prelude.{Err, Ok, Result}
use mathlib.Core.Path.{◌≡◌, refl, sym, ap, ◌∙◌}
use mathlib.Core.List.{List, [], ◌∷◌}
use Prim.Native.Nat.{ℕ, ◌<◌, ◌≤◌}
use lib.ListN.{length}
use borrow.Author.Tests.{lt-ltb, le-ltb}
use Rattle.edition.specs.declared.Refusal.{Refusal}
use Rattle.edition.specs.Refusals.{Verdict, taken, refused, if_taken}
use Rattle.edition.specs.declared.Why.TheVariants.{NoRoom}
use Rattle.rows.specs.First.{refuse_if, firstly}
use Rattle.network.specs.Network.{Net}
use Rattle.sound.specs.declared.Sizes.{Sizes}
use Rattle.sound.specs.Sound.{net_verdict, checked}
use Rattle.map.specs.declared.Unprotected.{Unprotected}
use Rattle.map.specs.Map.{told_of, map_verdict, map_answer, map_row}
use Rattle.archive.specs.declared.Header.{Header}
use Rattle.archive.specs.Writer.{file_length, write_verdict, write_answer, written_row}
use Rattle.archive.specs.Reader.{head_read, Rows, read_verdict, read_answer, rows_read}
use Rattle.archive.proofs.AcceptedRows.{unlent_refused}
use Rattle.doeragyeol.specs.Word.{word_of, answered, told}
use Rattle.doeragyeol.specs.Calls.{lent_rows, check_said, sizes_row, map_said, words_row, open_row, write_said, file_row, length_row, read_said, rows_left}
use Rattle.tree.specs.Tree.{tree_of, apart}
use Rattle.tree.specs.Answers.{ways_verdict, apart_answer}
use Rattle.forward.specs.declared.Ask.{Ask}
use Rattle.forward.specs.declared.Way.{Way}
use Rattle.forward.specs.declared.Applies.{Applies}
use Rattle.forward.specs.declared.Applies.TheVariants.{Ordinary, Detour}
use Rattle.forward.specs.Forward.{cut_off}
use Rattle.forward.specs.Answers.{ask_verdict, forward_verdict, way, applies, ordinary_row, detour_row}
use Rattle.doeragyeol.specs.Calls.{header_row, forward_said, ordinary_left, detour_left, way_values, way_row, distance_said, apart_row}
use Rattle.doeragyeol.proofs.Telling.{room_lacks, room-there, rooms_one, ends_refused, sound_is, sound_not, number_is, number_not, room_after}
use Rattle.doeragyeol.proofs.Telling.{map_is, map-not, write_is, write_not, read_is, read_not, ordinary_is, detour-is, neither_is}

-- the word and the row of values, by the verdict
module _ (v : Verdict) where
  told-word : (w : ℕ) (r : Refusal) → v ≡ Err r → w ≡ word_of (Err r) → w ≡ word_of v
  told-word w r t q = q ∙ ap word_of (sym t)

  done_word : v ≡ taken → 0 ≡ word_of v
  unfolding word_of
  done_word t = rw t

  kept : {A : Type 0} (x y : A) (r : Refusal) → v ≡ Err r → y ≡ if_taken v x y
  kept x y r t = rw t

  got : {A : Type 0} (x y : A) → v ≡ taken → x ≡ if_taken v x y
  got x y t = rw t

-- the check
module _ (g : Net) (sizes : List ℕ) where
  abbrev pub Check : ℕ → List ℕ → Type 0
  Check w after =
      (w ≡ word_of (check_said g sizes)) × (after ≡ sizes_row g sizes)

  check_kept : (w : ℕ) (r : Refusal) → w ≡ word_of (Err r) → check_said g sizes ≡ Err r → Check w sizes
  unfolding sizes_row told
  check_kept w r q t = (told-word _ w r t q, kept _ _ _ r t)

  pub check_short : length sizes < 2 → (w : ℕ) → w ≡ word_of (firstly (net_verdict g ∷ refused NoRoom 0 ∷ [])) → Check w sizes
  unfolding check_said
  check_short l w q =
      let no = ends_refused (net_verdict g) in
      check_kept w no.0 (q ∙ ap word_of no.1) (room_lacks (net_verdict g) 2 sizes l ∙ no.1)

  module _ (l : 2 ≤ length sizes) (a : Result Sizes Refusal) (q : a ≡ checked g) where
    pub check_unsound : (r : Refusal) → a ≡ Err r → (w : ℕ) → w ≡ word_of (Err r) → Check w sizes
    unfolding checked check_said
    check_unsound r t w p =
        check_kept w r p (room-there (net_verdict g) 2 sizes l ∙ sound_not (net_verdict g) g r (sym q ∙ t))

    pub check_sound : (s : Sizes) → a ≡ Ok s → (after : List ℕ) → after ≡ answered (s.nodes ∷ s.links ∷ []) sizes → Check 0 after
    unfolding checked check_said sizes_row told
    check_sound s t after p =
        let is = sound_is (net_verdict g) g s (sym q ∙ t) in
        let is_taken : check_said g sizes ≡ taken = room-there (net_verdict g) 2 sizes l ∙ is.0 in
        (done_word _ is_taken, p ∙ (ap (λ (k : Sizes). answered (k.nodes ∷ k.links ∷ []) sizes) is.1 ∙ got _ _ _ is_taken))

-- the map
module _ (g : Net) (words row : List ℕ) where
  abbrev pub Map : ℕ → List ℕ → List ℕ → Type 0
  Map w words' row' =
      (w ≡ word_of (map_said g words row)) × (words' ≡ words_row g words row) × (row' ≡ open_row g words row)

  map-kept : (w : ℕ) (r : Refusal) → w ≡ word_of (Err r) → map_said g words row ≡ Err r → Map w words row
  unfolding words_row open_row told
  map-kept w r q t = (told-word _ w r t q, kept _ _ _ r t, kept _ _ _ r t)

  pub map-short : length row < 2 → (w : ℕ) → w ≡ word_of (firstly (net_verdict g ∷ refused NoRoom 0 ∷ [])) → Map w words row
  unfolding map_said map_verdict
  map-short l w q =
      let no = ends_refused (net_verdict g) in
      map-kept w no.0 (q ∙ ap word_of no.1) (room_lacks (map_verdict g words) 2 row l ∙ (rooms_one (net_verdict g) _ ∙ no.1))

  module _ (l : 2 ≤ length row) (a : Result Unprotected Refusal) (q : a ≡ map_answer g words) (words' : List ℕ) (e : words' ≡ map_row g words) where
    pub map-refused : (r : Refusal) → a ≡ Err r → (w : ℕ) → w ≡ word_of (Err r) → Map w words' row
    unfolding map_answer map_said map_row
    map-refused r t w p =
        let no = map-not (map_verdict g words) (told_of g) r (sym q ∙ t) in
        let kept = map-kept w r p (room-there (map_verdict g words) 2 row l ∙ no) in
        let same : map_row g words ≡ words = rw no in
        (kept.0, e ∙ (same ∙ kept.1), kept.2)

    pub map-taken : (s : Unprotected) → a ≡ Ok s → (row' : List ℕ) → row' ≡ answered (s.count ∷ s.lowest ∷ []) row → Map 0 words' row'
    unfolding map_answer map_said told_of words_row open_row told
    map-taken s t row' p =
        let is = map_is (map_verdict g words) (told_of g) s (sym q ∙ t) in
        let is_taken : map_said g words row ≡ taken = room-there (map_verdict g words) 2 row l ∙ is.0 in
        (done_word _ is_taken, e ∙ got _ _ _ is_taken, p ∙ (ap (λ (k : Unprotected). answered (k.count ∷ k.lowest ∷ []) row) is.1 ∙ got _ _ _ is_taken))

-- the writer
module _ (g : Net) (file size : List ℕ) where
  abbrev Write : ℕ → List ℕ → List ℕ → Type 0
  Write w file' size' =
      (w ≡ word_of (write_said g file size)) × (file' ≡ file_row g file size) × (size' ≡ length_row g file size)

  write_kept : (w : ℕ) (r : Refusal) → w ≡ word_of (Err r) → write_said g file size ≡ Err r → Write w file size
  unfolding file_row length_row told
  write_kept w r q t = (told-word _ w r t q, kept _ _ _ r t, kept _ _ _ r t)

  pub write_short : length size < 1 → (w : ℕ) → w ≡ word_of (firstly (net_verdict g ∷ refused NoRoom 0 ∷ [])) → Write w file size
  unfolding write_said write_verdict
  write_short l w q =
      let no = ends_refused (net_verdict g) in
      write_kept w no.0 (q ∙ ap word_of no.1) (room_lacks (write_verdict g file) 1 size l ∙ (rooms_one (net_verdict g) _ ∙ no.1))

  module _ (l : 1 ≤ length size) (a : Result ℕ Refusal) (q : a ≡ write_answer g file) (file' : List ℕ) (e : file' ≡ written_row g file) where
    pub write_refused : (r : Refusal) → a ≡ Err r → (w : ℕ) → w ≡ word_of (Err r) → Write w file' size
    unfolding write_answer write_said written_row
    write_refused r t w p =
        let no = write_not (write_verdict g file) (file_length g) r (sym q ∙ t) in
        let kept = write_kept w r p (room-there (write_verdict g file) 1 size l ∙ no) in
        let same : written_row g file ≡ file = rw no in
        (kept.0, e ∙ (same ∙ kept.1), kept.2)

    pub write_taken : (s : ℕ) → a ≡ Ok s → (size' : List ℕ) → size' ≡ answered (s ∷ []) size → Write 0 file' size'
    unfolding write_answer write_said file_row length_row told
    write_taken s t size' p =
        let is = write_is (write_verdict g file) (file_length g) s (sym q ∙ t) in
        let is_taken : write_said g file size ≡ taken = room-there (write_verdict g file) 1 size l ∙ is.0 in
        (done_word _ is_taken, e ∙ got _ _ _ is_taken, p ∙ (ap (λ (k : ℕ). answered (k ∷ []) size) is.1 ∙ got _ _ _ is_taken))

-- the reader
module _ (file links parents entries header : List ℕ) where
  abbrev lent : Rows
  lent = lent_rows links parents entries

  abbrev pub Read : ℕ → List ℕ → List ℕ → List ℕ → List ℕ → Type 0
  Read w links' parents' entries' header' =
      (w ≡ word_of (read_said file lent header))
      × (links' ≡ (rows_left file lent header).links) × (parents' ≡ (rows_left file lent header).parents)
      × (entries' ≡ (rows_left file lent header).entries) × (header' ≡ header_row file lent header)

  read_kept : (w : ℕ) (r : Refusal) → w ≡ word_of (Err r) → read_said file lent header ≡ Err r → Read w links parents entries header
  unfolding rows_left header_row told
  read_kept w r q t =
      let same : lent ≡ rows_left file lent header = kept _ _ _ r t in
      (told-word _ w r t q, ap (λ (k : Rows). k.links) same, ap (λ (k : Rows). k.parents) same, ap (λ (k : Rows). k.entries) same, kept _ _ _ r t)

  pub read_short :
      length header < 4
      → (v : Verdict) → v ≡ read_verdict file (lent_rows [] [] []) → (w : ℕ) → w ≡ word_of v → Read w links parents entries header
  unfolding read_said
  read_short l v p w q =
      let no = unlent_refused file in
      read_kept w no.0 (q ∙ ap word_of (p ∙ no.1)) (rw (lt-ltb (length header) 4 l) no.1)

  module _ (l : 4 ≤ length header) (a : Result Header Refusal) (q : a ≡ read_answer file lent) (links' parents' entries' : List ℕ)
      (e : links' ≡ (rows_read file lent).links) (f : parents' ≡ (rows_read file lent).parents)
      (h : entries' ≡ (rows_read file lent).entries) where
    room_full : read_said file lent header ≡ read_verdict file lent
    unfolding read_said
    room_full = rw (le-ltb (length header) 4 l)

    pub read_refused : (r : Refusal) → a ≡ Err r → (w : ℕ) → w ≡ word_of (Err r) → Read w links' parents' entries' header
    unfolding read_answer read_said rows_read
    read_refused r t w p =
        let no = read_not (read_verdict file lent) (head_read file) r (sym q ∙ t) in
        let kept = read_kept w r p (room_full ∙ no) in
        let same : rows_read file lent ≡ lent = rw no in (
          kept.0,
          e
              ∙ (ap (λ (k : Rows). k.links) same ∙ kept.1),
          f ∙ (ap (λ (k : Rows). k.parents) same ∙ kept.2),
          h
              ∙ (ap (λ (k : Rows). k.entries) same ∙ kept.3),
          kept.4,
        )

    pub read_taken :
        (s : Header)
        → a ≡ Ok s → (header' : List ℕ)
        → header' ≡ answered (s.nodes ∷ s.links ∷ s.search.root ∷ s.search.depth ∷ []) header
        → Read 0 links' parents' entries' header'
    unfolding read_answer read_said head_read rows_left header_row told
    read_taken s t header' p =
        let is = read_is (read_verdict file lent) (head_read file) s (sym q ∙ t) in
        let is_taken : read_said file lent header ≡ taken = room_full ∙ is.0 in
        let same : rows_read file lent ≡ rows_left file lent header = got _ _ _ is_taken in (
          done_word _ is_taken,
          e
              ∙ ap (λ (k : Rows). k.links) same,
          f ∙ ap (λ (k : Rows). k.parents) same,
          h
              ∙ ap (λ (k : Rows). k.entries) same,
          p
              ∙ (ap (λ (k : Header). answered (k.nodes ∷ k.links ∷ k.search.root ∷ k.search.depth ∷ []) header) is.1
              ∙ got _ _ _ is_taken),
        )

-- the forwarder
module _ (g : Net) (a : Ask) (o d row : List ℕ) where
  abbrev pub Forward : ℕ → List ℕ → List ℕ → List ℕ → Type 0
  Forward w o' d' row' =
      (w ≡ word_of (forward_said g a o d row)) × (o' ≡ ordinary_left g a o d row) × (d' ≡ detour_left g a o d row) × (row' ≡ way_row g a o d row)

  forward_kept : (w : ℕ) (r : Refusal) → w ≡ word_of (Err r) → forward_said g a o d row ≡ Err r → Forward w o d row
  unfolding ordinary_left detour_left way_row told
  forward_kept w r q t = (told-word _ w r t q, kept _ _ _ r t, kept _ _ _ r t, kept _ _ _ r t)

  -- an empty row is refused by 10, in its place
  unlent :
      (v : Verdict) (rest : List Verdict)
      → firstly (v ∷ ask_verdict g.nodes g.search.root a 0 (length d) ∷ rest) ≡ firstly (v ∷ refused NoRoom 0 ∷ [])
  unfolding firstly ask_verdict refuse_if
  unlent (Ok _) rest = refl
  unlent (Err r) rest = refl

  pub forward_short : length row < 3 → (w : ℕ) → w ≡ word_of (firstly (net_verdict g ∷ refused NoRoom 0 ∷ [])) → Forward w o d row
  unfolding forward_said forward_verdict
  forward_short l w q =
      let no = ends_refused (net_verdict g) in
      forward_kept w no.0 (q ∙ ap word_of no.1) (rw (lt-ltb (length row) 3 l) (unlent (net_verdict g) _ ∙ no.1))

  module _ (l : 3 ≤ length row) (it : Result Applies Refusal) (q : it ≡ applies g a o d) (o' d' : List ℕ)
      (e : o' ≡ ordinary_row g a o d) (f : d' ≡ detour_row g a o d) where
    full : forward_said g a o d row ≡ forward_verdict g a o d
    unfolding forward_said
    full = rw (le-ltb (length row) 3 l)

    done : forward_verdict g a o d ≡ taken → (row' : List ℕ) → row' ≡ answered (way_values it) row → Forward 0 o' d' row'
    unfolding ordinary_left detour_left way_row told
    done t row' p =
        let is_taken : forward_said g a o d row ≡ taken = full ∙ t in (
          done_word _ is_taken,
          e ∙ got _ _ _ is_taken,
          f ∙ got _ _ _ is_taken,
          p ∙ ap (λ (k : Result Applies Refusal). answered (way_values k) row) q ∙ got _ _ _ is_taken,
        )

    pub forward_ordinary : (s : Way) → it ≡ Ok (Ordinary s) → (row' : List ℕ) → row' ≡ answered (0 ∷ s.nodes ∷ s.length ∷ []) row → Forward 0 o' d' row'
    unfolding applies way_values
    forward_ordinary s t row' p =
        done (ordinary_is (forward_verdict g a o d) (cut_off g a) (way g a) s (sym q ∙ t)) row'
        (p ∙ ap (λ (k : Result Applies Refusal). answered (way_values k) row) (sym t))

    pub forward_detour : (s : Way) → it ≡ Ok (Detour s) → (row' : List ℕ) → row' ≡ answered (1 ∷ s.nodes ∷ s.length ∷ []) row → Forward 0 o' d' row'
    unfolding applies way_values
    forward_detour s t row' p =
        done (detour-is (forward_verdict g a o d) (cut_off g a) (way g a) s (sym q ∙ t)) row'
        (p ∙ ap (λ (k : Result Applies Refusal). answered (way_values k) row) (sym t))

    pub forward_refused : (r : Refusal) → it ≡ Err r → (w : ℕ) → w ≡ word_of (Err r) → Forward w o' d' row
    unfolding applies ordinary_row detour_row
    forward_refused r t w p =
        let no = neither_is (forward_verdict g a o d) (cut_off g a) (way g a) r (sym q ∙ t) in
        let kept = forward_kept w r p (full ∙ no) in
        let one : ordinary_row g a o d ≡ o = rw no in
        let two : detour_row g a o d ≡ d = rw no in
        (kept.0, e ∙ (one ∙ kept.1), f ∙ (two ∙ kept.2), kept.3)

-- the tree distance
module _ (g : Net) (u z : ℕ) (row : List ℕ) (a : Result ℕ Refusal) (q : a ≡ apart_answer g u z) where
  abbrev pub Distance : ℕ → List ℕ → Type 0
  Distance w row' = (w ≡ word_of (distance_said g u z row)) × (row' ≡ apart_row g u z row)

  distance_kept : (w : ℕ) (r : Refusal) → w ≡ word_of (Err r) → distance_said g u z row ≡ Err r → Distance w row
  unfolding apart_row told
  distance_kept w r p t = (told-word _ w r t p, kept _ _ _ r t)

  pub distance_refused : (r : Refusal) → a ≡ Err r → (w : ℕ) → w ≡ word_of (Err r) → Distance w row
  unfolding apart_answer distance_said
  distance_refused r t w p =
      distance_kept w r p (room_after (ways_verdict g u z) 1 row r (number_not (ways_verdict g u z) (apart (tree_of g) u z) r (sym q ∙ t)))

  module _ (d : ℕ) (t : a ≡ Ok d) where
    far : (ways_verdict g u z ≡ taken) × (d ≡ apart (tree_of g) u z)
    unfolding apart_answer
    far = number_is (ways_verdict g u z) (apart (tree_of g) u z) d (sym q ∙ t)

    pub distance_short : length row < 1 → (w : ℕ) → w ≡ word_of (refused NoRoom 0) → Distance w row
    unfolding distance_said firstly
    distance_short l w p =
        distance_kept w _ p
        (room_lacks (ways_verdict g u z) 1 row l ∙ ap (λ (v : Verdict). firstly (v ∷ refused NoRoom 0 ∷ [])) far.0)

    pub distance_told : 1 ≤ length row → (row' : List ℕ) → row' ≡ answered (d ∷ []) row → Distance 0 row'
    unfolding distance_said apart_row told
    distance_told l row' p =
        let is_taken : distance_said g u z row ≡ taken = room-there (ways_verdict g u z) 1 row l ∙ far.0 in
        (done_word _ is_taken, p ∙ (ap (λ (k : ℕ). answered (k ∷ []) row) far.1 ∙ got _ _ _ is_taken))
