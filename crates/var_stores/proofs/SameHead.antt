-- A file whose headers are those of another file of its length.
use Rattle.std.proofs.Common.{◌≡◌, ℕ, ◌+◌, ◌-◌, ◌%◌, ◌≤◌, List, ◌++◌, length, take, drop, sym, ap, subst, ◌∙◌, drop-drop, arith}
use Rattle.std.proofs.Math.Seq.{drop-append_seam, drop-append-add, take-append_seam}
use Rattle.std.proofs.lemmas.List.{drop-take, take-append-le, take-append-drop, length-append, length-take-le, length-drop}
use Rattle.std.specs.Int.{w16, w32, w64, from_le_bytes}
use Rattle.var_stores.specs.Record.{RecordParts, HasRecords}
use Rattle.var_stores.specs.Volume.{bytes_at, volume_len, header_size, header_min, word_sum, IsVolume, HasGoodHeader, store_guid}
use Rattle.var_stores.specs.Volume.{store_header_len, store_size, HasStoreHeader, HasGoodStore, StoreParts, area_of, SpellsStore}

same_bytes_at : (head x y : List ℕ) (place len : ℕ) → place + len ≤ length head → bytes_at (head ++ x) place len ≡ bytes_at (head ++ y) place len
same_bytes_at head x y place len within = front x ∙ sym (front y)
  where
    front : (rest : List ℕ) → bytes_at (head ++ rest) place len ≡ drop place (take (place + len) head)
    front rest = sym (drop-take place len (head ++ rest)) ∙ ap (drop place) (take-append-le (place + len) head rest within)

-- ---- a file is its headers, its area and what follows

module _ (file : List ℕ) (s : StoreParts) (is : SpellsStore file s) where
  ends : header_size file + store_size file ≤ length file
  ends = let store = is.good.within in let volume = is.header.volume in omega (arith, store, volume)

  pub head_len : length s.head ≡ header_size file + store_header_len
  head_len =
      ap length is.head ∙ length-take-le (header_size file + store_header_len) file (let ends = ends in let least = is.good.least in omega (arith, ends, least))

  pub area_len : length (area_of file) ≡ store_size file - store_header_len
  area_len = length-take-le (store_size file - store_header_len) (drop (header_size file + store_header_len) file)
      (let left = length-drop (header_size file + store_header_len) file in let ends = ends in let least = is.good.least in omega (arith, left, ends, least))

  pub file_is : file ≡ s.head ++ (area_of file ++ s.rest)
  file_is =
      let start = header_size file + store_header_len in
      let len = store_size file - store_header_len in
      let least = is.good.least in
      let more : start + len ≡ header_size file + store_size file = omega (arith, least) in
      sym (take-append-drop start file) ∙ ap (λ (head : List ℕ). head ++ drop start file) (sym is.head)
      ∙ ap (λ (after : List ℕ). s.head ++ after)
      (sym (take-append-drop len (drop start file)) ∙ ap (λ (rest : List ℕ). area_of file ++ rest)
      (drop-drop len start file ∙ ap (λ (n : ℕ). drop n file) more ∙ sym is.rest))

  pub file_len : length file ≡ length s.head + (length (area_of file) + length s.rest)
  file_len = ap length file_is ∙ length-append s.head (area_of file ++ s.rest) ∙ ap (λ (n : ℕ). length s.head + n) (length-append (area_of file) s.rest)

-- ---- another area

module _ (head x y : List ℕ) (s : StoreParts) (is : SpellsStore (head ++ x) s)
    (len : length head ≡ header_size (head ++ x) + store_header_len) (same : length x ≡ length y) where
  abbrev old : List ℕ
  old = head ++ x

  abbrev new : List ℕ
  new = head ++ y

  min : header_min + store_header_len ≤ length head
  min = let least = is.header.least in omega (arith, least, len)

  at : (place n : ℕ) → place + n ≤ length head → bytes_at new place n ≡ bytes_at old place n
  at place n within = same_bytes_at head y x place n within

  pub same_len : length new ≡ length old
  same_len = length-append head y ∙ ap (λ (n : ℕ). length head + n) (sym same) ∙ sym (length-append head x)

  pub same_header_size : header_size new ≡ header_size old
  same_header_size = ap (from_le_bytes w16) (at 48 2 (let min = min in omega (arith, min)))

  same_volume_len : volume_len new ≡ volume_len old
  same_volume_len = ap (from_le_bytes w64) (at 32 8 (let min = min in omega (arith, min)))

  at_header : (place n : ℕ) → place + n ≤ store_header_len → bytes_at new (header_size new + place) n ≡ bytes_at old (header_size old + place) n
  at_header place n within = ap (λ (size : ℕ). bytes_at new (size + place) n) same_header_size ∙ at (header_size old + place) n (omega (arith, within, len))

  pub same_store_size : store_size new ≡ store_size old
  same_store_size = ap (from_le_bytes w32) (at_header 16 4 (omega arith))

  is_volume : IsVolume new
  is_volume = let min = min in record {
    long = let long = is.volume.long in let lens = same_len in omega (arith, long, lens);
    guid = at 16 16 (omega (arith, min)) ∙ is.volume.guid;
    signature = at 40 4 (omega (arith, min)) ∙ is.volume.signature;
    revision = at 55 1 (omega (arith, min)) ∙ is.volume.revision;
  }

  same_front : take (header_size new) new ≡ take (header_size old) old
  same_front =
      ap (λ (size : ℕ). take size new) same_header_size ∙ take-append-le (header_size old) head y (omega (arith, len))
      ∙ sym (take-append-le (header_size old) head x (omega (arith, len)))

  has_good_header : HasGoodHeader new
  has_good_header = let size = same_header_size in let lens = same_len in let volume = same_volume_len in record {
    least = let least = is.header.least in omega (arith, size, least);
    even = ap (λ (n : ℕ). n % 2) size ∙ is.header.even;
    within = let within = is.header.within in omega (arith, size, lens, within);
    sum = ap word_sum same_front ∙ is.header.sum;
    volume = let fits = is.header.volume in omega (arith, volume, lens, fits);
  }

  has_store_header : HasStoreHeader new
  has_store_header = let size = same_header_size in let volume = same_volume_len in let room = is.room in omega (arith, size, volume, room)

  has_good_store : HasGoodStore new
  has_good_store = let size = same_store_size in let header = same_header_size in let volume = same_volume_len in record {
    state = at_header 20 2 (omega arith) ∙ is.good.state;
    least = let least = is.good.least in omega (arith, size, least);
    fours = ap (λ (n : ℕ). n % 4) size ∙ is.good.fours;
    within = let within = is.good.within in omega (arith, size, header, volume, within);
  }

  guid_is : bytes_at new (header_size new) 16 ≡ store_guid
  guid_is = ap (λ (size : ℕ). bytes_at new size 16) same_header_size ∙ at (header_size old) 16 (omega (arith, len)) ∙ is.guid

  module _ (area rest : List ℕ) (parts : y ≡ area ++ rest) (size : length area ≡ store_size old - store_header_len) where
    start_is : header_size new + store_header_len ≡ length head
    start_is = let header = same_header_size in omega (arith, header, len)

    area_is : area_of new ≡ area
    area_is =
        ap (λ (n : ℕ). bytes_at new n (store_size new - store_header_len)) start_is ∙ ap (take (store_size new - store_header_len)) (drop-append_seam head y)
        ∙ ap (λ (n : ℕ). take (n - store_header_len) y) same_store_size ∙ ap (λ (n : ℕ). take n y) (sym size)
        ∙ ap (take (length area)) parts ∙ take-append_seam area rest

    rest_is : drop (header_size new + store_size new) new ≡ rest
    rest_is =
        let header = start_is in
        let total = same_store_size in
        let least = is.good.least in
        let where' : header_size new + store_size new ≡ length head + length area = omega (arith, header, total, size, least) in
        ap (λ (n : ℕ). drop n new) where' ∙ drop-append-add head y (length area) ∙ ap (drop (length area)) parts ∙ drop-append_seam area rest

    pub spells : (records : List RecordParts) (free : List ℕ) → HasRecords area records free →
        SpellsStore new (record { head = head; records = records; free = free; rest = rest })
    spells records free has = record {
      volume = is_volume;
      header = has_good_header;
      room = has_store_header;
      guid = guid_is;
      good = has_good_store;
      head = sym (ap (λ (n : ℕ). take n new) start_is ∙ take-append_seam head y);
      area = subst (λ (bytes : List ℕ). HasRecords bytes records free) (sym area_is) has;
      rest = sym rest_is;
    }
