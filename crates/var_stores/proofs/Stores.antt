-- A store that was cut off piece by piece.
use Rattle.std.proofs.Common.{◌≡◌, ℕ, ◌+◌, ◌-◌, List, take, drop, ap, subst, ◌∙◌, drop-drop, arith}
use Rattle.var_stores.specs.Record.{RecordParts, HasRecords}
use Rattle.var_stores.specs.Volume.{header_size, store_size, store_guid, bytes_at, IsVolume, HasGoodHeader, HasStoreHeader, HasGoodStore, SpellsStore}

pub store_found : (file after area rest free : List ℕ) (records : List RecordParts) (size len : ℕ) → size ≡ header_size file → len ≡ store_size file →
    IsVolume file → HasGoodHeader file → HasStoreHeader file → bytes_at file (header_size file) 16 ≡ store_guid → HasGoodStore file →
    after ≡ drop (size + 28) file → area ≡ take (len - 28) after → rest ≡ drop (len - 28) after → HasRecords area records free →
    SpellsStore file (record { head = take (size + 28) file; records = records; free = free; rest = rest })
store_found file after area rest free records size len size_is len_is volume header room guid good after_is area_is rest_is has = record {
  volume = volume;
  header = header;
  room = room;
  guid = guid;
  good = good;
  head = ap (λ (n : ℕ). take (n + 28) file) size_is;
  area = subst (λ (t : List ℕ). HasRecords t records free)
      (area_is ∙ ap (take (len - 28)) after_is ∙ ap (λ (n : ℕ). take (n - 28) (drop (size + 28) file)) len_is
      ∙ ap (λ (n : ℕ). take (store_size file - 28) (drop (n + 28) file)) size_is) has;
  rest = rest_is ∙ ap (drop (len - 28)) after_is ∙ drop-drop (len - 28) (size + 28) file ∙ ap (λ (n : ℕ). drop n file) sum;
}
  where
    sum : (size + 28) + (len - 28) ≡ header_size file + store_size file
    sum = let least = good.least in omega (arith, size_is, len_is, least)
