-- The first bytes of a file, if they hold its headers, say of its digest what all of its bytes say.
use Rattle.std.proofs.Common.{◌≡◌, ◌⊎◌, inl, inr, refl, ℕ, zero, suc, ◌+◌, ◌-◌, ◌*◌, ◌≤◌, Bool, true, false, nat_le, nat_lt, map, if◌then◌else◌, List, [], ◌∷◌, ◌++◌, length, take, drop, Option, Some, None, sym, ◌∙◌, ap, subst, arith, length-drop}
use Rattle.std.proofs.lemmas.List.{take-append-le, drop-append-le}
use Rattle.std.proofs.lemmas.List.Elements.{All-nil, All-cons, All-append}
use Rattle.std.proofs.lemmas.Map.Views.{All-map-IsPermutation}
use Rattle.std.specs.Int.{w16, w32, from_le_bytes}
use Rattle.std.specs.Option.{option_or}
use Rattle.std.specs.List.{All, flat_map}
use Rattle.efi_images.specs.Bytes.{u16_at, u32_at}
use Rattle.efi_images.specs.Headers.{HasHeaders, HoldsHeaders, pe_place, machine, section_count, optional_size, magic, image_size, headers_size, subsystem, fixed_size, directory_count, directory_place, directory_start, directory_size, table_place}
use Rattle.efi_images.specs.Sections.{HasTable, section_at, sections_from, sections}
use Rattle.efi_images.specs.Check.{Check, first_fault}
use Rattle.efi_images.specs.Checks.{signature_checks, kind_checks, boot_manager_checks, directory_checks, size_checks, table_checks, section_checks, form_checks}
use Rattle.efi_images.specs.Digest.{between, header_ranges, section_range, last_range, total_size, certificates_size, digest_ranges, behind_sum, IsFileOrder, HasRanges, IsWithin, form_fault, size_fault, front_fault, digest_fault}
use Rattle.efi_images.specs.declared.section.Section.{Section}
use Rattle.efi_images.specs.declared.fault.ImageFault.{ImageFault}
use Rattle.efi_images.specs.declared.digest_fault.DigestFault.{DigestFault}
use Rattle.efi_images.specs.declared.ranges.DigestRange.{DigestRange}
use Rattle.efi_images.proofs.Firsts.{first_fault_append}
use Rattle.efi_images.proofs.Passing.{parts, headers_fit, sizes}

-- ---- bytes

bytes_same : (front rest : List ℕ) (place n : ℕ) → place + n ≤ length front
    → take n (drop place (front ++ rest)) ≡ take n (drop place front)
bytes_same front rest place n within =
    let a : place ≤ length front = omega arith in
    let b : n ≤ length (drop place front) = omega (arith, length-drop place front) in
    ap (take n) (drop-append-le place front rest a) ∙ take-append-le n (drop place front) rest b

u16_same : (front rest : List ℕ) (place : ℕ) → place + 2 ≤ length front → u16_at (front ++ rest) place ≡ u16_at front place
unfolding u16_at
u16_same front rest place within = ap (from_le_bytes w16) (bytes_same front rest place 2 within)

u32_same : (front rest : List ℕ) (place : ℕ) → place + 4 ≤ length front → u32_at (front ++ rest) place ≡ u32_at front place
unfolding u32_at
u32_same front rest place within = ap (from_le_bytes w32) (bytes_same front rest place 4 within)

-- ---- fields

-- the files have the same fields
record Same (front file : List ℕ) : Type 0 where
  pe : pe_place file ≡ pe_place front
  is_for : machine file ≡ machine front
  rows : section_count file ≡ section_count front
  optional : optional_size file ≡ optional_size front
  kind : magic file ≡ magic front
  image : image_size file ≡ image_size front
  headers : headers_size file ≡ headers_size front
  system : subsystem file ≡ subsystem front
  fixed : fixed_size file ≡ fixed_size front
  directories : directory_count file ≡ directory_count front
  start : directory_start file 4 ≡ directory_start front 4
  size : directory_size file 4 ≡ directory_size front 4

fixed_of : (front file : List ℕ) → magic file ≡ magic front → fixed_size file ≡ fixed_size front
unfolding fixed_size
fixed_of front file e = rw e refl

fixed_most : (file : List ℕ) → fixed_size file ≤ 112
unfolding fixed_size
fixed_most file = grind arith

same : (front rest : List ℕ) → HasHeaders front → Same front (front ++ rest)
same front rest h =
    let at = pe_place front in
    let most = fixed_most front in
    let pe = u32_same front rest 60 (omega (arith, h.least)) in
    let kind : magic (front ++ rest) ≡ magic front = rw pe (u16_same front rest (at + 24) (omega (arith, h.whole))) in
    let fixed = fixed_of front (front ++ rest) kind in
    record {
      pe = pe;
      is_for = rw pe (u16_same front rest (at + 4) (omega (arith, h.whole)));
      rows = rw pe (u16_same front rest (at + 6) (omega (arith, h.whole)));
      optional = rw pe (u16_same front rest (at + 20) (omega (arith, h.whole)));
      kind = kind;
      image = rw pe (u32_same front rest (at + 80) (omega (arith, h.whole)));
      headers = rw pe (u32_same front rest (at + 84) (omega (arith, h.whole)));
      system = rw pe (u16_same front rest (at + 92) (omega (arith, h.whole)));
      fixed = fixed;
      directories = rw (pe, fixed) (u32_same front rest (at + (20 + fixed_size front)) (omega (arith, h.whole, most)));
      start = rw (pe, fixed) (u32_same front rest (at + (24 + fixed_size front) + 32) (omega (arith, h.whole, most)));
      size = rw (pe, fixed) (u32_same front rest (at + (24 + fixed_size front) + 32 + 4) (omega (arith, h.whole, most)));
    }

-- ---- sections

section_same : (front rest : List ℕ) (place : ℕ) → place + 40 ≤ length front → section_at (front ++ rest) place ≡ section_at front place
unfolding section_at
section_same front rest place within =
    let a = u32_same front rest (place + 8) (omega arith) in
    let b = u32_same front rest (place + 12) (omega arith) in
    let c = u32_same front rest (place + 16) (omega arith) in
    let d = u32_same front rest (place + 20) (omega arith) in
    rw (a, b, c, d) refl

sections_from_same : (front rest : List ℕ) (place count : ℕ) → place + 40 * count ≤ length front
    → sections_from (front ++ rest) place count ≡ sections_from front place count
sections_from_same front rest place zero within = refl
sections_from_same front rest place (suc count) within =
    let a = section_same front rest place (omega arith) in
    let b = sections_from_same front rest (place + 40) count (omega arith) in
    rw (a, b) refl

sections_same : (front rest : List ℕ) → Same front (front ++ rest) → HasTable front → sections (front ++ rest) ≡ sections front
unfolding sections
sections_same front rest s t =
    rw (s.rows, s.optional, s.pe) (sections_from_same front rest (table_place front) (section_count front) (omega (arith, t.within)))

-- ---- checks

kinds_same : (front file : List ℕ) → Same front file → kind_checks file ≡ kind_checks front
unfolding kind_checks
kinds_same front file s = rw (s.kind, s.system, s.pe) refl

directories_same : (front file : List ℕ) → Same front file → directory_checks file ≡ directory_checks front
unfolding directory_checks
directories_same front file s = rw (s.directories, s.optional, s.fixed, s.pe) refl

sizes_same : (len : ℕ) (front file : List ℕ) → Same front file → size_checks len file ≡ size_checks len front
unfolding size_checks
sizes_same len front file s = rw (s.image, s.headers, s.rows, s.optional, s.pe) refl

tables_same : (len : ℕ) (front file : List ℕ) → Same front file → table_checks len file ≡ table_checks len front
unfolding table_checks
tables_same len front file s = rw (s.size, s.start, s.directories, s.is_for, s.fixed, s.pe) refl

section_checks_same : (len : ℕ) (front file : List ℕ) → Same front file → (all : List Section)
    → flat_map (section_checks len file) all ≡ flat_map (section_checks len front) all
section_checks_same len front file s [] = refl
section_checks_same len front file s (first ∷ others) =
    let e = s.headers in
    let more = section_checks_same len front file s others in
    rw (e, more) refl

-- ---- the boot manager's

short : (len : ℕ) (front file : List ℕ) → nat_le 64 len ≡ false
    → first_fault (boot_manager_checks len file) ≡ first_fault (boot_manager_checks len front)
unfolding boot_manager_checks signature_checks
short len front file e = rw e refl

far : (len : ℕ) (front rest : List ℕ) → 64 ≤ length front → nat_le (pe_place front + 264) len ≡ false
    → first_fault (boot_manager_checks len (front ++ rest)) ≡ first_fault (boot_manager_checks len front)
unfolding boot_manager_checks signature_checks
far len front rest least e =
    let a = u16_same front rest 0 (omega arith) in
    let b = u32_same front rest 60 (omega arith) in
    rw (a, b, e) refl

near : (len : ℕ) (front rest : List ℕ) → HasHeaders front
    → first_fault (boot_manager_checks len (front ++ rest)) ≡ first_fault (boot_manager_checks len front)
unfolding boot_manager_checks signature_checks
near len front rest h =
    let s = same front rest h in
    let a = u16_same front rest 0 (omega (arith, h.least)) in
    let b = u32_same front rest (pe_place front) (omega (arith, h.whole)) in
    let k = kinds_same front (front ++ rest) s in
    rw (k, a, s.pe, b) refl

by_headers : (len : ℕ) (front rest : List ℕ) (fits : Bool) → nat_le (pe_place front + 264) len ≡ fits → 64 ≤ len → HoldsHeaders len front
    → first_fault (boot_manager_checks len (front ++ rest)) ≡ first_fault (boot_manager_checks len front)
by_headers len front rest true e least held =
    near len front rest (record { least = held.least least; whole = held.whole (grind arith) })
by_headers len front rest false e least held = far len front rest (held.least least) e

by_length : (len : ℕ) (front rest : List ℕ) (fits : Bool) → nat_le 64 len ≡ fits → HoldsHeaders len front
    → first_fault (boot_manager_checks len (front ++ rest)) ≡ first_fault (boot_manager_checks len front)
by_length len front rest true e held = by_headers len front rest (nat_le (pe_place front + 264) len) refl (grind arith) held
by_length len front rest false e held = short len front (front ++ rest) e

-- the first bytes hold the headers of a file that the boot manager takes
held_headers : (len : ℕ) (front : List ℕ) → HoldsHeaders len front → first_fault (boot_manager_checks len front) ≡ None → HasHeaders front
unfolding boot_manager_checks
held_headers len front held e =
    let p = headers_fit len front (parts (signature_checks len front) (kind_checks front) e).0 in
    record { least = held.least p.0; whole = held.whole p.1 }

-- ---- the loader's

-- what is asked before the sections are looked at
abbrev before : ℕ → List ℕ → List Check
before len file = directory_checks file ++ size_checks len file ++ table_checks len file

before_same : (len : ℕ) (front file : List ℕ) → Same front file → before len file ≡ before len front
before_same len front file s =
    let d = directories_same front file s in
    let z = sizes_same len front file s in
    let t = tables_same len front file s in
    rw (d, z, t) refl

-- the first bytes hold the section table of a file of which this isn't told
held_table : (len : ℕ) (front : List ℕ) → HoldsHeaders len front → HasHeaders front → first_fault (before len front) ≡ None → HasTable front
held_table len front held h e =
    let p = parts (directory_checks front ++ size_checks len front) (table_checks len front) e in
    let q = sizes len front (parts (directory_checks front) (size_checks len front) p.0).1 in
    record { within = held.table h (omega (arith, q.0, q.1)) }

-- what comes after the first fault doesn't matter
stops_there : (told one other : Option ImageFault) → (told ≡ None → one ≡ other) → option_or told one ≡ option_or told other
stops_there None one other same = same refl
stops_there (Some f) one other same = refl

form_same : (len : ℕ) (front rest : List ℕ) → HoldsHeaders len front → HasHeaders front
    → first_fault (form_checks len (front ++ rest)) ≡ first_fault (form_checks len front)
unfolding form_checks
form_same len front rest held h =
    let file = front ++ rest in
    let s = same front rest h in
    let b = before_same len front file s in
    let rows = λ (x : List ℕ). flat_map (section_checks len x) (sections x) in
    first_fault_append (before len file) (rows file)
    ∙ ap (λ all. option_or (first_fault all) (first_fault (rows file))) b
    ∙ stops_there (first_fault (before len front)) (first_fault (rows file)) (first_fault (rows front))
    (λ none. ap first_fault (ap (flat_map (section_checks len file)) (sections_same front rest s (held_table len front held h none))
    ∙ section_checks_same len front file s (sections front)))
    ∙ sym (first_fault_append (before len front) (rows front))

form_table : (len : ℕ) (front : List ℕ) → HoldsHeaders len front → HasHeaders front → first_fault (form_checks len front) ≡ None → HasTable front
unfolding form_checks
form_table len front held h e = held_table len front held h (parts (before len front) (flat_map (section_checks len front) (sections front)) e).0

-- ---- sizes and ranges

total_same : (front rest : List ℕ) → Same front (front ++ rest) → HasTable front → total_size (front ++ rest) ≡ total_size front
unfolding total_size
total_same front rest s t = let e = sections_same front rest s t in rw (e, s.headers) refl

size_fault_same : (len : ℕ) (front rest : List ℕ) → Same front (front ++ rest) → HasTable front
    → size_fault len (front ++ rest) ≡ size_fault len front
unfolding size_fault
size_fault_same len front rest s t = let e = total_same front rest s t in rw (e, s.size, s.directories) refl

header_ranges_same : (front file : List ℕ) → Same front file → header_ranges file ≡ header_ranges front
unfolding header_ranges
header_ranges_same front file s = rw (s.directories, s.headers, s.fixed, s.pe) refl

last_range_same : (len : ℕ) (front rest : List ℕ) → Same front (front ++ rest) → HasTable front
    → last_range len (front ++ rest) ≡ last_range len front
unfolding last_range
last_range_same len front rest s t = let e = total_same front rest s t in rw (e, s.size, s.directories) refl

ranges_same : (len : ℕ) (front rest : List ℕ) (order : List Section) → Same front (front ++ rest) → HasTable front
    → digest_ranges len (front ++ rest) order ≡ digest_ranges len front order
unfolding digest_ranges
ranges_same len front rest order s t =
    let a = header_ranges_same front (front ++ rest) s in
    let b = last_range_same len front rest s t in
    rw (a, b) refl

-- ---- all

steps : (boot boot' form form' : Option ImageFault) (size size' : Option DigestFault) → boot ≡ boot' → (boot' ≡ None → form ≡ form')
    → (boot' ≡ None → form' ≡ None → size ≡ size') → form_fault boot (form_fault form size) ≡ form_fault boot' (form_fault form' size')
steps boot (Some told) form form' size size' b f s = rw b refl
steps boot None form None size size' b f s = let g = f refl in let t = s refl refl in rw (b, g, t) refl
steps boot None form (Some told) size size' b f s = let g = f refl in rw (b, g) refl

fault_same : (len : ℕ) (front rest : List ℕ) → HoldsHeaders len front → front_fault len (front ++ rest) ≡ front_fault len front
unfolding front_fault
fault_same len front rest held =
    steps _ _ _ _ _ _ (by_length len front rest (nat_le 64 len) refl held)
    (λ none. form_same len front rest held (held_headers len front held none))
    (λ none whole. size_fault_same len front rest (same front rest (held_headers len front held none))
    (form_table len front held (held_headers len front held none) whole))

-- the first bytes tell why a file of this length has no digest, if it has none
pub told_fault : (len : ℕ) (front rest : List ℕ) → HoldsHeaders len front → length (front ++ rest) ≡ len
    → digest_fault (front ++ rest) ≡ front_fault len front
told_fault len front rest held e = ap (λ n. front_fault n (front ++ rest)) e ∙ fault_same len front rest held

no_fault : (boot form : Option ImageFault) (size : Option DigestFault) → form_fault boot (form_fault form size) ≡ None
    → (boot ≡ None) × (form ≡ None)
no_fault None None size e = (refl, refl)
no_fault None (Some f) size e = grind arith
no_fault (Some f) form size e = grind arith

parts_none : (len : ℕ) (front : List ℕ) → front_fault len front ≡ None
    → (first_fault (boot_manager_checks len front) ≡ None) × (first_fault (form_checks len front) ≡ None)
unfolding front_fault
parts_none len front e = no_fault _ _ _ e

-- they tell the ranges
pub told_ranges : (len : ℕ) (front rest : List ℕ) (ranges : List DigestRange) → HoldsHeaders len front → front_fault len front ≡ None
    → HasRanges len front ranges → HasRanges len (front ++ rest) ranges
told_ranges len front rest ranges held none r =
    let p = parts_none len front none in
    let h = held_headers len front held p.0 in
    let s = same front rest h in
    let t = form_table len front held h p.1 in
    record {
      order = r.order;
      in_order = subst (λ all. IsFileOrder all r.order) (sym (sections_same front rest s t)) r.in_order;
      are = r.are ∙ sym (ranges_same len front rest r.order s t);
    }

-- ---- ranges are in the file

between_within : (start end len : ℕ) → end ≤ len → IsWithin len (between start end)
between_within start end len e = record { within = λ some. omega (arith, some, e) }

behind_within : (len : ℕ) (file : List ℕ) (more : Bool) → pe_place file + 264 ≤ len → headers_size file ≤ len
    → All (IsWithin len)
    (if more
    then between (pe_place file + 92) (directory_place file 4) ∷ between (directory_place file 5) (headers_size file) ∷ []
    else between (pe_place file + 92) (headers_size file) ∷ [])
behind_within len file true whole size =
    let most = fixed_most file in
    let first = between (pe_place file + 92) (directory_place file 4) in
    let second = between (directory_place file 5) (headers_size file) in
    All-cons (IsWithin len) first (second ∷ []) (between_within (pe_place file + 92) (directory_place file 4) len (omega (arith, whole, most)))
    (All-cons (IsWithin len) second [] (between_within (directory_place file 5) (headers_size file) len size) (All-nil (IsWithin len)))
behind_within len file false whole size =
    All-cons (IsWithin len) (between (pe_place file + 92) (headers_size file)) []
    (between_within (pe_place file + 92) (headers_size file) len size) (All-nil (IsWithin len))

headers_within : (len : ℕ) (file : List ℕ) → pe_place file + 264 ≤ len → headers_size file ≤ len → All (IsWithin len) (header_ranges file)
unfolding header_ranges
headers_within len file whole size =
    All-cons (IsWithin len) (between 0 (pe_place file + 88)) (behind_sum file)
    (between_within 0 (pe_place file + 88) len (omega (arith, whole)))
    (behind_within len file (nat_lt 4 (directory_count file)) whole size)

section_within : (len : ℕ) (file : List ℕ) (s : Section) → first_fault (section_checks len file s) ≡ None → IsWithin len (section_range s)
section_within len file s e = record { within = λ some. grind arith }

sections_within : (len : ℕ) (file : List ℕ) (all : List Section) → first_fault (flat_map (section_checks len file) all) ≡ None
    → All (IsWithin len) (map section_range all)
sections_within len file [] e = All-nil (IsWithin len)
sections_within len file (s ∷ all) e =
    let p = parts (section_checks len file s) (flat_map (section_checks len file) all) e in
    All-cons (IsWithin len) (section_range s) (map section_range all) (section_within len file s p.0) (sections_within len file all p.1)

last_within : (len : ℕ) (file : List ℕ) → IsWithin len (last_range len file)
unfolding last_range
last_within len file = between_within (total_size file) (len - certificates_size file) len (omega arith)

form_parts : (len : ℕ) (file : List ℕ) → first_fault (form_checks len file) ≡ None
    → (headers_size file ≤ len) × (first_fault (flat_map (section_checks len file) (sections file)) ≡ None)
unfolding form_checks
form_parts len file e =
    let p = parts (before len file) (flat_map (section_checks len file) (sections file)) e in
    let q = parts (directory_checks file ++ size_checks len file) (table_checks len file) p.0 in
    ((sizes len file (parts (directory_checks file) (size_checks len file) q.0).1).1, p.1)

boot_fits : (len : ℕ) (file : List ℕ) → first_fault (boot_manager_checks len file) ≡ None → pe_place file + 264 ≤ len
unfolding boot_manager_checks
boot_fits len file e = (headers_fit len file (parts (signature_checks len file) (kind_checks file) e).0).1

ordered_within : (len : ℕ) (file : List ℕ) (order : List Section) → IsFileOrder (sections file) order → pe_place file + 264 ≤ len
    → headers_size file ≤ len → first_fault (flat_map (section_checks len file) (sections file)) ≡ None
    → All (IsWithin len) (digest_ranges len file order)
unfolding digest_ranges
ordered_within len file order in_order whole size rows =
    let before_last = header_ranges file ++ map section_range order in
    All-append (IsWithin len) before_last (last_range len file ∷ [])
    (All-append (IsWithin len) (header_ranges file) (map section_range order) (headers_within len file whole size)
    (All-map-IsPermutation section_range (IsWithin len) (sections file) order in_order.permutation
    (sections_within len file (sections file) rows)))
    (All-cons (IsWithin len) (last_range len file) [] (last_within len file) (All-nil (IsWithin len)))

pub all_within : (len : ℕ) (front : List ℕ) (ranges : List DigestRange) → front_fault len front ≡ None → HasRanges len front ranges
    → All (IsWithin len) ranges
all_within len front ranges none r =
    let p = parts_none len front none in
    let f = form_parts len front p.1 in
    subst (λ all. All (IsWithin len) all) (sym r.are)
    (ordered_within len front r.order r.in_order (boot_fits len front p.0) f.0 f.1)

-- what is so if the second is, is so if the first or the second is
pub second : {A B C : Type 0} → A ⊎ B → (B → C) → A ⊎ C
second (inl a) f = inl a
second (inr b) f = inr (f b)
