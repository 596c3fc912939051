-- Numbers of entries as bytes, two for each, and how many bytes an order has.
use Rattle.std.proofs.Common.{◌≡◌, ℕ, ◌<◌, ◌^◌, List, [], ◌∷◌, ◌++◌, take, drop, get_or, sym, ap, ◌∙◌, refl, ◌*◌, length, Option, subst, arith}
use Rattle.std.specs.Int.{w16, from_le_bytes, to_le_bytes}
use Rattle.std.specs.List.{AllByRecursion}
use Rattle.std.proofs.lemmas.List.Elements.{recursion_from_All, All-from_get_or}
use Rattle.std.proofs.lemmas.Nat.{from_le_bytes-to_le_bytes_2}
use Rattle.std.specs.Option.{SomeIff}
use Rattle.uefi_path.specs.Units.{units_of, units_bytes}
use Rattle.uefi_vars.specs.Order.{IsEntryNumber}
use Rattle.uefi_vars.proofs.Numbers.{AreReadAgain, HaveTwoBytes}
use Rattle.uefi_path.proofs.Numbers.{wide_16}
use Rattle.boot_requests.specs.declared.request.Request.{Request}
use Rattle.boot_requests.specs.declared.request.Request.TheVariants.{Order}
use Rattle.boot_requests.specs.Request.{payload_of}

pub same_number : (m n : ℕ) (x y : List ℕ) → IsEntryNumber m → IsEntryNumber n → to_le_bytes w16 m ++ x ≡ to_le_bytes w16 n ++ y → (m ≡ n) × (x ≡ y)
same_number m n x y fits-m fits-n e =
    let read : from_le_bytes w16 (to_le_bytes w16 m) ≡ from_le_bytes w16 (to_le_bytes w16 n) = ap (λ (t : List ℕ). from_le_bytes w16 (take 2 t)) e in
    (sym (from_le_bytes-to_le_bytes_2 m fits-m) ∙ read ∙ from_le_bytes-to_le_bytes_2 n fits-n, ap (drop 2) e)

pub same_numbers : AreReadAgain → (ms ns : List ℕ) → AllByRecursion IsEntryNumber ms → AllByRecursion IsEntryNumber ns → units_bytes ms ≡ units_bytes ns →
    ms ≡ ns
same_numbers again ms ns fits-m fits-n e = sym (again ms fits-m) ∙ ap units_of e ∙ again ns fits-n

-- any two bytes are those of a number
pub two_bytes : (low high : ℕ) → low < 256 → high < 256 → to_le_bytes w16 (from_le_bytes w16 (low ∷ high ∷ [])) ≡ low ∷ high ∷ []
two_bytes low high p q = wide_16.same (low ∷ high ∷ []) (refl, (p, (q, tt)))

-- what the type of a slice of numbers says of its elements
pub numbers_from_fits : (numbers : List ℕ) → ((i : ℕ) → get_or numbers i 0 < 2 ^ 16) → AllByRecursion IsEntryNumber numbers
numbers_from_fits numbers h = recursion_from_All IsEntryNumber numbers (All-from_get_or IsEntryNumber numbers 0 (λ i _. h i))

-- what is counted is the length
pub counted : (r : Option ℕ) (n len : ℕ) → n ≡ len → SomeIff r (n < 2 ^ 64) n → SomeIff r (len < 2 ^ 64) len
counted r n len e is = let P : ℕ → Type 0 = λ m. SomeIff r (m < 2 ^ 64) m in subst P e is

pub order_len : HaveTwoBytes → (request : Request) (order numbers : List ℕ) → request ≡ Order order → numbers ≡ order →
    length numbers * 2 ≡ length (payload_of request)
order_len two request order numbers is same =
    let len : length numbers ≡ length order = ap length same in
    let payload : length (payload_of request) ≡ length (units_bytes order) = ap (λ (q : Request). length (payload_of q)) is in
    omega (arith, len, payload, (two order).1)
