-- Segments of URIs and of files, whose one argument is all between the parentheses.
use Rattle.std.proofs.Common.{◌≡◌, ◌≢◌, ℕ, true, leb, ◌&&◌, List, [], ◌∷◌, length, refl, ap, sym, subst, arith}
use Rattle.std.specs.Prelude.{Some, codes}
use Rattle.std.specs.List.{AllByRecursion, list_all}
use Rattle.std.proofs.lemmas.Bool.{and_parts, leb-true, le-leb}
use Rattle.std.proofs.lemmas.Bool.Decides.{nat_tests}
use Rattle.uefi_path.specs.declared.node.Node.{Node}
use Rattle.uefi_path.specs.declared.node.Node.TheVariants.{Uri, FilePath}
use Rattle.uefi_path.specs.declared.fault.NameFault.{NameFault}
use Rattle.uefi_path.specs.declared.fault.NameFault.TheVariants as name
use Rattle.uefi_path.specs.Parts.{IsUnit, IsPathName}
use Rattle.uefi_path.specs.Row.{IsByte}
use Rattle.uefi_text.specs.Segment.{named}
use Rattle.uefi_text.specs.Node.{uri, file, IsUriByte, IsNameUnit}
use Rattle.uefi_text.specs.Path.{IsNodeText}
use Rattle.uefi_text.specs.Answers.{MeansNamed}
use Rattle.uefi_text.specs.Printed.{is_plain_from}
use Rattle.uefi_text.specs.Reader.{uri_of, file_of}
use Rattle.uefi_text.proofs.Read.Numbers.{chosen_some, some_same}
use Rattle.uefi_text.proofs.Means.Inside.{IsInside, inside_whole}
use Rattle.uefi_text.proofs.Means.Forms.{uri_argument, file_argument}

uri_bytes : (text : List ℕ) → list_all (is_plain_from 0x21) text ≡ true → AllByRecursion IsUriByte text × AllByRecursion IsByte text
uri_bytes [] h = (tt, tt)
uri_bytes (c ∷ cs) h =
    let p = and_parts (is_plain_from 0x21 c) (list_all (is_plain_from 0x21) cs) h in
    let plain = p.0 in
    let rest = uri_bytes cs p.1 in (
      (
        record {
          low = grind (arith, nat_tests);
          high = grind (arith, nat_tests);
          no_open = grind (arith, nat_tests);
          no_close = grind (arith, nat_tests);
        },
        rest.0,
      ),
      (grind (arith, nat_tests), rest.1),
    )

bytes_plain : (text : List ℕ) → AllByRecursion IsUriByte text → list_all (is_plain_from 0x21) text ≡ true
bytes_plain [] h = refl
bytes_plain (c ∷ cs) h =
    let low = h.0.low in let high = h.0.high in let a = h.0.no_open in let b = h.0.no_close in
    let plain : is_plain_from 0x21 c ≡ true = grind (arith, nat_tests) in
    rw (plain, bytes_plain cs h.1) refl

pub uri_found : (text : List ℕ) (node : Node) → uri_of text ≡ Some node → IsNodeText (named (codes "Uri") (text ∷ [])) node
uri_found text node e =
    let read = chosen_some (list_all (is_plain_from 0x21) text && leb (length text) 65531) (Some (Uri text)) node e in
    let both = and_parts (list_all (is_plain_from 0x21) text) (leb (length text) 65531) read.0 in
    let bytes = uri_bytes text both.0 in
    subst (IsNodeText (named (codes "Uri") (text ∷ []))) (some_same (Uri text) node read.1)
    (record { valid = (bytes.1, leb-true (length text) 65531 both.1); means = uri bytes.0 })

whole : (name inside : List ℕ) (node : Node) → MeansNamed name inside node → IsInside name inside node
whole name inside node m = record { arguments = m.0; joined = m.1; means = m.2 }

pub uri_again : (inside : List ℕ) (node : Node) → MeansNamed (codes "Uri") inside node → uri_of inside ≡ Some node
uri_again inside node m =
    let p = uri_argument inside node (inside_whole (codes "Uri") inside node refl (whole (codes "Uri") inside node m)) in
    rw (bytes_plain inside p.0, le-leb (length inside) 65531 p.1.1) (ap (λ (n : Node). Some n) (sym p.2))

name_units : (text : List ℕ) → list_all (is_plain_from 0x20) text ≡ true → AllByRecursion IsNameUnit text × AllByRecursion IsUnit text
name_units [] h = (tt, tt)
name_units (c ∷ cs) h =
    let p = and_parts (is_plain_from 0x20 c) (list_all (is_plain_from 0x20) cs) h in
    let plain = p.0 in
    let rest = name_units cs p.1 in (
      (
        record {
          low = grind (arith, nat_tests);
          high = grind (arith, nat_tests);
          no_open = grind (arith, nat_tests);
          no_close = grind (arith, nat_tests);
        },
        rest.0,
      ),
      ((grind (arith, nat_tests), grind (arith, nat_tests)), rest.1),
    )

pub units_plain : (text : List ℕ) → AllByRecursion IsNameUnit text → list_all (is_plain_from 0x20) text ≡ true
units_plain [] h = refl
units_plain (c ∷ cs) h =
    let low = h.0.low in let high = h.0.high in let a = h.0.no_open in let b = h.0.no_close in
    let plain : is_plain_from 0x20 c ≡ true = grind (arith, nat_tests) in
    rw (plain, units_plain cs h.1) refl

-- the node of a name that is read, and that the name is one
pub file_read : (text : List ℕ) (node : Node) → file_of text ≡ Some node → (AllByRecursion IsNameUnit text × IsPathName text) × (FilePath text ≡ node)
file_read text node e =
    let read = chosen_some (list_all (is_plain_from 0x20) text && leb (length text) 32764) (Some (FilePath text)) node e in
    let both = and_parts (list_all (is_plain_from 0x20) text) (leb (length text) 32764) read.0 in
    let units = name_units text both.0 in
    ((units.0, (units.1, leb-true (length text) 32764 both.1)), some_same (FilePath text) node read.1)

pub file_found : (text : List ℕ) (node : Node) → file_of text ≡ Some node → IsNodeText (named (codes "File") (text ∷ [])) node
file_found text node e =
    let read = file_read text node e in
    subst (IsNodeText (named (codes "File") (text ∷ []))) read.1 (record { valid = read.0.1; means = file read.0.0 })

pub file_again : (inside : List ℕ) (node : Node) → MeansNamed (codes "File") inside node → file_of inside ≡ Some node
file_again inside node m =
    let p = file_argument inside node (inside_whole (codes "File") inside node refl (whole (codes "File") inside node m)) in
    rw (units_plain inside p.0, le-leb (length inside) 32764 p.1.1) (ap (λ (n : Node). Some n) (sym p.2))

-- a name that has no unit of zero and isn't too long is refused for nothing
pub never_refused : (fault : NameFault) → fault ≢ name.OutOfMemory → ((at : ℕ) → fault ≡ name.ZeroUnit at → ⊥) → (fault ≡ name.TooLong → ⊥) → ⊥
never_refused (name.ZeroUnit at) memory zero long = zero at refl
never_refused name.TooLong memory zero long = long refl
never_refused name.OutOfMemory memory zero long = memory refl
