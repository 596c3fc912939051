-- The segments of vendors, and those of any type, are read as the definitions say.
use Rattle.std.proofs.Common.{◌≡◌, ◌≢◌, ◌⊎◌, inl, inr, ℕ, List, [], ◌∷◌, length, refl, ap, sym, subst, ◌∙◌, arith}
use Rattle.std.specs.Prelude.{Some, codes}
use Rattle.uefi_path.specs.declared.node.Node.{Node}
use Rattle.uefi_path.specs.declared.node.Node.TheVariants.{VendorHw, VendorMsg, VendorMedia}
use Rattle.uefi_path.specs.Parts.{VendorParts, vendor_parts, IsVendor}
use Rattle.uefi_path.specs.Row.{Row, row}
use Rattle.uefi_path.specs.Node.{IsNode, row_of}
use Rattle.uefi_text.specs.Segment.{named}
use Rattle.uefi_text.specs.Node.{IsVendorText, vendor_hw, vendor_msg, vendor_media, generic}
use Rattle.uefi_text.specs.Path.{IsNodeText}
use Rattle.uefi_text.specs.Reader.{number_up_to, guid_read, data_of, vendor_of, generic_of}
use Rattle.uefi_text.proofs.Read.Numbers.{bind_some, some_same, up_to_found, up_to_again}
use Rattle.uefi_text.proofs.Read.Forms.{hex_bytes, guid_bytes}
use Rattle.uefi_text.proofs.Read.Hex.{data_found, data_again}
use Rattle.uefi_text.proofs.Read.Arguments.{guid_read_found, guid_read_again}
use Rattle.uefi_text.proofs.Means.Forms.{EachNodeIsShort, vendor_hw_arguments, vendor_msg_arguments, vendor_media_arguments, generic_count, generic_arguments}

-- the arguments of a vendor's node
pub vendor_found : (arguments : List (List ℕ)) (vendor : VendorParts) → vendor_of arguments ≡ Some vendor → IsVendorText arguments vendor × IsVendor vendor
unfolding vendor_of
vendor_found [] vendor e = cc
vendor_found (_ ∷ _ ∷ _ ∷ _) vendor e = cc
vendor_found (guid ∷ []) vendor e =
    let g = bind_some (guid_read guid) _ vendor e in
    let is = guid_read_found guid g.0 g.1 in
    subst (λ (v : VendorParts). IsVendorText (guid ∷ []) v × IsVendor v) (some_same (vendor_parts g.0 []) vendor g.2)
    ((is, refl), record { guid = guid_bytes guid g.0 is; body = tt; len = omega arith })
vendor_found (guid ∷ hex ∷ []) vendor e =
    let g = bind_some (guid_read guid) _ vendor e in
    let d = bind_some (data_of 65515 hex) _ vendor g.2 in
    let is = guid_read_found guid g.0 g.1 in
    let body = data_found 65515 hex d.0 d.1 in
    subst (λ (v : VendorParts). IsVendorText (guid ∷ hex ∷ []) v × IsVendor v) (some_same (vendor_parts g.0 d.0) vendor d.2)
    ((is, body.0), record { guid = guid_bytes guid g.0 is; body = hex_bytes hex d.0 body.0; len = body.1 })

pub vendor_again : (arguments : List (List ℕ)) (vendor : VendorParts) → IsVendorText arguments vendor → IsVendor vendor → vendor_of arguments ≡ Some vendor
unfolding vendor_of
vendor_again [] vendor is valid = absurd is
vendor_again (_ ∷ _ ∷ _ ∷ _) vendor is valid = absurd is.1
vendor_again (guid ∷ []) vendor is valid =
    rw (guid_read_again guid vendor.guid is.0) (ap (λ (b : List ℕ). Some (vendor_parts vendor.guid b)) (sym is.1))
vendor_again (guid ∷ hex ∷ []) vendor is valid =
    rw (guid_read_again guid vendor.guid is.0, data_again 65515 hex vendor.body is.1 valid.len) refl

-- VenHw, VenMsg and VenMedia
pub vendor_hw_found : (arguments : List (List ℕ)) (vendor : VendorParts) → vendor_of arguments ≡ Some vendor →
    IsNodeText (named (codes "VenHw") arguments) (VendorHw vendor)
vendor_hw_found arguments vendor e = let is = vendor_found arguments vendor e in record { valid = is.1; means = vendor_hw is.0 }

pub vendor_hw_again : (arguments : List (List ℕ)) (node : Node) → IsNodeText (named (codes "VenHw") arguments) node →
    (vendor : VendorParts) × (vendor_of arguments ≡ Some vendor) × (node ≡ VendorHw vendor)
vendor_hw_again arguments node is = let p = vendor_hw_arguments arguments node is in (p.0, vendor_again arguments p.0 p.1 p.2, p.3)

pub vendor_msg_found : (arguments : List (List ℕ)) (vendor : VendorParts) → vendor_of arguments ≡ Some vendor →
    IsNodeText (named (codes "VenMsg") arguments) (VendorMsg vendor)
vendor_msg_found arguments vendor e = let is = vendor_found arguments vendor e in record { valid = is.1; means = vendor_msg is.0 }

pub vendor_msg_again : (arguments : List (List ℕ)) (node : Node) →
    IsNodeText (named (codes "VenMsg") arguments) node → (vendor : VendorParts) × (vendor_of arguments ≡ Some vendor)
    × (node ≡ VendorMsg vendor)
vendor_msg_again arguments node is = let p = vendor_msg_arguments arguments node is in (p.0, vendor_again arguments p.0 p.1 p.2, p.3)

pub vendor_media_found : (arguments : List (List ℕ)) (vendor : VendorParts) → vendor_of arguments ≡ Some vendor →
    IsNodeText (named (codes "VenMedia") arguments) (VendorMedia vendor)
vendor_media_found arguments vendor e = let is = vendor_found arguments vendor e in record { valid = is.1; means = vendor_media is.0 }

pub vendor_media_again : (arguments : List (List ℕ)) (node : Node) →
    IsNodeText (named (codes "VenMedia") arguments) node → (vendor : VendorParts)
    × (vendor_of arguments ≡ Some vendor) × (node ≡ VendorMedia vendor)
vendor_media_again arguments node is = let p = vendor_media_arguments arguments node is in (p.0, vendor_again arguments p.0 p.1 p.2, p.3)

-- Path
pub generic_found : (arguments : List (List ℕ)) (r : Row) (node : Node) → generic_of arguments ≡ Some r →
    IsNode node → row_of node ≡ r → IsNodeText (named (codes "Path") arguments) node
unfolding generic_of
generic_found [] r node e valid is = cc
generic_found (_ ∷ []) r node e valid is = cc
generic_found (_ ∷ _ ∷ _ ∷ _ ∷ _) r node e valid is = cc
generic_found (kind ∷ sub ∷ []) r node e valid is =
    let k = bind_some (number_up_to 0xFF kind) _ r e in
    let s = bind_some (number_up_to 0xFF sub) _ r k.2 in
    let same : row k.0 s.0 [] ≡ r = some_same (row k.0 s.0 []) r s.2 in
    let kind_is = (up_to_found 0xFF kind k.0 k.1).0 in
    let sub_is = (up_to_found 0xFF sub s.0 s.1).0 in
    record { valid = valid; means = generic kind_is sub_is refl (is ∙ sym same) }
generic_found (kind ∷ sub ∷ hex ∷ []) r node e valid is =
    let k = bind_some (number_up_to 0xFF kind) _ r e in
    let s = bind_some (number_up_to 0xFF sub) _ r k.2 in
    let d = bind_some (data_of 65531 hex) _ r s.2 in
    let same : row k.0 s.0 d.0 ≡ r = some_same (row k.0 s.0 d.0) r d.2 in
    let kind_is = (up_to_found 0xFF kind k.0 k.1).0 in
    let sub_is = (up_to_found 0xFF sub s.0 s.1).0 in
    record { valid = valid; means = generic kind_is sub_is (data_found 65531 hex d.0 d.1).0 (is ∙ sym same) }

few_or_many : (n : ℕ) → n ≢ 2 → n ≢ 3 → (n ≡ 2) ⊎ (n ≡ 3) → ⊥
few_or_many n two three (inl e) = two e
few_or_many n two three (inr e) = three e

pub generic_again : EachNodeIsShort → (arguments : List (List ℕ)) (node : Node) →
    IsNodeText (named (codes "Path") arguments) node → generic_of arguments ≡ Some (row_of node)
unfolding generic_of
generic_again law [] node is = absurd (few_or_many 0 (λ e. omega (arith, e)) (λ e. omega (arith, e)) (generic_count [] node is))
generic_again law (a ∷ []) node is = absurd (few_or_many 1 (λ e. omega (arith, e)) (λ e. omega (arith, e)) (generic_count (a ∷ []) node is))
generic_again law (a ∷ b ∷ c ∷ d ∷ more) node is =
    absurd (few_or_many (length (a ∷ b ∷ c ∷ d ∷ more)) (λ e. omega (arith, e)) (λ e. omega (arith, e)) (generic_count (a ∷ b ∷ c ∷ d ∷ more) node is))
generic_again law (kind ∷ sub ∷ []) node is =
    let p = generic_arguments law kind sub [] node is in
    let k = up_to_again 0xFF kind p.0 p.3 (let low = p.6.kind in omega arith) in
    let s = up_to_again 0xFF sub p.1 p.4 (let low = p.6.sub in omega arith) in
    rw (k, s) (ap (λ (b : List ℕ). Some (row p.0 p.1 b)) (sym p.5) ∙ ap (λ (r : Row). Some r) (sym p.8))
generic_again law (kind ∷ sub ∷ hex ∷ []) node is =
    let p = generic_arguments law kind sub (hex ∷ []) node is in
    let k = up_to_again 0xFF kind p.0 p.3 (let low = p.6.kind in omega arith) in
    let s = up_to_again 0xFF sub p.1 p.4 (let low = p.6.sub in omega arith) in
    rw (k, s, data_again 65531 hex p.2 p.5 p.6.len) (ap (λ (r : Row). Some r) (sym p.8))
