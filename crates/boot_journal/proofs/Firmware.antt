-- What firmware did by itself to a variable that no change is of stays, and changes that are made over firmware's leave what they make
-- and what stays of firmware's: by what is found under each name.
use Rattle.std.proofs.Common.{◌≡◌, ℕ, ◌||◌, not, if◌then◌else◌, Bool, true, false, cond, List, [], ◌∷◌, take, Option, refl, sym, ap, ◌∙◌}
use Rattle.std.specs.List.{list_any}
use Rattle.std.specs.FinMap.{get}
use Rattle.std.proofs.lemmas.Bool.{true≢false, or_parts}
use Rattle.std.proofs.lemmas.Cmp.{nat_list_cmp_total, eq_by_cmp_equiv}
use Rattle.std.proofs.lemmas.List.{take-map}
use Rattle.uefi_vars.specs.Vars.{Variables}
use Rattle.uefi_vars.specs.NameChanges.{after_each}
use Rattle.uefi_vars.specs.BootChange.{ChangeParts, same_name, new_data}
use Rattle.boot_journal.specs.Changes.{made, LeaveAlone}
use Rattle.boot_journal.specs.Turns.{that_stay}
use Rattle.boot_journal.proofs.Single.{Single, over, unlike, get-each, firmware_between}

left_alone : (cs : List ChangeParts) (q : List ℕ) (x : Option (List ℕ)) → LeaveAlone q cs → over (new_data cs) q x ≡ x
left_alone [] q x out = refl
left_alone (c ∷ cs) q x out = ap (λ b. over (new_data cs) q (cond b c.after x)) out.0 ∙ left_alone cs q x out.1

pub others_stay : (cs : List ChangeParts) (m : Variables) (q : List ℕ) → LeaveAlone q cs → get (made cs m) q ≡ get m q
others_stay cs m q out = get-each (new_data cs) m q ∙ left_alone cs q (get m q) out

pub made_over : (cs : List ChangeParts) (fs : List Single) (m : Variables) (k : ℕ) → made cs (after_each (made (take k cs) m) fs) ≡ made cs (after_each m fs)
made_over cs fs m k =
    ap (λ (l : List Single). after_each (after_each (after_each m l) fs) (new_data cs)) (sym (take-map _ k cs)) ∙ firmware_between (new_data cs) fs m k

-- ---- what stays of firmware's changes

-- whether a change is of the name
abbrev pub is_in : List ChangeParts → List ℕ → Bool
is_in cs q = list_any (λ c. same_name c.name q) cs

pub same_either_way : (a b : List ℕ) (v : Bool) → same_name a b ≡ v → same_name b a ≡ v
same_either_way a b v is = (eq_by_cmp_equiv nat_list_cmp_total).symm b a ∙ is

pub out_keeps : (cs : List ChangeParts) (q : List ℕ) (x : Option (List ℕ)) → is_in cs q ≡ false → over (new_data cs) q x ≡ x
out_keeps [] q x out = refl
out_keeps (c ∷ cs) q x out =
    let apart = or_parts (same_name c.name q) (is_in cs q) out in
    ap (λ b. over (new_data cs) q (cond b c.after x)) (same_either_way c.name q false apart.0) ∙ out_keeps cs q x apart.1

first_in : (a b : Bool) → b ≡ false → (a || b) ≡ true → a ≡ true
first_in true b none e = refl
first_in false b none e = absurd (true≢false (sym e ∙ none))

forgets_step : (c : ChangeParts) (cs : List ChangeParts) (q : List ℕ) (x y : Option (List ℕ)) (b : Bool)
    → is_in cs q ≡ b → is_in (c ∷ cs) q ≡ true → (is_in cs q ≡ true → (x y : Option (List ℕ)) → over (new_data cs) q x ≡ over (new_data cs) q y)
    → over (new_data (c ∷ cs)) q x ≡ over (new_data (c ∷ cs)) q y
forgets_step c cs q x y true later is rest = rest later _ _
forgets_step c cs q x y false later is rest =
    let here : same_name q c.name ≡ true = same_either_way c.name q true (first_in (same_name c.name q) (is_in cs q) later is) in
    ap (λ b. over (new_data cs) q (cond b c.after x)) here ∙ sym (ap (λ b. over (new_data cs) q (cond b c.after y)) here)

pub in_forgets : (cs : List ChangeParts) (q : List ℕ) → is_in cs q ≡ true → (x y : Option (List ℕ)) → over (new_data cs) q x ≡ over (new_data cs) q y
in_forgets [] q is x y = absurd (true≢false (sym is))
in_forgets (c ∷ cs) q is x y = forgets_step c cs q x y (is_in cs q) refl is (in_forgets cs q)

-- a name that is in the list isn't one that isn't
not_same : (cs : List ChangeParts) (q name : List ℕ) (v w : Bool) → is_in cs q ≡ v → is_in cs name ≡ w → (v ≡ w → ⊥) → same_name q name ≡ false
not_same cs q name v w here there other = unlike q name (λ e. other (sym here ∙ ap (is_in cs) e ∙ there))

in_step : (cs : List ChangeParts) (f : Single) (fs : List Single) (q : List ℕ) (b : Bool) → is_in cs f.0 ≡ b → is_in cs q ≡ true →
    ((x : Option (List ℕ)) → over (that_stay cs fs) q x ≡ x) → (x : Option (List ℕ)) → over (if not b then f ∷ that_stay cs fs else that_stay cs fs) q x ≡ x
in_step cs f fs q true there is rest x = rest x
in_step cs f fs q false there is rest x =
    ap (λ b. over (that_stay cs fs) q (cond b f.1 x)) (not_same cs q f.0 true false is there (λ e. true≢false e)) ∙ rest x

stay_in : (cs : List ChangeParts) (fs : List Single) (q : List ℕ) → is_in cs q ≡ true → (x : Option (List ℕ)) → over (that_stay cs fs) q x ≡ x
stay_in cs [] q is x = refl
stay_in cs (f ∷ fs) q is x = in_step cs f fs q (is_in cs f.0) refl is (stay_in cs fs q is) x

out_step : (cs : List ChangeParts) (f : Single) (fs : List Single) (q : List ℕ) (b : Bool)
    → is_in cs f.0 ≡ b → is_in cs q ≡ false → ((x : Option (List ℕ)) → over (that_stay cs fs) q x ≡ over fs q x) → (x : Option (List ℕ))
    → over (if not b then f ∷ that_stay cs fs else that_stay cs fs) q x ≡ over (f ∷ fs) q x
out_step cs f fs q true there out rest x =
    rest x ∙ sym (ap (λ b. over fs q (cond b f.1 x)) (not_same cs q f.0 false true out there (λ e. true≢false (sym e))))
out_step cs f fs q false there out rest x = rest (cond (same_name q f.0) f.1 x)

stay_out : (cs : List ChangeParts) (fs : List Single) (q : List ℕ) → is_in cs q ≡ false → (x : Option (List ℕ)) → over (that_stay cs fs) q x ≡ over fs q x
stay_out cs [] q out x = refl
stay_out cs (f ∷ fs) q out x = out_step cs f fs q (is_in cs f.0) refl out (stay_out cs fs q out) x

-- changes that are made over firmware's leave what they make, and what stays of firmware's
pub stays_over : (cs : List ChangeParts) (fs : List Single) (q : List ℕ) (x : Option (List ℕ))
    → over (new_data cs) q (over fs q x) ≡ over (that_stay cs fs) q (over (new_data cs) q x)
stays_over cs fs q x = by (is_in cs q) refl
  where
    by : (b : Bool) → is_in cs q ≡ b → over (new_data cs) q (over fs q x) ≡ over (that_stay cs fs) q (over (new_data cs) q x)
    by true is = in_forgets cs q is (over fs q x) x ∙ sym (stay_in cs fs q is (over (new_data cs) q x))
    by false out =
        out_keeps cs q (over fs q x) out ∙ sym (stay_out cs fs q out (over (new_data cs) q x) ∙ ap (over fs q) (out_keeps cs q x out))
