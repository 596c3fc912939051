-- Which fault words have.
use Rattle.std.proofs.Common.{◌≡◌, ◌≢◌, ◌<◌, ◌≤◌, ◌+◌, ℕ, List, [], ◌++◌, map, take, drop, length, get_or, refl, ap, sym, subst, ◌∙◌, arith}
use Rattle.std.specs.Prelude.{Result, Ok, Err, IfErr, IsErrAnd, Contains}
use Rattle.std.proofs.Common.{◌^◌, min, Bor}
use Rattle.std.proofs.Math.Nat.{min-eq_left}
use Rattle.std.proofs.lemmas.List.{take-append-drop, map-append, at_drop_more, length-take-le, length-map}
use Rattle.std.specs.Str.{chars}
use Rattle.uefi_path.specs.declared.node.Node.{Node}
use Rattle.uefi_option.specs.LoadOption.{list_bytes, list_max}
use Rattle.uefi_option.specs.PartsFault.{IsPartsFault as IsMade}
use Rattle.uefi_option.specs.declared.fault.OptionFault.{OptionFault}
use Rattle.uefi_option.specs.declared.fault.OptionFault.TheVariants as option_fault
use Rattle.value_texts.specs.Description.{IsDescription}
use Rattle.command_words.specs.declared.option.OptionWordsFault.{OptionWordsFault}
use Rattle.command_words.specs.declared.option.OptionWordsFault.TheVariants as fault
use Rattle.command_words.specs.OptionOfWords.{ArePathTexts}
use Rattle.command_words.specs.OptionWordsFault.{of_option, IsTextFault, IsTextsFault, IsOptionFault}

-- no option is made of a description and paths
pub made_fault : {T : Type 0} (r : Result T OptionFault) (e : OptionFault) (text description : List ℕ) (paths : List (List (List Node)))
    → r ≡ Err e → IsDescription (chars text) description → IsMade e
    → (r ≡ Err option_fault.ZeroUnit → Contains description 0)
    → (r ≡ Err option_fault.EmptyList → (¬ Contains description 0) × (paths ≡ []))
    → (r ≡ Err option_fault.ListTooLong → (¬ Contains description 0) × (list_max < length (list_bytes paths)))
    → of_option e ≢ fault.OutOfMemory → IsOptionFault text paths (of_option e)
made_fault r option_fault.ZeroUnit text description paths is d named zero empty long other = (description, d, zero is)
made_fault r option_fault.EmptyList text description paths is d named zero empty long other = (description, d, empty is)
made_fault r option_fault.ListTooLong text description paths is d named zero empty long other = (description, d, long is)
made_fault r option_fault.OutOfMemory text description paths is d named zero empty long other = absurd (other refl)
made_fault r (option_fault.Short found) text description paths is d named zero empty long other = absurd named
made_fault r option_fault.NoTerminator text description paths is d named zero empty long other = absurd named
made_fault r (option_fault.ListPastEnd stated left) text description paths is d named zero empty long other = absurd named
made_fault r (option_fault.Path place f) text description paths is d named zero empty long other = absurd named

-- what is answered is the fault as one of words
pub as_words : {T : Type 0} (r : Result T OptionWordsFault) (e : OptionWordsFault) (P : OptionWordsFault → Type 0) → IsErrAnd r (λ f. f ≡ e)
    → (e ≢ fault.OutOfMemory → P e) → IfErr r (λ f. f ≢ fault.OutOfMemory → P f)
as_words (Err f) e P is holds = λ other. subst P (sym is) (holds (λ memory. other (is ∙ memory)))
as_words (Ok x) e P is holds = absurd is

-- the number of the next path
pub next_number : {number n len all cap : ℕ} → number ≡ min (n + 1) 18446744073709551615 → n ≡ len → len ≡ all → len ≤ cap → cap < 2 ^ 63
    → number ≡ all + 1
next_number {number} {n} {len} {all} {cap} is same there room small =
    let few : n + 1 ≤ 18446744073709551615 = omega (arith, same, room, small) in
    is ∙ min-eq_left few ∙ ap (λ k. k + 1) (same ∙ there)

abbrev now_of : Bor (List ℕ) → List ℕ
now_of text = text.now

-- the text at an index has the fault, and those before it stand for paths
pub texts_fault : (texts : List (Bor (List ℕ))) (i : ℕ) (d : Bor (List ℕ)) (paths : List (List (List Node))) (number : ℕ) (f : OptionWordsFault)
    → i < length texts → ArePathTexts (map now_of (take i texts)) paths → length paths ≡ i → number ≡ length paths + 1
    → IsTextFault (get_or texts i d).now number f → IsTextsFault (map now_of texts) f
texts_fault texts i d paths number f within are count is here =
    let before = map now_of (take i texts) in
    let same : length before ≡ i = length-map (take i texts) now_of ∙ length-take-le i texts (omega (arith, within)) in
    let place : number ≡ length before + 1 = omega (arith, is, count, same) in (
      before,
      now_of (get_or texts i d),
      map now_of (drop (i + 1) texts),
      paths,
      ap (map now_of) (sym (take-append-drop i texts)) ∙ map-append now_of (take i texts) (drop i texts)
          ∙ at_drop_more (λ rest. before ++ map now_of rest) texts i d within,
      are,
      subst (λ n. IsTextFault (get_or texts i d).now n f) place here,
    )
