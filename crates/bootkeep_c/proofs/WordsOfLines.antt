-- The words of a command line, one after the other.
use Rattle.std.proofs.Common.{◌≡◌, ◌≢◌, ℕ, ◌-◌, List, [], ◌∷◌, ◌++◌, length, sym, ap, ◌∙◌, arith, append_assoc}
use Rattle.std.specs.List.{AllByRecursion, flat_map}
use Rattle.std.proofs.lemmas.Grind.{flat_map-append}
use Rattle.std.proofs.lemmas.List.{length-append, append-nil}
use Rattle.uefi_vars.proofs.Bytes.{AllByRecursion-append}
use Rattle.bootkeep_c.specs.CommandLines.{ended, HasNoZero, AreEnded, HasOpenWord, SplitsWord}

-- whole words, and then what is left
pub record IsCutTo (bytes : List ℕ) (words : List (List ℕ)) (rest : List ℕ) : Type 0 where
  pub whole : AllByRecursion HasNoZero words
  pub parts : bytes ≡ flat_map ended words ++ rest

pub one_more : (bytes : List ℕ) (words : List (List ℕ)) (rest word behind : List ℕ) → IsCutTo bytes words rest → SplitsWord rest word behind
    → IsCutTo bytes (words ++ word ∷ []) behind
one_more bytes words rest word behind cut split = record {
  whole = AllByRecursion-append HasNoZero words (word ∷ []) cut.whole (split.whole, tt);
  parts =
      cut.parts ∙ ap (λ (t : List ℕ). flat_map ended words ++ t) split.parts
      ∙ sym (append_assoc (flat_map ended words) (ended word) behind)
      ∙ ap (λ (t : List ℕ). (flat_map ended words ++ t) ++ behind) (sym (append-nil (ended word)))
      ∙ ap (λ (t : List ℕ). t ++ behind) (sym (flat_map-append ended words (word ∷ [])));
}

pub all_cut : (bytes : List ℕ) (words : List (List ℕ)) (rest : List ℕ) → IsCutTo bytes words rest → rest ≡ [] → AreEnded bytes words
all_cut bytes words rest cut none = record {
  whole = cut.whole;
  parts = cut.parts ∙ ap (λ (t : List ℕ). flat_map ended words ++ t) none ∙ append-nil (flat_map ended words);
}

pub no_end : (bytes : List ℕ) (words : List (List ℕ)) (rest : List ℕ) → IsCutTo bytes words rest → rest ≢ [] → HasNoZero rest
    → HasOpenWord bytes (length bytes - length rest)
no_end bytes words rest cut some none = record {
  words = words;
  rest = rest;
  whole = cut.whole;
  some = some;
  no_end = none;
  parts = cut.parts;
  at = omega (arith, ap length cut.parts, length-append (flat_map ended words) rest);
}
