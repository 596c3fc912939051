-- The words of an order, one after another.
use Rattle.std.proofs.Common.{◌≡◌, ◌+◌, ℕ, List, [], ◌∷◌, ◌++◌, length, refl, ap, sym, ◌∙◌, append_assoc}
use Rattle.std.specs.Prelude.{Option, Some, None, Result, Ok, Err}
use Rattle.std.specs.Option.{option_map}
use denote.Ref.{Bor}
use Rattle.efibootmgr_words.specs.Cut.{before_mark, behind_mark}
use Rattle.efibootmgr_words.specs.Parts.{FaultParts}
use Rattle.efibootmgr_words.specs.Values.{◌>>◌, words_of, numbers_of, order_number, order_of, comma}
use Rattle.efibootmgr_words.proofs.Cuts.{more_parts, last_part}

-- the numbers of what is left of an order
abbrev pub left_of : Option (Bor (List ℕ)) → Result (List ℕ) FaultParts
left_of None = Ok []
left_of (Some text) = order_of text.now

-- how much of it is left
abbrev pub size_of : Option (Bor (List ℕ)) → ℕ
size_of None = 0
size_of (Some text) = length text.now + 1

-- numbers in front of others
abbrev pub in_front : List ℕ → Result (List ℕ) FaultParts → Result (List ℕ) FaultParts
in_front numbers others = others >> λ more. Ok (numbers ++ more)

pub record IsReadUpTo (text : List ℕ) (rest : Option (Bor (List ℕ))) (numbers : List ℕ) : Type 0 where
  pub so_far : order_of text ≡ in_front numbers (left_of rest)

-- the words of a text, by where it is cut
words_at : (text : List ℕ) (rest : Option (Bor (List ℕ))) → option_map (λ rest. rest.now) rest ≡ behind_mark comma text
    → numbers_of (words_of text) ≡ (order_number (before_mark comma text) >> λ number. left_of rest >> λ numbers. Ok (number ∷ numbers))
words_at text None cut = ap numbers_of (last_part comma text cut)
words_at text (Some rest) cut = ap numbers_of (more_parts comma text rest.now cut).0

then_one : (numbers : List ℕ) (number : ℕ) (others : Result (List ℕ) FaultParts)
    → in_front numbers (others >> λ more. Ok (number ∷ more)) ≡ in_front (numbers ++ number ∷ []) others
then_one numbers number (Err fault) = refl
then_one numbers number (Ok more) = ap (λ (all : List ℕ). Ok all) (sym (append_assoc numbers (number ∷ []) more))

-- one number more
pub read_more : (whole word numbers after : List ℕ) (left rest : Option (Bor (List ℕ))) (here : Bor (List ℕ)) (number : ℕ) → IsReadUpTo whole left numbers
    → left ≡ Some here → word ≡ before_mark comma here.now → option_map (λ rest. rest.now) rest ≡ behind_mark comma here.now → order_number word ≡ Ok number
    → after ≡ numbers ++ number ∷ [] → IsReadUpTo whole rest after
read_more whole word numbers after left rest here number read at first cut is grown = record {
  so_far = read.so_far ∙ ap (λ (o : Option (Bor (List ℕ))). in_front numbers (left_of o)) at ∙ ap (in_front numbers) (words_at here.now rest cut)
      ∙ ap (λ (told : Result ℕ FaultParts). in_front numbers (told >> λ n. left_of rest >> λ more. Ok (n ∷ more))) (sym (ap order_number first) ∙ is)
      ∙ then_one numbers number (left_of rest) ∙ ap (λ (all : List ℕ). in_front all (left_of rest)) (sym grown);
}

-- a word that is wrong
pub read_bad : (whole word numbers : List ℕ) (left rest : Option (Bor (List ℕ))) (here : Bor (List ℕ)) (fault : FaultParts) → IsReadUpTo whole left numbers
    → left ≡ Some here → word ≡ before_mark comma here.now → option_map (λ rest. rest.now) rest ≡ behind_mark comma here.now → order_number word ≡ Err fault
    → order_of whole ≡ Err fault
read_bad whole word numbers left rest here fault read at first cut is =
    read.so_far ∙ ap (λ (o : Option (Bor (List ℕ))). in_front numbers (left_of o)) at ∙ ap (in_front numbers) (words_at here.now rest cut)
    ∙ ap (λ (told : Result ℕ FaultParts). in_front numbers (told >> λ n. left_of rest >> λ more. Ok (n ∷ more))) (sym (ap order_number first) ∙ is)
