-- What a call that takes memory answers.
use Rattle.std.specs.Prelude.{◌≡◌, ◌⊎◌, Result, Err}

-- the result is this answer, unless the call was refused so
abbrev pub IsUnless : {T F : Type 0} → Result T F → Result T F → F → Type 0
IsUnless result answer refusal = (result ≡ answer) ⊎ (result ≡ Err refusal)
